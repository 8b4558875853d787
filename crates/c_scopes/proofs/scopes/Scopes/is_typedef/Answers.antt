-- What stands under a name's number is what the open scopes say.

use Rattle.c_scopes.proofs.Hiding.{tells, tells_none}
use Rattle.c_scopes.proofs.Stepping.{read_as, within_typedefs}
use Rattle.c_scopes.proofs.scopes.Scopes.is_typedef.Goals as goal

pub returns-in-Some : goal.returns-in-Some
returns-in-Some c =
    let names = c.self.inside.names in
    let typedefs = c.self.inside.typedefs.items in
    let own = c.in-Some.ensures.number in
    let inside = within_typedefs names typedefs c.in-Some.number c.args.name.now
    c.self.invariant.enough own.stands in
    rw (← c.self.view_is) (tells names typedefs c.self.inside.texts.items c.self.inside.steps.items c.args.name.now
    c.in-Some.number c.index.result.now c.self.invariant own
    (read_as typedefs c.in-Some.number c.index.result.now inside c.index.ensures))

pub returns-in-None : goal.returns-in-None
returns-in-None c = rw (← c.self.view_is)
    (tells_none c.self.inside.names c.self.inside.typedefs.items c.self.inside.texts.items c.self.inside.steps.items
    c.args.name.now c.self.invariant c.in-None.ensures.none)
