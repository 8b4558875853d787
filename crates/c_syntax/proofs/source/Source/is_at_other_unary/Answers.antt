use Rattle.std.proofs.Common.{refl, sym, ◌∙◌}
use Rattle.c_syntax.specs.Sets.{other_unary}
use Rattle.c_syntax.proofs.Ahead.{kind_ahead, nothing_ahead}
use Rattle.c_syntax.proofs.source.Source.is_at_other_unary.Goals as goal

pub returns-in-Some : goal.returns-in-Some
returns-in-Some c = c.is_other_unary.ensures ∙ kind_ahead other_unary refl c.args.self.now.cursor c.args.self.now.scopes c.in-Some.kind (sym c.in-Some.ensures)

pub returns-in-None : goal.returns-in-None
returns-in-None c = nothing_ahead other_unary refl c.args.self.now.cursor c.args.self.now.scopes (sym c.in-None.ensures)
