use Rattle.std.proofs.lemmas.Bool.{false≢true}
use Rattle.summary_core.proofs.Noting.{later_tested, none_later}
use Rattle.summary_core.proofs.agenda.Agenda.has_later.Goals as goal

pub returns-in-Some : goal.returns-in-Some
returns-in-Some c history tells = later_tested history c.args.tasks.now c.args.self.now.latest.items c.args.goal c.args.seen c.in-Some.position c.index.result.now tells c.in-Some.ensures.0 c.in-Some.ensures.1 c.index.ensures

pub returns-in-None : goal.returns-in-None
returns-in-None c history tells = (λ on. absurd (false≢true on), λ later. absurd (none_later history c.args.tasks.now c.args.self.now.latest.items c.args.goal c.args.seen tells c.in-None.ensures later))
