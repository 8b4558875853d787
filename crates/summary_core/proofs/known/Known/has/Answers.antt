use Rattle.summary_core.proofs.Knowing.{known_is}
use Rattle.summary_core.proofs.known.Known.has.Goals as goal

pub returns : goal.returns
returns c history knows = known_is c.args.self.now c.args.pair c.contains.result c.contains.ensures history knows
