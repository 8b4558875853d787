use Rattle.std.proofs.Common.{refl}
use Rattle.cfg_rules.proofs.JoinSilent.{silent_is}
use Rattle.cfg_rules.proofs.expressions.join_silent.Goals as goal

pub returns : goal.returns
returns c = λ plan x rule. silent_is plan x _ _ _ rule refl c.entry.ensures
