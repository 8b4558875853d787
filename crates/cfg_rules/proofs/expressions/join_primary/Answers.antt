use Rattle.std.proofs.Common.{inl, inr}
use Rattle.cfg_rules.proofs.Answering.{if_ok}
use Rattle.cfg_rules.proofs.JoinPrimary.{primary_is}
use Rattle.cfg_rules.proofs.JoinSizeOf.{size_of_is}
use Rattle.cfg_rules.proofs.expressions.join_primary.Goals as goal

pub returns : goal.returns
returns c = if_ok c.from_mark.result c.from_mark.ensures (λ next is plan. elim [
  | inl rule ↦ primary_is plan _ _ _ _ _ rule c.entry-here.ensures c.in_ok-stop.ensures is
  | inr rule ↦ size_of_is plan _ _ _ _ _ rule c.entry-here.ensures c.in_ok-stop.ensures is
])
