use Rattle.std.proofs.Common.{rules}
use Rattle.std.proofs.lemmas.List.Sorted.{IsNonDecreasingBy-from_sort_by_key}
use Rattle.cfg_flow.specs.declared.plan.Jump.{Jump}
use Rattle.cfg_flow.proofs.Members.{moved, moved_back}
use Rattle.cfg_flow.proofs.jumps.in_order.Goals as goal

pub returns : goal.returns
returns c = λ x. record {
  below = λ j i low. moved _ _ j c.sort_unstable_by_key.ensures.permutation i;
  among = λ j i. moved_back _ _ j c.sort_unstable_by_key.ensures.permutation i;
  rise = IsNonDecreasingBy-from_sort_by_key (λ (j : Jump). j.construct) _ c.sort_unstable_by_key.ensures.sorted (λ a r q k. search rules);
}
