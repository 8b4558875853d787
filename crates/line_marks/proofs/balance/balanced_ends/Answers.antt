use Rattle.std.proofs.Common.{◌≡◌, ◌-◌, length, slice_index, set, subst, sym, arith, inl, inr}
use Rattle.std.proofs.lemmas.Bool.{cases_eq}
use Rattle.std.proofs.lemmas.Grind.{common_steps}
use Rattle.line_marks.specs.Stripping.{IsBalancedTo}
use Rattle.line_marks.proofs.Groups.{balanced_end}
use Rattle.line_marks.proofs.balance.balanced_ends.Goals as goal

pub loop-at-init : goal.loop-at-init
loop-at-init c =
    let tokens = c.args.tokens.now in
    record {
      within = omega arith;
      one_each = grind (arith, common_steps);
      each = λ k low high.
          let here : slice_index c.in_ok-ends.ends.items k ≡ length tokens = grind (arith, common_steps) in
          let there : length tokens ≡ k = omega arith in
          subst (λ n. IsBalancedTo tokens k n) (sym here) (subst (λ n. IsBalancedTo tokens n (length tokens)) there (balanced_end tokens));
    }

pub loop-at-preserved : goal.loop-at-preserved
loop-at-preserved c =
    let tokens = c.args.tokens.now in
    let at = c.loop-at.at - 1 in
    let ends = c.loop-at.ends.items in
    record {
      within = omega arith;
      one_each = grind (arith, common_steps);
      each = λ k low high. elim (cases_eq at k) [
        | inl e ↦
            let here : slice_index (set ends at c.end_from.result) k ≡ c.end_from.result = grind (arith, common_steps) in
            subst (λ n. IsBalancedTo tokens k n) (sym here) (subst (λ n. IsBalancedTo tokens n c.end_from.result) e c.end_from.ensures)
        | inr ne ↦
            let there : slice_index (set ends at c.end_from.result) k ≡ slice_index ends k = grind (arith, common_steps) in
            subst (λ n. IsBalancedTo tokens k n) (sym there) (c.loop-at.invariant.each k (omega arith) high)
      ];
    }
