-- A construct that is joined, and its summary as a part.
use Rattle.std.proofs.Common.{ℕ, ◌≡◌, ◌↔◌, inl, inr, List, [], Option, Some, IsTrue, sym, subst}
use Rattle.cfg_rules.specs.declared.summary.Summary.{Summary}
use Rattle.cfg_rules.specs.declared.arrival.Arrival.{Arrival}
use Rattle.cfg_rules.specs.declared.joined.Joined.{Joined}
use Rattle.cfg_rules.specs.Member.{IsIn}
use Rattle.cfg_rules.specs.Plan.{Construct, Continues, part}
use Rattle.cfg_rules.specs.Joined.{entered, after}
use Rattle.cfg_rules.specs.Sets.{Has, Got, IsFirstOf, IsLastOf, IsPassed, IsJoined, IsPart, IsSummary}

pub joined_is_summary : (plan : List Construct) (x : ℕ) (next : Arrival) (old new : Joined) → old.first.items ≡ [] → IsJoined plan x next old new → IsSummary plan x (record { first = new.first; last = next.marks; passable = next.entered })
unfolding Has Got IsIn
joined_is_summary plan x next old new none j = record {
  first = λ b. (
    λ m. elim ((j.goes entered b).0 m) [ inl o ↦ absurd (subst (λ (xs : List ℕ). IsIn xs b) none o) | inr g ↦ g ],
    λ g. (j.goes entered b).1 (inr g),
  );
  last = λ a. j.leaves (after a);
  passable = j.leaves entered;
}

pub summary_is_part : (plan : List Construct) (x k c : ℕ) (m : Summary) → part plan x k ≡ Some c → ((a : ℕ) → ¬ (Continues plan x a k)) → IsSummary plan c m → IsPart plan x k m
summary_is_part plan x k c m e never s = record {
  first = λ b. subst (λ (o : Option ℕ). IsIn m.first.items b ↔ IsFirstOf plan o b) (sym e) (s.first b);
  last = λ a. (
    λ i. inl (subst (λ (o : Option ℕ). IsLastOf plan o a) (sym e) ((s.last a).0 i)),
    elim [ inl l ↦ (s.last a).1 (subst (λ (o : Option ℕ). IsLastOf plan o a) e l) | inr u ↦ absurd (never a u) ],
  );
  passable = subst (λ (o : Option ℕ). IsTrue m.passable ↔ IsPassed plan o) (sym e) s.passable;
}
