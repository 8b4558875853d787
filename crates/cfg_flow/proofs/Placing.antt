-- Summaries that are taken out of the table.
use Rattle.std.proofs.Common.{ℕ, zero, suc, ◌≡◌, ◌+◌, ◌<◌, ◌≤◌, ◌↔◌, ◌⊎◌, inl, inr, List, [], ◌∷◌, ◌++◌, Option, Some, None, IsTrue, slice_get, length, refl, sym, ◌∙◌, ap, subst, arith, length-append}
use Rattle.cfg_rules.specs.declared.summary.Summary.{Summary}
use Rattle.cfg_rules.specs.Member.{IsIn}
use Rattle.cfg_rules.specs.Plan.{Construct, IsPlan, part, part_count, Continues}
use Rattle.cfg_rules.specs.Sequence.{AreParts}
use Rattle.cfg_rules.specs.Sets.{IsFirstOf, IsLastOf, IsPassed, IsSummary, IsPart}
use Rattle.cfg_rules.proofs.Members.{in_left, in_right, in_either}
use Rattle.cfg_flow.specs.Tables.{IsGap, IsTakenAt, IsTaken, IsContinued, IsPartAlone, AreKept, AreReady, IsPartTaken, ArePartsTaken}
use Rattle.cfg_flow.proofs.Members.{none_in}

gap_alone : (plan : List Construct) (x k : ℕ) (m : Summary) → part plan x k ≡ None → IsGap m → IsPartAlone plan x k m
gap_alone plan x k m e g = record {
  first = λ b. (λ i. absurd (none_in m.first.items b g.no_first i), λ f. absurd (subst (λ (o : Option ℕ). IsFirstOf plan o b) e f));
  last = λ a. (λ i. absurd (none_in m.last.items a g.no_last i), λ f. absurd (subst (λ (o : Option ℕ). IsLastOf plan o a) e f));
  passable = (λ t. subst (λ (o : Option ℕ). IsPassed plan o) (sym e) tt, λ u. g.passed);
}

summary_alone : (plan : List Construct) (x k c : ℕ) (m : Summary) → part plan x k ≡ Some c → IsSummary plan c m → IsPartAlone plan x k m
summary_alone plan x k c m e s = record {
  first = λ b. subst (λ (o : Option ℕ). IsIn m.first.items b ↔ IsFirstOf plan o b) (sym e) (s.first b);
  last = λ a. subst (λ (o : Option ℕ). IsIn m.last.items a ↔ IsLastOf plan o a) (sym e) (s.last a);
  passable = subst (λ (o : Option ℕ). IsTrue m.passable ↔ IsPassed plan o) (sym e) s.passable;
}

-- A later part is ready where an earlier one is.
later : (plan : List Construct) (x i k : ℕ) (table : List Summary) → i ≤ k → AreReady plan x i table → AreReady plan x k table
later plan x i k table low r = record {
  each = λ c m above is parts. r.each c m above is (λ y j e. elim (parts y j e) [ inl b ↦ inl b | inr q ↦ inr (q.0, omega arith) ]);
  above = r.above;
}

-- A part that is left out takes nothing from the table.
gap_taken : (plan : List Construct) (x i k : ℕ) (old : List Summary) (m : Summary) (new : List Summary) → i ≤ k → part plan x k ≡ None → IsTaken None old m new → AreReady plan x i old → IsPartTaken plan x k m new
gap_taken plan x i k old m new low e taken r = record {
  alone = gap_alone plan x k m e taken.0;
  ready = later plan x i (k + 1) new (omega arith) (subst (λ (t : List Summary). AreReady plan x i t) (sym taken.1) r);
}

-- A part that is a construct takes its own summary, and no other part's.
summary_taken : (plan : List Construct) (x i k c : ℕ) (old : List Summary) (m : Summary) (new : List Summary) → IsPlan plan → i ≤ k → length new ≡ length old → part plan x k ≡ Some c → IsTaken (Some c) old m new → AreReady plan x i old → IsPartTaken plan x k m new
summary_taken plan x i k c old m new plan_is low same e taken r = record {
  alone = summary_alone plan x k c m e (r.each c m (r.above k c e).0 at.is own);
  ready = record {
    each = λ d n above is parts. r.each d n above (sym (at.others d (other d parts)) ∙ is) (λ y j f. elim (parts y j f) [ inl b ↦ inl b | inr q ↦ inr (q.0, omega arith) ]);
    above = λ j d f. ((r.above j d f).0, subst (λ (n : ℕ). d < n) (sym same) (r.above j d f).1);
  };
} where
  at : IsTakenAt c old m new
  at = taken (r.above k c e).1

  own : (y j : ℕ) → part plan y j ≡ Some c → (y < x) ⊎ ((y ≡ x) × (i ≤ j))
  own y j f = let here : (y ≡ x) × (j ≡ k) = plan_is.tree y j x k c f e in inr (here.0, omega arith)

  other : (d : ℕ) → ((y j : ℕ) → part plan y j ≡ Some d → (y < x) ⊎ ((y ≡ x) × (k + 1 ≤ j))) → ¬ (d ≡ c)
  other d parts f = elim (parts x k (e ∙ ap Some (sym f))) [ inl b ↦ omega arith | inr q ↦ omega arith ]

pub part_taken : (plan : List Construct) (x i k : ℕ) (o : Option ℕ) (old : List Summary) (m : Summary) (new : List Summary) → IsPlan plan → i ≤ k → length new ≡ length old → part plan x k ≡ o → IsTaken o old m new → AreReady plan x i old → IsPartTaken plan x k m new
part_taken plan x i k None old m new plan_is low same e taken r = gap_taken plan x i k old m new low e taken r
part_taken plan x i k (Some c) old m new plan_is low same e taken r = summary_taken plan x i k c old m new plan_is low same e taken r

-- What is ready is kept.
pub ready_kept : {plan : List Construct} {x k : ℕ} {table : List Summary} → AreReady plan x k table → AreKept plan x table
ready_kept r = record { each = λ c m above is parts. r.each c m above is (λ y j e. inl (parts y j e)) }

-- A part that no `continue` ends.
pub alone_part : {plan : List Construct} {x k : ℕ} {m : Summary} → IsPartAlone plan x k m → ((a : ℕ) → ¬ (Continues plan x a k)) → IsPart plan x k m
alone_part p never = record {
  first = p.first;
  last = λ a. (λ i. inl ((p.last a).0 i), elim [ inl l ↦ (p.last a).1 l | inr u ↦ absurd (never a u) ]);
  passable = p.passable;
}

-- A part with the `continue`s that end it.
pub alone_body : {plan : List Construct} {x k : ℕ} {m body : Summary} {continues : List ℕ} → IsPartAlone plan x k m → IsContinued m continues body → ((a : ℕ) → IsIn continues a ↔ Continues plan x a k) → IsPart plan x k body
alone_body {plan} {x} {k} {m} {body} {continues} p c are = record {
  first = λ b. subst (λ (ms : List ℕ). IsIn ms b ↔ IsFirstOf plan (part plan x k) b) (sym c.first) (p.first b);
  last = λ a. subst (λ (ms : List ℕ). IsIn ms a ↔ (IsLastOf plan (part plan x k) a ⊎ Continues plan x a k)) (sym c.last) (
    λ i. elim (in_either m.last.items continues a i) [ inl l ↦ inl ((p.last a).0 l) | inr r ↦ inr ((are a).0 r) ],
    elim [ inl l ↦ in_left m.last.items continues a ((p.last a).1 l) | inr u ↦ in_right m.last.items continues a ((are a).1 u) ],
  );
  passable = subst (λ b. IsTrue b ↔ IsPassed plan (part plan x k)) (sym c.passable) p.passable;
}

push_get : {X : Type 0} (xs : List X) (y : X) (j : ℕ) (n : X) → slice_get (xs ++ y ∷ []) j ≡ Some n → (slice_get xs j ≡ Some n) ⊎ ((j ≡ length xs) × (y ≡ n))
push_get [] y zero n e = inr (refl, cc)
push_get [] y (suc j) n e = cc
push_get (x ∷ xs) y zero n e = inl e
push_get (x ∷ xs) y (suc j) n e = elim (push_get xs y j n e) [ inl a ↦ inl a | inr q ↦ inr (let at : j ≡ length xs = q.0 in omega arith, q.1) ]

pub parts_none : (plan : List Construct) (x : ℕ) (parts table : List Summary) → parts ≡ [] → AreReady plan x 0 table → ArePartsTaken plan x 0 parts table
parts_none plan x [] table none r = record { count = refl; each = λ k m e. cc; ready = r }
parts_none plan x (p ∷ ps) table none r = cc

-- One more part is taken.
pub parts_more : (plan : List Construct) (x k : ℕ) (parts more before after : List Summary) (m : Summary) → more ≡ parts ++ m ∷ [] → ArePartsTaken plan x k parts before → IsPartTaken plan x k m after → ArePartsTaken plan x (k + 1) more after
parts_more plan x k parts more before after m is p t = subst (λ (ms : List Summary). ArePartsTaken plan x (k + 1) ms after) (sym is) (record {
  count = let count = p.count in simp length-append (omega arith);
  each = λ j n e. by j n (push_get parts m j n e);
  ready = t.ready;
}) where
  by : (j : ℕ) (n : Summary) → (slice_get parts j ≡ Some n) ⊎ ((j ≡ length parts) × (m ≡ n)) → IsPartAlone plan x j n
  by j n (inl e) = p.each j n e
  by j n (inr (at, same)) =
      let here : k ≡ j = sym (at ∙ p.count) in
      subst (λ (v : Summary). IsPartAlone plan x j v) same (subst (λ (v : ℕ). IsPartAlone plan x v m) here t.alone)

-- All parts, of which no `continue` ends any.
pub all_parts : {plan : List Construct} {x count : ℕ} {parts table : List Summary} → ArePartsTaken plan x count parts table → part_count plan x ≡ count → ((k a : ℕ) → ¬ (Continues plan x a k)) → AreParts plan x parts
all_parts p count never = record {
  count = p.count ∙ sym count;
  each = λ k m e. alone_part (p.each k m e) (never k);
}
