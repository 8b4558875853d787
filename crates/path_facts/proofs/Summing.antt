-- The pairs of goals and outs among facts.
use Rattle.std.proofs.Common.{◌≡◌, ◌≢◌, ℕ, ◌+◌, ◌<◌, ◌≤◌, inl, inr, List, [], ◌∷◌, ◌++◌, length, get_or, sym, ap, ◌∙◌, arith, subst}
use Rattle.std.specs.List.{All, AllPairs, Contains}
use Rattle.std.proofs.lemmas.Bool.{cases_lt}
use Rattle.std.proofs.lemmas.List.{get_or_default}
use Rattle.std.proofs.lemmas.List.Elements.{All-contains, All-nil, All-push, All-weaker, Contains-append_left, Contains-get_or, Contains-push}
use Rattle.std.proofs.lemmas.List.Quantifiers.{all_pairs_push}
use Rattle.matched_paths.specs.declared.flow_graph.Pair.{Pair}
use Rattle.path_facts.proofs.Tabulating.{pair_of}

-- a pair is one of an out and of a fact before the position
pub record IsOf (IsSo : ℕ → Type 0) (facts : List (ℕ × ℕ)) (index : ℕ) (pair : Pair) : Type 0 where
  pub out : IsSo pair.out
  pub position : ℕ
  pub before : position < index
  pub within : position < length facts
  pub is : get_or facts position (0, 0) ≡ (pair.out, pair.goal)

-- The pairs of the first facts were taken, each once.
pub record Summing (IsSo : ℕ → Type 0) (facts : List (ℕ × ℕ)) (pairs : List Pair) (index : ℕ) : Type 0 where
  pub sound : All (IsOf IsSo facts index) pairs
  pub all : (k : ℕ) → k < index → k < length facts → IsSo (get_or facts k (0, 0)).0 → Contains pairs (pair_of (get_or facts k (0, 0)))
  pub once : AllPairs (λ a b. a ≢ b) pairs

pub sum_none : (IsSo : ℕ → Type 0) (facts : List (ℕ × ℕ)) (pairs : List Pair) → pairs ≡ [] → Summing IsSo facts pairs 0
sum_none IsSo facts pairs empty = record {
  sound = rw empty (All-nil (IsOf IsSo facts 0));
  all = λ k less inside is_out. absurd (omega arith);
  once = rw empty (λ i j d less within. absurd (omega arith));
}

of_more : (IsSo : ℕ → Type 0) (facts : List (ℕ × ℕ)) (index : ℕ) (pair : Pair) → IsOf IsSo facts index pair → IsOf IsSo facts (index + 1) pair
of_more IsSo facts index pair is = record { out = is.out; position = is.position; before = omega (arith, is.before); within = is.within; is = is.is }

pub sum_skip : (IsSo : ℕ → Type 0) (facts : List (ℕ × ℕ)) (pairs : List Pair) (index : ℕ) (d : ℕ × ℕ) → index < length facts → ¬ IsSo (get_or facts index d).0 → Summing IsSo facts pairs index → Summing IsSo facts pairs (index + 1)
sum_skip IsSo facts pairs index d within hasnt is = record {
  sound = All-weaker (IsOf IsSo facts index) (IsOf IsSo facts (index + 1)) (of_more IsSo facts index) pairs is.sound;
  all = λ k less inside is_out. elim (cases_lt k index) [
    | inl before ↦ is.all k before inside is_out
    | inr not_before ↦
        let here : k ≡ index = omega arith in
        absurd (hasnt (subst (λ (f : ℕ × ℕ). IsSo f.0) (ap (λ (i : ℕ). get_or facts i (0, 0)) here ∙ get_or_default facts index (0, 0) d within) is_out))
  ];
  once = is.once;
}

pub sum_one : (IsSo : ℕ → Type 0) (facts : List (ℕ × ℕ)) (pairs : List Pair) (index : ℕ) (d : ℕ × ℕ) → AllPairs (λ a b. a ≢ b) facts → index < length facts → IsSo (get_or facts index d).0 →
    Summing IsSo facts pairs index → Summing IsSo facts (pairs ++ pair_of (get_or facts index d) ∷ []) (index + 1)
sum_one IsSo facts pairs index d once within has is =
    let fact = get_or facts index d in
    let same : get_or facts index (0, 0) ≡ fact = get_or_default facts index (0, 0) d within in
    record {
      sound = All-push (IsOf IsSo facts (index + 1)) pairs (pair_of fact) (All-weaker (IsOf IsSo facts index) (IsOf IsSo facts (index + 1)) (of_more IsSo facts index) pairs is.sound)
          (record { out = has; position = index; before = omega arith; within = within; is = same });
      all = λ k less inside is_out. elim (cases_lt k index) [
        | inl before ↦ Contains-append_left pairs (pair_of fact ∷ []) _ (is.all k before inside is_out)
        | inr not_before ↦
            let here : index ≡ k = omega arith in
            subst (λ (f : ℕ × ℕ). Contains (pairs ++ pair_of fact ∷ []) (pair_of f)) (sym same ∙ ap (λ (i : ℕ). get_or facts i (0, 0)) here) (Contains-push pairs (pair_of fact))
      ];
      once = all_pairs_push (λ a b. a ≢ b) pairs (pair_of fact) is.once
          (λ k e inside equal.
          let of_pair = is.sound k e inside in
          let twice : get_or facts of_pair.position (0, 0) ≡ get_or facts index (0, 0) = of_pair.is ∙ (ap (λ (p : Pair). (p.out, p.goal)) equal ∙ sym same) in
          once of_pair.position index (0, 0) of_pair.before within twice);
    }

pub sum_end : (IsSo : ℕ → Type 0) (facts : List (ℕ × ℕ)) (pairs : List Pair) (index : ℕ) → length facts ≤ index → Summing IsSo facts pairs index → (pair : Pair) →
    (Contains pairs pair → IsSo pair.out × Contains facts (pair.out, pair.goal)) × (IsSo pair.out × Contains facts (pair.out, pair.goal) → Contains pairs pair)
sum_end IsSo facts pairs index end is pair = (
  λ has.
      let of_pair = All-contains (IsOf IsSo facts index) pairs pair is.sound has in
      (of_pair.out, subst (λ (f : ℕ × ℕ). Contains facts f) of_pair.is (Contains-get_or facts of_pair.position (0, 0) of_pair.within)),
  λ both.
      let at = both.1 in
      let fact : get_or facts at.0 (0, 0) ≡ (pair.out, pair.goal) = get_or_default facts at.0 (0, 0) (pair.out, pair.goal) at.1 ∙ at.2 in
      subst (λ (f : ℕ × ℕ). Contains pairs (pair_of f)) fact (is.all at.0 (omega (arith, at.1)) at.1 (subst (λ (f : ℕ × ℕ). IsSo f.0) (sym fact) both.0)),
)
