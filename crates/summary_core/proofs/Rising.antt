-- Pairs in order, each once.
use Rattle.std.proofs.Common.{◌≡◌, ◌≢◌, ℕ, zero, suc, ◌+◌, ◌-◌, ◌<◌, inl, inr, Bool, true, false, ◌==◌, ◌&&◌, List, length, get_or, refl, sym, ap, ◌∙◌, arith, subst, eq-eqb, is_lt, nat_cmp}
use Rattle.std.specs.Ordering.{ordering_then}
use Rattle.std.specs.Cmp.{nat_cmp_is}
use Rattle.std.specs.declared.cmp.Ordering.TheVariants.{Less, Equal}
use Rattle.std.specs.Bool.{Decides, one_answer}
use Rattle.std.specs.List.{All, AllPairs}
use Rattle.std.specs.List.Sorted.{IsPermutation}
use Rattle.std.proofs.lemmas.Bool.{cases_lt, eqb-true}
use Rattle.std.proofs.lemmas.List.Sorted.{Contains-permutation, IsPermutation-sym}
use Rattle.std.proofs.lemmas.Map.Made.{AllPairs-from_IsDistinct, IsDistinct-from_AllPairs}
use Rattle.std.proofs.lemmas.Map.Keys.{IsDistinct-IsPermutation}
use Rattle.matched_paths.specs.declared.flow_graph.Pair.{Pair}
use Rattle.matched_paths.specs.declared.flow_graph.FlowGraph.{FlowGraph}
use Rattle.summary_core.specs.Sound.{EachOnce, HoldsWanted}
use Rattle.summary_core.specs.Table.{IsClosed, Precedes, by_goal, by_out}

pub precedes_then : (a b c : Pair) → Precedes a b → Precedes b c → Precedes a c
precedes_then a b c (by_goal l) (by_goal m) = by_goal (omega arith)
precedes_then a b c (by_goal l) (by_out e m) = by_goal (omega arith)
precedes_then a b c (by_out e l) (by_goal m) = by_goal (omega arith)
precedes_then a b c (by_out e l) (by_out f m) = by_out (e ∙ f) (omega arith)

-- a list whose neighbours are in order is in order
steps_rise : (pairs : List Pair) → ((k : ℕ) (d : Pair) → k + 1 < length pairs → Precedes (get_or pairs k d) (get_or pairs (k + 1) d)) →
    (i n : ℕ) (d : Pair) → i + (n + 1) < length pairs → Precedes (get_or pairs i d) (get_or pairs (i + (n + 1)) d)
steps_rise pairs next i zero d within =
    let same : i + (0 + 1) ≡ i + 1 = omega arith in
    subst (λ (j : ℕ). Precedes (get_or pairs i d) (get_or pairs j d)) (sym same) (next i d (omega arith))
steps_rise pairs next i (suc n) d within =
    let same : (i + (n + 1)) + 1 ≡ i + (suc n + 1) = omega arith in
    subst (λ (j : ℕ). Precedes (get_or pairs i d) (get_or pairs j d)) same
    (precedes_then _ _ _ (steps_rise pairs next i n d (omega arith)) (next (i + (n + 1)) d (omega arith)))

pub neighbours_rise : (pairs : List Pair) → ((k : ℕ) (d : Pair) → k + 1 < length pairs → Precedes (get_or pairs k d) (get_or pairs (k + 1) d)) → AllPairs Precedes pairs
neighbours_rise pairs next i j d less within =
    let gap : i + ((j - i - 1) + 1) ≡ j = omega arith in
    subst (λ (m : ℕ). Precedes (get_or pairs i d) (get_or pairs m d)) gap (steps_rise pairs next i (j - i - 1) d (omega arith))

-- what is not less than the one before it, and another pair, stands behind it
not_less : (a b : Pair) → is_lt (ordering_then (nat_cmp b.goal a.goal) (nat_cmp b.out a.out)) ≡ false → a ≢ b → Precedes a b
not_less a b less differs = elim (cases_lt a.goal b.goal) [
  | inl goal ↦ by_goal goal
  | inr not_goal ↦ elim (cases_lt b.goal a.goal) [
    | inl back ↦
        let is = nat_cmp_is b.goal a.goal Less back in
        absurd (let wrong = rw (← is) at less in cc)
    | inr not_back ↦
        let same : a.goal ≡ b.goal = omega arith in
        let is = nat_cmp_is b.goal a.goal Equal (sym same) in
        let outs : is_lt (nat_cmp b.out a.out) ≡ false = rw (← is) at less in
        elim (cases_lt a.out b.out) [
          | inl out ↦ by_out same out
          | inr not_out ↦ elim (cases_lt b.out a.out) [
            | inl behind ↦ let is_out = nat_cmp_is b.out a.out Less behind in absurd (let wrong = rw (← is_out) at outs in cc)
            | inr not_behind ↦
                let equal : a.out ≡ b.out = omega arith in
                let pair : ℕ → ℕ → Pair = λ g o. record { goal = g; out = o } in
                absurd (differs (ap (λ g. pair g a.out) same ∙ ap (λ o. pair b.goal o) equal))
          ]
        ]
  ]
]

abbrev same_pair : Pair → Pair → Bool
same_pair a b = (a.goal == b.goal) && (a.out == b.out)

same_decides : (a b : Pair) → Decides (same_pair a b) (a ≡ b)
same_decides a b = (λ on. by on (a.goal == b.goal) refl, λ is. rw is (rw (eq-eqb b.goal b.goal refl, eq-eqb b.out b.out refl) refl))
  where
    by : same_pair a b ≡ true → (t : Bool) → (a.goal == b.goal) ≡ t → a ≡ b
    by on true goals =
        let outs : (a.out == b.out) ≡ true = rw goals at on in
        let pair : ℕ → ℕ → Pair = λ g o. record { goal = g; out = o } in
        ap (λ g. pair g a.out) (eqb-true a.goal b.goal goals) ∙ ap (λ o. pair b.goal o) (eqb-true a.out b.out outs)
    by on false goals = let wrong = rw goals at on in cc

same_flips : (a b : Pair) → same_pair a b ≡ same_pair b a
same_flips a b = one_answer (same_pair a b) (same_pair b a) (same_decides a b) ((λ on. sym ((same_decides b a).0 on)), (λ is. (same_decides b a).1 (sym is)))

once_sorted : (pairs sorted : List Pair) → IsPermutation pairs sorted → EachOnce pairs → EachOnce sorted
once_sorted pairs sorted moved once =
    AllPairs-from_IsDistinct same_decides sorted (IsDistinct-IsPermutation same_pair same_flips pairs sorted moved (IsDistinct-from_AllPairs same_decides pairs once))

pub closed_sorted : (flow : FlowGraph) (starts : List ℕ) (pairs sorted : List Pair) → All (λ start. start < flow.vertices) starts → HoldsWanted flow starts pairs → IsPermutation pairs sorted →
    ((k : ℕ) (d : Pair) → k + 1 < length sorted →
    is_lt (ordering_then (nat_cmp (get_or sorted (k + 1) d).goal (get_or sorted k d).goal) (nat_cmp (get_or sorted (k + 1) d).out (get_or sorted k d).out)) ≡ false) →
    IsClosed (record { flow = flow; starts = starts; pairs = sorted })
closed_sorted flow starts pairs sorted within holds moved order =
    let once = once_sorted pairs sorted moved holds.once in
    record {
      starts = within;
      exact = λ pair. (
        λ has. (holds.exact pair).0 (Contains-permutation sorted pairs pair (IsPermutation-sym pairs sorted moved) has),
        λ wanted. Contains-permutation pairs sorted pair moved ((holds.exact pair).1 wanted),
      );
      rise = neighbours_rise sorted (λ k d inside. not_less _ _ (order k d inside) (once k (k + 1) d (omega arith) inside));
    }
