-- Which pairs stand in a history is known.
use Rattle.std.proofs.Common.{◌≡◌, ℕ, ◌+◌, ◌<◌, inl, inr, Bool, true, List, ◌++◌, length, get_or, sym, ap, ◌∙◌, arith, subst, length-append}
use Rattle.std.specs.List.{All, Contains}
use Rattle.std.specs.HashSet as bag
use Rattle.std.proofs.lemmas.Bool.{cases_lt}
use Rattle.std.proofs.lemmas.List.{get_or_append_left, get_or_default}
use Rattle.std.proofs.lemmas.List.Elements.{All-contains, All-contains_itself, All-weaker, Contains-append_left, Contains-get_or}
use Rattle.matched_paths.specs.declared.flow_graph.Pair.{Pair}
use Rattle.path_facts.proofs.Hashing.{pair_eq, set_has, updated_new, updated_old, updated_only}
use Rattle.summary_core.specs.declared.known.Known.{Known}
use Rattle.summary_core.specs.Knowing.{ends_of, Knows, KnowsFront}

-- what is known of a history is known of a longer one
pub knows_more : (known : Known) (history more : List Pair) → KnowsFront known history → KnowsFront known (history ++ more)
knows_more known history more is = record {
  within = omega (arith, is.within, length-append history more);
  sound = All-weaker (λ (e : ℕ × ℕ). Contains history (record { goal = e.0; out = e.1 })) (λ (e : ℕ × ℕ). Contains (history ++ more) (record { goal = e.0; out = e.1 }))
      (λ e has. Contains-append_left history more _ has) known.pairs.keys is.sound;
  front = λ position d less.
      let inside : position < length history = omega (arith, is.within) in
      subst (λ (p : Pair). Contains known.pairs.keys (ends_of p)) (sym (get_or_append_left history more d position inside)) (is.front position d less);
}

-- one pair more was taken up
pub take_up_one : (known after : Known) (history : List Pair) (pair : Pair) → KnowsFront known history → known.taken < length history → pair ≡ get_or history known.taken pair → after.taken ≡ known.taken + 1 →
    bag.Updates pair_eq known.pairs after.pairs (ends_of pair) true → KnowsFront after history
take_up_one known after history pair is within read taken updates =
    let stands : Contains history pair = subst (λ (p : Pair). Contains history p) (sym read) (Contains-get_or history known.taken pair within) in
    record {
      within = omega (arith, taken);
      sound = All-weaker (Contains after.pairs.keys) (λ (e : ℕ × ℕ). Contains history (record { goal = e.0; out = e.1 }))
          (λ e has. elim (updated_only known.pairs after.pairs (ends_of pair) updates e has) [
            | inl same ↦ subst (λ (x : ℕ × ℕ). Contains history (record { goal = x.0; out = x.1 })) (sym same) stands
            | inr old ↦ All-contains (λ (x : ℕ × ℕ). Contains history (record { goal = x.0; out = x.1 })) known.pairs.keys e is.sound old
          ]) after.pairs.keys (All-contains_itself after.pairs.keys);
      front = λ position d less. elim (cases_lt position known.taken) [
        | inl before ↦ updated_old known.pairs after.pairs (ends_of pair) updates _ (is.front position d before)
        | inr not_before ↦
            let here : known.taken ≡ position = omega (arith, less, taken) in
            let same : pair ≡ get_or history position d = read ∙ (get_or_default history known.taken pair d within ∙ ap (λ (i : ℕ). get_or history i d) here) in
            subst (λ (p : Pair). Contains after.pairs.keys (ends_of p)) same (updated_new known.pairs after.pairs (ends_of pair) updates)
      ];
    }

-- whether a pair stands
pub known_is : (known : Known) (pair : Pair) (on : Bool) → on ≡ bag.contains pair_eq known.pairs (ends_of pair) → (history : List Pair) → Knows known history → (on ≡ true → Contains history pair) × (Contains history pair → on ≡ true)
known_is known pair on is history knows = (
  λ so. All-contains (λ (e : ℕ × ℕ). Contains history (record { goal = e.0; out = e.1 })) known.pairs.keys (ends_of pair) knows.knows.sound ((set_has known.pairs (ends_of pair)).0 (sym is ∙ so)),
  λ has.
      let taken : has.0 < known.taken = omega (arith, has.1, knows.all) in
      is ∙ (set_has known.pairs (ends_of pair)).1 (subst (λ (p : Pair). Contains known.pairs.keys (ends_of p)) has.2 (knows.knows.front has.0 pair taken)),
)

-- where memory was wanting
pub take_up_none : (known after : Known) (history : List Pair) → KnowsFront known history → after.taken ≡ known.taken → after.pairs.keys ≡ known.pairs.keys → KnowsFront after history
take_up_none known after history is taken keys = record {
  within = omega (arith, is.within, taken);
  sound = subst (λ (ks : List (ℕ × ℕ)). All (λ (e : ℕ × ℕ). Contains history (record { goal = e.0; out = e.1 })) ks) (sym keys) is.sound;
  front = λ position d less. subst (λ (ks : List (ℕ × ℕ)). Contains ks (ends_of (get_or history position d))) (sym keys) (is.front position d (omega (arith, less, taken)));
}
