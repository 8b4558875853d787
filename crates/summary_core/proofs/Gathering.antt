-- One end of each crossing whose other end is among some vertices.
use Rattle.std.proofs.Common.{◌≡◌, ℕ, ◌+◌, ◌<◌, ◌≤◌, inl, inr, List, [], ◌∷◌, ◌++◌, length, get_or, refl, sym, ap, ◌∙◌, arith, subst}
use Rattle.std.specs.List.{All, Contains}
use Rattle.std.proofs.lemmas.Bool.{cases_lt}
use Rattle.std.proofs.lemmas.List.{get_or_default}
use Rattle.std.proofs.lemmas.List.Elements.{All-nil, All-push, All-contains, Contains-append_left, Contains-append_right, Contains-get_or}
use Rattle.matched_paths.specs.declared.flow_graph.Crossing.{Crossing}
use Rattle.summary_core.specs.Searches.{IsEndOf}

-- The ends of the first crossings are gathered.
pub record Gathers (end_of : Crossing → ℕ) (met : List ℕ) (crossings : List Crossing) (ends : List ℕ) (index : ℕ) : Type 0 where
  pub sound : All (IsEndOf end_of met crossings) ends
  pub all : (k : ℕ) (d : Crossing) → k < index → k < length crossings → Contains met (get_or crossings k d).from → Contains ends (end_of (get_or crossings k d))

module _ (end_of : Crossing → ℕ) (met : List ℕ) (crossings : List Crossing) where
  pub gather_none : (ends : List ℕ) → ends ≡ [] → Gathers end_of met crossings ends 0
  gather_none ends empty = record {
    sound = subst (λ (xs : List ℕ). All (IsEndOf end_of met crossings) xs) (sym empty) (All-nil (IsEndOf end_of met crossings));
    all = λ k d less within has. absurd (omega arith);
  }

  pub gather_one : (ends : List ℕ) (index : ℕ) (d : Crossing) → index < length crossings → Contains met (get_or crossings index d).from → Gathers end_of met crossings ends index →
      Gathers end_of met crossings (ends ++ end_of (get_or crossings index d) ∷ []) (index + 1)
  gather_one ends index d within has is =
      let crossing = get_or crossings index d in
      record {
        sound = All-push (IsEndOf end_of met crossings) ends (end_of crossing) is.sound (record { crossing = crossing; stands = Contains-get_or crossings index d within; among = has; end = refl });
        all = λ k e less inside among. elim (cases_lt k index) [
          | inl before ↦ Contains-append_left ends (end_of crossing ∷ []) _ (is.all k e before inside among)
          | inr not_before ↦
              let here : index ≡ k = omega arith in
              let same : crossing ≡ get_or crossings k e = ap (λ (i : ℕ). get_or crossings i d) here ∙ get_or_default crossings k d e inside in
              Contains-append_right ends (end_of crossing ∷ []) _ (0, omega arith, ap end_of same)
        ];
      }

  pub gather_skip : (ends : List ℕ) (index : ℕ) (d : Crossing) → index < length crossings → ¬ Contains met (get_or crossings index d).from → Gathers end_of met crossings ends index → Gathers end_of met crossings ends (index + 1)
  gather_skip ends index d within hasnt is = record {
    sound = is.sound;
    all = λ k e less inside among. elim (cases_lt k index) [
      | inl before ↦ is.all k e before inside among
      | inr not_before ↦
          let here : k ≡ index = omega arith in
          absurd (hasnt (subst (λ (x : Crossing). Contains met x.from) (get_or_default crossings k e d inside ∙ ap (λ (i : ℕ). get_or crossings i d) here) among))
    ];
  }

  pub gather_end : (ends : List ℕ) (index : ℕ) → length crossings ≤ index → Gathers end_of met crossings ends index → (vertex : ℕ) →
      (Contains ends vertex → IsEndOf end_of met crossings vertex) × (IsEndOf end_of met crossings vertex → Contains ends vertex)
  gather_end ends index all is vertex = (
    λ has. All-contains (IsEndOf end_of met crossings) ends vertex is.sound has,
    λ end_is.
        let at = end_is.stands in
        let same : get_or crossings at.0 end_is.crossing ≡ end_is.crossing = at.2 in
        subst (λ (v : ℕ). Contains ends v) (ap end_of same ∙ end_is.end)
        (is.all at.0 end_is.crossing (omega (arith, at.1)) at.1 (subst (λ (x : Crossing). Contains met x.from) (sym same) end_is.among)),
  )
