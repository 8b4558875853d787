-- Marks at the vertices of a list.
use Rattle.std.proofs.Common.{◌≡◌, ℕ, zero, suc, ◌<◌, inl, inr, Bool, true, false, List, [], ◌∷◌, ◌++◌, length, get_or, set, refl, sym, ◌∙◌, arith, get_or-set_same, get_or-set_other}
use Rattle.std.specs.List.{Contains}
use Rattle.std.proofs.Math.ListN.{length-set}
use Rattle.std.proofs.lemmas.Bool.{cases_eq}
use Rattle.std.proofs.lemmas.List.Elements.{All-push, Contains-append_left, Contains-append_right, Contains-append_cases}
use Rattle.flow_index.specs.Vertices.{AreMarked, Meets}

-- the one element of a list of one
pub in_one : {X : Type 0} (y x : X) → Contains (y ∷ []) x → x ≡ y
in_one y x (zero, within, is) = sym is
in_one y x (suc k, within, is) = absurd (omega (arith, within))

pub marked_more : (marks : List Bool) (met : List ℕ) (vertex : ℕ) → vertex < length marks → AreMarked marks met → AreMarked (set marks vertex true) (met ++ vertex ∷ [])
marked_more marks met vertex below is = record {
  below = rw length-set (All-push (λ (v : ℕ). v < length marks) met vertex is.below below);
  each = λ other within. elim (cases_eq other vertex) [
    | inl same ↦ (λ on. rw same (Contains-append_right met (vertex ∷ []) vertex (0, omega arith, refl)), λ has. rw (same, get_or-set_same) refl)
    | inr differs ↦
        let inside : other < length marks = omega (arith, within, length-set marks vertex true) in
        let old = get_or-set_other marks vertex other true false differs in (
          λ on. Contains-append_left met (vertex ∷ []) other ((is.each other inside).0 (sym old ∙ on)),
          λ has. elim (Contains-append_cases met (vertex ∷ []) other has) [
            | inl before ↦ old ∙ (is.each other inside).1 before
            | inr new ↦ absurd (differs (in_one vertex other new))
          ],
        )
  ];
}

-- a vertex that was not met is met
pub meets_new : (marks : List Bool) (met : List ℕ) (vertex : ℕ) →
    Meets (record { count = length marks; met = met }) (record { count = length (set marks vertex true); met = met ++ vertex ∷ [] }) vertex
meets_new marks met vertex = record {
  grows = record {
    count = length-set marks vertex true;
    more = vertex ∷ [];
    kept = refl;
    new = λ k d within. at_one k d within;
  };
  met = Contains-append_right met (vertex ∷ []) vertex (0, omega arith, refl);
}
  where
    at_one : (k d : ℕ) → k < length (vertex ∷ []) → get_or (vertex ∷ []) k d ≡ vertex
    at_one zero d within = refl
    at_one (suc k) d within = absurd (omega (arith, within))
