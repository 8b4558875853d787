-- The first declaration of a name in a list.

use Rattle.std.proofs.Common.{◌≡◌, ◌≢◌, List, [], ◌∷◌, ◌++◌, ℕ, Bool, ap, refl, inl, inr}
use Rattle.std.specs.Prelude.{All, ◌⊎◌}
use Rattle.std.proofs.lemmas.List.Elements.{All-nil, All-cons, All-head, All-tail}
use Rattle.c_scopes.specs.Scopes.{Declared, IsFirstOf}

-- a declaration in front, of the name
pub first_here : (name : List ℕ) (typedef : Bool) (rest : List Declared) →
    IsFirstOf (record { name = name; typedef = typedef } ∷ rest) name typedef
first_here name typedef rest = record {
  later = [];
  earlier = rest;
  stands = refl;
  first = All-nil (λ (d : Declared). d.name ≢ name);
}

-- a declaration in front, of another name
pub first_behind : (d : Declared) (rest : List Declared) (name : List ℕ) (typedef : Bool) →
    d.name ≢ name → IsFirstOf rest name typedef → IsFirstOf (d ∷ rest) name typedef
first_behind d rest name typedef apart own = record {
  later = d ∷ own.later;
  earlier = own.earlier;
  stands = ap (λ ds. d ∷ ds) own.stands;
  first = All-cons (λ (d : Declared). d.name ≢ name) d own.later apart own.first;
}

heads : (d e : Declared) (ds es : List Declared) → d ∷ ds ≡ e ∷ es → d ≡ e
heads d e ds es is = cc

tails : (d e : Declared) (ds es : List Declared) → d ∷ ds ≡ e ∷ es → ds ≡ es
tails d e ds es is = cc

-- what a declaration in front leaves: it is the one, or one behind it is
pub first_cases : (d : Declared) (rest : List Declared) (name : List ℕ) (typedef : Bool) →
    IsFirstOf (d ∷ rest) name typedef →
    ((d.name ≡ name) × (d.typedef ≡ typedef)) ⊎ ((d.name ≢ name) × IsFirstOf rest name typedef)
first_cases d rest name typedef own = by_list own.later own.stands own.first
  where
    by_list : (later : List Declared) →
        d ∷ rest ≡ later ++ record { name = name; typedef = typedef } ∷ own.earlier →
        All (λ (d : Declared). d.name ≢ name) later →
        ((d.name ≡ name) × (d.typedef ≡ typedef)) ⊎ ((d.name ≢ name) × IsFirstOf rest name typedef)
    by_list [] stands first =
        let here = heads d (record { name = name; typedef = typedef }) rest own.earlier stands in
        inl (ap (λ (d : Declared). d.name) here, ap (λ (d : Declared). d.typedef) here)
    by_list (x ∷ later) stands first =
        let here = heads d x rest (later ++ record { name = name; typedef = typedef } ∷ own.earlier)
        stands in
        inr (
          rw here (All-head (λ (d : Declared). d.name ≢ name) x later first),
          record {
            later = later;
            earlier = own.earlier;
            stands = tails d x rest (later ++ record { name = name; typedef = typedef } ∷ own.earlier)
                stands;
            first = All-tail (λ (d : Declared). d.name ≢ name) x later first;
          },
        )

pub nothing_first : (name : List ℕ) (typedef : Bool) → IsFirstOf [] name typedef → ⊥
nothing_first name typedef own = by_list own.later own.stands
  where
    by_list : (later : List Declared) →
        [] ≡ later ++ record { name = name; typedef = typedef } ∷ own.earlier → ⊥
    by_list [] stands = cc
    by_list (x ∷ later) stands = cc
