-- What is told of a name by its number is what the open scopes say of it.

use Rattle.std.proofs.Common.{◌≡◌, ◌≢◌, ◌∙◌, ◌<◌, ℕ, Bool, true, false}
use Rattle.std.proofs.Common.{sym, ap, refl, eqb, eqb-true, eq-eqb}
use Rattle.std.proofs.Common.{List, [], ◌∷◌, Some, length, get_or}
use Rattle.std.specs.Prelude.{Contains, ◌↔◌, IsTrue, ◌⊎◌, reverse, take, drop}
use Rattle.std.specs.Str.{bytes_eq}
use Rattle.std.proofs.lemmas.Slice.Eq.{bytes_eq-Decides}
use Rattle.std.proofs.Common.{inl, inr}
use Rattle.std.proofs.lemmas.Bool.{ne_eqb, eqb-false}
use Rattle.std.proofs.lemmas.List.Elements.{Contains-get_or}
use Rattle.std.proofs.lemmas.Option.{slice_get-get_or, get_or_from_slice_get}
use Rattle.name_table.specs.Names.{IsNumberOf}
use Rattle.c_scopes.proofs.Firsts.{first_here, first_behind, first_cases, nothing_first}
use Rattle.c_scopes.specs.Scopes.{Declared, declarations_in, IsTypedefName, left}
use Rattle.c_scopes.specs.KeptScopes.{scopes_after, scopes_in, is_typedef_after, AreSteps, IsKept}
use Rattle.c_scopes.specs.declared.scopes.Step.{Step}
use Rattle.c_scopes.specs.declared.scopes.Step.TheVariants.{Opens, Declares, Others}

-- the name of a number is another one, unless the number is
name_apart : (names : List (List ℕ)) (name : List ℕ) (number m : ℕ) →
    IsNumberOf names name number → m < length names → m ≢ number → get_or names m [] ≢ name
name_apart names name number m own inside apart is =
    apart (own.one m (slice_get-get_or names m [] inside ∙ ap Some is))

-- forwards: what the number tells is the last declaration
pub told_is_first : (names : List (List ℕ)) (texts name : List ℕ) (number : ℕ)
    (steps : List Step) → IsNumberOf names name number → AreSteps names texts steps →
    is_typedef_after steps number ≡ true → IsTypedefName (scopes_after names texts steps) name
told_is_first names texts name number [] own known told = cc
told_is_first names texts name number (Opens ∷ before) own known told =
    told_is_first names texts name number before own known told
told_is_first names texts name number (Declares m typedef was ∷ before) own known told =
    by_test (eqb m number) refl (told_is_first names texts name number before own known.2)
  where
    rest : List Declared
    rest = declarations_in (scopes_after names texts before)

    by_test : (b : Bool) → eqb m number ≡ b →
        (is_typedef_after before number ≡ true → IsTypedefName (scopes_after names texts before) name) →
        IsTypedefName (scopes_after names texts (Declares m typedef was ∷ before)) name
    by_test true test further =
        let here : m ≡ number = eqb-true m number test in
        let read : get_or names m [] ≡ name =
        rw here (get_or_from_slice_get names number name [] own.stands) in
        let is : typedef ≡ true = rw test at told in
        rw (read, is) (first_here name true (declarations_in (scopes_after names texts before)))
    by_test false test further =
        first_behind (record { name = get_or names m []; typedef = typedef })
        (declarations_in (scopes_after names texts before)) name true
        (name_apart names name number m own known.0 (eqb-false m number test))
        (further (rw test at told))
told_is_first names texts name number (Others begin ∷ before) own known told =
    by_test (bytes_eq (drop begin texts) name) refl
    (told_is_first names (take begin texts) name number before own known.1 told)
  where
    by_test : (b : Bool) → bytes_eq (drop begin texts) name ≡ b →
        IsTypedefName (scopes_after names (take begin texts) before) name →
        IsTypedefName (scopes_after names texts (Others begin ∷ before)) name
    by_test true test further =
        let is : drop begin texts ≡ name = (bytes_eq-Decides (drop begin texts) name).0 test in
        let none = known.0 number (own.stands ∙ ap Some (sym is)) in cc
    by_test false test further =
        first_behind (record { name = drop begin texts; typedef = false })
        (declarations_in (scopes_after names (take begin texts) before)) name true
        (λ is. let same = (bytes_eq-Decides (drop begin texts) name).1 is in cc) further

-- backwards: the last declaration is what the number tells
pub first_is_told : (names : List (List ℕ)) (texts name : List ℕ) (number : ℕ)
    (steps : List Step) → IsNumberOf names name number → AreSteps names texts steps →
    IsTypedefName (scopes_after names texts steps) name → is_typedef_after steps number ≡ true
first_is_told names texts name number [] own known first = absurd (nothing_first name true first)
first_is_told names texts name number (Opens ∷ before) own known first =
    first_is_told names texts name number before own known first
first_is_told names texts name number (Declares m typedef was ∷ before) own known first =
    by_cases (first_cases (record { name = get_or names m []; typedef = typedef })
    (declarations_in (scopes_after names texts before)) name true first)
    (first_is_told names texts name number before own known.2)
  where
    by_cases : ((get_or names m [] ≡ name) × (typedef ≡ true))
        ⊎ ((get_or names m [] ≢ name) × IsTypedefName (scopes_after names texts before) name) →
        (IsTypedefName (scopes_after names texts before) name → is_typedef_after before number ≡ true) →
        is_typedef_after (Declares m typedef was ∷ before) number ≡ true
    by_cases (inl here) further =
        let is : m ≡ number = own.one m (slice_get-get_or names m [] known.0 ∙ ap Some here.0) in
        rw (eq-eqb m number is) here.1
    by_cases (inr behind) further =
        let apart : m ≢ number = λ is. behind.0
        (rw is (get_or_from_slice_get names number name [] own.stands)) in
        rw (ne_eqb m number apart) (further behind.1)
first_is_told names texts name number (Others begin ∷ before) own known first =
    by_cases (first_cases (record { name = drop begin texts; typedef = false })
    (declarations_in (scopes_after names (take begin texts) before)) name true first)
    (first_is_told names (take begin texts) name number before own known.1)
  where
    by_cases : ((drop begin texts ≡ name) × (false ≡ true)) ⊎ ((drop begin texts ≢ name) ×
        IsTypedefName (scopes_after names (take begin texts) before) name) →
        (IsTypedefName (scopes_after names (take begin texts) before) name →
        is_typedef_after before number ≡ true) →
        is_typedef_after before number ≡ true
    by_cases (inl here) further = let never = here.1 in cc
    by_cases (inr behind) further = further behind.1

-- a name without a number is declared nowhere as a typedef name
pub undeclared : (names : List (List ℕ)) (texts name : List ℕ) (steps : List Step) →
    ¬ Contains names name → AreSteps names texts steps →
    ¬ IsTypedefName (scopes_after names texts steps) name
undeclared names texts name [] absent known first = nothing_first name true first
undeclared names texts name (Opens ∷ before) absent known first =
    undeclared names texts name before absent known first
undeclared names texts name (Declares m typedef was ∷ before) absent known first =
    by_cases (first_cases (record { name = get_or names m []; typedef = typedef })
    (declarations_in (scopes_after names texts before)) name true first)
    (undeclared names texts name before absent known.2)
  where
    by_cases : ((get_or names m [] ≡ name) × (typedef ≡ true))
        ⊎ ((get_or names m [] ≢ name) × IsTypedefName (scopes_after names texts before) name) →
        ¬ IsTypedefName (scopes_after names texts before) name → ⊥
    by_cases (inl here) never =
        absent (rw (sym here.0) (Contains-get_or names m [] known.0))
    by_cases (inr behind) never = never behind.1
undeclared names texts name (Others begin ∷ before) absent known first =
    by_cases (first_cases (record { name = drop begin texts; typedef = false })
    (declarations_in (scopes_after names (take begin texts) before)) name true first)
    (undeclared names (take begin texts) name before absent known.1)
  where
    by_cases : ((drop begin texts ≡ name) × (false ≡ true)) ⊎ ((drop begin texts ≢ name) ×
        IsTypedefName (scopes_after names (take begin texts) before) name) →
        ¬ IsTypedefName (scopes_after names (take begin texts) before) name → ⊥
    by_cases (inl here) never = let no = here.1 in cc
    by_cases (inr behind) never = never behind.1

-- what stands under the number of a name is what the open scopes say of the name
pub tells : (names : List (List ℕ)) (typedefs : List Bool) (texts : List ℕ) (steps : List Step)
    (name : List ℕ) (number : ℕ) (answer : Bool) → IsKept names typedefs texts steps → IsNumberOf names name number →
    answer ≡ get_or typedefs number false →
    IsTrue answer ↔ IsTypedefName (scopes_in names texts steps) name
unfolding scopes_in
tells names typedefs texts steps name number answer kept own is =
    let told : answer ≡ is_typedef_after (reverse steps) number = is ∙ kept.told number in (
      λ yes. told_is_first names texts name number (reverse steps) own kept.recorded
          (sym told ∙ yes),
      λ first. told ∙ first_is_told names texts name number (reverse steps) own kept.recorded first,
    )

pub tells_none : (names : List (List ℕ)) (typedefs : List Bool) (texts : List ℕ)
    (steps : List Step) (name : List ℕ) → IsKept names typedefs texts steps → ¬ Contains names name →
    IsTrue false ↔ IsTypedefName (scopes_in names texts steps) name
unfolding scopes_in
tells_none names typedefs texts steps name kept absent = (
  λ never. cc,
  λ first. absurd (undeclared names texts name (reverse steps) absent kept.recorded first),
)

-- where no step is left, the file's scope is as it begins
pub begun_anew : (names : List (List ℕ)) (texts : List ℕ) (steps : List Step) →
    steps ≡ [] → scopes_in names texts steps ≡ left (scopes_in names texts steps)
unfolding scopes_in
begun_anew names texts steps none = rw none refl
