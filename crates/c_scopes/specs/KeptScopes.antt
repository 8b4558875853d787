-- What the scopes are kept as: the steps that led to them, and for each name that has a number what
-- it is now.

use Rattle.std.specs.Prelude.{◌≡◌, ◌<◌, ◌≤◌, ◌==◌, ℕ, Bool, false, if◌then◌else◌, List, [], ◌∷◌}
use Rattle.std.specs.Prelude.{◌++◌, Some, length, take, drop, reverse, slice_get, slice_index_or}
use Rattle.c_scopes.specs.Scopes.{OpenScopes, file_scope, entered, declared}
use Rattle.c_scopes.specs.declared.scopes.Step.{Step}
use Rattle.c_scopes.specs.declared.scopes.Step.TheVariants.{Opens, Declares, Others}

-- The scopes that the steps lead to, of which the latest comes first. The names that have numbers
-- are given, and the bytes of the others, in the order of the source.
abbrev pub scopes_after : List (List ℕ) → List ℕ → List Step → OpenScopes
scopes_after names texts [] = file_scope
scopes_after names texts (Opens ∷ before) = entered (scopes_after names texts before)
scopes_after names texts (Declares name typedef was ∷ before) =
    declared (scopes_after names texts before) (slice_index_or names name []) typedef
scopes_after names texts (Others begin ∷ before) =
    declared (scopes_after names (take begin texts) before) (drop begin texts) false

-- The scopes that the steps lead to, in the order of the source.
unfoldable pub scopes_in : List (List ℕ) → List ℕ → List Step → OpenScopes
scopes_in names texts steps = scopes_after names texts (reverse steps)

-- Whether the name of the number is a typedef name after the steps, the latest of which is first.
abbrev pub is_typedef_after : List Step → ℕ → Bool
is_typedef_after [] number = false
is_typedef_after (Opens ∷ before) number = is_typedef_after before number
is_typedef_after (Declares name typedef was ∷ before) number =
    if name == number then typedef else is_typedef_after before number
is_typedef_after (Others begin ∷ before) number = is_typedef_after before number

-- Each step declares a name that has a number, and says what the name was before; or a name that
-- was no typedef name before.
abbrev pub AreSteps : List (List ℕ) → List ℕ → List Step → Type 0
AreSteps names texts [] = Unit {0}
AreSteps names texts (Opens ∷ before) = AreSteps names texts before
AreSteps names texts (Declares name typedef was ∷ before) =
    (name < length names) × (was ≡ is_typedef_after before name) × AreSteps names texts before
AreSteps names texts (Others begin ∷ before) =
    ((number : ℕ) → slice_get names number ≡ Some (drop begin texts) →
    is_typedef_after before number ≡ false) × AreSteps names (take begin texts) before

-- The steps, and for each name that has a number what it is after them.
pub record IsKept (names : List (List ℕ)) (typedefs : List Bool) (texts : List ℕ)
    (steps : List Step) : Type 0 where
  pub enough : length names ≤ length typedefs
  pub recorded : AreSteps names texts (reverse steps)
  pub told : (number : ℕ) →
      slice_index_or typedefs number false ≡ is_typedef_after (reverse steps) number

-- The last declaration of the innermost scope is taken back.
abbrev pub Undeclares : OpenScopes → OpenScopes → Type 0
Undeclares old new = (name : List ℕ) × (typedef : Bool) × (old ≡ declared new name typedef)

-- Room is made for new names, which are no typedef names.
pub record KeepsTypedefs (old_names new_names : List (List ℕ)) (old new : List Bool) : Type 0 where
  pub enough : length old_names ≤ length old → length new_names ≤ length new
  pub told : (number : ℕ) → slice_index_or new number false ≡ slice_index_or old number false

-- A name that has no number is declared.
pub record AddsOther (old_texts new_texts : List ℕ) (old new : List Step)
    (name : List ℕ) : Type 0 where
  pub texts : new_texts ≡ old_texts ++ name
  pub step : new ≡ old ++ Others (length old_texts) ∷ []
