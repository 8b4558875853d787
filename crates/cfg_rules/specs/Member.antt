-- Membership in a list, by recursion: in a list that is written out it computes to a choice.
use Rattle.std.specs.Prelude.{◌≡◌, ◌⊎◌, List, [], ◌∷◌}

-- The item is one of the list.
unfoldable pub IsIn : {X : Type 0} → List X → X → Type 0
IsIn [] x = ⊥
IsIn (y ∷ ys) x = (y ≡ x) ⊎ IsIn ys x
