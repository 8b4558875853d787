-- Whether steps lead from one place to another (ours): as a relation, and as a function.
use Rattle.std.specs.Prelude.{Bool, ◌&&◌, ◌||◌, List, [], ◌∷◌}
use Rattle.cfg_rules.specs.Member.{IsIn}

-- Steps lead from a to the place, none or more.
pub data IsReached {X : Type 0} (steps : List (X × X)) (a : X) : X → Type 0 where
  here : IsReached steps a a
  on : (p q : X) → IsReached steps a p → IsIn steps (p, q) → IsReached steps a q

-- The same, tested: they lead there without the first step, or along it once.
unfoldable pub reaches : {X : Type 0} → (X → X → Bool) → List (X × X) → X → X → Bool
reaches same [] a b = same a b
reaches same (step ∷ steps) a b =
    reaches same steps a b || (reaches same steps a step.0 && reaches same steps step.1 b)
