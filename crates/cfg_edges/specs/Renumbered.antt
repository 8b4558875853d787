-- Two plans of which one is the other by other numbers (ours).
use Rattle.std.specs.Prelude.{ℕ, ◌≡◌, ◌<◌, ◌≤◌, ◌⊎◌, List, [], ◌∷◌, Option, Some, None}
use Rattle.std.specs.Prelude.{length, slice_get}
use Rattle.cfg_rules.specs.declared.rule.Rule.TheVariants.{Silent}
use Rattle.cfg_rules.specs.Member.{IsIn}
use Rattle.cfg_rules.specs.Plan.{Construct, Breaks, Continues, JumpsTo, end_of, part}
use Rattle.cfg_rules.specs.Walker.{Flows}

-- A number that may be left out, and some of them, led over.
abbrev pub led : (ℕ → ℕ) → Option ℕ → Option ℕ
led number None = None
led number (Some x) = Some (number x)

unfoldable pub all_led : (ℕ → ℕ) → List (Option ℕ) → List (Option ℕ)
all_led number [] = []
all_led number (part ∷ parts) = led number part ∷ all_led number parts

-- The one list has what the other has, led over.
pub record AreLed (number : ℕ → ℕ) (from to : List ℕ) : Type 0 where
  pub there : (x : ℕ) → IsIn from x → IsIn to (number x)
  pub back : (y : ℕ) → IsIn to y → (x : ℕ) × IsIn from x × (number x ≡ y)

-- The one construct is the other, with all its numbers led over.
pub record IsLed (number : ℕ → ℕ) (from to : Construct) : Type 0 where
  pub rule_is : to.rule ≡ from.rule
  pub parts : to.parts ≡ all_led number from.parts
  pub end : to.method_return ≡ led number from.method_return
  pub targets : AreLed number from.targets to.targets
  pub breaks : AreLed number from.breaks to.breaks
  pub continues : AreLed number from.continues to.continues

-- A plan that speaks of so many numbers: parts and targets are constructs of it.
pub record SpeaksOf (count : ℕ) (plan : List Construct) : Type 0 where
  pub constructs : length plan ≤ count
  pub parts : (x k c : ℕ) → part plan x k ≡ Some c → c < length plan
  pub targets : (x target : ℕ) → JumpsTo plan x target → target < length plan
  pub ends : (x end : ℕ) → end_of plan x ≡ Some end → end < count
  pub breaks : (x a : ℕ) → Breaks plan x a → a < count
  pub continues : (x a k : ℕ) → Continues plan x a k → a < count

-- The plan `to` is the plan `from`, which speaks of so many numbers, with these led over, no two to
-- one; and what else it has is silent.
pub record IsRenumbered (count : ℕ) (number : ℕ → ℕ) (from to : List Construct) : Type 0 where
  pub speaks : SpeaksOf count from
  pub apart : (x y : ℕ) → x < count → y < count → number x ≡ number y → x ≡ y
  pub each : (x : ℕ) (construct : Construct) → slice_get from x ≡ Some construct →
      (other : Construct) × (slice_get to (number x) ≡ Some other) × IsLed number construct other
  pub others : (y : ℕ) (other : Construct) → slice_get to y ≡ Some other →
      ((x : ℕ) × (x < length from) × (number x ≡ y)) ⊎ (other.rule ≡ Silent)

-- Control flows along a pair of the plan, led over.
abbrev pub FlowsOver : (ℕ → ℕ) → List Construct → ℕ → ℕ → Type 0
FlowsOver number plan a b = (x : ℕ) × (y : ℕ) × (number x ≡ a) × (number y ≡ b) × Flows plan x y
