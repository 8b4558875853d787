-- The jumps of the constructs that are still to be joined (ours).
use Rattle.std.specs.Prelude.{ℕ, ◌≡◌, ◌<◌, ◌≤◌, ◌-◌, ◌↔◌, ◌⊎◌, ◌++◌, ◌∷◌, [], List}
use Rattle.std.specs.Prelude.{Some, length, slice_get}
use Rattle.std.specs.List.Sorted.{IsNonDecreasingBy}
use Rattle.cfg_rules.specs.Member.{IsIn}
use Rattle.cfg_flow.specs.declared.plan.Jump.{Jump}
use Rattle.cfg_flow.specs.declared.plan.Plan.{Plan}
use Rattle.cfg_flow.specs.declared.jumps.Jumps.{Jumps}
use Rattle.cfg_flow.specs.declared.jumps.Ahead.{Ahead}
use Rattle.cfg_flow.specs.Plans.{marks_at}

-- What is left of all jumps has those of the constructs below x, in the order of constructs.
pub record AreAhead (all : List Jump) (x : ℕ) (left : List Jump) : Type 0 where
  pub below : (jump : Jump) → IsIn all jump → jump.construct < x → IsIn left jump
  pub among : (jump : Jump) → IsIn left jump → IsIn all jump
  pub rise : IsNonDecreasingBy (λ jump. jump.construct) left

-- The marks are those of x among all jumps, and the jumps below it are left.
pub record AreTaken (all : List Jump) (x : ℕ) (taken : List ℕ) (rest : List Jump) : Type 0 where
  pub marks : (m : ℕ) → IsIn taken m ↔ IsIn (marks_at x all) m
  pub left : AreAhead all x rest

-- Where jumps are in the order of constructs, none is of x or of a construct above it.
pub record AreNoneFrom (x : ℕ) (jumps : List Jump) : Type 0 where
  pub none : IsNonDecreasingBy (λ jump. jump.construct) jumps → (jump : Jump) → IsIn jumps jump →
      jump.construct < x

-- The last jump, of x or of a construct above it.
pub record IsLastFrom (x : ℕ) (jumps : List Jump) (jump : Jump) : Type 0 where
  pub some : 0 < length jumps
  pub last : slice_get jumps (length jumps - 1) ≡ Some jump
  pub from : x ≤ jump.construct

-- The mark of the jump was added, if it is of x.
abbrev pub IsMarkAdded : ℕ → Jump → List ℕ → List ℕ → Type 0
IsMarkAdded x jump old new = ((jump.construct ≡ x) × (new ≡ old ++ jump.mark ∷ [])) ⊎
    (¬ (jump.construct ≡ x) × (new ≡ old))

-- The same of the three kinds of jump in a plan.
pub record IsAhead (plan : Plan) (x : ℕ) (ahead : Ahead) : Type 0 where
  pub targets : AreAhead plan.targets.items x ahead.targets.items
  pub breaks : AreAhead plan.breaks.items x ahead.breaks.items
  pub continues : AreAhead plan.continues.items x ahead.continues.items

pub record AreAllTaken (plan : Plan) (x : ℕ) (jumps : Jumps) (ahead : Ahead) : Type 0 where
  pub targets : AreTaken plan.targets.items x jumps.targets.items ahead.targets.items
  pub breaks : AreTaken plan.breaks.items x jumps.breaks.items ahead.breaks.items
  pub continues : AreTaken plan.continues.items x jumps.continues.items ahead.continues.items
