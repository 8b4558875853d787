-- The plan that flat lists say (ours).
use Rattle.std.specs.Prelude.{ℕ, ◌+◌, ◌≡◌, ◌≤◌, ◌<◌, ◌^◌, List, [], ◌∷◌, Some, length}
use Rattle.std.specs.Prelude.{cond, ◌==◌, slice_get, slice_range}
use Rattle.cfg_rules.specs.Plan.{Construct, IsPlan, part}
use Rattle.cfg_flow.specs.declared.plan.Jump.{Jump}
use Rattle.cfg_flow.specs.declared.plan.Plan.{Plan}
use Rattle.cfg_flow.specs.declared.plan.Row.{Row}

-- The marks of the construct x among the jumps.
unfoldable pub marks_at : ℕ → List Jump → List ℕ
marks_at x [] = []
marks_at x (jump ∷ jumps) =
    cond (jump.construct == x) (jump.mark ∷ marks_at x jumps) (marks_at x jumps)

-- The construct x, of this row.
abbrev pub construct_at : Plan → ℕ → Row → Construct
construct_at plan x row = record {
  rule = row.rule;
  parts = slice_range plan.parts.items row.from row.to;
  targets = marks_at x plan.targets.items;
  method_return = plan.method_return;
  breaks = marks_at x plan.breaks.items;
  continues = marks_at x plan.continues.items;
}

-- The constructs from the number x on, of these rows.
unfoldable pub constructs_from : Plan → ℕ → List Row → List Construct
constructs_from plan x [] = []
constructs_from plan x (row ∷ rows) =
    construct_at plan x row ∷ constructs_from plan (x + 1) rows

-- The constructs of the plan.
abbrev pub constructs : Plan → List Construct
constructs plan = constructs_from plan 0 plan.rows.items

-- The parts of a construct stand in the list of parts.
pub record HasParts (row : Row) (count : ℕ) : Type 0 where
  pub forward : row.from ≤ row.to
  pub within : row.to ≤ count

-- A plan whose flow is asked for: its constructs are a plan, each part of one is a construct after
-- it, and their numbers are numbers of nodes.
pub record IsFlat (plan : Plan) : Type 0 where
  pub plan_is : IsPlan (constructs plan)
  pub parts_follow : (x k c : ℕ) → part (constructs plan) x k ≡ Some c →
      (x < c) × (c < length plan.rows.items)
  pub listed : (x : ℕ) (row : Row) → slice_get plan.rows.items x ≡ Some row →
      HasParts row (length plan.parts.items)
  pub few : length plan.rows.items < 2 ^ 32
