-- How far a plan is joined (ours).
use Rattle.std.specs.Prelude.{ℕ, ◌≡◌, ◌≤◌, ◌↔◌, []}
use Rattle.cfg_rules.specs.Joined.{Joins}
use Rattle.cfg_rules.specs.Member.{IsIn}
use Rattle.cfg_flow.specs.declared.plan.Plan.{Plan}
use Rattle.cfg_flow.specs.declared.work.Function.{Function}
use Rattle.cfg_flow.specs.declared.work.Work.{Work}
use Rattle.cfg_flow.specs.Plans.{constructs}
use Rattle.cfg_flow.specs.Jumping.{IsAhead}
use Rattle.cfg_flow.specs.Tables.{AreDone}

-- What is read of the plan.
pub record IsReadOf (plan : Plan) (function : Function) : Type 0 where
  pub rows : function.rows.now ≡ plan.rows.items
  pub parts : function.parts.now ≡ plan.parts.items
  pub end : function.end ≡ plan.method_return

-- The constructs from x on are joined.
pub record AreJoinedFrom (plan : Plan) (x : ℕ) (work : Work) : Type 0 where
  pub table : AreDone (constructs plan) x work.table.items
  pub ahead : IsAhead plan x work.ahead
  pub first : work.out.first.items ≡ []
  pub edges : (a b : ℕ) → IsIn work.out.edges.items (a, b) ↔
      ((y : ℕ) × (x ≤ y) × Joins (constructs plan) y a b)
