use Rattle.c_tree.specs.declared.tree.Assign.{out-Assign}
use Rattle.c_tree.specs.declared.tree.Cond.{out-Cond}
use Rattle.std.proofs.Common.{◌≡◌, ℕ, ◌+◌, ◌-◌, Option, List, length, drop, ap, subst, ◌∙◌, arith}
use Rattle.c_tree.specs.declared.tree.Prefixed.{Prefixed}
use Rattle.cpg_schema.specs.Graph.{PlainNode}
use Rattle.graph_forest.specs.Forest.{leaf}
use Rattle.graph_forest.specs.Nodes.{plain_node}
use Rattle.graph_forest.specs.Planting.{Planting, Plants, Enters}
use Rattle.graph_forest.specs.declared.rank.Rank.{Rank}
use Rattle.ast_layer.specs.Source.{File, file_of}
use Rattle.ast_layer.specs.Grouping.{Grouped, to_the_right, grouped_binary, operand_token}
use Rattle.ast_layer.specs.Nodes.{call_node, operand_node}
use Rattle.ast_layer.specs.Forests.{grouped_forest}
use Rattle.ast_layer.proofs.Chains.{LeavesMany, targets_step, targets_end, leaves_step, leaves_none}
use Rattle.ast_layer.proofs.source.Source.plant_assign.Goals as goal

pub loop-target-init : goal.loop-target-init
loop-target-init c = λ after closed planted left.
    let file : File = file_of c.args.self.now in
    let value : Grouped = grouped_binary (out-Cond (out-Assign c.args.assign.now).value).last in
    subst (λ (l : List (Prefixed × ℕ)). Plants c.args.planter.now closed (grouped_forest file c.args.rank (to_the_right l value))) c.items-targets.ensures
    (subst (λ (p : Planting). Plants c.args.planter.now p (grouped_forest file c.args.rank (to_the_right c.items-targets.result.now value))) left planted)

pub loop-target-preserved : goal.loop-target-preserved
loop-target-preserved c = λ after closed planted left.
    let file : File = file_of c.args.self.now in
    let value : Grouped = grouped_binary (out-Cond (out-Assign c.args.assign.now).value).last in
    let targets : List (Prefixed × ℕ) = c.items-targets.result.now in
    let i : ℕ = c.loop-target.target-index in
    let item = c.target-item.result in
    let a = c.loop-target.planter in
    let b = c.enter.new.self in
    let d = c.plant_operand.new.planter in
    let rank : Rank = c.loop-target.rank in
    let node : plain_node c.call-call.result ≡ call_node file item.1 (operand_token item.0) rank =
    c.call-call.ensures ∙ ap (λ (token : Option ℕ). call_node file item.1 token rank) c.token_of.ensures in
    let enters : Enters a b rank.hang (call_node file item.1 (operand_token item.0) rank) =
    subst (λ (x : PlainNode). Enters a b rank.hang x) node c.in_ok-enter.ensures in
    let target = subst (λ (r : Rank). Plants b d (leaf r.hang (operand_node file item.0 r))) c.argument.ensures c.in_ok-plant_operand.ensures in
    let right = subst (λ (r : Rank). Plants d after (grouped_forest file r (to_the_right (drop (i + 1) targets) value))) c.argument-rank.ensures planted in
    let step = targets_step a b d after closed file rank targets value i item c.loop-target-test.true c.target-item.is enters target right left in
    c.loop-target.invariant step.after closed step.planted step.left

pub leaving-init : goal.leaving-init
leaving-init c = λ closed left.
    let all : ℕ = length c.items-targets.result.now in
    let same : all - 0 ≡ all = omega arith in
    subst (λ (k : ℕ). LeavesMany k c.plant_binary.new.planter closed) same left

pub leaving-preserved : goal.leaving-preserved
leaving-preserved c = λ closed left.
    let all : ℕ = length c.items-targets.result.now in
    let more : all - c.leaving.index ≡ (all - (c.leaving.index + 1)) + 1 = omega arith in
    c.leaving.invariant closed (leaves_step c.leaving.planter c.leave.new.self closed (all - c.leaving.index) (all - (c.leaving.index + 1)) more c.leave.ensures left)

pub returns : goal.returns
returns c =
    let file : File = file_of c.args.self.now in
    let value : Grouped = grouped_binary (out-Cond (out-Assign c.args.assign.now).value).last in
    let targets : List (Prefixed × ℕ) = c.items-targets.result.now in
    let start = c.plant_binary.new.planter in
    let none : length targets - c.leaving.index ≡ 0 = omega arith in
    let left = c.leaving.invariant c.leaving.planter (leaves_none c.leaving.planter (length targets - c.leaving.index) none) in
    let all : length targets ≡ c.loop-target.target-index = omega arith in
    let planted = targets_end c.loop-target.planter start file c.loop-target.rank targets value c.loop-target.target-index c.loop-target-test.false c.in_ok-plant_binary.ensures in
    c.loop-target.invariant start c.leaving.planter planted (subst (λ (k : ℕ). LeavesMany k start c.leaving.planter) all left)
