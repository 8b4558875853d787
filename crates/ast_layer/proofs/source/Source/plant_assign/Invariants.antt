use Rattle.c_tree.specs.declared.tree.Assign.{out-Assign}
use Rattle.c_tree.specs.declared.tree.Cond.{out-Cond}
use Rattle.std.proofs.Common.{◌-◌, length, drop}
use Rattle.graph_forest.specs.Planting.{Planting, Plants}
use Rattle.ast_layer.specs.Source.{file_of}
use Rattle.ast_layer.specs.Grouping.{to_the_right, grouped_binary, grouped_assign}
use Rattle.ast_layer.specs.Forests.{grouped_forest}
use Rattle.ast_layer.proofs.Chains.{LeavesMany}
use Rattle.ast_layer.proofs.source.Source.plant_assign.Given as goal

-- When the assignment to the targets that are left is planted, and the CALLs that are open are left, the whole is planted.
abbrev pub invariant-loop-target : goal.invariant-loop-target
invariant-loop-target l =
    (after closed : Planting) →
    Plants l.planter after (grouped_forest (file_of l.self) l.rank (to_the_right (drop l.target-index l.targets) (grouped_binary (out-Cond (out-Assign l.assign).value).last))) →
    LeavesMany l.target-index after closed → Plants l.fn.planter closed (grouped_forest (file_of l.self) l.fn.rank (grouped_assign l.assign))

-- So many CALLs are left.
abbrev pub invariant-leaving : goal.invariant-leaving
invariant-leaving l =
    (closed : Planting) → LeavesMany (length l.targets - l.index) l.planter closed → LeavesMany (length l.targets) l.initial.planter closed
