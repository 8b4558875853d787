use Rattle.c_tree.specs.declared.tree.Binary.{out-Binary}
use Rattle.std.proofs.Common.{◌≤◌, length, drop}
use Rattle.graph_forest.specs.Planting.{Planting, Plants}
use Rattle.ast_layer.specs.Source.{file_of}
use Rattle.ast_layer.specs.Grouping.{grouped_binary}
use Rattle.ast_layer.specs.Forests.{grouped_forest}
use Rattle.ast_layer.proofs.Chains.{front, Closes}
use Rattle.ast_layer.proofs.source.Source.plant_binary.Given as goal

-- When the operators that are left are planted with their operands, and the CALLs that are open are
-- given their right sides and left, the whole is planted.
abbrev pub invariant-loop-left : goal.invariant-loop-left
invariant-loop-left l =
    (l.left ≤ length l.rest)
    × ((after closed : Planting) → Plants l.planter after (grouped_forest (file_of l.self) l.rank (front (out-Binary l.binary).first l.rest l.left)) →
    Closes (file_of l.self) (drop l.left l.rest) after closed → Plants l.fn.planter closed (grouped_forest (file_of l.self) l.fn.rank (grouped_binary l.binary)))

abbrev pub decreases-loop-left : goal.decreases-loop-left
decreases-loop-left l = l.left

-- The right operands so far are planted, and their CALLs left.
abbrev pub invariant-loop-next : goal.invariant-loop-next
invariant-loop-next l =
    (closed : Planting) → Closes (file_of l.self) (drop l.next-index l.rest) l.planter closed → Closes (file_of l.self) l.rest l.initial.planter closed
