use Rattle.std.proofs.Common.{◌+◌, drop}
use Rattle.graph_forest.specs.Planting.{Planting, Plants}
use Rattle.ast_layer.specs.Source.{file_of}
use Rattle.ast_layer.specs.Forests.{children_forest, expressions}
use Rattle.ast_layer.proofs.source.Source.plant_statements.Given as goal

-- When the statements that are left are planted, all are.
abbrev pub invariant-loop-item : goal.invariant-loop-item
invariant-loop-item l =
    (after : Planting) → Plants l.planter after (children_forest (file_of l.self) (l.order + 1) (expressions (drop l.item-index l.items))) →
    Plants l.fn.planter after (children_forest (file_of l.self) 1 (expressions l.items))
