use Rattle.std.proofs.Common.{Some, None, refl, sym, subst}
use Rattle.cpg_schema.specs.declared.label.Label.TheVariants.{Call, Method, Block, Identifier, Literal, MethodParameterIn, MethodReturn}
use Rattle.graph_forest.specs.declared.hang.Hang.TheVariants.{Plain, Argument}
use Rattle.graph_forest.specs.Forest.{Forest, branch, leaf, beside, IsAllowed, IsAllowedUnder, IsPlanted}
use Rattle.graph_forest.proofs.Allowing.{allowed-beside}
use Rattle.graph_forest.proofs.Composing.{plants_planted}
use Rattle.graph_tests.specs.NamedForest.{argument_node, call_forest, global_forest, method_forest, named_forest, ordered}
use Rattle.graph_tests.proofs.named_parts.file_delta.Goals as goal

call_allowed : IsAllowedUnder (Some Block) call_forest
call_allowed =
    (refl, allowed-beside (Some Call) (leaf (Argument 1) (argument_node Identifier 1)) (leaf (Argument 2) (argument_node Literal 2)) (refl, tt, tt) (refl, tt, tt), tt)

method_allowed : IsAllowedUnder (Some Block) method_forest
method_allowed =
    let body : Forest = branch Plain (ordered Block 2) call_forest in
    let last : Forest = leaf Plain (ordered MethodReturn 3) in (
      refl,
      allowed-beside (Some Method) (leaf Plain (ordered MethodParameterIn 1)) (beside body last) (refl, tt, tt)
          (allowed-beside (Some Method) body last (refl, call_allowed, tt) (refl, tt, tt)),
      tt,
    )

allowed : IsAllowed named_forest
allowed =
    let body : Forest = branch Plain (ordered Block 1) method_forest in
    let last : Forest = leaf Plain (ordered MethodReturn 2) in
    (refl, (refl, (refl, allowed-beside (Some Method) body last (refl, method_allowed, tt) (refl, tt, tt), tt), tt), tt)

pub returns : goal.returns
returns c =
    subst IsPlanted (sym c.finish.ensures)
    (plants_planted c.new-planter.result c.plant_file.new.planter named_forest c.new-planter.ensures c.in_ok-plant_file.ensures allowed)
