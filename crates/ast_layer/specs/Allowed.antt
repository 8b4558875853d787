-- The schema allows the forest of each construct.
use Rattle.std.specs.Prelude.{ℕ, ◌+◌, List, [], ◌∷◌, Some, refl}
use Rattle.cpg_schema.specs.declared.label.Label.TheVariants.{Block, Call}
use Rattle.graph_forest.specs.Forest.{leaf, IsAllowed, IsAllowedUnder}
use Rattle.graph_forest.proofs.Allowing.{allowed-beside}
use Rattle.c_tree.specs.declared.tree.Unit.{Unit}
use Rattle.c_tree.specs.declared.tree.Item.{Item}
use Rattle.c_tree.specs.declared.tree.Item.TheVariants as item
use Rattle.c_tree.specs.declared.tree.BaseForm.{out-BaseForm}
use Rattle.c_tree.specs.declared.tree.BaseForm.TheOpen as o
use Rattle.c_tree.specs.Folds.{OpenBaseForm}
use Rattle.ast_layer.specs.Source.{File}
use Rattle.ast_layer.specs.Grouping.{Grouped, Operand, Joined}
use Rattle.graph_forest.specs.Ranks.{child, argument}
use Rattle.ast_layer.specs.Nodes.{open_node}
use Rattle.ast_layer.specs.Forests.{grouped_forest, expressions, children_forest, function_forest}
use Rattle.ast_layer.specs.Forests.{functions_forest, file_forest}

-- An operand may be an argument of a CALL.
form_argument : (file : File) (order : ℕ) (form : OpenBaseForm) →
    IsAllowedUnder (Some Call) (leaf (argument order).hang (open_node file form (argument order)))
form_argument file order (o.BaseForm-F.BaseForm::Name token) = (refl, tt, tt)
form_argument file order (o.BaseForm-F.Literal tokens) = (refl, tt, tt)
form_argument file order (o.BaseForm-F.BaseForm::Group expr marks) = (refl, tt, tt)
form_argument file order (o.BaseForm-F.Compound type_name list marks) = (refl, tt, tt)
form_argument file order (o.BaseForm-F.SizeType size type_name marks) = (refl, tt, tt)

-- It may stand in a BLOCK.
form_child : (file : File) (order : ℕ) (form : OpenBaseForm) →
    IsAllowedUnder (Some Block) (leaf (child order).hang (open_node file form (child order)))
form_child file order (o.BaseForm-F.BaseForm::Name token) = (refl, tt, tt)
form_child file order (o.BaseForm-F.Literal tokens) = (refl, tt, tt)
form_child file order (o.BaseForm-F.BaseForm::Group expr marks) = (refl, tt, tt)
form_child file order (o.BaseForm-F.Compound type_name list marks) = (refl, tt, tt)
form_child file order (o.BaseForm-F.SizeType size type_name marks) = (refl, tt, tt)

-- So may an expression.
expression_argument : (file : File) (order : ℕ) (grouped : Grouped) →
    IsAllowedUnder (Some Call) (grouped_forest file (argument order) grouped)
expression_argument file order (Operand operand) =
    form_argument file order (out-BaseForm operand.base.form)
expression_argument file order (Joined operator left right) =
    let first = expression_argument file 1 left in
    let second = expression_argument file 2 right in
    (refl, allowed-beside _ _ _ first second, tt)

expression_child : (file : File) (order : ℕ) (grouped : Grouped) →
    IsAllowedUnder (Some Block) (grouped_forest file (child order) grouped)
expression_child file order (Operand operand) =
    form_child file order (out-BaseForm operand.base.form)
expression_child file order (Joined operator left right) =
    let first = expression_argument file 1 left in
    let second = expression_argument file 2 right in
    (refl, allowed-beside _ _ _ first second, tt)

-- The statements of a BLOCK.
children_allowed : (file : File) (order : ℕ) (children : List Grouped) →
    IsAllowedUnder (Some Block) (children_forest file order children)
children_allowed file order [] = tt
children_allowed file order (first ∷ rest) =
    let others = children_allowed file (order + 1) rest in
    allowed-beside _ _ _ (expression_child file order first) others

-- A function, and functions.
function_allowed : (file : File) (order : ℕ) (function : Item) →
    IsAllowedUnder (Some Block) (function_forest file order function)
function_allowed file order (item.Define specs declarator body) =
    let children = children_allowed file 1 (expressions body.items) in
    (refl, allowed-beside _ _ _ (refl, children, tt) (refl, tt, tt), tt)
function_allowed file order (item.Declare declaration) = tt

functions_allowed : (file : File) (order : ℕ) (items : List Item) →
    IsAllowedUnder (Some Block) (functions_forest file order items)
functions_allowed file order [] = tt
functions_allowed file order (first ∷ rest) =
    let others = functions_allowed file (order + 1) rest in
    allowed-beside _ _ _ (function_allowed file order first) others

-- A file.
pub file_allowed : (file : File) (unit : Unit) → IsAllowed (file_forest file unit)
file_allowed file unit =
    let functions = functions_allowed file 1 unit.items in
    (refl, allowed-beside _ _ _ (refl, functions, tt) (refl, tt, tt), tt)
