-- How much work a part of a tree is for the walk: more than the parts are into which it is opened.
--
-- Written by `generate` from src/tree.rt.

use Rattle.std.specs.Prelude.{ℕ, ◌+◌, List, [], ◌∷◌, Option, Some, None, length, map}
use Rattle.std.specs.Option.{option_map}
use Rattle.c_tree.specs.declared.tree.Item.{Item}
use Rattle.c_tree.specs.declared.tree.Item.TheVariants as v_item
use Rattle.c_tree.specs.declared.tree.Declaration.{Declaration}
use Rattle.c_tree.specs.declared.tree.InitDeclarator.{InitDeclarator}
use Rattle.c_tree.specs.declared.tree.Init.{Init}
use Rattle.c_tree.specs.declared.tree.InitItem.{InitItem}
use Rattle.c_tree.specs.declared.tree.Designator.{Designator}
use Rattle.c_tree.specs.declared.tree.Specs.{Specs}
use Rattle.c_tree.specs.declared.tree.Spec.{Spec}
use Rattle.c_tree.specs.declared.tree.Enumerator.{Enumerator}
use Rattle.c_tree.specs.declared.tree.Declarator.{Declarator}
use Rattle.c_tree.specs.declared.tree.Pointer.{Pointer}
use Rattle.c_tree.specs.declared.tree.Core.{Core}
use Rattle.c_tree.specs.declared.tree.Suffix.{Suffix}
use Rattle.c_tree.specs.declared.tree.Param.{Param}
use Rattle.c_tree.specs.declared.tree.TypeName.{TypeName}
use Rattle.c_tree.specs.declared.tree.Expr.{Expr}
use Rattle.c_tree.specs.declared.tree.Assign.{Assign}
use Rattle.c_tree.specs.declared.tree.Cond.{Cond}
use Rattle.c_tree.specs.declared.tree.Arm.{Arm}
use Rattle.c_tree.specs.declared.tree.Binary.{Binary}
use Rattle.c_tree.specs.declared.tree.Prefixed.{Prefixed}
use Rattle.c_tree.specs.declared.tree.Prefix.{Prefix}
use Rattle.c_tree.specs.declared.tree.Base.{Base}
use Rattle.c_tree.specs.declared.tree.BaseForm.{BaseForm}
use Rattle.c_tree.specs.declared.tree.Post.{Post}
use Rattle.c_tree.specs.declared.tree.Block.{Block}
use Rattle.c_tree.specs.declared.tree.BlockItem.{BlockItem}
use Rattle.c_tree.specs.declared.tree.Stmt.{Stmt}
use Rattle.c_tree.specs.declared.tree.Mark.{Mark}
use Rattle.c_tree.specs.declared.tree.Mark.TheVariants as v_label
use Rattle.c_tree.specs.declared.tree.StmtKind.{StmtKind}
use Rattle.c_tree.specs.declared.tree.ForInit.{ForInit}
use Rattle.c_tree.specs.declared.tree.ForInit.TheVariants as v_for_init
use Rattle.c_tree.specs.declared.tree.BaseForm.TheOpen as o
use Rattle.c_tree.specs.declared.tree.BlockItem.TheOpen as s
use Rattle.c_tree.specs.Folds as folds

-- Items of these weights, each with the marks before it.
abbrev pub listed : List ℕ → ℕ
listed [] = 0
listed (weight ∷ weights) = 8 + (weight + listed weights)

-- A part, where it is there.
abbrev pub weight_if : Option ℕ → ℕ
weight_if None = 0
weight_if (Some weight) = weight

abbrev pub pointer_weight_level : Pointer → ℕ
pointer_weight_level x = 8 + length x.qualifiers

unfoldable pub pointer_weight : Pointer → ℕ
pointer_weight = pointer_weight_level

abbrev pub base_form_weight_level : folds.BaseFormLevel ℕ → ℕ
base_form_weight_level (o.BaseForm-F.BaseForm::Name token) = 8
base_form_weight_level (o.BaseForm-F.Literal tokens) = 8 + length tokens
base_form_weight_level (o.BaseForm-F.BaseForm::Group expr marks) = 8 + expr
base_form_weight_level (o.BaseForm-F.Compound type_name items marks) =
    8 + (type_name + listed items)
base_form_weight_level (o.BaseForm-F.SizeType token type_name marks) = 8 + type_name

abbrev pub core_weight_level : folds.CoreLevel ℕ → ℕ
core_weight_level (o.Core-F.Core::Name token) = 8
core_weight_level (o.Core-F.Core::Group declarator marks) = 8 + declarator
core_weight_level o.Core-F.Empty = 8

abbrev pub declaration_weight_level : folds.DeclarationLevel ℕ → ℕ
declaration_weight_level (o.Declaration-F.Names specs list marks) = 8 + (specs + listed list)
declaration_weight_level (o.Declaration-F.Assert cond text marks) = 8 + (cond + length text)

abbrev pub designator_weight_level : folds.DesignatorLevel ℕ → ℕ
designator_weight_level (o.Designator-F.Designator::Index expr marks) = 8 + expr
designator_weight_level (o.Designator-F.Field token marks) = 8

abbrev pub init_weight_level : folds.InitLevel ℕ → ℕ
init_weight_level (o.Init-F.Value expr) = 8 + expr
init_weight_level (o.Init-F.Items items marks) = 8 + listed items

abbrev pub post_weight_level : folds.PostLevel ℕ → ℕ
post_weight_level (o.Post-F.Post::Index expr marks) = 8 + expr
post_weight_level (o.Post-F.Call items marks) = 8 + listed items
post_weight_level (o.Post-F.Dot token marks) = 8
post_weight_level (o.Post-F.Arrow token marks) = 8
post_weight_level (o.Post-F.Step token) = 8

abbrev pub prefix_weight_level : folds.PrefixLevel ℕ → ℕ
prefix_weight_level (o.Prefix-F.Op token) = 8
prefix_weight_level (o.Prefix-F.Cast type_name marks) = 8 + type_name

abbrev pub spec_weight_level : folds.SpecLevel ℕ → ℕ
spec_weight_level (o.Spec-F.Storage token) = 8
spec_weight_level (o.Spec-F.Function token) = 8
spec_weight_level (o.Spec-F.Qualifier token) = 8
spec_weight_level (o.Spec-F.Basic token) = 8
spec_weight_level (o.Spec-F.Named token) = 8
spec_weight_level (o.Spec-F.Atomic type_name marks) = 8 + type_name
spec_weight_level (o.Spec-F.AlignType type_name marks) = 8 + type_name
spec_weight_level (o.Spec-F.AlignExpr expr marks) = 8 + expr
spec_weight_level (o.Spec-F.Record key tag body marks) = 8 + weight_if (option_map listed body)
spec_weight_level (o.Spec-F.Enumeration key tag body marks) = 8 + weight_if (option_map listed body)

abbrev pub suffix_weight_level : folds.SuffixLevel ℕ → ℕ
suffix_weight_level (o.Suffix-F.Array words size star marks) = 8 + (length words + weight_if size)
suffix_weight_level (o.Suffix-F.Params list dots marks) = 8 + listed list

abbrev pub arm_weight_level : folds.ArmLevel ℕ → ℕ
arm_weight_level x = 8 + (x.test + x.then)

abbrev pub assign_weight_level : folds.AssignLevel ℕ → ℕ
assign_weight_level x = 8 + (listed (map (λ t. 1 + t.0) x.targets) + x.value)

abbrev pub base_weight_level : folds.BaseLevel ℕ → ℕ
base_weight_level x = 8 + (x.form + listed x.suffixes)

abbrev pub binary_weight_level : folds.BinaryLevel ℕ → ℕ
binary_weight_level x = 8 + (x.first + listed (map (λ t. 1 + t.1) x.rest))

abbrev pub cond_weight_level : folds.CondLevel ℕ → ℕ
cond_weight_level x = 8 + (listed x.arms + x.last)

abbrev pub declarator_weight_level : folds.DeclaratorLevel ℕ → ℕ
declarator_weight_level x =
    8 + (listed (map pointer_weight x.pointers) + (x.core + (listed x.suffixes + weight_if
    x.width)))

abbrev pub enumerator_weight_level : folds.EnumeratorLevel ℕ → ℕ
enumerator_weight_level x = 8 + weight_if x.value

abbrev pub expr_weight_level : folds.ExprLevel ℕ → ℕ
expr_weight_level x = 8 + listed x.parts

abbrev pub init_declarator_weight_level : folds.InitDeclaratorLevel ℕ → ℕ
init_declarator_weight_level x = 8 + (x.declarator + weight_if x.init)

abbrev pub init_item_weight_level : folds.InitItemLevel ℕ → ℕ
init_item_weight_level x = 8 + (listed x.designators + x.init)

abbrev pub param_weight_level : folds.ParamLevel ℕ → ℕ
param_weight_level x = 8 + (x.specs + x.declarator)

abbrev pub prefixed_weight_level : folds.PrefixedLevel ℕ → ℕ
prefixed_weight_level x = 8 + (listed x.prefixes + x.base)

abbrev pub specs_weight_level : folds.SpecsLevel ℕ → ℕ
specs_weight_level x = 8 + listed x.words

abbrev pub type_name_weight_level : folds.TypeNameLevel ℕ → ℕ
type_name_weight_level x = 8 + (x.specs + x.declarator)

abbrev pub weight_steps : folds.Steps ℕ
weight_steps = record {
  base_form = base_form_weight_level;
  core = core_weight_level;
  declaration = declaration_weight_level;
  designator = designator_weight_level;
  init = init_weight_level;
  post = post_weight_level;
  prefix = prefix_weight_level;
  spec = spec_weight_level;
  suffix = suffix_weight_level;
  arm = arm_weight_level;
  assign = assign_weight_level;
  base = base_weight_level;
  binary = binary_weight_level;
  cond = cond_weight_level;
  declarator = declarator_weight_level;
  enumerator = enumerator_weight_level;
  expr = expr_weight_level;
  init_declarator = init_declarator_weight_level;
  init_item = init_item_weight_level;
  param = param_weight_level;
  prefixed = prefixed_weight_level;
  specs = specs_weight_level;
  type_name = type_name_weight_level;
}

unfoldable pub base_form_weight : BaseForm → ℕ
base_form_weight = folds.base_form_fold weight_steps

unfoldable pub core_weight : Core → ℕ
core_weight = folds.core_fold weight_steps

unfoldable pub declaration_weight : Declaration → ℕ
declaration_weight = folds.declaration_fold weight_steps

unfoldable pub designator_weight : Designator → ℕ
designator_weight = folds.designator_fold weight_steps

unfoldable pub init_weight : Init → ℕ
init_weight = folds.init_fold weight_steps

unfoldable pub post_weight : Post → ℕ
post_weight = folds.post_fold weight_steps

unfoldable pub prefix_weight : Prefix → ℕ
prefix_weight = folds.prefix_fold weight_steps

unfoldable pub spec_weight : Spec → ℕ
spec_weight = folds.spec_fold weight_steps

unfoldable pub suffix_weight : Suffix → ℕ
suffix_weight = folds.suffix_fold weight_steps

unfoldable pub arm_weight : Arm → ℕ
arm_weight = folds.arm_fold weight_steps

unfoldable pub assign_weight : Assign → ℕ
assign_weight = folds.assign_fold weight_steps

unfoldable pub base_weight : Base → ℕ
base_weight = folds.base_fold weight_steps

unfoldable pub binary_weight : Binary → ℕ
binary_weight = folds.binary_fold weight_steps

unfoldable pub cond_weight : Cond → ℕ
cond_weight = folds.cond_fold weight_steps

unfoldable pub declarator_weight : Declarator → ℕ
declarator_weight = folds.declarator_fold weight_steps

unfoldable pub enumerator_weight : Enumerator → ℕ
enumerator_weight = folds.enumerator_fold weight_steps

unfoldable pub expr_weight : Expr → ℕ
expr_weight = folds.expr_fold weight_steps

unfoldable pub init_declarator_weight : InitDeclarator → ℕ
init_declarator_weight = folds.init_declarator_fold weight_steps

unfoldable pub init_item_weight : InitItem → ℕ
init_item_weight = folds.init_item_fold weight_steps

unfoldable pub param_weight : Param → ℕ
param_weight = folds.param_fold weight_steps

unfoldable pub prefixed_weight : Prefixed → ℕ
prefixed_weight = folds.prefixed_fold weight_steps

unfoldable pub specs_weight : Specs → ℕ
specs_weight = folds.specs_fold weight_steps

unfoldable pub type_name_weight : TypeName → ℕ
type_name_weight = folds.type_name_fold weight_steps

abbrev pub target_weight : Prefixed × ℕ → ℕ
target_weight target = 1 + prefixed_weight target.0

abbrev pub operand_weight : ℕ × Prefixed → ℕ
operand_weight operand = 1 + prefixed_weight operand.1

abbrev pub label_weight_level : Mark → ℕ
label_weight_level (v_label.Label token marks) = 8
label_weight_level (v_label.Case expr marks) = 8 + expr_weight expr
label_weight_level (v_label.Default token marks) = 8

unfoldable pub label_weight : Mark → ℕ
label_weight = label_weight_level

abbrev pub for_init_weight_level : ForInit → ℕ
for_init_weight_level (v_for_init.Nothing marks) = 8
for_init_weight_level (v_for_init.Value expr marks) = 8 + expr_weight expr
for_init_weight_level (v_for_init.Declare declaration) = 8 + declaration_weight declaration

unfoldable pub for_init_weight : ForInit → ℕ
for_init_weight = for_init_weight_level

abbrev pub block_item_weight_level : folds.BlockItemLevel ℕ → ℕ
block_item_weight_level (s.BlockItem-F.Declare declaration) = 8 + declaration_weight declaration
block_item_weight_level (s.BlockItem-F.Do body) = 8 + body

abbrev pub stmt_kind_weight_level : folds.StmtKindLevel ℕ → ℕ
stmt_kind_weight_level (s.StmtKind-F.Empty marks) = 8
stmt_kind_weight_level (s.StmtKind-F.Value expr marks) = 8 + expr_weight expr
stmt_kind_weight_level (s.StmtKind-F.Braced block) = 8 + block
stmt_kind_weight_level (s.StmtKind-F.If arms other marks) =
    8 + (listed (map (λ t. expr_weight t.0 + t.1) arms) + weight_if other)
stmt_kind_weight_level (s.StmtKind-F.While expr body marks) = 8 + (expr_weight expr + body)
stmt_kind_weight_level (s.StmtKind-F.DoWhile body expr marks) = 8 + (body + expr_weight expr)
stmt_kind_weight_level (s.StmtKind-F.For init cond step body marks) =
    8 + (for_init_weight init + (weight_if (option_map expr_weight cond) + (weight_if (option_map
    expr_weight step) + body)))
stmt_kind_weight_level (s.StmtKind-F.Switch expr body marks) = 8 + (expr_weight expr + body)
stmt_kind_weight_level (s.StmtKind-F.Break marks) = 8
stmt_kind_weight_level (s.StmtKind-F.Continue marks) = 8
stmt_kind_weight_level (s.StmtKind-F.Goto token marks) = 8
stmt_kind_weight_level (s.StmtKind-F.Return expr marks) =
    8 + weight_if (option_map expr_weight expr)

abbrev pub block_weight_level : folds.BlockLevel ℕ → ℕ
block_weight_level x = 8 + listed x.items

abbrev pub stmt_weight_level : folds.StmtLevel ℕ → ℕ
stmt_weight_level x = 8 + (listed (map label_weight x.labels) + x.kind)

abbrev pub stmt_weight_steps : folds.StmtSteps ℕ
stmt_weight_steps = record {
  block_item = block_item_weight_level;
  stmt_kind = stmt_kind_weight_level;
  block = block_weight_level;
  stmt = stmt_weight_level;
}

unfoldable pub block_item_weight : BlockItem → ℕ
block_item_weight = folds.block_item_fold stmt_weight_steps

unfoldable pub stmt_kind_weight : StmtKind → ℕ
stmt_kind_weight = folds.stmt_kind_fold stmt_weight_steps

unfoldable pub block_weight : Block → ℕ
block_weight = folds.block_fold stmt_weight_steps

unfoldable pub stmt_weight : Stmt → ℕ
stmt_weight = folds.stmt_fold stmt_weight_steps

abbrev pub item_weight_level : Item → ℕ
item_weight_level (v_item.Define specs declarator body) =
    8 + (specs_weight specs + (declarator_weight declarator + block_weight body))
item_weight_level (v_item.Declare declaration) = 8 + declaration_weight declaration

unfoldable pub item_weight : Item → ℕ
item_weight = item_weight_level
