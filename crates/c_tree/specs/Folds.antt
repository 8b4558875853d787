-- Functions of trees: each type that leads back to itself has one step, which says what is given of
-- a level, where each part of it that leads back is what is given of the part. `OpenExpr` is what
-- `out-Expr` gives, an Expr that is opened by one level, and so on.
--
-- Written by `generate` from src/tree.rt.

use Rattle.c_tree.specs.declared.tree.BaseForm.{BaseForm, fold-BaseForm}
use Rattle.c_tree.specs.declared.tree.Core.{Core, fold-Core}
use Rattle.c_tree.specs.declared.tree.Declaration.{Declaration, fold-Declaration}
use Rattle.c_tree.specs.declared.tree.Designator.{Designator, fold-Designator}
use Rattle.c_tree.specs.declared.tree.Init.{Init, fold-Init}
use Rattle.c_tree.specs.declared.tree.Post.{Post, fold-Post}
use Rattle.c_tree.specs.declared.tree.Prefix.{Prefix, fold-Prefix}
use Rattle.c_tree.specs.declared.tree.Spec.{Spec, fold-Spec}
use Rattle.c_tree.specs.declared.tree.Suffix.{Suffix, fold-Suffix}
use Rattle.c_tree.specs.declared.tree.Arm.{Arm, fold-Arm}
use Rattle.c_tree.specs.declared.tree.Assign.{Assign, fold-Assign}
use Rattle.c_tree.specs.declared.tree.Base.{Base, fold-Base}
use Rattle.c_tree.specs.declared.tree.Binary.{Binary, fold-Binary}
use Rattle.c_tree.specs.declared.tree.Cond.{Cond, fold-Cond}
use Rattle.c_tree.specs.declared.tree.Declarator.{Declarator, fold-Declarator}
use Rattle.c_tree.specs.declared.tree.Enumerator.{Enumerator, fold-Enumerator}
use Rattle.c_tree.specs.declared.tree.Expr.{Expr, fold-Expr}
use Rattle.c_tree.specs.declared.tree.InitDeclarator.{InitDeclarator, fold-InitDeclarator}
use Rattle.c_tree.specs.declared.tree.InitItem.{InitItem, fold-InitItem}
use Rattle.c_tree.specs.declared.tree.Param.{Param, fold-Param}
use Rattle.c_tree.specs.declared.tree.Prefixed.{Prefixed, fold-Prefixed}
use Rattle.c_tree.specs.declared.tree.Specs.{Specs, fold-Specs}
use Rattle.c_tree.specs.declared.tree.TypeName.{TypeName, fold-TypeName}
use Rattle.c_tree.specs.declared.tree.BlockItem.{BlockItem, fold-BlockItem}
use Rattle.c_tree.specs.declared.tree.StmtKind.{StmtKind, fold-StmtKind}
use Rattle.c_tree.specs.declared.tree.Block.{Block, fold-Block}
use Rattle.c_tree.specs.declared.tree.Stmt.{Stmt, fold-Stmt}
use Rattle.c_tree.specs.declared.tree.BaseForm.TheOpen as o
use Rattle.c_tree.specs.declared.tree.BlockItem.TheOpen as s

-- ---- Declarations and expressions

abbrev pub BaseFormLevel : Type 0 → Type 0
BaseFormLevel A = o.BaseForm-F A A A A A A A A A A A A A A A A A A A A A A A

abbrev pub CoreLevel : Type 0 → Type 0
CoreLevel A = o.Core-F A A A A A A A A A A A A A A A A A A A A A A A

abbrev pub DeclarationLevel : Type 0 → Type 0
DeclarationLevel A = o.Declaration-F A A A A A A A A A A A A A A A A A A A A A A A

abbrev pub DesignatorLevel : Type 0 → Type 0
DesignatorLevel A = o.Designator-F A A A A A A A A A A A A A A A A A A A A A A A

abbrev pub InitLevel : Type 0 → Type 0
InitLevel A = o.Init-F A A A A A A A A A A A A A A A A A A A A A A A

abbrev pub PostLevel : Type 0 → Type 0
PostLevel A = o.Post-F A A A A A A A A A A A A A A A A A A A A A A A

abbrev pub PrefixLevel : Type 0 → Type 0
PrefixLevel A = o.Prefix-F A A A A A A A A A A A A A A A A A A A A A A A

abbrev pub SpecLevel : Type 0 → Type 0
SpecLevel A = o.Spec-F A A A A A A A A A A A A A A A A A A A A A A A

abbrev pub SuffixLevel : Type 0 → Type 0
SuffixLevel A = o.Suffix-F A A A A A A A A A A A A A A A A A A A A A A A

abbrev pub ArmLevel : Type 0 → Type 0
ArmLevel A = o.Arm-F A A A A A A A A A A A A A A A A A A A A A A A

abbrev pub AssignLevel : Type 0 → Type 0
AssignLevel A = o.Assign-F A A A A A A A A A A A A A A A A A A A A A A A

abbrev pub BaseLevel : Type 0 → Type 0
BaseLevel A = o.Base-F A A A A A A A A A A A A A A A A A A A A A A A

abbrev pub BinaryLevel : Type 0 → Type 0
BinaryLevel A = o.Binary-F A A A A A A A A A A A A A A A A A A A A A A A

abbrev pub CondLevel : Type 0 → Type 0
CondLevel A = o.Cond-F A A A A A A A A A A A A A A A A A A A A A A A

abbrev pub DeclaratorLevel : Type 0 → Type 0
DeclaratorLevel A = o.Declarator-F A A A A A A A A A A A A A A A A A A A A A A A

abbrev pub EnumeratorLevel : Type 0 → Type 0
EnumeratorLevel A = o.Enumerator-F A A A A A A A A A A A A A A A A A A A A A A A

abbrev pub ExprLevel : Type 0 → Type 0
ExprLevel A = o.Expr-F A A A A A A A A A A A A A A A A A A A A A A A

abbrev pub InitDeclaratorLevel : Type 0 → Type 0
InitDeclaratorLevel A = o.InitDeclarator-F A A A A A A A A A A A A A A A A A A A A A A A

abbrev pub InitItemLevel : Type 0 → Type 0
InitItemLevel A = o.InitItem-F A A A A A A A A A A A A A A A A A A A A A A A

abbrev pub ParamLevel : Type 0 → Type 0
ParamLevel A = o.Param-F A A A A A A A A A A A A A A A A A A A A A A A

abbrev pub PrefixedLevel : Type 0 → Type 0
PrefixedLevel A = o.Prefixed-F A A A A A A A A A A A A A A A A A A A A A A A

abbrev pub SpecsLevel : Type 0 → Type 0
SpecsLevel A = o.Specs-F A A A A A A A A A A A A A A A A A A A A A A A

abbrev pub TypeNameLevel : Type 0 → Type 0
TypeNameLevel A = o.TypeName-F A A A A A A A A A A A A A A A A A A A A A A A

abbrev pub OpenBaseForm : Type 0
OpenBaseForm =
    o.BaseForm-F BaseForm Core Declaration Designator Init Post Prefix Spec Suffix Arm Assign Base
    Binary Cond Declarator Enumerator Expr InitDeclarator InitItem Param Prefixed Specs TypeName

abbrev pub OpenCore : Type 0
OpenCore =
    o.Core-F BaseForm Core Declaration Designator Init Post Prefix Spec Suffix Arm Assign Base
    Binary Cond Declarator Enumerator Expr InitDeclarator InitItem Param Prefixed Specs TypeName

abbrev pub OpenDeclaration : Type 0
OpenDeclaration =
    o.Declaration-F BaseForm Core Declaration Designator Init Post Prefix Spec Suffix Arm Assign
    Base Binary Cond Declarator Enumerator Expr InitDeclarator InitItem Param Prefixed Specs
    TypeName

abbrev pub OpenDesignator : Type 0
OpenDesignator =
    o.Designator-F BaseForm Core Declaration Designator Init Post Prefix Spec Suffix Arm Assign Base
    Binary Cond Declarator Enumerator Expr InitDeclarator InitItem Param Prefixed Specs TypeName

abbrev pub OpenInit : Type 0
OpenInit =
    o.Init-F BaseForm Core Declaration Designator Init Post Prefix Spec Suffix Arm Assign Base
    Binary Cond Declarator Enumerator Expr InitDeclarator InitItem Param Prefixed Specs TypeName

abbrev pub OpenPost : Type 0
OpenPost =
    o.Post-F BaseForm Core Declaration Designator Init Post Prefix Spec Suffix Arm Assign Base
    Binary Cond Declarator Enumerator Expr InitDeclarator InitItem Param Prefixed Specs TypeName

abbrev pub OpenPrefix : Type 0
OpenPrefix =
    o.Prefix-F BaseForm Core Declaration Designator Init Post Prefix Spec Suffix Arm Assign Base
    Binary Cond Declarator Enumerator Expr InitDeclarator InitItem Param Prefixed Specs TypeName

abbrev pub OpenSpec : Type 0
OpenSpec =
    o.Spec-F BaseForm Core Declaration Designator Init Post Prefix Spec Suffix Arm Assign Base
    Binary Cond Declarator Enumerator Expr InitDeclarator InitItem Param Prefixed Specs TypeName

abbrev pub OpenSuffix : Type 0
OpenSuffix =
    o.Suffix-F BaseForm Core Declaration Designator Init Post Prefix Spec Suffix Arm Assign Base
    Binary Cond Declarator Enumerator Expr InitDeclarator InitItem Param Prefixed Specs TypeName

abbrev pub OpenArm : Type 0
OpenArm =
    o.Arm-F BaseForm Core Declaration Designator Init Post Prefix Spec Suffix Arm Assign Base Binary
    Cond Declarator Enumerator Expr InitDeclarator InitItem Param Prefixed Specs TypeName

abbrev pub OpenAssign : Type 0
OpenAssign =
    o.Assign-F BaseForm Core Declaration Designator Init Post Prefix Spec Suffix Arm Assign Base
    Binary Cond Declarator Enumerator Expr InitDeclarator InitItem Param Prefixed Specs TypeName

abbrev pub OpenBase : Type 0
OpenBase =
    o.Base-F BaseForm Core Declaration Designator Init Post Prefix Spec Suffix Arm Assign Base
    Binary Cond Declarator Enumerator Expr InitDeclarator InitItem Param Prefixed Specs TypeName

abbrev pub OpenBinary : Type 0
OpenBinary =
    o.Binary-F BaseForm Core Declaration Designator Init Post Prefix Spec Suffix Arm Assign Base
    Binary Cond Declarator Enumerator Expr InitDeclarator InitItem Param Prefixed Specs TypeName

abbrev pub OpenCond : Type 0
OpenCond =
    o.Cond-F BaseForm Core Declaration Designator Init Post Prefix Spec Suffix Arm Assign Base
    Binary Cond Declarator Enumerator Expr InitDeclarator InitItem Param Prefixed Specs TypeName

abbrev pub OpenDeclarator : Type 0
OpenDeclarator =
    o.Declarator-F BaseForm Core Declaration Designator Init Post Prefix Spec Suffix Arm Assign Base
    Binary Cond Declarator Enumerator Expr InitDeclarator InitItem Param Prefixed Specs TypeName

abbrev pub OpenEnumerator : Type 0
OpenEnumerator =
    o.Enumerator-F BaseForm Core Declaration Designator Init Post Prefix Spec Suffix Arm Assign Base
    Binary Cond Declarator Enumerator Expr InitDeclarator InitItem Param Prefixed Specs TypeName

abbrev pub OpenExpr : Type 0
OpenExpr =
    o.Expr-F BaseForm Core Declaration Designator Init Post Prefix Spec Suffix Arm Assign Base
    Binary Cond Declarator Enumerator Expr InitDeclarator InitItem Param Prefixed Specs TypeName

abbrev pub OpenInitDeclarator : Type 0
OpenInitDeclarator =
    o.InitDeclarator-F BaseForm Core Declaration Designator Init Post Prefix Spec Suffix Arm Assign
    Base Binary Cond Declarator Enumerator Expr InitDeclarator InitItem Param Prefixed Specs
    TypeName

abbrev pub OpenInitItem : Type 0
OpenInitItem =
    o.InitItem-F BaseForm Core Declaration Designator Init Post Prefix Spec Suffix Arm Assign Base
    Binary Cond Declarator Enumerator Expr InitDeclarator InitItem Param Prefixed Specs TypeName

abbrev pub OpenParam : Type 0
OpenParam =
    o.Param-F BaseForm Core Declaration Designator Init Post Prefix Spec Suffix Arm Assign Base
    Binary Cond Declarator Enumerator Expr InitDeclarator InitItem Param Prefixed Specs TypeName

abbrev pub OpenPrefixed : Type 0
OpenPrefixed =
    o.Prefixed-F BaseForm Core Declaration Designator Init Post Prefix Spec Suffix Arm Assign Base
    Binary Cond Declarator Enumerator Expr InitDeclarator InitItem Param Prefixed Specs TypeName

abbrev pub OpenSpecs : Type 0
OpenSpecs =
    o.Specs-F BaseForm Core Declaration Designator Init Post Prefix Spec Suffix Arm Assign Base
    Binary Cond Declarator Enumerator Expr InitDeclarator InitItem Param Prefixed Specs TypeName

abbrev pub OpenTypeName : Type 0
OpenTypeName =
    o.TypeName-F BaseForm Core Declaration Designator Init Post Prefix Spec Suffix Arm Assign Base
    Binary Cond Declarator Enumerator Expr InitDeclarator InitItem Param Prefixed Specs TypeName

-- What is given of a level of each type.
pub record Steps (A : Type 0) : Type 0 where
  pub base_form : BaseFormLevel A → A
  pub core : CoreLevel A → A
  pub declaration : DeclarationLevel A → A
  pub designator : DesignatorLevel A → A
  pub init : InitLevel A → A
  pub post : PostLevel A → A
  pub prefix : PrefixLevel A → A
  pub spec : SpecLevel A → A
  pub suffix : SuffixLevel A → A
  pub arm : ArmLevel A → A
  pub assign : AssignLevel A → A
  pub base : BaseLevel A → A
  pub binary : BinaryLevel A → A
  pub cond : CondLevel A → A
  pub declarator : DeclaratorLevel A → A
  pub enumerator : EnumeratorLevel A → A
  pub expr : ExprLevel A → A
  pub init_declarator : InitDeclaratorLevel A → A
  pub init_item : InitItemLevel A → A
  pub param : ParamLevel A → A
  pub prefixed : PrefixedLevel A → A
  pub specs : SpecsLevel A → A
  pub type_name : TypeNameLevel A → A

unfoldable pub base_form_fold : {A : Type 0} → Steps A → BaseForm → A
base_form_fold {A} steps =
    fold-BaseForm A A A A A A A A A A A A A A A A A A A A A A A
    steps.base_form steps.core steps.declaration steps.designator steps.init steps.post steps.prefix
    steps.spec steps.suffix steps.arm steps.assign steps.base steps.binary steps.cond
    steps.declarator steps.enumerator steps.expr steps.init_declarator steps.init_item steps.param
    steps.prefixed steps.specs steps.type_name

unfoldable pub core_fold : {A : Type 0} → Steps A → Core → A
core_fold {A} steps =
    fold-Core A A A A A A A A A A A A A A A A A A A A A A A
    steps.base_form steps.core steps.declaration steps.designator steps.init steps.post steps.prefix
    steps.spec steps.suffix steps.arm steps.assign steps.base steps.binary steps.cond
    steps.declarator steps.enumerator steps.expr steps.init_declarator steps.init_item steps.param
    steps.prefixed steps.specs steps.type_name

unfoldable pub declaration_fold : {A : Type 0} → Steps A → Declaration → A
declaration_fold {A} steps =
    fold-Declaration A A A A A A A A A A A A A A A A A A A A A A A
    steps.base_form steps.core steps.declaration steps.designator steps.init steps.post steps.prefix
    steps.spec steps.suffix steps.arm steps.assign steps.base steps.binary steps.cond
    steps.declarator steps.enumerator steps.expr steps.init_declarator steps.init_item steps.param
    steps.prefixed steps.specs steps.type_name

unfoldable pub designator_fold : {A : Type 0} → Steps A → Designator → A
designator_fold {A} steps =
    fold-Designator A A A A A A A A A A A A A A A A A A A A A A A
    steps.base_form steps.core steps.declaration steps.designator steps.init steps.post steps.prefix
    steps.spec steps.suffix steps.arm steps.assign steps.base steps.binary steps.cond
    steps.declarator steps.enumerator steps.expr steps.init_declarator steps.init_item steps.param
    steps.prefixed steps.specs steps.type_name

unfoldable pub init_fold : {A : Type 0} → Steps A → Init → A
init_fold {A} steps =
    fold-Init A A A A A A A A A A A A A A A A A A A A A A A
    steps.base_form steps.core steps.declaration steps.designator steps.init steps.post steps.prefix
    steps.spec steps.suffix steps.arm steps.assign steps.base steps.binary steps.cond
    steps.declarator steps.enumerator steps.expr steps.init_declarator steps.init_item steps.param
    steps.prefixed steps.specs steps.type_name

unfoldable pub post_fold : {A : Type 0} → Steps A → Post → A
post_fold {A} steps =
    fold-Post A A A A A A A A A A A A A A A A A A A A A A A
    steps.base_form steps.core steps.declaration steps.designator steps.init steps.post steps.prefix
    steps.spec steps.suffix steps.arm steps.assign steps.base steps.binary steps.cond
    steps.declarator steps.enumerator steps.expr steps.init_declarator steps.init_item steps.param
    steps.prefixed steps.specs steps.type_name

unfoldable pub prefix_fold : {A : Type 0} → Steps A → Prefix → A
prefix_fold {A} steps =
    fold-Prefix A A A A A A A A A A A A A A A A A A A A A A A
    steps.base_form steps.core steps.declaration steps.designator steps.init steps.post steps.prefix
    steps.spec steps.suffix steps.arm steps.assign steps.base steps.binary steps.cond
    steps.declarator steps.enumerator steps.expr steps.init_declarator steps.init_item steps.param
    steps.prefixed steps.specs steps.type_name

unfoldable pub spec_fold : {A : Type 0} → Steps A → Spec → A
spec_fold {A} steps =
    fold-Spec A A A A A A A A A A A A A A A A A A A A A A A
    steps.base_form steps.core steps.declaration steps.designator steps.init steps.post steps.prefix
    steps.spec steps.suffix steps.arm steps.assign steps.base steps.binary steps.cond
    steps.declarator steps.enumerator steps.expr steps.init_declarator steps.init_item steps.param
    steps.prefixed steps.specs steps.type_name

unfoldable pub suffix_fold : {A : Type 0} → Steps A → Suffix → A
suffix_fold {A} steps =
    fold-Suffix A A A A A A A A A A A A A A A A A A A A A A A
    steps.base_form steps.core steps.declaration steps.designator steps.init steps.post steps.prefix
    steps.spec steps.suffix steps.arm steps.assign steps.base steps.binary steps.cond
    steps.declarator steps.enumerator steps.expr steps.init_declarator steps.init_item steps.param
    steps.prefixed steps.specs steps.type_name

unfoldable pub arm_fold : {A : Type 0} → Steps A → Arm → A
arm_fold {A} steps =
    fold-Arm A A A A A A A A A A A A A A A A A A A A A A A
    steps.base_form steps.core steps.declaration steps.designator steps.init steps.post steps.prefix
    steps.spec steps.suffix steps.arm steps.assign steps.base steps.binary steps.cond
    steps.declarator steps.enumerator steps.expr steps.init_declarator steps.init_item steps.param
    steps.prefixed steps.specs steps.type_name

unfoldable pub assign_fold : {A : Type 0} → Steps A → Assign → A
assign_fold {A} steps =
    fold-Assign A A A A A A A A A A A A A A A A A A A A A A A
    steps.base_form steps.core steps.declaration steps.designator steps.init steps.post steps.prefix
    steps.spec steps.suffix steps.arm steps.assign steps.base steps.binary steps.cond
    steps.declarator steps.enumerator steps.expr steps.init_declarator steps.init_item steps.param
    steps.prefixed steps.specs steps.type_name

unfoldable pub base_fold : {A : Type 0} → Steps A → Base → A
base_fold {A} steps =
    fold-Base A A A A A A A A A A A A A A A A A A A A A A A
    steps.base_form steps.core steps.declaration steps.designator steps.init steps.post steps.prefix
    steps.spec steps.suffix steps.arm steps.assign steps.base steps.binary steps.cond
    steps.declarator steps.enumerator steps.expr steps.init_declarator steps.init_item steps.param
    steps.prefixed steps.specs steps.type_name

unfoldable pub binary_fold : {A : Type 0} → Steps A → Binary → A
binary_fold {A} steps =
    fold-Binary A A A A A A A A A A A A A A A A A A A A A A A
    steps.base_form steps.core steps.declaration steps.designator steps.init steps.post steps.prefix
    steps.spec steps.suffix steps.arm steps.assign steps.base steps.binary steps.cond
    steps.declarator steps.enumerator steps.expr steps.init_declarator steps.init_item steps.param
    steps.prefixed steps.specs steps.type_name

unfoldable pub cond_fold : {A : Type 0} → Steps A → Cond → A
cond_fold {A} steps =
    fold-Cond A A A A A A A A A A A A A A A A A A A A A A A
    steps.base_form steps.core steps.declaration steps.designator steps.init steps.post steps.prefix
    steps.spec steps.suffix steps.arm steps.assign steps.base steps.binary steps.cond
    steps.declarator steps.enumerator steps.expr steps.init_declarator steps.init_item steps.param
    steps.prefixed steps.specs steps.type_name

unfoldable pub declarator_fold : {A : Type 0} → Steps A → Declarator → A
declarator_fold {A} steps =
    fold-Declarator A A A A A A A A A A A A A A A A A A A A A A A
    steps.base_form steps.core steps.declaration steps.designator steps.init steps.post steps.prefix
    steps.spec steps.suffix steps.arm steps.assign steps.base steps.binary steps.cond
    steps.declarator steps.enumerator steps.expr steps.init_declarator steps.init_item steps.param
    steps.prefixed steps.specs steps.type_name

unfoldable pub enumerator_fold : {A : Type 0} → Steps A → Enumerator → A
enumerator_fold {A} steps =
    fold-Enumerator A A A A A A A A A A A A A A A A A A A A A A A
    steps.base_form steps.core steps.declaration steps.designator steps.init steps.post steps.prefix
    steps.spec steps.suffix steps.arm steps.assign steps.base steps.binary steps.cond
    steps.declarator steps.enumerator steps.expr steps.init_declarator steps.init_item steps.param
    steps.prefixed steps.specs steps.type_name

unfoldable pub expr_fold : {A : Type 0} → Steps A → Expr → A
expr_fold {A} steps =
    fold-Expr A A A A A A A A A A A A A A A A A A A A A A A
    steps.base_form steps.core steps.declaration steps.designator steps.init steps.post steps.prefix
    steps.spec steps.suffix steps.arm steps.assign steps.base steps.binary steps.cond
    steps.declarator steps.enumerator steps.expr steps.init_declarator steps.init_item steps.param
    steps.prefixed steps.specs steps.type_name

unfoldable pub init_declarator_fold : {A : Type 0} → Steps A → InitDeclarator → A
init_declarator_fold {A} steps =
    fold-InitDeclarator A A A A A A A A A A A A A A A A A A A A A A A
    steps.base_form steps.core steps.declaration steps.designator steps.init steps.post steps.prefix
    steps.spec steps.suffix steps.arm steps.assign steps.base steps.binary steps.cond
    steps.declarator steps.enumerator steps.expr steps.init_declarator steps.init_item steps.param
    steps.prefixed steps.specs steps.type_name

unfoldable pub init_item_fold : {A : Type 0} → Steps A → InitItem → A
init_item_fold {A} steps =
    fold-InitItem A A A A A A A A A A A A A A A A A A A A A A A
    steps.base_form steps.core steps.declaration steps.designator steps.init steps.post steps.prefix
    steps.spec steps.suffix steps.arm steps.assign steps.base steps.binary steps.cond
    steps.declarator steps.enumerator steps.expr steps.init_declarator steps.init_item steps.param
    steps.prefixed steps.specs steps.type_name

unfoldable pub param_fold : {A : Type 0} → Steps A → Param → A
param_fold {A} steps =
    fold-Param A A A A A A A A A A A A A A A A A A A A A A A
    steps.base_form steps.core steps.declaration steps.designator steps.init steps.post steps.prefix
    steps.spec steps.suffix steps.arm steps.assign steps.base steps.binary steps.cond
    steps.declarator steps.enumerator steps.expr steps.init_declarator steps.init_item steps.param
    steps.prefixed steps.specs steps.type_name

unfoldable pub prefixed_fold : {A : Type 0} → Steps A → Prefixed → A
prefixed_fold {A} steps =
    fold-Prefixed A A A A A A A A A A A A A A A A A A A A A A A
    steps.base_form steps.core steps.declaration steps.designator steps.init steps.post steps.prefix
    steps.spec steps.suffix steps.arm steps.assign steps.base steps.binary steps.cond
    steps.declarator steps.enumerator steps.expr steps.init_declarator steps.init_item steps.param
    steps.prefixed steps.specs steps.type_name

unfoldable pub specs_fold : {A : Type 0} → Steps A → Specs → A
specs_fold {A} steps =
    fold-Specs A A A A A A A A A A A A A A A A A A A A A A A
    steps.base_form steps.core steps.declaration steps.designator steps.init steps.post steps.prefix
    steps.spec steps.suffix steps.arm steps.assign steps.base steps.binary steps.cond
    steps.declarator steps.enumerator steps.expr steps.init_declarator steps.init_item steps.param
    steps.prefixed steps.specs steps.type_name

unfoldable pub type_name_fold : {A : Type 0} → Steps A → TypeName → A
type_name_fold {A} steps =
    fold-TypeName A A A A A A A A A A A A A A A A A A A A A A A
    steps.base_form steps.core steps.declaration steps.designator steps.init steps.post steps.prefix
    steps.spec steps.suffix steps.arm steps.assign steps.base steps.binary steps.cond
    steps.declarator steps.enumerator steps.expr steps.init_declarator steps.init_item steps.param
    steps.prefixed steps.specs steps.type_name

-- ---- Statements

abbrev pub BlockItemLevel : Type 0 → Type 0
BlockItemLevel A = s.BlockItem-F A A A A

abbrev pub StmtKindLevel : Type 0 → Type 0
StmtKindLevel A = s.StmtKind-F A A A A

abbrev pub BlockLevel : Type 0 → Type 0
BlockLevel A = s.Block-F A A A A

abbrev pub StmtLevel : Type 0 → Type 0
StmtLevel A = s.Stmt-F A A A A

abbrev pub OpenBlockItem : Type 0
OpenBlockItem =
    s.BlockItem-F BlockItem StmtKind Block Stmt

abbrev pub OpenStmtKind : Type 0
OpenStmtKind =
    s.StmtKind-F BlockItem StmtKind Block Stmt

abbrev pub OpenBlock : Type 0
OpenBlock =
    s.Block-F BlockItem StmtKind Block Stmt

abbrev pub OpenStmt : Type 0
OpenStmt =
    s.Stmt-F BlockItem StmtKind Block Stmt

-- What is given of a level of each type.
pub record StmtSteps (A : Type 0) : Type 0 where
  pub block_item : BlockItemLevel A → A
  pub stmt_kind : StmtKindLevel A → A
  pub block : BlockLevel A → A
  pub stmt : StmtLevel A → A

unfoldable pub block_item_fold : {A : Type 0} → StmtSteps A → BlockItem → A
block_item_fold {A} steps =
    fold-BlockItem A A A A
    steps.block_item steps.stmt_kind steps.block steps.stmt

unfoldable pub stmt_kind_fold : {A : Type 0} → StmtSteps A → StmtKind → A
stmt_kind_fold {A} steps =
    fold-StmtKind A A A A
    steps.block_item steps.stmt_kind steps.block steps.stmt

unfoldable pub block_fold : {A : Type 0} → StmtSteps A → Block → A
block_fold {A} steps =
    fold-Block A A A A
    steps.block_item steps.stmt_kind steps.block steps.stmt

unfoldable pub stmt_fold : {A : Type 0} → StmtSteps A → Stmt → A
stmt_fold {A} steps =
    fold-Stmt A A A A
    steps.block_item steps.stmt_kind steps.block steps.stmt
