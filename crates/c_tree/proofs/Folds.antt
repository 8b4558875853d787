-- What a function of trees gives, by the fields of a tree: one law for each struct and each variant.
--
-- Written by `generate` from src/tree.rt.

use Rattle.std.proofs.Common.{◌≡◌, ℕ, List, Option, None, Some, map, sym, ap, ◌∙◌}
use Rattle.std.specs.Option.{option_map}
use Rattle.c_tree.specs.declared.tree.BaseForm.{fold-roll-BaseForm}
use Rattle.c_tree.specs.declared.tree.BaseForm.TheVariants as v_base_form
use Rattle.c_tree.specs.declared.tree.Core.{Core, fold-roll-Core}
use Rattle.c_tree.specs.declared.tree.Core.TheVariants as v_core
use Rattle.c_tree.specs.declared.tree.Declaration.{Declaration, fold-roll-Declaration}
use Rattle.c_tree.specs.declared.tree.Declaration.TheVariants as v_declaration
use Rattle.c_tree.specs.declared.tree.Designator.{fold-roll-Designator}
use Rattle.c_tree.specs.declared.tree.Designator.TheVariants as v_designator
use Rattle.c_tree.specs.declared.tree.Init.{Init, fold-roll-Init}
use Rattle.c_tree.specs.declared.tree.Init.TheVariants as v_init
use Rattle.c_tree.specs.declared.tree.Post.{fold-roll-Post}
use Rattle.c_tree.specs.declared.tree.Post.TheVariants as v_post
use Rattle.c_tree.specs.declared.tree.Prefix.{fold-roll-Prefix}
use Rattle.c_tree.specs.declared.tree.Prefix.TheVariants as v_prefix
use Rattle.c_tree.specs.declared.tree.Spec.{fold-roll-Spec}
use Rattle.c_tree.specs.declared.tree.Spec.TheVariants as v_spec
use Rattle.c_tree.specs.declared.tree.Suffix.{Suffix, fold-roll-Suffix}
use Rattle.c_tree.specs.declared.tree.Suffix.TheVariants as v_suffix
use Rattle.c_tree.specs.declared.tree.Arm.{Arm, fold_out-Arm, out-Arm}
use Rattle.c_tree.specs.declared.tree.Assign.{Assign, fold_out-Assign, out-Assign}
use Rattle.c_tree.specs.declared.tree.Base.{Base, fold_out-Base}
use Rattle.c_tree.specs.declared.tree.Binary.{Binary, fold_out-Binary, out-Binary}
use Rattle.c_tree.specs.declared.tree.Cond.{Cond, fold_out-Cond, out-Cond}
use Rattle.c_tree.specs.declared.tree.Declarator.{Declarator, fold-roll-Declarator, roll-Declarator}
use Rattle.c_tree.specs.declared.tree.Declarator.{out-Declarator, roll-out-Declarator}
use Rattle.c_tree.specs.declared.tree.Enumerator.{Enumerator, fold-roll-Enumerator, roll-Enumerator}
use Rattle.c_tree.specs.declared.tree.Enumerator.{out-Enumerator, roll-out-Enumerator}
use Rattle.c_tree.specs.declared.tree.Expr.{Expr, fold_out-Expr, out-Expr}
use Rattle.c_tree.specs.declared.tree.InitDeclarator.{InitDeclarator, fold-roll-InitDeclarator}
use Rattle.c_tree.specs.declared.tree.InitDeclarator.{roll-InitDeclarator, out-InitDeclarator}
use Rattle.c_tree.specs.declared.tree.InitDeclarator.{roll-out-InitDeclarator}
use Rattle.c_tree.specs.declared.tree.InitItem.{InitItem, fold_out-InitItem}
use Rattle.c_tree.specs.declared.tree.Param.{Param, fold_out-Param, out-Param}
use Rattle.c_tree.specs.declared.tree.Prefixed.{Prefixed, fold_out-Prefixed}
use Rattle.c_tree.specs.declared.tree.Specs.{Specs, fold_out-Specs}
use Rattle.c_tree.specs.declared.tree.TypeName.{TypeName, fold_out-TypeName, out-TypeName}
use Rattle.c_tree.specs.declared.tree.BlockItem.{fold-roll-BlockItem}
use Rattle.c_tree.specs.declared.tree.BlockItem.TheVariants as v_block_item
use Rattle.c_tree.specs.declared.tree.StmtKind.{fold-roll-StmtKind}
use Rattle.c_tree.specs.declared.tree.StmtKind.TheVariants as v_stmt_kind
use Rattle.c_tree.specs.declared.tree.Block.{Block, fold_out-Block}
use Rattle.c_tree.specs.declared.tree.Stmt.{Stmt, fold_out-Stmt}
use Rattle.c_tree.specs.declared.tree.Pointer.{Pointer}
use Rattle.c_tree.specs.declared.tree.ForInit.{ForInit}
use Rattle.c_tree.specs.declared.tree.BaseForm.TheOpen as o
use Rattle.c_tree.specs.declared.tree.BlockItem.TheOpen as s
use Rattle.c_tree.specs.Folds.{Steps, StmtSteps, base_form_fold, core_fold, declaration_fold}
use Rattle.c_tree.specs.Folds.{designator_fold, init_fold, post_fold, prefix_fold, spec_fold}
use Rattle.c_tree.specs.Folds.{suffix_fold, arm_fold, assign_fold, base_fold, binary_fold}
use Rattle.c_tree.specs.Folds.{cond_fold, declarator_fold, enumerator_fold, expr_fold}
use Rattle.c_tree.specs.Folds.{init_declarator_fold, init_item_fold, param_fold, prefixed_fold}
use Rattle.c_tree.specs.Folds.{specs_fold, type_name_fold, block_item_fold, stmt_kind_fold}
use Rattle.c_tree.specs.Folds.{block_fold, stmt_fold}

pub base_form_name_folds : {A : Type 0} (steps : Steps A) (token : ℕ) →
    base_form_fold steps (v_base_form.Name token) ≡ steps.base_form (o.BaseForm-F.BaseForm::Name token)
unfolding base_form_fold core_fold declaration_fold designator_fold init_fold post_fold prefix_fold spec_fold suffix_fold arm_fold assign_fold base_fold binary_fold cond_fold declarator_fold enumerator_fold expr_fold init_declarator_fold init_item_fold param_fold prefixed_fold specs_fold type_name_fold
base_form_name_folds {A} steps token =
    ap (base_form_fold steps) (sym (v_base_form.rolls-Name token)) ∙
    fold-roll-BaseForm A A A A A A A A A A A A A A A A A A A A A A A steps.base_form steps.core steps.declaration steps.designator steps.init steps.post steps.prefix steps.spec steps.suffix steps.arm steps.assign steps.base steps.binary steps.cond steps.declarator steps.enumerator steps.expr steps.init_declarator steps.init_item steps.param steps.prefixed steps.specs steps.type_name (o.BaseForm-F.BaseForm::Name token)

pub base_form_literal_folds : {A : Type 0} (steps : Steps A) (tokens : List ℕ) →
    base_form_fold steps (v_base_form.Literal tokens) ≡ steps.base_form (o.BaseForm-F.Literal tokens)
unfolding base_form_fold core_fold declaration_fold designator_fold init_fold post_fold prefix_fold spec_fold suffix_fold arm_fold assign_fold base_fold binary_fold cond_fold declarator_fold enumerator_fold expr_fold init_declarator_fold init_item_fold param_fold prefixed_fold specs_fold type_name_fold
base_form_literal_folds {A} steps tokens =
    ap (base_form_fold steps) (sym (v_base_form.rolls-Literal tokens)) ∙
    fold-roll-BaseForm A A A A A A A A A A A A A A A A A A A A A A A steps.base_form steps.core steps.declaration steps.designator steps.init steps.post steps.prefix steps.spec steps.suffix steps.arm steps.assign steps.base steps.binary steps.cond steps.declarator steps.enumerator steps.expr steps.init_declarator steps.init_item steps.param steps.prefixed steps.specs steps.type_name (o.BaseForm-F.Literal tokens)

pub base_form_group_folds : {A : Type 0} (steps : Steps A) (expr : Expr) (marks : List ℕ) →
    base_form_fold steps (v_base_form.Group expr marks) ≡ steps.base_form (o.BaseForm-F.BaseForm::Group (expr_fold steps expr) marks)
unfolding base_form_fold core_fold declaration_fold designator_fold init_fold post_fold prefix_fold spec_fold suffix_fold arm_fold assign_fold base_fold binary_fold cond_fold declarator_fold enumerator_fold expr_fold init_declarator_fold init_item_fold param_fold prefixed_fold specs_fold type_name_fold
base_form_group_folds {A} steps expr marks =
    ap (base_form_fold steps) (sym (v_base_form.rolls-Group expr marks)) ∙
    fold-roll-BaseForm A A A A A A A A A A A A A A A A A A A A A A A steps.base_form steps.core steps.declaration steps.designator steps.init steps.post steps.prefix steps.spec steps.suffix steps.arm steps.assign steps.base steps.binary steps.cond steps.declarator steps.enumerator steps.expr steps.init_declarator steps.init_item steps.param steps.prefixed steps.specs steps.type_name (o.BaseForm-F.BaseForm::Group expr marks)

pub base_form_compound_folds : {A : Type 0} (steps : Steps A) (type_name : TypeName) (items : List InitItem) (marks : List ℕ) →
    base_form_fold steps (v_base_form.Compound type_name items marks) ≡ steps.base_form (o.BaseForm-F.Compound (type_name_fold steps type_name) (map (init_item_fold steps) items) marks)
unfolding base_form_fold core_fold declaration_fold designator_fold init_fold post_fold prefix_fold spec_fold suffix_fold arm_fold assign_fold base_fold binary_fold cond_fold declarator_fold enumerator_fold expr_fold init_declarator_fold init_item_fold param_fold prefixed_fold specs_fold type_name_fold
base_form_compound_folds {A} steps type_name items marks =
    ap (base_form_fold steps) (sym (v_base_form.rolls-Compound type_name items marks)) ∙
    fold-roll-BaseForm A A A A A A A A A A A A A A A A A A A A A A A steps.base_form steps.core steps.declaration steps.designator steps.init steps.post steps.prefix steps.spec steps.suffix steps.arm steps.assign steps.base steps.binary steps.cond steps.declarator steps.enumerator steps.expr steps.init_declarator steps.init_item steps.param steps.prefixed steps.specs steps.type_name (o.BaseForm-F.Compound type_name items marks)

pub base_form_size_type_folds : {A : Type 0} (steps : Steps A) (token : ℕ) (type_name : TypeName) (marks : List ℕ) →
    base_form_fold steps (v_base_form.SizeType token type_name marks) ≡ steps.base_form (o.BaseForm-F.SizeType token (type_name_fold steps type_name) marks)
unfolding base_form_fold core_fold declaration_fold designator_fold init_fold post_fold prefix_fold spec_fold suffix_fold arm_fold assign_fold base_fold binary_fold cond_fold declarator_fold enumerator_fold expr_fold init_declarator_fold init_item_fold param_fold prefixed_fold specs_fold type_name_fold
base_form_size_type_folds {A} steps token type_name marks =
    ap (base_form_fold steps) (sym (v_base_form.rolls-SizeType token type_name marks)) ∙
    fold-roll-BaseForm A A A A A A A A A A A A A A A A A A A A A A A steps.base_form steps.core steps.declaration steps.designator steps.init steps.post steps.prefix steps.spec steps.suffix steps.arm steps.assign steps.base steps.binary steps.cond steps.declarator steps.enumerator steps.expr steps.init_declarator steps.init_item steps.param steps.prefixed steps.specs steps.type_name (o.BaseForm-F.SizeType token type_name marks)

pub core_name_folds : {A : Type 0} (steps : Steps A) (token : ℕ) →
    core_fold steps (v_core.Name token) ≡ steps.core (o.Core-F.Core::Name token)
unfolding base_form_fold core_fold declaration_fold designator_fold init_fold post_fold prefix_fold spec_fold suffix_fold arm_fold assign_fold base_fold binary_fold cond_fold declarator_fold enumerator_fold expr_fold init_declarator_fold init_item_fold param_fold prefixed_fold specs_fold type_name_fold
core_name_folds {A} steps token =
    ap (core_fold steps) (sym (v_core.rolls-Name token)) ∙
    fold-roll-Core A A A A A A A A A A A A A A A A A A A A A A A steps.base_form steps.core steps.declaration steps.designator steps.init steps.post steps.prefix steps.spec steps.suffix steps.arm steps.assign steps.base steps.binary steps.cond steps.declarator steps.enumerator steps.expr steps.init_declarator steps.init_item steps.param steps.prefixed steps.specs steps.type_name (o.Core-F.Core::Name token)

pub core_group_folds : {A : Type 0} (steps : Steps A) (declarator : Declarator) (marks : List ℕ) →
    core_fold steps (v_core.Group declarator marks) ≡ steps.core (o.Core-F.Core::Group (declarator_fold steps declarator) marks)
unfolding base_form_fold core_fold declaration_fold designator_fold init_fold post_fold prefix_fold spec_fold suffix_fold arm_fold assign_fold base_fold binary_fold cond_fold declarator_fold enumerator_fold expr_fold init_declarator_fold init_item_fold param_fold prefixed_fold specs_fold type_name_fold
core_group_folds {A} steps declarator marks =
    ap (core_fold steps) (sym (v_core.rolls-Group declarator marks)) ∙
    fold-roll-Core A A A A A A A A A A A A A A A A A A A A A A A steps.base_form steps.core steps.declaration steps.designator steps.init steps.post steps.prefix steps.spec steps.suffix steps.arm steps.assign steps.base steps.binary steps.cond steps.declarator steps.enumerator steps.expr steps.init_declarator steps.init_item steps.param steps.prefixed steps.specs steps.type_name (o.Core-F.Core::Group declarator marks)

pub core_empty_folds : {A : Type 0} (steps : Steps A) →
    core_fold steps v_core.Empty ≡ steps.core o.Core-F.Empty
unfolding base_form_fold core_fold declaration_fold designator_fold init_fold post_fold prefix_fold spec_fold suffix_fold arm_fold assign_fold base_fold binary_fold cond_fold declarator_fold enumerator_fold expr_fold init_declarator_fold init_item_fold param_fold prefixed_fold specs_fold type_name_fold
core_empty_folds {A} steps =
    ap (core_fold steps) (sym v_core.rolls-Empty) ∙
    fold-roll-Core A A A A A A A A A A A A A A A A A A A A A A A steps.base_form steps.core steps.declaration steps.designator steps.init steps.post steps.prefix steps.spec steps.suffix steps.arm steps.assign steps.base steps.binary steps.cond steps.declarator steps.enumerator steps.expr steps.init_declarator steps.init_item steps.param steps.prefixed steps.specs steps.type_name o.Core-F.Empty

pub declaration_names_folds : {A : Type 0} (steps : Steps A) (specs : Specs) (list : List InitDeclarator) (marks : List ℕ) →
    declaration_fold steps (v_declaration.Names specs list marks) ≡ steps.declaration (o.Declaration-F.Names (specs_fold steps specs) (map (init_declarator_fold steps) list) marks)
unfolding base_form_fold core_fold declaration_fold designator_fold init_fold post_fold prefix_fold spec_fold suffix_fold arm_fold assign_fold base_fold binary_fold cond_fold declarator_fold enumerator_fold expr_fold init_declarator_fold init_item_fold param_fold prefixed_fold specs_fold type_name_fold
declaration_names_folds {A} steps specs list marks =
    ap (declaration_fold steps) (sym (v_declaration.rolls-Names specs list marks)) ∙
    fold-roll-Declaration A A A A A A A A A A A A A A A A A A A A A A A steps.base_form steps.core steps.declaration steps.designator steps.init steps.post steps.prefix steps.spec steps.suffix steps.arm steps.assign steps.base steps.binary steps.cond steps.declarator steps.enumerator steps.expr steps.init_declarator steps.init_item steps.param steps.prefixed steps.specs steps.type_name (o.Declaration-F.Names specs list marks)

pub declaration_assert_folds : {A : Type 0} (steps : Steps A) (cond : Expr) (text : List ℕ) (marks : List ℕ) →
    declaration_fold steps (v_declaration.Assert cond text marks) ≡ steps.declaration (o.Declaration-F.Assert (expr_fold steps cond) text marks)
unfolding base_form_fold core_fold declaration_fold designator_fold init_fold post_fold prefix_fold spec_fold suffix_fold arm_fold assign_fold base_fold binary_fold cond_fold declarator_fold enumerator_fold expr_fold init_declarator_fold init_item_fold param_fold prefixed_fold specs_fold type_name_fold
declaration_assert_folds {A} steps cond text marks =
    ap (declaration_fold steps) (sym (v_declaration.rolls-Assert cond text marks)) ∙
    fold-roll-Declaration A A A A A A A A A A A A A A A A A A A A A A A steps.base_form steps.core steps.declaration steps.designator steps.init steps.post steps.prefix steps.spec steps.suffix steps.arm steps.assign steps.base steps.binary steps.cond steps.declarator steps.enumerator steps.expr steps.init_declarator steps.init_item steps.param steps.prefixed steps.specs steps.type_name (o.Declaration-F.Assert cond text marks)

pub designator_index_folds : {A : Type 0} (steps : Steps A) (expr : Expr) (marks : List ℕ) →
    designator_fold steps (v_designator.Index expr marks) ≡ steps.designator (o.Designator-F.Designator::Index (expr_fold steps expr) marks)
unfolding base_form_fold core_fold declaration_fold designator_fold init_fold post_fold prefix_fold spec_fold suffix_fold arm_fold assign_fold base_fold binary_fold cond_fold declarator_fold enumerator_fold expr_fold init_declarator_fold init_item_fold param_fold prefixed_fold specs_fold type_name_fold
designator_index_folds {A} steps expr marks =
    ap (designator_fold steps) (sym (v_designator.rolls-Index expr marks)) ∙
    fold-roll-Designator A A A A A A A A A A A A A A A A A A A A A A A steps.base_form steps.core steps.declaration steps.designator steps.init steps.post steps.prefix steps.spec steps.suffix steps.arm steps.assign steps.base steps.binary steps.cond steps.declarator steps.enumerator steps.expr steps.init_declarator steps.init_item steps.param steps.prefixed steps.specs steps.type_name (o.Designator-F.Designator::Index expr marks)

pub designator_field_folds : {A : Type 0} (steps : Steps A) (token : ℕ) (marks : List ℕ) →
    designator_fold steps (v_designator.Field token marks) ≡ steps.designator (o.Designator-F.Field token marks)
unfolding base_form_fold core_fold declaration_fold designator_fold init_fold post_fold prefix_fold spec_fold suffix_fold arm_fold assign_fold base_fold binary_fold cond_fold declarator_fold enumerator_fold expr_fold init_declarator_fold init_item_fold param_fold prefixed_fold specs_fold type_name_fold
designator_field_folds {A} steps token marks =
    ap (designator_fold steps) (sym (v_designator.rolls-Field token marks)) ∙
    fold-roll-Designator A A A A A A A A A A A A A A A A A A A A A A A steps.base_form steps.core steps.declaration steps.designator steps.init steps.post steps.prefix steps.spec steps.suffix steps.arm steps.assign steps.base steps.binary steps.cond steps.declarator steps.enumerator steps.expr steps.init_declarator steps.init_item steps.param steps.prefixed steps.specs steps.type_name (o.Designator-F.Field token marks)

pub init_value_folds : {A : Type 0} (steps : Steps A) (expr : Expr) →
    init_fold steps (v_init.Value expr) ≡ steps.init (o.Init-F.Value (expr_fold steps expr))
unfolding base_form_fold core_fold declaration_fold designator_fold init_fold post_fold prefix_fold spec_fold suffix_fold arm_fold assign_fold base_fold binary_fold cond_fold declarator_fold enumerator_fold expr_fold init_declarator_fold init_item_fold param_fold prefixed_fold specs_fold type_name_fold
init_value_folds {A} steps expr =
    ap (init_fold steps) (sym (v_init.rolls-Value expr)) ∙
    fold-roll-Init A A A A A A A A A A A A A A A A A A A A A A A steps.base_form steps.core steps.declaration steps.designator steps.init steps.post steps.prefix steps.spec steps.suffix steps.arm steps.assign steps.base steps.binary steps.cond steps.declarator steps.enumerator steps.expr steps.init_declarator steps.init_item steps.param steps.prefixed steps.specs steps.type_name (o.Init-F.Value expr)

pub init_items_folds : {A : Type 0} (steps : Steps A) (items : List InitItem) (marks : List ℕ) →
    init_fold steps (v_init.Items items marks) ≡ steps.init (o.Init-F.Items (map (init_item_fold steps) items) marks)
unfolding base_form_fold core_fold declaration_fold designator_fold init_fold post_fold prefix_fold spec_fold suffix_fold arm_fold assign_fold base_fold binary_fold cond_fold declarator_fold enumerator_fold expr_fold init_declarator_fold init_item_fold param_fold prefixed_fold specs_fold type_name_fold
init_items_folds {A} steps items marks =
    ap (init_fold steps) (sym (v_init.rolls-Items items marks)) ∙
    fold-roll-Init A A A A A A A A A A A A A A A A A A A A A A A steps.base_form steps.core steps.declaration steps.designator steps.init steps.post steps.prefix steps.spec steps.suffix steps.arm steps.assign steps.base steps.binary steps.cond steps.declarator steps.enumerator steps.expr steps.init_declarator steps.init_item steps.param steps.prefixed steps.specs steps.type_name (o.Init-F.Items items marks)

pub post_index_folds : {A : Type 0} (steps : Steps A) (expr : Expr) (marks : List ℕ) →
    post_fold steps (v_post.Index expr marks) ≡ steps.post (o.Post-F.Post::Index (expr_fold steps expr) marks)
unfolding base_form_fold core_fold declaration_fold designator_fold init_fold post_fold prefix_fold spec_fold suffix_fold arm_fold assign_fold base_fold binary_fold cond_fold declarator_fold enumerator_fold expr_fold init_declarator_fold init_item_fold param_fold prefixed_fold specs_fold type_name_fold
post_index_folds {A} steps expr marks =
    ap (post_fold steps) (sym (v_post.rolls-Index expr marks)) ∙
    fold-roll-Post A A A A A A A A A A A A A A A A A A A A A A A steps.base_form steps.core steps.declaration steps.designator steps.init steps.post steps.prefix steps.spec steps.suffix steps.arm steps.assign steps.base steps.binary steps.cond steps.declarator steps.enumerator steps.expr steps.init_declarator steps.init_item steps.param steps.prefixed steps.specs steps.type_name (o.Post-F.Post::Index expr marks)

pub post_call_folds : {A : Type 0} (steps : Steps A) (items : List Assign) (marks : List ℕ) →
    post_fold steps (v_post.Call items marks) ≡ steps.post (o.Post-F.Call (map (assign_fold steps) items) marks)
unfolding base_form_fold core_fold declaration_fold designator_fold init_fold post_fold prefix_fold spec_fold suffix_fold arm_fold assign_fold base_fold binary_fold cond_fold declarator_fold enumerator_fold expr_fold init_declarator_fold init_item_fold param_fold prefixed_fold specs_fold type_name_fold
post_call_folds {A} steps items marks =
    ap (post_fold steps) (sym (v_post.rolls-Call items marks)) ∙
    fold-roll-Post A A A A A A A A A A A A A A A A A A A A A A A steps.base_form steps.core steps.declaration steps.designator steps.init steps.post steps.prefix steps.spec steps.suffix steps.arm steps.assign steps.base steps.binary steps.cond steps.declarator steps.enumerator steps.expr steps.init_declarator steps.init_item steps.param steps.prefixed steps.specs steps.type_name (o.Post-F.Call items marks)

pub post_dot_folds : {A : Type 0} (steps : Steps A) (token : ℕ) (marks : List ℕ) →
    post_fold steps (v_post.Dot token marks) ≡ steps.post (o.Post-F.Dot token marks)
unfolding base_form_fold core_fold declaration_fold designator_fold init_fold post_fold prefix_fold spec_fold suffix_fold arm_fold assign_fold base_fold binary_fold cond_fold declarator_fold enumerator_fold expr_fold init_declarator_fold init_item_fold param_fold prefixed_fold specs_fold type_name_fold
post_dot_folds {A} steps token marks =
    ap (post_fold steps) (sym (v_post.rolls-Dot token marks)) ∙
    fold-roll-Post A A A A A A A A A A A A A A A A A A A A A A A steps.base_form steps.core steps.declaration steps.designator steps.init steps.post steps.prefix steps.spec steps.suffix steps.arm steps.assign steps.base steps.binary steps.cond steps.declarator steps.enumerator steps.expr steps.init_declarator steps.init_item steps.param steps.prefixed steps.specs steps.type_name (o.Post-F.Dot token marks)

pub post_arrow_folds : {A : Type 0} (steps : Steps A) (token : ℕ) (marks : List ℕ) →
    post_fold steps (v_post.Arrow token marks) ≡ steps.post (o.Post-F.Arrow token marks)
unfolding base_form_fold core_fold declaration_fold designator_fold init_fold post_fold prefix_fold spec_fold suffix_fold arm_fold assign_fold base_fold binary_fold cond_fold declarator_fold enumerator_fold expr_fold init_declarator_fold init_item_fold param_fold prefixed_fold specs_fold type_name_fold
post_arrow_folds {A} steps token marks =
    ap (post_fold steps) (sym (v_post.rolls-Arrow token marks)) ∙
    fold-roll-Post A A A A A A A A A A A A A A A A A A A A A A A steps.base_form steps.core steps.declaration steps.designator steps.init steps.post steps.prefix steps.spec steps.suffix steps.arm steps.assign steps.base steps.binary steps.cond steps.declarator steps.enumerator steps.expr steps.init_declarator steps.init_item steps.param steps.prefixed steps.specs steps.type_name (o.Post-F.Arrow token marks)

pub post_step_folds : {A : Type 0} (steps : Steps A) (token : ℕ) →
    post_fold steps (v_post.Step token) ≡ steps.post (o.Post-F.Step token)
unfolding base_form_fold core_fold declaration_fold designator_fold init_fold post_fold prefix_fold spec_fold suffix_fold arm_fold assign_fold base_fold binary_fold cond_fold declarator_fold enumerator_fold expr_fold init_declarator_fold init_item_fold param_fold prefixed_fold specs_fold type_name_fold
post_step_folds {A} steps token =
    ap (post_fold steps) (sym (v_post.rolls-Step token)) ∙
    fold-roll-Post A A A A A A A A A A A A A A A A A A A A A A A steps.base_form steps.core steps.declaration steps.designator steps.init steps.post steps.prefix steps.spec steps.suffix steps.arm steps.assign steps.base steps.binary steps.cond steps.declarator steps.enumerator steps.expr steps.init_declarator steps.init_item steps.param steps.prefixed steps.specs steps.type_name (o.Post-F.Step token)

pub prefix_op_folds : {A : Type 0} (steps : Steps A) (token : ℕ) →
    prefix_fold steps (v_prefix.Op token) ≡ steps.prefix (o.Prefix-F.Op token)
unfolding base_form_fold core_fold declaration_fold designator_fold init_fold post_fold prefix_fold spec_fold suffix_fold arm_fold assign_fold base_fold binary_fold cond_fold declarator_fold enumerator_fold expr_fold init_declarator_fold init_item_fold param_fold prefixed_fold specs_fold type_name_fold
prefix_op_folds {A} steps token =
    ap (prefix_fold steps) (sym (v_prefix.rolls-Op token)) ∙
    fold-roll-Prefix A A A A A A A A A A A A A A A A A A A A A A A steps.base_form steps.core steps.declaration steps.designator steps.init steps.post steps.prefix steps.spec steps.suffix steps.arm steps.assign steps.base steps.binary steps.cond steps.declarator steps.enumerator steps.expr steps.init_declarator steps.init_item steps.param steps.prefixed steps.specs steps.type_name (o.Prefix-F.Op token)

pub prefix_cast_folds : {A : Type 0} (steps : Steps A) (type_name : TypeName) (marks : List ℕ) →
    prefix_fold steps (v_prefix.Cast type_name marks) ≡ steps.prefix (o.Prefix-F.Cast (type_name_fold steps type_name) marks)
unfolding base_form_fold core_fold declaration_fold designator_fold init_fold post_fold prefix_fold spec_fold suffix_fold arm_fold assign_fold base_fold binary_fold cond_fold declarator_fold enumerator_fold expr_fold init_declarator_fold init_item_fold param_fold prefixed_fold specs_fold type_name_fold
prefix_cast_folds {A} steps type_name marks =
    ap (prefix_fold steps) (sym (v_prefix.rolls-Cast type_name marks)) ∙
    fold-roll-Prefix A A A A A A A A A A A A A A A A A A A A A A A steps.base_form steps.core steps.declaration steps.designator steps.init steps.post steps.prefix steps.spec steps.suffix steps.arm steps.assign steps.base steps.binary steps.cond steps.declarator steps.enumerator steps.expr steps.init_declarator steps.init_item steps.param steps.prefixed steps.specs steps.type_name (o.Prefix-F.Cast type_name marks)

pub spec_storage_folds : {A : Type 0} (steps : Steps A) (token : ℕ) →
    spec_fold steps (v_spec.Storage token) ≡ steps.spec (o.Spec-F.Storage token)
unfolding base_form_fold core_fold declaration_fold designator_fold init_fold post_fold prefix_fold spec_fold suffix_fold arm_fold assign_fold base_fold binary_fold cond_fold declarator_fold enumerator_fold expr_fold init_declarator_fold init_item_fold param_fold prefixed_fold specs_fold type_name_fold
spec_storage_folds {A} steps token =
    ap (spec_fold steps) (sym (v_spec.rolls-Storage token)) ∙
    fold-roll-Spec A A A A A A A A A A A A A A A A A A A A A A A steps.base_form steps.core steps.declaration steps.designator steps.init steps.post steps.prefix steps.spec steps.suffix steps.arm steps.assign steps.base steps.binary steps.cond steps.declarator steps.enumerator steps.expr steps.init_declarator steps.init_item steps.param steps.prefixed steps.specs steps.type_name (o.Spec-F.Storage token)

pub spec_function_folds : {A : Type 0} (steps : Steps A) (token : ℕ) →
    spec_fold steps (v_spec.Function token) ≡ steps.spec (o.Spec-F.Function token)
unfolding base_form_fold core_fold declaration_fold designator_fold init_fold post_fold prefix_fold spec_fold suffix_fold arm_fold assign_fold base_fold binary_fold cond_fold declarator_fold enumerator_fold expr_fold init_declarator_fold init_item_fold param_fold prefixed_fold specs_fold type_name_fold
spec_function_folds {A} steps token =
    ap (spec_fold steps) (sym (v_spec.rolls-Function token)) ∙
    fold-roll-Spec A A A A A A A A A A A A A A A A A A A A A A A steps.base_form steps.core steps.declaration steps.designator steps.init steps.post steps.prefix steps.spec steps.suffix steps.arm steps.assign steps.base steps.binary steps.cond steps.declarator steps.enumerator steps.expr steps.init_declarator steps.init_item steps.param steps.prefixed steps.specs steps.type_name (o.Spec-F.Function token)

pub spec_qualifier_folds : {A : Type 0} (steps : Steps A) (token : ℕ) →
    spec_fold steps (v_spec.Qualifier token) ≡ steps.spec (o.Spec-F.Qualifier token)
unfolding base_form_fold core_fold declaration_fold designator_fold init_fold post_fold prefix_fold spec_fold suffix_fold arm_fold assign_fold base_fold binary_fold cond_fold declarator_fold enumerator_fold expr_fold init_declarator_fold init_item_fold param_fold prefixed_fold specs_fold type_name_fold
spec_qualifier_folds {A} steps token =
    ap (spec_fold steps) (sym (v_spec.rolls-Qualifier token)) ∙
    fold-roll-Spec A A A A A A A A A A A A A A A A A A A A A A A steps.base_form steps.core steps.declaration steps.designator steps.init steps.post steps.prefix steps.spec steps.suffix steps.arm steps.assign steps.base steps.binary steps.cond steps.declarator steps.enumerator steps.expr steps.init_declarator steps.init_item steps.param steps.prefixed steps.specs steps.type_name (o.Spec-F.Qualifier token)

pub spec_basic_folds : {A : Type 0} (steps : Steps A) (token : ℕ) →
    spec_fold steps (v_spec.Basic token) ≡ steps.spec (o.Spec-F.Basic token)
unfolding base_form_fold core_fold declaration_fold designator_fold init_fold post_fold prefix_fold spec_fold suffix_fold arm_fold assign_fold base_fold binary_fold cond_fold declarator_fold enumerator_fold expr_fold init_declarator_fold init_item_fold param_fold prefixed_fold specs_fold type_name_fold
spec_basic_folds {A} steps token =
    ap (spec_fold steps) (sym (v_spec.rolls-Basic token)) ∙
    fold-roll-Spec A A A A A A A A A A A A A A A A A A A A A A A steps.base_form steps.core steps.declaration steps.designator steps.init steps.post steps.prefix steps.spec steps.suffix steps.arm steps.assign steps.base steps.binary steps.cond steps.declarator steps.enumerator steps.expr steps.init_declarator steps.init_item steps.param steps.prefixed steps.specs steps.type_name (o.Spec-F.Basic token)

pub spec_named_folds : {A : Type 0} (steps : Steps A) (token : ℕ) →
    spec_fold steps (v_spec.Named token) ≡ steps.spec (o.Spec-F.Named token)
unfolding base_form_fold core_fold declaration_fold designator_fold init_fold post_fold prefix_fold spec_fold suffix_fold arm_fold assign_fold base_fold binary_fold cond_fold declarator_fold enumerator_fold expr_fold init_declarator_fold init_item_fold param_fold prefixed_fold specs_fold type_name_fold
spec_named_folds {A} steps token =
    ap (spec_fold steps) (sym (v_spec.rolls-Named token)) ∙
    fold-roll-Spec A A A A A A A A A A A A A A A A A A A A A A A steps.base_form steps.core steps.declaration steps.designator steps.init steps.post steps.prefix steps.spec steps.suffix steps.arm steps.assign steps.base steps.binary steps.cond steps.declarator steps.enumerator steps.expr steps.init_declarator steps.init_item steps.param steps.prefixed steps.specs steps.type_name (o.Spec-F.Named token)

pub spec_atomic_folds : {A : Type 0} (steps : Steps A) (type_name : TypeName) (marks : List ℕ) →
    spec_fold steps (v_spec.Atomic type_name marks) ≡ steps.spec (o.Spec-F.Atomic (type_name_fold steps type_name) marks)
unfolding base_form_fold core_fold declaration_fold designator_fold init_fold post_fold prefix_fold spec_fold suffix_fold arm_fold assign_fold base_fold binary_fold cond_fold declarator_fold enumerator_fold expr_fold init_declarator_fold init_item_fold param_fold prefixed_fold specs_fold type_name_fold
spec_atomic_folds {A} steps type_name marks =
    ap (spec_fold steps) (sym (v_spec.rolls-Atomic type_name marks)) ∙
    fold-roll-Spec A A A A A A A A A A A A A A A A A A A A A A A steps.base_form steps.core steps.declaration steps.designator steps.init steps.post steps.prefix steps.spec steps.suffix steps.arm steps.assign steps.base steps.binary steps.cond steps.declarator steps.enumerator steps.expr steps.init_declarator steps.init_item steps.param steps.prefixed steps.specs steps.type_name (o.Spec-F.Atomic type_name marks)

pub spec_align_type_folds : {A : Type 0} (steps : Steps A) (type_name : TypeName) (marks : List ℕ) →
    spec_fold steps (v_spec.AlignType type_name marks) ≡ steps.spec (o.Spec-F.AlignType (type_name_fold steps type_name) marks)
unfolding base_form_fold core_fold declaration_fold designator_fold init_fold post_fold prefix_fold spec_fold suffix_fold arm_fold assign_fold base_fold binary_fold cond_fold declarator_fold enumerator_fold expr_fold init_declarator_fold init_item_fold param_fold prefixed_fold specs_fold type_name_fold
spec_align_type_folds {A} steps type_name marks =
    ap (spec_fold steps) (sym (v_spec.rolls-AlignType type_name marks)) ∙
    fold-roll-Spec A A A A A A A A A A A A A A A A A A A A A A A steps.base_form steps.core steps.declaration steps.designator steps.init steps.post steps.prefix steps.spec steps.suffix steps.arm steps.assign steps.base steps.binary steps.cond steps.declarator steps.enumerator steps.expr steps.init_declarator steps.init_item steps.param steps.prefixed steps.specs steps.type_name (o.Spec-F.AlignType type_name marks)

pub spec_align_expr_folds : {A : Type 0} (steps : Steps A) (expr : Expr) (marks : List ℕ) →
    spec_fold steps (v_spec.AlignExpr expr marks) ≡ steps.spec (o.Spec-F.AlignExpr (expr_fold steps expr) marks)
unfolding base_form_fold core_fold declaration_fold designator_fold init_fold post_fold prefix_fold spec_fold suffix_fold arm_fold assign_fold base_fold binary_fold cond_fold declarator_fold enumerator_fold expr_fold init_declarator_fold init_item_fold param_fold prefixed_fold specs_fold type_name_fold
spec_align_expr_folds {A} steps expr marks =
    ap (spec_fold steps) (sym (v_spec.rolls-AlignExpr expr marks)) ∙
    fold-roll-Spec A A A A A A A A A A A A A A A A A A A A A A A steps.base_form steps.core steps.declaration steps.designator steps.init steps.post steps.prefix steps.spec steps.suffix steps.arm steps.assign steps.base steps.binary steps.cond steps.declarator steps.enumerator steps.expr steps.init_declarator steps.init_item steps.param steps.prefixed steps.specs steps.type_name (o.Spec-F.AlignExpr expr marks)

pub spec_record_folds : {A : Type 0} (steps : Steps A) (key : ℕ) (tag : Option ℕ) (body : Option (List Declaration)) (marks : List ℕ) →
    spec_fold steps (v_spec.Record key tag body marks) ≡ steps.spec (o.Spec-F.Record key tag (option_map (λ l. map (declaration_fold steps) l) body) marks)
unfolding base_form_fold core_fold declaration_fold designator_fold init_fold post_fold prefix_fold spec_fold suffix_fold arm_fold assign_fold base_fold binary_fold cond_fold declarator_fold enumerator_fold expr_fold init_declarator_fold init_item_fold param_fold prefixed_fold specs_fold type_name_fold
spec_record_folds {A} steps key tag None marks =
    ap (spec_fold steps) (sym (v_spec.rolls-Record key tag None marks)) ∙
    fold-roll-Spec A A A A A A A A A A A A A A A A A A A A A A A steps.base_form steps.core steps.declaration steps.designator steps.init steps.post steps.prefix steps.spec steps.suffix steps.arm steps.assign steps.base steps.binary steps.cond steps.declarator steps.enumerator steps.expr steps.init_declarator steps.init_item steps.param steps.prefixed steps.specs steps.type_name (o.Spec-F.Record key tag None marks)
spec_record_folds {A} steps key tag (Some body) marks =
    ap (spec_fold steps) (sym (v_spec.rolls-Record key tag (Some body) marks)) ∙
    fold-roll-Spec A A A A A A A A A A A A A A A A A A A A A A A steps.base_form steps.core steps.declaration steps.designator steps.init steps.post steps.prefix steps.spec steps.suffix steps.arm steps.assign steps.base steps.binary steps.cond steps.declarator steps.enumerator steps.expr steps.init_declarator steps.init_item steps.param steps.prefixed steps.specs steps.type_name (o.Spec-F.Record key tag (Some body) marks)

pub spec_enumeration_folds : {A : Type 0} (steps : Steps A) (key : ℕ) (tag : Option ℕ) (body : Option (List Enumerator)) (marks : List ℕ) →
    spec_fold steps (v_spec.Enumeration key tag body marks) ≡ steps.spec (o.Spec-F.Enumeration key tag (option_map (λ l. map (enumerator_fold steps) l) body) marks)
unfolding base_form_fold core_fold declaration_fold designator_fold init_fold post_fold prefix_fold spec_fold suffix_fold arm_fold assign_fold base_fold binary_fold cond_fold declarator_fold enumerator_fold expr_fold init_declarator_fold init_item_fold param_fold prefixed_fold specs_fold type_name_fold
spec_enumeration_folds {A} steps key tag None marks =
    ap (spec_fold steps) (sym (v_spec.rolls-Enumeration key tag None marks)) ∙
    fold-roll-Spec A A A A A A A A A A A A A A A A A A A A A A A steps.base_form steps.core steps.declaration steps.designator steps.init steps.post steps.prefix steps.spec steps.suffix steps.arm steps.assign steps.base steps.binary steps.cond steps.declarator steps.enumerator steps.expr steps.init_declarator steps.init_item steps.param steps.prefixed steps.specs steps.type_name (o.Spec-F.Enumeration key tag None marks)
spec_enumeration_folds {A} steps key tag (Some body) marks =
    ap (spec_fold steps) (sym (v_spec.rolls-Enumeration key tag (Some body) marks)) ∙
    fold-roll-Spec A A A A A A A A A A A A A A A A A A A A A A A steps.base_form steps.core steps.declaration steps.designator steps.init steps.post steps.prefix steps.spec steps.suffix steps.arm steps.assign steps.base steps.binary steps.cond steps.declarator steps.enumerator steps.expr steps.init_declarator steps.init_item steps.param steps.prefixed steps.specs steps.type_name (o.Spec-F.Enumeration key tag (Some body) marks)

pub suffix_array_folds : {A : Type 0} (steps : Steps A) (words : List ℕ) (size : Option Expr) (star : Option ℕ) (marks : List ℕ) →
    suffix_fold steps (v_suffix.Array words size star marks) ≡ steps.suffix (o.Suffix-F.Array words (option_map (expr_fold steps) size) star marks)
unfolding base_form_fold core_fold declaration_fold designator_fold init_fold post_fold prefix_fold spec_fold suffix_fold arm_fold assign_fold base_fold binary_fold cond_fold declarator_fold enumerator_fold expr_fold init_declarator_fold init_item_fold param_fold prefixed_fold specs_fold type_name_fold
suffix_array_folds {A} steps words None star marks =
    ap (suffix_fold steps) (sym (v_suffix.rolls-Array words None star marks)) ∙
    fold-roll-Suffix A A A A A A A A A A A A A A A A A A A A A A A steps.base_form steps.core steps.declaration steps.designator steps.init steps.post steps.prefix steps.spec steps.suffix steps.arm steps.assign steps.base steps.binary steps.cond steps.declarator steps.enumerator steps.expr steps.init_declarator steps.init_item steps.param steps.prefixed steps.specs steps.type_name (o.Suffix-F.Array words None star marks)
suffix_array_folds {A} steps words (Some size) star marks =
    ap (suffix_fold steps) (sym (v_suffix.rolls-Array words (Some size) star marks)) ∙
    fold-roll-Suffix A A A A A A A A A A A A A A A A A A A A A A A steps.base_form steps.core steps.declaration steps.designator steps.init steps.post steps.prefix steps.spec steps.suffix steps.arm steps.assign steps.base steps.binary steps.cond steps.declarator steps.enumerator steps.expr steps.init_declarator steps.init_item steps.param steps.prefixed steps.specs steps.type_name (o.Suffix-F.Array words (Some size) star marks)

pub suffix_params_folds : {A : Type 0} (steps : Steps A) (list : List Param) (dots : Option ℕ) (marks : List ℕ) →
    suffix_fold steps (v_suffix.Params list dots marks) ≡ steps.suffix (o.Suffix-F.Params (map (param_fold steps) list) dots marks)
unfolding base_form_fold core_fold declaration_fold designator_fold init_fold post_fold prefix_fold spec_fold suffix_fold arm_fold assign_fold base_fold binary_fold cond_fold declarator_fold enumerator_fold expr_fold init_declarator_fold init_item_fold param_fold prefixed_fold specs_fold type_name_fold
suffix_params_folds {A} steps list dots marks =
    ap (suffix_fold steps) (sym (v_suffix.rolls-Params list dots marks)) ∙
    fold-roll-Suffix A A A A A A A A A A A A A A A A A A A A A A A steps.base_form steps.core steps.declaration steps.designator steps.init steps.post steps.prefix steps.spec steps.suffix steps.arm steps.assign steps.base steps.binary steps.cond steps.declarator steps.enumerator steps.expr steps.init_declarator steps.init_item steps.param steps.prefixed steps.specs steps.type_name (o.Suffix-F.Params list dots marks)

pub arm_folds : {A : Type 0} (steps : Steps A) (x : Arm) →
    arm_fold steps x ≡ steps.arm (record { test = binary_fold steps (out-Arm x).test; then = expr_fold steps (out-Arm x).then; marks = (out-Arm x).marks })
unfolding base_form_fold core_fold declaration_fold designator_fold init_fold post_fold prefix_fold spec_fold suffix_fold arm_fold assign_fold base_fold binary_fold cond_fold declarator_fold enumerator_fold expr_fold init_declarator_fold init_item_fold param_fold prefixed_fold specs_fold type_name_fold
arm_folds {A} steps x = fold_out-Arm A A A A A A A A A A A A A A A A A A A A A A A steps.base_form steps.core steps.declaration steps.designator steps.init steps.post steps.prefix steps.spec steps.suffix steps.arm steps.assign steps.base steps.binary steps.cond steps.declarator steps.enumerator steps.expr steps.init_declarator steps.init_item steps.param steps.prefixed steps.specs steps.type_name x

pub assign_folds : {A : Type 0} (steps : Steps A) (x : Assign) →
    assign_fold steps x ≡ steps.assign (record { targets = map (λ t. (prefixed_fold steps t.0, t.1)) (out-Assign x).targets; value = cond_fold steps (out-Assign x).value })
unfolding base_form_fold core_fold declaration_fold designator_fold init_fold post_fold prefix_fold spec_fold suffix_fold arm_fold assign_fold base_fold binary_fold cond_fold declarator_fold enumerator_fold expr_fold init_declarator_fold init_item_fold param_fold prefixed_fold specs_fold type_name_fold
assign_folds {A} steps x = fold_out-Assign A A A A A A A A A A A A A A A A A A A A A A A steps.base_form steps.core steps.declaration steps.designator steps.init steps.post steps.prefix steps.spec steps.suffix steps.arm steps.assign steps.base steps.binary steps.cond steps.declarator steps.enumerator steps.expr steps.init_declarator steps.init_item steps.param steps.prefixed steps.specs steps.type_name x

pub base_folds : {A : Type 0} (steps : Steps A) (x : Base) →
    base_fold steps x ≡ steps.base (record { form = base_form_fold steps x.form; suffixes = map (post_fold steps) x.suffixes })
unfolding base_form_fold core_fold declaration_fold designator_fold init_fold post_fold prefix_fold spec_fold suffix_fold arm_fold assign_fold base_fold binary_fold cond_fold declarator_fold enumerator_fold expr_fold init_declarator_fold init_item_fold param_fold prefixed_fold specs_fold type_name_fold
base_folds {A} steps x = fold_out-Base A A A A A A A A A A A A A A A A A A A A A A A steps.base_form steps.core steps.declaration steps.designator steps.init steps.post steps.prefix steps.spec steps.suffix steps.arm steps.assign steps.base steps.binary steps.cond steps.declarator steps.enumerator steps.expr steps.init_declarator steps.init_item steps.param steps.prefixed steps.specs steps.type_name x

pub binary_folds : {A : Type 0} (steps : Steps A) (x : Binary) →
    binary_fold steps x ≡ steps.binary (record { first = prefixed_fold steps (out-Binary x).first; rest = map (λ t. (t.0, prefixed_fold steps t.1)) (out-Binary x).rest })
unfolding base_form_fold core_fold declaration_fold designator_fold init_fold post_fold prefix_fold spec_fold suffix_fold arm_fold assign_fold base_fold binary_fold cond_fold declarator_fold enumerator_fold expr_fold init_declarator_fold init_item_fold param_fold prefixed_fold specs_fold type_name_fold
binary_folds {A} steps x = fold_out-Binary A A A A A A A A A A A A A A A A A A A A A A A steps.base_form steps.core steps.declaration steps.designator steps.init steps.post steps.prefix steps.spec steps.suffix steps.arm steps.assign steps.base steps.binary steps.cond steps.declarator steps.enumerator steps.expr steps.init_declarator steps.init_item steps.param steps.prefixed steps.specs steps.type_name x

pub cond_folds : {A : Type 0} (steps : Steps A) (x : Cond) →
    cond_fold steps x ≡ steps.cond (record { arms = map (arm_fold steps) (out-Cond x).arms; last = binary_fold steps (out-Cond x).last })
unfolding base_form_fold core_fold declaration_fold designator_fold init_fold post_fold prefix_fold spec_fold suffix_fold arm_fold assign_fold base_fold binary_fold cond_fold declarator_fold enumerator_fold expr_fold init_declarator_fold init_item_fold param_fold prefixed_fold specs_fold type_name_fold
cond_folds {A} steps x = fold_out-Cond A A A A A A A A A A A A A A A A A A A A A A A steps.base_form steps.core steps.declaration steps.designator steps.init steps.post steps.prefix steps.spec steps.suffix steps.arm steps.assign steps.base steps.binary steps.cond steps.declarator steps.enumerator steps.expr steps.init_declarator steps.init_item steps.param steps.prefixed steps.specs steps.type_name x

declarator_rolls : {A : Type 0} (steps : Steps A) (pointers : List Pointer) (core : Core) (suffixes : List Suffix) (width : Option Expr) (marks : List ℕ) →
    declarator_fold steps (roll-Declarator (record { pointers = pointers; core = core; suffixes = suffixes; width = width; marks = marks })) ≡ steps.declarator (record { pointers = pointers; core = core_fold steps core; suffixes = map (suffix_fold steps) suffixes; width = option_map (expr_fold steps) width; marks = marks })
unfolding base_form_fold core_fold declaration_fold designator_fold init_fold post_fold prefix_fold spec_fold suffix_fold arm_fold assign_fold base_fold binary_fold cond_fold declarator_fold enumerator_fold expr_fold init_declarator_fold init_item_fold param_fold prefixed_fold specs_fold type_name_fold
declarator_rolls {A} steps pointers core suffixes None marks =
    fold-roll-Declarator A A A A A A A A A A A A A A A A A A A A A A A steps.base_form steps.core steps.declaration steps.designator steps.init steps.post steps.prefix steps.spec steps.suffix steps.arm steps.assign steps.base steps.binary steps.cond steps.declarator steps.enumerator steps.expr steps.init_declarator steps.init_item steps.param steps.prefixed steps.specs steps.type_name (record { pointers = pointers; core = core; suffixes = suffixes; width = None; marks = marks })
declarator_rolls {A} steps pointers core suffixes (Some width) marks =
    fold-roll-Declarator A A A A A A A A A A A A A A A A A A A A A A A steps.base_form steps.core steps.declaration steps.designator steps.init steps.post steps.prefix steps.spec steps.suffix steps.arm steps.assign steps.base steps.binary steps.cond steps.declarator steps.enumerator steps.expr steps.init_declarator steps.init_item steps.param steps.prefixed steps.specs steps.type_name (record { pointers = pointers; core = core; suffixes = suffixes; width = (Some width); marks = marks })

pub declarator_folds : {A : Type 0} (steps : Steps A) (x : Declarator) →
    declarator_fold steps x ≡ steps.declarator (record { pointers = (out-Declarator x).pointers; core = core_fold steps (out-Declarator x).core; suffixes = map (suffix_fold steps) (out-Declarator x).suffixes; width = option_map (expr_fold steps) (out-Declarator x).width; marks = (out-Declarator x).marks })
declarator_folds steps x =
    ap (declarator_fold steps) (sym (roll-out-Declarator x)) ∙
    declarator_rolls steps (out-Declarator x).pointers (out-Declarator x).core (out-Declarator x).suffixes (out-Declarator x).width (out-Declarator x).marks

enumerator_rolls : {A : Type 0} (steps : Steps A) (name : ℕ) (value : Option Expr) (marks : List ℕ) →
    enumerator_fold steps (roll-Enumerator (record { name = name; value = value; marks = marks })) ≡ steps.enumerator (record { name = name; value = option_map (expr_fold steps) value; marks = marks })
unfolding base_form_fold core_fold declaration_fold designator_fold init_fold post_fold prefix_fold spec_fold suffix_fold arm_fold assign_fold base_fold binary_fold cond_fold declarator_fold enumerator_fold expr_fold init_declarator_fold init_item_fold param_fold prefixed_fold specs_fold type_name_fold
enumerator_rolls {A} steps name None marks =
    fold-roll-Enumerator A A A A A A A A A A A A A A A A A A A A A A A steps.base_form steps.core steps.declaration steps.designator steps.init steps.post steps.prefix steps.spec steps.suffix steps.arm steps.assign steps.base steps.binary steps.cond steps.declarator steps.enumerator steps.expr steps.init_declarator steps.init_item steps.param steps.prefixed steps.specs steps.type_name (record { name = name; value = None; marks = marks })
enumerator_rolls {A} steps name (Some value) marks =
    fold-roll-Enumerator A A A A A A A A A A A A A A A A A A A A A A A steps.base_form steps.core steps.declaration steps.designator steps.init steps.post steps.prefix steps.spec steps.suffix steps.arm steps.assign steps.base steps.binary steps.cond steps.declarator steps.enumerator steps.expr steps.init_declarator steps.init_item steps.param steps.prefixed steps.specs steps.type_name (record { name = name; value = (Some value); marks = marks })

pub enumerator_folds : {A : Type 0} (steps : Steps A) (x : Enumerator) →
    enumerator_fold steps x ≡ steps.enumerator (record { name = (out-Enumerator x).name; value = option_map (expr_fold steps) (out-Enumerator x).value; marks = (out-Enumerator x).marks })
enumerator_folds steps x =
    ap (enumerator_fold steps) (sym (roll-out-Enumerator x)) ∙
    enumerator_rolls steps (out-Enumerator x).name (out-Enumerator x).value (out-Enumerator x).marks

pub expr_folds : {A : Type 0} (steps : Steps A) (x : Expr) →
    expr_fold steps x ≡ steps.expr (record { parts = map (assign_fold steps) (out-Expr x).parts; marks = (out-Expr x).marks })
unfolding base_form_fold core_fold declaration_fold designator_fold init_fold post_fold prefix_fold spec_fold suffix_fold arm_fold assign_fold base_fold binary_fold cond_fold declarator_fold enumerator_fold expr_fold init_declarator_fold init_item_fold param_fold prefixed_fold specs_fold type_name_fold
expr_folds {A} steps x = fold_out-Expr A A A A A A A A A A A A A A A A A A A A A A A steps.base_form steps.core steps.declaration steps.designator steps.init steps.post steps.prefix steps.spec steps.suffix steps.arm steps.assign steps.base steps.binary steps.cond steps.declarator steps.enumerator steps.expr steps.init_declarator steps.init_item steps.param steps.prefixed steps.specs steps.type_name x

init_declarator_rolls : {A : Type 0} (steps : Steps A) (declarator : Declarator) (init : Option Init) (marks : List ℕ) →
    init_declarator_fold steps (roll-InitDeclarator (record { declarator = declarator; init = init; marks = marks })) ≡ steps.init_declarator (record { declarator = declarator_fold steps declarator; init = option_map (init_fold steps) init; marks = marks })
unfolding base_form_fold core_fold declaration_fold designator_fold init_fold post_fold prefix_fold spec_fold suffix_fold arm_fold assign_fold base_fold binary_fold cond_fold declarator_fold enumerator_fold expr_fold init_declarator_fold init_item_fold param_fold prefixed_fold specs_fold type_name_fold
init_declarator_rolls {A} steps declarator None marks =
    fold-roll-InitDeclarator A A A A A A A A A A A A A A A A A A A A A A A steps.base_form steps.core steps.declaration steps.designator steps.init steps.post steps.prefix steps.spec steps.suffix steps.arm steps.assign steps.base steps.binary steps.cond steps.declarator steps.enumerator steps.expr steps.init_declarator steps.init_item steps.param steps.prefixed steps.specs steps.type_name (record { declarator = declarator; init = None; marks = marks })
init_declarator_rolls {A} steps declarator (Some init) marks =
    fold-roll-InitDeclarator A A A A A A A A A A A A A A A A A A A A A A A steps.base_form steps.core steps.declaration steps.designator steps.init steps.post steps.prefix steps.spec steps.suffix steps.arm steps.assign steps.base steps.binary steps.cond steps.declarator steps.enumerator steps.expr steps.init_declarator steps.init_item steps.param steps.prefixed steps.specs steps.type_name (record { declarator = declarator; init = (Some init); marks = marks })

pub init_declarator_folds : {A : Type 0} (steps : Steps A) (x : InitDeclarator) →
    init_declarator_fold steps x ≡ steps.init_declarator (record { declarator = declarator_fold steps (out-InitDeclarator x).declarator; init = option_map (init_fold steps) (out-InitDeclarator x).init; marks = (out-InitDeclarator x).marks })
init_declarator_folds steps x =
    ap (init_declarator_fold steps) (sym (roll-out-InitDeclarator x)) ∙
    init_declarator_rolls steps (out-InitDeclarator x).declarator (out-InitDeclarator x).init (out-InitDeclarator x).marks

pub init_item_folds : {A : Type 0} (steps : Steps A) (x : InitItem) →
    init_item_fold steps x ≡ steps.init_item (record { designators = map (designator_fold steps) x.designators; init = init_fold steps x.init; marks = x.marks })
unfolding base_form_fold core_fold declaration_fold designator_fold init_fold post_fold prefix_fold spec_fold suffix_fold arm_fold assign_fold base_fold binary_fold cond_fold declarator_fold enumerator_fold expr_fold init_declarator_fold init_item_fold param_fold prefixed_fold specs_fold type_name_fold
init_item_folds {A} steps x = fold_out-InitItem A A A A A A A A A A A A A A A A A A A A A A A steps.base_form steps.core steps.declaration steps.designator steps.init steps.post steps.prefix steps.spec steps.suffix steps.arm steps.assign steps.base steps.binary steps.cond steps.declarator steps.enumerator steps.expr steps.init_declarator steps.init_item steps.param steps.prefixed steps.specs steps.type_name x

pub param_folds : {A : Type 0} (steps : Steps A) (x : Param) →
    param_fold steps x ≡ steps.param (record { specs = specs_fold steps (out-Param x).specs; declarator = declarator_fold steps (out-Param x).declarator })
unfolding base_form_fold core_fold declaration_fold designator_fold init_fold post_fold prefix_fold spec_fold suffix_fold arm_fold assign_fold base_fold binary_fold cond_fold declarator_fold enumerator_fold expr_fold init_declarator_fold init_item_fold param_fold prefixed_fold specs_fold type_name_fold
param_folds {A} steps x = fold_out-Param A A A A A A A A A A A A A A A A A A A A A A A steps.base_form steps.core steps.declaration steps.designator steps.init steps.post steps.prefix steps.spec steps.suffix steps.arm steps.assign steps.base steps.binary steps.cond steps.declarator steps.enumerator steps.expr steps.init_declarator steps.init_item steps.param steps.prefixed steps.specs steps.type_name x

pub prefixed_folds : {A : Type 0} (steps : Steps A) (x : Prefixed) →
    prefixed_fold steps x ≡ steps.prefixed (record { prefixes = map (prefix_fold steps) x.prefixes; base = base_fold steps x.base })
unfolding base_form_fold core_fold declaration_fold designator_fold init_fold post_fold prefix_fold spec_fold suffix_fold arm_fold assign_fold base_fold binary_fold cond_fold declarator_fold enumerator_fold expr_fold init_declarator_fold init_item_fold param_fold prefixed_fold specs_fold type_name_fold
prefixed_folds {A} steps x = fold_out-Prefixed A A A A A A A A A A A A A A A A A A A A A A A steps.base_form steps.core steps.declaration steps.designator steps.init steps.post steps.prefix steps.spec steps.suffix steps.arm steps.assign steps.base steps.binary steps.cond steps.declarator steps.enumerator steps.expr steps.init_declarator steps.init_item steps.param steps.prefixed steps.specs steps.type_name x

pub specs_folds : {A : Type 0} (steps : Steps A) (x : Specs) →
    specs_fold steps x ≡ steps.specs (record { words = map (spec_fold steps) x.words })
unfolding base_form_fold core_fold declaration_fold designator_fold init_fold post_fold prefix_fold spec_fold suffix_fold arm_fold assign_fold base_fold binary_fold cond_fold declarator_fold enumerator_fold expr_fold init_declarator_fold init_item_fold param_fold prefixed_fold specs_fold type_name_fold
specs_folds {A} steps x = fold_out-Specs A A A A A A A A A A A A A A A A A A A A A A A steps.base_form steps.core steps.declaration steps.designator steps.init steps.post steps.prefix steps.spec steps.suffix steps.arm steps.assign steps.base steps.binary steps.cond steps.declarator steps.enumerator steps.expr steps.init_declarator steps.init_item steps.param steps.prefixed steps.specs steps.type_name x

pub type_name_folds : {A : Type 0} (steps : Steps A) (x : TypeName) →
    type_name_fold steps x ≡ steps.type_name (record { specs = specs_fold steps (out-TypeName x).specs; declarator = declarator_fold steps (out-TypeName x).declarator })
unfolding base_form_fold core_fold declaration_fold designator_fold init_fold post_fold prefix_fold spec_fold suffix_fold arm_fold assign_fold base_fold binary_fold cond_fold declarator_fold enumerator_fold expr_fold init_declarator_fold init_item_fold param_fold prefixed_fold specs_fold type_name_fold
type_name_folds {A} steps x = fold_out-TypeName A A A A A A A A A A A A A A A A A A A A A A A steps.base_form steps.core steps.declaration steps.designator steps.init steps.post steps.prefix steps.spec steps.suffix steps.arm steps.assign steps.base steps.binary steps.cond steps.declarator steps.enumerator steps.expr steps.init_declarator steps.init_item steps.param steps.prefixed steps.specs steps.type_name x

pub block_item_declare_folds : {A : Type 0} (steps : StmtSteps A) (declaration : Declaration) →
    block_item_fold steps (v_block_item.Declare declaration) ≡ steps.block_item (s.BlockItem-F.Declare declaration)
unfolding block_item_fold stmt_kind_fold block_fold stmt_fold
block_item_declare_folds {A} steps declaration =
    ap (block_item_fold steps) (sym (v_block_item.rolls-Declare declaration)) ∙
    fold-roll-BlockItem A A A A steps.block_item steps.stmt_kind steps.block steps.stmt (s.BlockItem-F.Declare declaration)

pub block_item_do_folds : {A : Type 0} (steps : StmtSteps A) (body : Stmt) →
    block_item_fold steps (v_block_item.Do body) ≡ steps.block_item (s.BlockItem-F.Do (stmt_fold steps body))
unfolding block_item_fold stmt_kind_fold block_fold stmt_fold
block_item_do_folds {A} steps body =
    ap (block_item_fold steps) (sym (v_block_item.rolls-Do body)) ∙
    fold-roll-BlockItem A A A A steps.block_item steps.stmt_kind steps.block steps.stmt (s.BlockItem-F.Do body)

pub stmt_kind_empty_folds : {A : Type 0} (steps : StmtSteps A) (marks : List ℕ) →
    stmt_kind_fold steps (v_stmt_kind.Empty marks) ≡ steps.stmt_kind (s.StmtKind-F.Empty marks)
unfolding block_item_fold stmt_kind_fold block_fold stmt_fold
stmt_kind_empty_folds {A} steps marks =
    ap (stmt_kind_fold steps) (sym (v_stmt_kind.rolls-Empty marks)) ∙
    fold-roll-StmtKind A A A A steps.block_item steps.stmt_kind steps.block steps.stmt (s.StmtKind-F.Empty marks)

pub stmt_kind_value_folds : {A : Type 0} (steps : StmtSteps A) (expr : Expr) (marks : List ℕ) →
    stmt_kind_fold steps (v_stmt_kind.Value expr marks) ≡ steps.stmt_kind (s.StmtKind-F.Value expr marks)
unfolding block_item_fold stmt_kind_fold block_fold stmt_fold
stmt_kind_value_folds {A} steps expr marks =
    ap (stmt_kind_fold steps) (sym (v_stmt_kind.rolls-Value expr marks)) ∙
    fold-roll-StmtKind A A A A steps.block_item steps.stmt_kind steps.block steps.stmt (s.StmtKind-F.Value expr marks)

pub stmt_kind_braced_folds : {A : Type 0} (steps : StmtSteps A) (block : Block) →
    stmt_kind_fold steps (v_stmt_kind.Braced block) ≡ steps.stmt_kind (s.StmtKind-F.Braced (block_fold steps block))
unfolding block_item_fold stmt_kind_fold block_fold stmt_fold
stmt_kind_braced_folds {A} steps block =
    ap (stmt_kind_fold steps) (sym (v_stmt_kind.rolls-Braced block)) ∙
    fold-roll-StmtKind A A A A steps.block_item steps.stmt_kind steps.block steps.stmt (s.StmtKind-F.Braced block)

pub stmt_kind_if_folds : {A : Type 0} (steps : StmtSteps A) (arms : List (Expr × Stmt)) (other : Option Stmt) (marks : List ℕ) →
    stmt_kind_fold steps (v_stmt_kind.If arms other marks) ≡ steps.stmt_kind (s.StmtKind-F.If (map (λ t. (t.0, stmt_fold steps t.1)) arms) (option_map (stmt_fold steps) other) marks)
unfolding block_item_fold stmt_kind_fold block_fold stmt_fold
stmt_kind_if_folds {A} steps arms None marks =
    ap (stmt_kind_fold steps) (sym (v_stmt_kind.rolls-If arms None marks)) ∙
    fold-roll-StmtKind A A A A steps.block_item steps.stmt_kind steps.block steps.stmt (s.StmtKind-F.If arms None marks)
stmt_kind_if_folds {A} steps arms (Some other) marks =
    ap (stmt_kind_fold steps) (sym (v_stmt_kind.rolls-If arms (Some other) marks)) ∙
    fold-roll-StmtKind A A A A steps.block_item steps.stmt_kind steps.block steps.stmt (s.StmtKind-F.If arms (Some other) marks)

pub stmt_kind_while_folds : {A : Type 0} (steps : StmtSteps A) (expr : Expr) (body : Stmt) (marks : List ℕ) →
    stmt_kind_fold steps (v_stmt_kind.While expr body marks) ≡ steps.stmt_kind (s.StmtKind-F.While expr (stmt_fold steps body) marks)
unfolding block_item_fold stmt_kind_fold block_fold stmt_fold
stmt_kind_while_folds {A} steps expr body marks =
    ap (stmt_kind_fold steps) (sym (v_stmt_kind.rolls-While expr body marks)) ∙
    fold-roll-StmtKind A A A A steps.block_item steps.stmt_kind steps.block steps.stmt (s.StmtKind-F.While expr body marks)

pub stmt_kind_do_while_folds : {A : Type 0} (steps : StmtSteps A) (body : Stmt) (expr : Expr) (marks : List ℕ) →
    stmt_kind_fold steps (v_stmt_kind.DoWhile body expr marks) ≡ steps.stmt_kind (s.StmtKind-F.DoWhile (stmt_fold steps body) expr marks)
unfolding block_item_fold stmt_kind_fold block_fold stmt_fold
stmt_kind_do_while_folds {A} steps body expr marks =
    ap (stmt_kind_fold steps) (sym (v_stmt_kind.rolls-DoWhile body expr marks)) ∙
    fold-roll-StmtKind A A A A steps.block_item steps.stmt_kind steps.block steps.stmt (s.StmtKind-F.DoWhile body expr marks)

pub stmt_kind_for_folds : {A : Type 0} (steps : StmtSteps A) (init : ForInit) (cond : Option Expr) (step : Option Expr) (body : Stmt) (marks : List ℕ) →
    stmt_kind_fold steps (v_stmt_kind.For init cond step body marks) ≡ steps.stmt_kind (s.StmtKind-F.For init cond step (stmt_fold steps body) marks)
unfolding block_item_fold stmt_kind_fold block_fold stmt_fold
stmt_kind_for_folds {A} steps init cond step body marks =
    ap (stmt_kind_fold steps) (sym (v_stmt_kind.rolls-For init cond step body marks)) ∙
    fold-roll-StmtKind A A A A steps.block_item steps.stmt_kind steps.block steps.stmt (s.StmtKind-F.For init cond step body marks)

pub stmt_kind_switch_folds : {A : Type 0} (steps : StmtSteps A) (expr : Expr) (body : Stmt) (marks : List ℕ) →
    stmt_kind_fold steps (v_stmt_kind.Switch expr body marks) ≡ steps.stmt_kind (s.StmtKind-F.Switch expr (stmt_fold steps body) marks)
unfolding block_item_fold stmt_kind_fold block_fold stmt_fold
stmt_kind_switch_folds {A} steps expr body marks =
    ap (stmt_kind_fold steps) (sym (v_stmt_kind.rolls-Switch expr body marks)) ∙
    fold-roll-StmtKind A A A A steps.block_item steps.stmt_kind steps.block steps.stmt (s.StmtKind-F.Switch expr body marks)

pub stmt_kind_break_folds : {A : Type 0} (steps : StmtSteps A) (marks : List ℕ) →
    stmt_kind_fold steps (v_stmt_kind.Break marks) ≡ steps.stmt_kind (s.StmtKind-F.Break marks)
unfolding block_item_fold stmt_kind_fold block_fold stmt_fold
stmt_kind_break_folds {A} steps marks =
    ap (stmt_kind_fold steps) (sym (v_stmt_kind.rolls-Break marks)) ∙
    fold-roll-StmtKind A A A A steps.block_item steps.stmt_kind steps.block steps.stmt (s.StmtKind-F.Break marks)

pub stmt_kind_continue_folds : {A : Type 0} (steps : StmtSteps A) (marks : List ℕ) →
    stmt_kind_fold steps (v_stmt_kind.Continue marks) ≡ steps.stmt_kind (s.StmtKind-F.Continue marks)
unfolding block_item_fold stmt_kind_fold block_fold stmt_fold
stmt_kind_continue_folds {A} steps marks =
    ap (stmt_kind_fold steps) (sym (v_stmt_kind.rolls-Continue marks)) ∙
    fold-roll-StmtKind A A A A steps.block_item steps.stmt_kind steps.block steps.stmt (s.StmtKind-F.Continue marks)

pub stmt_kind_goto_folds : {A : Type 0} (steps : StmtSteps A) (token : ℕ) (marks : List ℕ) →
    stmt_kind_fold steps (v_stmt_kind.Goto token marks) ≡ steps.stmt_kind (s.StmtKind-F.Goto token marks)
unfolding block_item_fold stmt_kind_fold block_fold stmt_fold
stmt_kind_goto_folds {A} steps token marks =
    ap (stmt_kind_fold steps) (sym (v_stmt_kind.rolls-Goto token marks)) ∙
    fold-roll-StmtKind A A A A steps.block_item steps.stmt_kind steps.block steps.stmt (s.StmtKind-F.Goto token marks)

pub stmt_kind_return_folds : {A : Type 0} (steps : StmtSteps A) (expr : Option Expr) (marks : List ℕ) →
    stmt_kind_fold steps (v_stmt_kind.Return expr marks) ≡ steps.stmt_kind (s.StmtKind-F.Return expr marks)
unfolding block_item_fold stmt_kind_fold block_fold stmt_fold
stmt_kind_return_folds {A} steps expr marks =
    ap (stmt_kind_fold steps) (sym (v_stmt_kind.rolls-Return expr marks)) ∙
    fold-roll-StmtKind A A A A steps.block_item steps.stmt_kind steps.block steps.stmt (s.StmtKind-F.Return expr marks)

pub block_folds : {A : Type 0} (steps : StmtSteps A) (x : Block) →
    block_fold steps x ≡ steps.block (record { items = map (block_item_fold steps) x.items; marks = x.marks })
unfolding block_item_fold stmt_kind_fold block_fold stmt_fold
block_folds {A} steps x = fold_out-Block A A A A steps.block_item steps.stmt_kind steps.block steps.stmt x

pub stmt_folds : {A : Type 0} (steps : StmtSteps A) (x : Stmt) →
    stmt_fold steps x ≡ steps.stmt (record { labels = x.labels; kind = stmt_kind_fold steps x.kind })
unfolding block_item_fold stmt_kind_fold block_fold stmt_fold
stmt_folds {A} steps x = fold_out-Stmt A A A A steps.block_item steps.stmt_kind steps.block steps.stmt x
