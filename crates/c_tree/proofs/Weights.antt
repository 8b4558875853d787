-- How much work a part of a tree is, by its fields; one law for each struct and each variant.
--
-- Written by `generate` from src/tree.rt.

use Rattle.std.proofs.Common.{◌≡◌, ℕ, ◌+◌, List, Option, map, refl, ap, ◌∙◌}
use Rattle.std.specs.Option.{option_map}
use Rattle.std.proofs.lemmas.Simd.{map-map}
use Rattle.c_tree.specs.declared.tree.Item.TheVariants as v_item
use Rattle.c_tree.specs.declared.tree.Declaration.{Declaration}
use Rattle.c_tree.specs.declared.tree.Declaration.TheVariants as v_declaration
use Rattle.c_tree.specs.declared.tree.InitDeclarator.{InitDeclarator, out-InitDeclarator}
use Rattle.c_tree.specs.declared.tree.Init.TheVariants as v_init
use Rattle.c_tree.specs.declared.tree.InitItem.{InitItem}
use Rattle.c_tree.specs.declared.tree.Designator.TheVariants as v_designator
use Rattle.c_tree.specs.declared.tree.Specs.{Specs}
use Rattle.c_tree.specs.declared.tree.Spec.TheVariants as v_spec
use Rattle.c_tree.specs.declared.tree.Enumerator.{Enumerator, out-Enumerator}
use Rattle.c_tree.specs.declared.tree.Declarator.{Declarator, out-Declarator}
use Rattle.c_tree.specs.declared.tree.Pointer.{Pointer}
use Rattle.c_tree.specs.declared.tree.Core.TheVariants as v_core
use Rattle.c_tree.specs.declared.tree.Suffix.TheVariants as v_suffix
use Rattle.c_tree.specs.declared.tree.Param.{Param, out-Param}
use Rattle.c_tree.specs.declared.tree.TypeName.{TypeName, out-TypeName}
use Rattle.c_tree.specs.declared.tree.Expr.{Expr, out-Expr}
use Rattle.c_tree.specs.declared.tree.Assign.{Assign, out-Assign}
use Rattle.c_tree.specs.declared.tree.Cond.{Cond, out-Cond}
use Rattle.c_tree.specs.declared.tree.Arm.{Arm, out-Arm}
use Rattle.c_tree.specs.declared.tree.Binary.{Binary, out-Binary}
use Rattle.c_tree.specs.declared.tree.Prefixed.{Prefixed}
use Rattle.c_tree.specs.declared.tree.Prefix.TheVariants as v_prefix
use Rattle.c_tree.specs.declared.tree.Base.{Base}
use Rattle.c_tree.specs.declared.tree.BaseForm.TheVariants as v_base_form
use Rattle.c_tree.specs.declared.tree.Post.TheVariants as v_post
use Rattle.c_tree.specs.declared.tree.Block.{Block}
use Rattle.c_tree.specs.declared.tree.BlockItem.TheVariants as v_block_item
use Rattle.c_tree.specs.declared.tree.Stmt.{Stmt}
use Rattle.c_tree.specs.declared.tree.Mark.TheVariants as v_label
use Rattle.c_tree.specs.declared.tree.StmtKind.TheVariants as v_stmt_kind
use Rattle.c_tree.specs.declared.tree.ForInit.{ForInit}
use Rattle.c_tree.specs.declared.tree.ForInit.TheVariants as v_for_init
use Rattle.c_tree.specs.declared.tree.BaseForm.TheOpen as o
use Rattle.c_tree.specs.declared.tree.BlockItem.TheOpen as s
use Rattle.c_tree.specs.Weights.{item_weight, declaration_weight, init_declarator_weight}
use Rattle.c_tree.specs.Weights.{init_weight, init_item_weight, designator_weight, specs_weight}
use Rattle.c_tree.specs.Weights.{spec_weight, enumerator_weight, declarator_weight, pointer_weight}
use Rattle.c_tree.specs.Weights.{core_weight, suffix_weight, param_weight, type_name_weight}
use Rattle.c_tree.specs.Weights.{expr_weight, assign_weight, cond_weight, arm_weight, binary_weight}
use Rattle.c_tree.specs.Weights.{prefixed_weight, prefix_weight, base_weight, base_form_weight}
use Rattle.c_tree.specs.Weights.{post_weight, block_weight, block_item_weight, stmt_weight}
use Rattle.c_tree.specs.Weights.{label_weight, stmt_kind_weight, for_init_weight, item_weight_level}
use Rattle.c_tree.specs.Weights.{declaration_weight_level, init_declarator_weight_level}
use Rattle.c_tree.specs.Weights.{init_weight_level, init_item_weight_level, designator_weight_level}
use Rattle.c_tree.specs.Weights.{specs_weight_level, spec_weight_level, enumerator_weight_level}
use Rattle.c_tree.specs.Weights.{declarator_weight_level, pointer_weight_level, core_weight_level}
use Rattle.c_tree.specs.Weights.{suffix_weight_level, param_weight_level, type_name_weight_level}
use Rattle.c_tree.specs.Weights.{expr_weight_level, cond_weight_level, arm_weight_level}
use Rattle.c_tree.specs.Weights.{prefixed_weight_level, prefix_weight_level, base_weight_level}
use Rattle.c_tree.specs.Weights.{base_form_weight_level, post_weight_level, block_weight_level}
use Rattle.c_tree.specs.Weights.{block_item_weight_level, stmt_weight_level, label_weight_level}
use Rattle.c_tree.specs.Weights.{stmt_kind_weight_level, for_init_weight_level, weight_steps}
use Rattle.c_tree.specs.Weights.{stmt_weight_steps, target_weight, operand_weight, listed}
use Rattle.c_tree.proofs.Folds.{declaration_names_folds, declaration_assert_folds}
use Rattle.c_tree.proofs.Folds.{init_declarator_folds, init_value_folds, init_items_folds}
use Rattle.c_tree.proofs.Folds.{init_item_folds, designator_index_folds, designator_field_folds}
use Rattle.c_tree.proofs.Folds.{specs_folds, spec_storage_folds, spec_function_folds}
use Rattle.c_tree.proofs.Folds.{spec_qualifier_folds, spec_basic_folds, spec_named_folds}
use Rattle.c_tree.proofs.Folds.{spec_atomic_folds, spec_align_type_folds, spec_align_expr_folds}
use Rattle.c_tree.proofs.Folds.{spec_record_folds, spec_enumeration_folds, enumerator_folds}
use Rattle.c_tree.proofs.Folds.{declarator_folds, core_name_folds, core_group_folds}
use Rattle.c_tree.proofs.Folds.{core_empty_folds, suffix_array_folds, suffix_params_folds}
use Rattle.c_tree.proofs.Folds.{param_folds, type_name_folds, expr_folds, assign_folds, cond_folds}
use Rattle.c_tree.proofs.Folds.{arm_folds, binary_folds, prefixed_folds, prefix_op_folds}
use Rattle.c_tree.proofs.Folds.{prefix_cast_folds, base_folds, base_form_name_folds}
use Rattle.c_tree.proofs.Folds.{base_form_literal_folds, base_form_group_folds}
use Rattle.c_tree.proofs.Folds.{base_form_compound_folds, base_form_size_type_folds}
use Rattle.c_tree.proofs.Folds.{post_index_folds, post_call_folds, post_dot_folds, post_arrow_folds}
use Rattle.c_tree.proofs.Folds.{post_step_folds, block_folds, block_item_declare_folds}
use Rattle.c_tree.proofs.Folds.{block_item_do_folds, stmt_folds, stmt_kind_empty_folds}
use Rattle.c_tree.proofs.Folds.{stmt_kind_value_folds, stmt_kind_braced_folds, stmt_kind_if_folds}
use Rattle.c_tree.proofs.Folds.{stmt_kind_while_folds, stmt_kind_do_while_folds}
use Rattle.c_tree.proofs.Folds.{stmt_kind_for_folds, stmt_kind_switch_folds, stmt_kind_break_folds}
use Rattle.c_tree.proofs.Folds.{stmt_kind_continue_folds, stmt_kind_goto_folds}
use Rattle.c_tree.proofs.Folds.{stmt_kind_return_folds}

-- ---- Expressions

pub base_form_name_weight_lem : (token : ℕ) →
    base_form_weight (v_base_form.Name token) ≡ base_form_weight_level (o.BaseForm-F.BaseForm::Name token)
unfolding base_form_weight core_weight declaration_weight designator_weight init_weight post_weight prefix_weight spec_weight suffix_weight arm_weight assign_weight base_weight binary_weight cond_weight declarator_weight enumerator_weight expr_weight init_declarator_weight init_item_weight param_weight prefixed_weight specs_weight type_name_weight
base_form_name_weight_lem token = base_form_name_folds weight_steps token

pub base_form_literal_weight_lem : (tokens : List ℕ) →
    base_form_weight (v_base_form.Literal tokens) ≡ base_form_weight_level (o.BaseForm-F.Literal tokens)
unfolding base_form_weight core_weight declaration_weight designator_weight init_weight post_weight prefix_weight spec_weight suffix_weight arm_weight assign_weight base_weight binary_weight cond_weight declarator_weight enumerator_weight expr_weight init_declarator_weight init_item_weight param_weight prefixed_weight specs_weight type_name_weight
base_form_literal_weight_lem tokens = base_form_literal_folds weight_steps tokens

pub base_form_group_weight_lem : (expr : Expr) (marks : List ℕ) →
    base_form_weight (v_base_form.Group expr marks) ≡ base_form_weight_level (o.BaseForm-F.BaseForm::Group (expr_weight expr) marks)
unfolding base_form_weight core_weight declaration_weight designator_weight init_weight post_weight prefix_weight spec_weight suffix_weight arm_weight assign_weight base_weight binary_weight cond_weight declarator_weight enumerator_weight expr_weight init_declarator_weight init_item_weight param_weight prefixed_weight specs_weight type_name_weight
base_form_group_weight_lem expr marks = base_form_group_folds weight_steps expr marks

pub base_form_compound_weight_lem : (type_name : TypeName) (items : List InitItem) (marks : List ℕ) →
    base_form_weight (v_base_form.Compound type_name items marks) ≡ base_form_weight_level (o.BaseForm-F.Compound (type_name_weight type_name) (map init_item_weight items) marks)
unfolding base_form_weight core_weight declaration_weight designator_weight init_weight post_weight prefix_weight spec_weight suffix_weight arm_weight assign_weight base_weight binary_weight cond_weight declarator_weight enumerator_weight expr_weight init_declarator_weight init_item_weight param_weight prefixed_weight specs_weight type_name_weight
base_form_compound_weight_lem type_name items marks = base_form_compound_folds weight_steps type_name items marks

pub base_form_size_type_weight_lem : (token : ℕ) (type_name : TypeName) (marks : List ℕ) →
    base_form_weight (v_base_form.SizeType token type_name marks) ≡ base_form_weight_level (o.BaseForm-F.SizeType token (type_name_weight type_name) marks)
unfolding base_form_weight core_weight declaration_weight designator_weight init_weight post_weight prefix_weight spec_weight suffix_weight arm_weight assign_weight base_weight binary_weight cond_weight declarator_weight enumerator_weight expr_weight init_declarator_weight init_item_weight param_weight prefixed_weight specs_weight type_name_weight
base_form_size_type_weight_lem token type_name marks = base_form_size_type_folds weight_steps token type_name marks

pub post_index_weight_lem : (expr : Expr) (marks : List ℕ) →
    post_weight (v_post.Index expr marks) ≡ post_weight_level (o.Post-F.Post::Index (expr_weight expr) marks)
unfolding base_form_weight core_weight declaration_weight designator_weight init_weight post_weight prefix_weight spec_weight suffix_weight arm_weight assign_weight base_weight binary_weight cond_weight declarator_weight enumerator_weight expr_weight init_declarator_weight init_item_weight param_weight prefixed_weight specs_weight type_name_weight
post_index_weight_lem expr marks = post_index_folds weight_steps expr marks

pub post_call_weight_lem : (items : List Assign) (marks : List ℕ) →
    post_weight (v_post.Call items marks) ≡ post_weight_level (o.Post-F.Call (map assign_weight items) marks)
unfolding base_form_weight core_weight declaration_weight designator_weight init_weight post_weight prefix_weight spec_weight suffix_weight arm_weight assign_weight base_weight binary_weight cond_weight declarator_weight enumerator_weight expr_weight init_declarator_weight init_item_weight param_weight prefixed_weight specs_weight type_name_weight
post_call_weight_lem items marks = post_call_folds weight_steps items marks

pub post_dot_weight_lem : (token : ℕ) (marks : List ℕ) →
    post_weight (v_post.Dot token marks) ≡ post_weight_level (o.Post-F.Dot token marks)
unfolding base_form_weight core_weight declaration_weight designator_weight init_weight post_weight prefix_weight spec_weight suffix_weight arm_weight assign_weight base_weight binary_weight cond_weight declarator_weight enumerator_weight expr_weight init_declarator_weight init_item_weight param_weight prefixed_weight specs_weight type_name_weight
post_dot_weight_lem token marks = post_dot_folds weight_steps token marks

pub post_arrow_weight_lem : (token : ℕ) (marks : List ℕ) →
    post_weight (v_post.Arrow token marks) ≡ post_weight_level (o.Post-F.Arrow token marks)
unfolding base_form_weight core_weight declaration_weight designator_weight init_weight post_weight prefix_weight spec_weight suffix_weight arm_weight assign_weight base_weight binary_weight cond_weight declarator_weight enumerator_weight expr_weight init_declarator_weight init_item_weight param_weight prefixed_weight specs_weight type_name_weight
post_arrow_weight_lem token marks = post_arrow_folds weight_steps token marks

pub post_step_weight_lem : (token : ℕ) →
    post_weight (v_post.Step token) ≡ post_weight_level (o.Post-F.Step token)
unfolding base_form_weight core_weight declaration_weight designator_weight init_weight post_weight prefix_weight spec_weight suffix_weight arm_weight assign_weight base_weight binary_weight cond_weight declarator_weight enumerator_weight expr_weight init_declarator_weight init_item_weight param_weight prefixed_weight specs_weight type_name_weight
post_step_weight_lem token = post_step_folds weight_steps token

pub prefix_op_weight_lem : (token : ℕ) →
    prefix_weight (v_prefix.Op token) ≡ prefix_weight_level (o.Prefix-F.Op token)
unfolding base_form_weight core_weight declaration_weight designator_weight init_weight post_weight prefix_weight spec_weight suffix_weight arm_weight assign_weight base_weight binary_weight cond_weight declarator_weight enumerator_weight expr_weight init_declarator_weight init_item_weight param_weight prefixed_weight specs_weight type_name_weight
prefix_op_weight_lem token = prefix_op_folds weight_steps token

pub prefix_cast_weight_lem : (type_name : TypeName) (marks : List ℕ) →
    prefix_weight (v_prefix.Cast type_name marks) ≡ prefix_weight_level (o.Prefix-F.Cast (type_name_weight type_name) marks)
unfolding base_form_weight core_weight declaration_weight designator_weight init_weight post_weight prefix_weight spec_weight suffix_weight arm_weight assign_weight base_weight binary_weight cond_weight declarator_weight enumerator_weight expr_weight init_declarator_weight init_item_weight param_weight prefixed_weight specs_weight type_name_weight
prefix_cast_weight_lem type_name marks = prefix_cast_folds weight_steps type_name marks

pub arm_weight_lem : (x : Arm) → arm_weight x ≡ arm_weight_level (record { test = binary_weight (out-Arm x).test; then = expr_weight (out-Arm x).then; marks = (out-Arm x).marks })
unfolding base_form_weight core_weight declaration_weight designator_weight init_weight post_weight prefix_weight spec_weight suffix_weight arm_weight assign_weight base_weight binary_weight cond_weight declarator_weight enumerator_weight expr_weight init_declarator_weight init_item_weight param_weight prefixed_weight specs_weight type_name_weight
arm_weight_lem x = arm_folds weight_steps x

pub assign_weight_lem : (x : Assign) →
    assign_weight x ≡ 8 + (listed (map target_weight (out-Assign x).targets) + cond_weight (out-Assign x).value)
unfolding base_form_weight core_weight declaration_weight designator_weight init_weight post_weight prefix_weight spec_weight suffix_weight arm_weight assign_weight base_weight binary_weight cond_weight declarator_weight enumerator_weight expr_weight init_declarator_weight init_item_weight param_weight prefixed_weight specs_weight type_name_weight
assign_weight_lem x =
    assign_folds weight_steps x ∙ ap (λ s. 8 + (s + cond_weight (out-Assign x).value)) (ap listed (map-map (λ t. 1 + t.0) (λ t. (prefixed_weight t.0, t.1)) (out-Assign x).targets))

pub base_weight_lem : (x : Base) → base_weight x ≡ base_weight_level (record { form = base_form_weight x.form; suffixes = map post_weight x.suffixes })
unfolding base_form_weight core_weight declaration_weight designator_weight init_weight post_weight prefix_weight spec_weight suffix_weight arm_weight assign_weight base_weight binary_weight cond_weight declarator_weight enumerator_weight expr_weight init_declarator_weight init_item_weight param_weight prefixed_weight specs_weight type_name_weight
base_weight_lem x = base_folds weight_steps x

pub binary_weight_lem : (x : Binary) →
    binary_weight x ≡ 8 + (prefixed_weight (out-Binary x).first + listed (map operand_weight (out-Binary x).rest))
unfolding base_form_weight core_weight declaration_weight designator_weight init_weight post_weight prefix_weight spec_weight suffix_weight arm_weight assign_weight base_weight binary_weight cond_weight declarator_weight enumerator_weight expr_weight init_declarator_weight init_item_weight param_weight prefixed_weight specs_weight type_name_weight
binary_weight_lem x =
    binary_folds weight_steps x ∙ ap (λ s. 8 + (prefixed_weight (out-Binary x).first + s)) (ap listed (map-map (λ t. 1 + t.1) (λ t. (t.0, prefixed_weight t.1)) (out-Binary x).rest))

pub cond_weight_lem : (x : Cond) → cond_weight x ≡ cond_weight_level (record { arms = map arm_weight (out-Cond x).arms; last = binary_weight (out-Cond x).last })
unfolding base_form_weight core_weight declaration_weight designator_weight init_weight post_weight prefix_weight spec_weight suffix_weight arm_weight assign_weight base_weight binary_weight cond_weight declarator_weight enumerator_weight expr_weight init_declarator_weight init_item_weight param_weight prefixed_weight specs_weight type_name_weight
cond_weight_lem x = cond_folds weight_steps x

pub expr_weight_lem : (x : Expr) → expr_weight x ≡ expr_weight_level (record { parts = map assign_weight (out-Expr x).parts; marks = (out-Expr x).marks })
unfolding base_form_weight core_weight declaration_weight designator_weight init_weight post_weight prefix_weight spec_weight suffix_weight arm_weight assign_weight base_weight binary_weight cond_weight declarator_weight enumerator_weight expr_weight init_declarator_weight init_item_weight param_weight prefixed_weight specs_weight type_name_weight
expr_weight_lem x = expr_folds weight_steps x

pub prefixed_weight_lem : (x : Prefixed) → prefixed_weight x ≡ prefixed_weight_level (record { prefixes = map prefix_weight x.prefixes; base = base_weight x.base })
unfolding base_form_weight core_weight declaration_weight designator_weight init_weight post_weight prefix_weight spec_weight suffix_weight arm_weight assign_weight base_weight binary_weight cond_weight declarator_weight enumerator_weight expr_weight init_declarator_weight init_item_weight param_weight prefixed_weight specs_weight type_name_weight
prefixed_weight_lem x = prefixed_folds weight_steps x

-- ---- Declarations

pub declaration_names_weight_lem : (specs : Specs) (list : List InitDeclarator) (marks : List ℕ) →
    declaration_weight (v_declaration.Names specs list marks) ≡ declaration_weight_level (o.Declaration-F.Names (specs_weight specs) (map init_declarator_weight list) marks)
unfolding base_form_weight core_weight declaration_weight designator_weight init_weight post_weight prefix_weight spec_weight suffix_weight arm_weight assign_weight base_weight binary_weight cond_weight declarator_weight enumerator_weight expr_weight init_declarator_weight init_item_weight param_weight prefixed_weight specs_weight type_name_weight
declaration_names_weight_lem specs list marks = declaration_names_folds weight_steps specs list marks

pub declaration_assert_weight_lem : (cond : Expr) (text : List ℕ) (marks : List ℕ) →
    declaration_weight (v_declaration.Assert cond text marks) ≡ declaration_weight_level (o.Declaration-F.Assert (expr_weight cond) text marks)
unfolding base_form_weight core_weight declaration_weight designator_weight init_weight post_weight prefix_weight spec_weight suffix_weight arm_weight assign_weight base_weight binary_weight cond_weight declarator_weight enumerator_weight expr_weight init_declarator_weight init_item_weight param_weight prefixed_weight specs_weight type_name_weight
declaration_assert_weight_lem cond text marks = declaration_assert_folds weight_steps cond text marks

pub init_declarator_weight_lem : (x : InitDeclarator) → init_declarator_weight x ≡ init_declarator_weight_level (record { declarator = declarator_weight (out-InitDeclarator x).declarator; init = option_map init_weight (out-InitDeclarator x).init; marks = (out-InitDeclarator x).marks })
unfolding base_form_weight core_weight declaration_weight designator_weight init_weight post_weight prefix_weight spec_weight suffix_weight arm_weight assign_weight base_weight binary_weight cond_weight declarator_weight enumerator_weight expr_weight init_declarator_weight init_item_weight param_weight prefixed_weight specs_weight type_name_weight
init_declarator_weight_lem x = init_declarator_folds weight_steps x

pub init_value_weight_lem : (expr : Expr) →
    init_weight (v_init.Value expr) ≡ init_weight_level (o.Init-F.Value (expr_weight expr))
unfolding base_form_weight core_weight declaration_weight designator_weight init_weight post_weight prefix_weight spec_weight suffix_weight arm_weight assign_weight base_weight binary_weight cond_weight declarator_weight enumerator_weight expr_weight init_declarator_weight init_item_weight param_weight prefixed_weight specs_weight type_name_weight
init_value_weight_lem expr = init_value_folds weight_steps expr

pub init_items_weight_lem : (items : List InitItem) (marks : List ℕ) →
    init_weight (v_init.Items items marks) ≡ init_weight_level (o.Init-F.Items (map init_item_weight items) marks)
unfolding base_form_weight core_weight declaration_weight designator_weight init_weight post_weight prefix_weight spec_weight suffix_weight arm_weight assign_weight base_weight binary_weight cond_weight declarator_weight enumerator_weight expr_weight init_declarator_weight init_item_weight param_weight prefixed_weight specs_weight type_name_weight
init_items_weight_lem items marks = init_items_folds weight_steps items marks

pub init_item_weight_lem : (x : InitItem) → init_item_weight x ≡ init_item_weight_level (record { designators = map designator_weight x.designators; init = init_weight x.init; marks = x.marks })
unfolding base_form_weight core_weight declaration_weight designator_weight init_weight post_weight prefix_weight spec_weight suffix_weight arm_weight assign_weight base_weight binary_weight cond_weight declarator_weight enumerator_weight expr_weight init_declarator_weight init_item_weight param_weight prefixed_weight specs_weight type_name_weight
init_item_weight_lem x = init_item_folds weight_steps x

pub designator_index_weight_lem : (expr : Expr) (marks : List ℕ) →
    designator_weight (v_designator.Index expr marks) ≡ designator_weight_level (o.Designator-F.Designator::Index (expr_weight expr) marks)
unfolding base_form_weight core_weight declaration_weight designator_weight init_weight post_weight prefix_weight spec_weight suffix_weight arm_weight assign_weight base_weight binary_weight cond_weight declarator_weight enumerator_weight expr_weight init_declarator_weight init_item_weight param_weight prefixed_weight specs_weight type_name_weight
designator_index_weight_lem expr marks = designator_index_folds weight_steps expr marks

pub designator_field_weight_lem : (token : ℕ) (marks : List ℕ) →
    designator_weight (v_designator.Field token marks) ≡ designator_weight_level (o.Designator-F.Field token marks)
unfolding base_form_weight core_weight declaration_weight designator_weight init_weight post_weight prefix_weight spec_weight suffix_weight arm_weight assign_weight base_weight binary_weight cond_weight declarator_weight enumerator_weight expr_weight init_declarator_weight init_item_weight param_weight prefixed_weight specs_weight type_name_weight
designator_field_weight_lem token marks = designator_field_folds weight_steps token marks

pub specs_weight_lem : (x : Specs) → specs_weight x ≡ specs_weight_level (record { words = map spec_weight x.words })
unfolding base_form_weight core_weight declaration_weight designator_weight init_weight post_weight prefix_weight spec_weight suffix_weight arm_weight assign_weight base_weight binary_weight cond_weight declarator_weight enumerator_weight expr_weight init_declarator_weight init_item_weight param_weight prefixed_weight specs_weight type_name_weight
specs_weight_lem x = specs_folds weight_steps x

pub spec_storage_weight_lem : (token : ℕ) →
    spec_weight (v_spec.Storage token) ≡ spec_weight_level (o.Spec-F.Storage token)
unfolding base_form_weight core_weight declaration_weight designator_weight init_weight post_weight prefix_weight spec_weight suffix_weight arm_weight assign_weight base_weight binary_weight cond_weight declarator_weight enumerator_weight expr_weight init_declarator_weight init_item_weight param_weight prefixed_weight specs_weight type_name_weight
spec_storage_weight_lem token = spec_storage_folds weight_steps token

pub spec_function_weight_lem : (token : ℕ) →
    spec_weight (v_spec.Function token) ≡ spec_weight_level (o.Spec-F.Function token)
unfolding base_form_weight core_weight declaration_weight designator_weight init_weight post_weight prefix_weight spec_weight suffix_weight arm_weight assign_weight base_weight binary_weight cond_weight declarator_weight enumerator_weight expr_weight init_declarator_weight init_item_weight param_weight prefixed_weight specs_weight type_name_weight
spec_function_weight_lem token = spec_function_folds weight_steps token

pub spec_qualifier_weight_lem : (token : ℕ) →
    spec_weight (v_spec.Qualifier token) ≡ spec_weight_level (o.Spec-F.Qualifier token)
unfolding base_form_weight core_weight declaration_weight designator_weight init_weight post_weight prefix_weight spec_weight suffix_weight arm_weight assign_weight base_weight binary_weight cond_weight declarator_weight enumerator_weight expr_weight init_declarator_weight init_item_weight param_weight prefixed_weight specs_weight type_name_weight
spec_qualifier_weight_lem token = spec_qualifier_folds weight_steps token

pub spec_basic_weight_lem : (token : ℕ) →
    spec_weight (v_spec.Basic token) ≡ spec_weight_level (o.Spec-F.Basic token)
unfolding base_form_weight core_weight declaration_weight designator_weight init_weight post_weight prefix_weight spec_weight suffix_weight arm_weight assign_weight base_weight binary_weight cond_weight declarator_weight enumerator_weight expr_weight init_declarator_weight init_item_weight param_weight prefixed_weight specs_weight type_name_weight
spec_basic_weight_lem token = spec_basic_folds weight_steps token

pub spec_named_weight_lem : (token : ℕ) →
    spec_weight (v_spec.Named token) ≡ spec_weight_level (o.Spec-F.Named token)
unfolding base_form_weight core_weight declaration_weight designator_weight init_weight post_weight prefix_weight spec_weight suffix_weight arm_weight assign_weight base_weight binary_weight cond_weight declarator_weight enumerator_weight expr_weight init_declarator_weight init_item_weight param_weight prefixed_weight specs_weight type_name_weight
spec_named_weight_lem token = spec_named_folds weight_steps token

pub spec_atomic_weight_lem : (type_name : TypeName) (marks : List ℕ) →
    spec_weight (v_spec.Atomic type_name marks) ≡ spec_weight_level (o.Spec-F.Atomic (type_name_weight type_name) marks)
unfolding base_form_weight core_weight declaration_weight designator_weight init_weight post_weight prefix_weight spec_weight suffix_weight arm_weight assign_weight base_weight binary_weight cond_weight declarator_weight enumerator_weight expr_weight init_declarator_weight init_item_weight param_weight prefixed_weight specs_weight type_name_weight
spec_atomic_weight_lem type_name marks = spec_atomic_folds weight_steps type_name marks

pub spec_align_type_weight_lem : (type_name : TypeName) (marks : List ℕ) →
    spec_weight (v_spec.AlignType type_name marks) ≡ spec_weight_level (o.Spec-F.AlignType (type_name_weight type_name) marks)
unfolding base_form_weight core_weight declaration_weight designator_weight init_weight post_weight prefix_weight spec_weight suffix_weight arm_weight assign_weight base_weight binary_weight cond_weight declarator_weight enumerator_weight expr_weight init_declarator_weight init_item_weight param_weight prefixed_weight specs_weight type_name_weight
spec_align_type_weight_lem type_name marks = spec_align_type_folds weight_steps type_name marks

pub spec_align_expr_weight_lem : (expr : Expr) (marks : List ℕ) →
    spec_weight (v_spec.AlignExpr expr marks) ≡ spec_weight_level (o.Spec-F.AlignExpr (expr_weight expr) marks)
unfolding base_form_weight core_weight declaration_weight designator_weight init_weight post_weight prefix_weight spec_weight suffix_weight arm_weight assign_weight base_weight binary_weight cond_weight declarator_weight enumerator_weight expr_weight init_declarator_weight init_item_weight param_weight prefixed_weight specs_weight type_name_weight
spec_align_expr_weight_lem expr marks = spec_align_expr_folds weight_steps expr marks

pub spec_record_weight_lem : (key : ℕ) (tag : Option ℕ) (body : Option (List Declaration)) (marks : List ℕ) →
    spec_weight (v_spec.Record key tag body marks) ≡ spec_weight_level (o.Spec-F.Record key tag (option_map (λ l. map declaration_weight l) body) marks)
unfolding base_form_weight core_weight declaration_weight designator_weight init_weight post_weight prefix_weight spec_weight suffix_weight arm_weight assign_weight base_weight binary_weight cond_weight declarator_weight enumerator_weight expr_weight init_declarator_weight init_item_weight param_weight prefixed_weight specs_weight type_name_weight
spec_record_weight_lem key tag body marks = spec_record_folds weight_steps key tag body marks

pub spec_enumeration_weight_lem : (key : ℕ) (tag : Option ℕ) (body : Option (List Enumerator)) (marks : List ℕ) →
    spec_weight (v_spec.Enumeration key tag body marks) ≡ spec_weight_level (o.Spec-F.Enumeration key tag (option_map (λ l. map enumerator_weight l) body) marks)
unfolding base_form_weight core_weight declaration_weight designator_weight init_weight post_weight prefix_weight spec_weight suffix_weight arm_weight assign_weight base_weight binary_weight cond_weight declarator_weight enumerator_weight expr_weight init_declarator_weight init_item_weight param_weight prefixed_weight specs_weight type_name_weight
spec_enumeration_weight_lem key tag body marks = spec_enumeration_folds weight_steps key tag body marks

pub enumerator_weight_lem : (x : Enumerator) → enumerator_weight x ≡ enumerator_weight_level (record { name = (out-Enumerator x).name; value = option_map expr_weight (out-Enumerator x).value; marks = (out-Enumerator x).marks })
unfolding base_form_weight core_weight declaration_weight designator_weight init_weight post_weight prefix_weight spec_weight suffix_weight arm_weight assign_weight base_weight binary_weight cond_weight declarator_weight enumerator_weight expr_weight init_declarator_weight init_item_weight param_weight prefixed_weight specs_weight type_name_weight
enumerator_weight_lem x = enumerator_folds weight_steps x

pub declarator_weight_lem : (x : Declarator) → declarator_weight x ≡ declarator_weight_level (record { pointers = (out-Declarator x).pointers; core = core_weight (out-Declarator x).core; suffixes = map suffix_weight (out-Declarator x).suffixes; width = option_map expr_weight (out-Declarator x).width; marks = (out-Declarator x).marks })
unfolding base_form_weight core_weight declaration_weight designator_weight init_weight post_weight prefix_weight spec_weight suffix_weight arm_weight assign_weight base_weight binary_weight cond_weight declarator_weight enumerator_weight expr_weight init_declarator_weight init_item_weight param_weight prefixed_weight specs_weight type_name_weight
declarator_weight_lem x = declarator_folds weight_steps x

pub pointer_weight_lem : (x : Pointer) → pointer_weight x ≡ pointer_weight_level x
unfolding pointer_weight
pointer_weight_lem x = refl

pub core_name_weight_lem : (token : ℕ) →
    core_weight (v_core.Name token) ≡ core_weight_level (o.Core-F.Core::Name token)
unfolding base_form_weight core_weight declaration_weight designator_weight init_weight post_weight prefix_weight spec_weight suffix_weight arm_weight assign_weight base_weight binary_weight cond_weight declarator_weight enumerator_weight expr_weight init_declarator_weight init_item_weight param_weight prefixed_weight specs_weight type_name_weight
core_name_weight_lem token = core_name_folds weight_steps token

pub core_group_weight_lem : (declarator : Declarator) (marks : List ℕ) →
    core_weight (v_core.Group declarator marks) ≡ core_weight_level (o.Core-F.Core::Group (declarator_weight declarator) marks)
unfolding base_form_weight core_weight declaration_weight designator_weight init_weight post_weight prefix_weight spec_weight suffix_weight arm_weight assign_weight base_weight binary_weight cond_weight declarator_weight enumerator_weight expr_weight init_declarator_weight init_item_weight param_weight prefixed_weight specs_weight type_name_weight
core_group_weight_lem declarator marks = core_group_folds weight_steps declarator marks

pub core_empty_weight_lem :
    core_weight v_core.Empty ≡ core_weight_level o.Core-F.Empty
unfolding base_form_weight core_weight declaration_weight designator_weight init_weight post_weight prefix_weight spec_weight suffix_weight arm_weight assign_weight base_weight binary_weight cond_weight declarator_weight enumerator_weight expr_weight init_declarator_weight init_item_weight param_weight prefixed_weight specs_weight type_name_weight
core_empty_weight_lem = core_empty_folds weight_steps

pub suffix_array_weight_lem : (words : List ℕ) (size : Option Expr) (star : Option ℕ) (marks : List ℕ) →
    suffix_weight (v_suffix.Array words size star marks) ≡ suffix_weight_level (o.Suffix-F.Array words (option_map expr_weight size) star marks)
unfolding base_form_weight core_weight declaration_weight designator_weight init_weight post_weight prefix_weight spec_weight suffix_weight arm_weight assign_weight base_weight binary_weight cond_weight declarator_weight enumerator_weight expr_weight init_declarator_weight init_item_weight param_weight prefixed_weight specs_weight type_name_weight
suffix_array_weight_lem words size star marks = suffix_array_folds weight_steps words size star marks

pub suffix_params_weight_lem : (list : List Param) (dots : Option ℕ) (marks : List ℕ) →
    suffix_weight (v_suffix.Params list dots marks) ≡ suffix_weight_level (o.Suffix-F.Params (map param_weight list) dots marks)
unfolding base_form_weight core_weight declaration_weight designator_weight init_weight post_weight prefix_weight spec_weight suffix_weight arm_weight assign_weight base_weight binary_weight cond_weight declarator_weight enumerator_weight expr_weight init_declarator_weight init_item_weight param_weight prefixed_weight specs_weight type_name_weight
suffix_params_weight_lem list dots marks = suffix_params_folds weight_steps list dots marks

pub param_weight_lem : (x : Param) → param_weight x ≡ param_weight_level (record { specs = specs_weight (out-Param x).specs; declarator = declarator_weight (out-Param x).declarator })
unfolding base_form_weight core_weight declaration_weight designator_weight init_weight post_weight prefix_weight spec_weight suffix_weight arm_weight assign_weight base_weight binary_weight cond_weight declarator_weight enumerator_weight expr_weight init_declarator_weight init_item_weight param_weight prefixed_weight specs_weight type_name_weight
param_weight_lem x = param_folds weight_steps x

pub type_name_weight_lem : (x : TypeName) → type_name_weight x ≡ type_name_weight_level (record { specs = specs_weight (out-TypeName x).specs; declarator = declarator_weight (out-TypeName x).declarator })
unfolding base_form_weight core_weight declaration_weight designator_weight init_weight post_weight prefix_weight spec_weight suffix_weight arm_weight assign_weight base_weight binary_weight cond_weight declarator_weight enumerator_weight expr_weight init_declarator_weight init_item_weight param_weight prefixed_weight specs_weight type_name_weight
type_name_weight_lem x = type_name_folds weight_steps x

-- ---- Statements

pub label_label_weight_lem : (token : ℕ) (marks : List ℕ) →
    label_weight (v_label.Label token marks) ≡ label_weight_level (v_label.Label token marks)
unfolding label_weight
label_label_weight_lem token marks = refl

pub label_case_weight_lem : (expr : Expr) (marks : List ℕ) →
    label_weight (v_label.Case expr marks) ≡ label_weight_level (v_label.Case expr marks)
unfolding label_weight
label_case_weight_lem expr marks = refl

pub label_default_weight_lem : (token : ℕ) (marks : List ℕ) →
    label_weight (v_label.Default token marks) ≡ label_weight_level (v_label.Default token marks)
unfolding label_weight
label_default_weight_lem token marks = refl

pub for_init_nothing_weight_lem : (marks : List ℕ) →
    for_init_weight (v_for_init.Nothing marks) ≡ for_init_weight_level (v_for_init.Nothing marks)
unfolding for_init_weight
for_init_nothing_weight_lem marks = refl

pub for_init_value_weight_lem : (expr : Expr) (marks : List ℕ) →
    for_init_weight (v_for_init.Value expr marks) ≡ for_init_weight_level (v_for_init.Value expr marks)
unfolding for_init_weight
for_init_value_weight_lem expr marks = refl

pub for_init_declare_weight_lem : (declaration : Declaration) →
    for_init_weight (v_for_init.Declare declaration) ≡ for_init_weight_level (v_for_init.Declare declaration)
unfolding for_init_weight
for_init_declare_weight_lem declaration = refl

pub stmt_kind_empty_weight_lem : (marks : List ℕ) →
    stmt_kind_weight (v_stmt_kind.Empty marks) ≡ stmt_kind_weight_level (s.StmtKind-F.Empty marks)
unfolding block_item_weight stmt_kind_weight block_weight stmt_weight
stmt_kind_empty_weight_lem marks = stmt_kind_empty_folds stmt_weight_steps marks

pub stmt_kind_value_weight_lem : (expr : Expr) (marks : List ℕ) →
    stmt_kind_weight (v_stmt_kind.Value expr marks) ≡ stmt_kind_weight_level (s.StmtKind-F.Value expr marks)
unfolding block_item_weight stmt_kind_weight block_weight stmt_weight
stmt_kind_value_weight_lem expr marks = stmt_kind_value_folds stmt_weight_steps expr marks

pub stmt_kind_braced_weight_lem : (block : Block) →
    stmt_kind_weight (v_stmt_kind.Braced block) ≡ stmt_kind_weight_level (s.StmtKind-F.Braced (block_weight block))
unfolding block_item_weight stmt_kind_weight block_weight stmt_weight
stmt_kind_braced_weight_lem block = stmt_kind_braced_folds stmt_weight_steps block

pub stmt_kind_if_weight_lem : (arms : List (Expr × Stmt)) (other : Option Stmt) (marks : List ℕ) →
    stmt_kind_weight (v_stmt_kind.If arms other marks) ≡ stmt_kind_weight_level (s.StmtKind-F.If (map (λ t. (t.0, stmt_weight t.1)) arms) (option_map stmt_weight other) marks)
unfolding block_item_weight stmt_kind_weight block_weight stmt_weight
stmt_kind_if_weight_lem arms other marks = stmt_kind_if_folds stmt_weight_steps arms other marks

pub stmt_kind_while_weight_lem : (expr : Expr) (body : Stmt) (marks : List ℕ) →
    stmt_kind_weight (v_stmt_kind.While expr body marks) ≡ stmt_kind_weight_level (s.StmtKind-F.While expr (stmt_weight body) marks)
unfolding block_item_weight stmt_kind_weight block_weight stmt_weight
stmt_kind_while_weight_lem expr body marks = stmt_kind_while_folds stmt_weight_steps expr body marks

pub stmt_kind_do_while_weight_lem : (body : Stmt) (expr : Expr) (marks : List ℕ) →
    stmt_kind_weight (v_stmt_kind.DoWhile body expr marks) ≡ stmt_kind_weight_level (s.StmtKind-F.DoWhile (stmt_weight body) expr marks)
unfolding block_item_weight stmt_kind_weight block_weight stmt_weight
stmt_kind_do_while_weight_lem body expr marks = stmt_kind_do_while_folds stmt_weight_steps body expr marks

pub stmt_kind_for_weight_lem : (init : ForInit) (cond : Option Expr) (step : Option Expr) (body : Stmt) (marks : List ℕ) →
    stmt_kind_weight (v_stmt_kind.For init cond step body marks) ≡ stmt_kind_weight_level (s.StmtKind-F.For init cond step (stmt_weight body) marks)
unfolding block_item_weight stmt_kind_weight block_weight stmt_weight
stmt_kind_for_weight_lem init cond step body marks = stmt_kind_for_folds stmt_weight_steps init cond step body marks

pub stmt_kind_switch_weight_lem : (expr : Expr) (body : Stmt) (marks : List ℕ) →
    stmt_kind_weight (v_stmt_kind.Switch expr body marks) ≡ stmt_kind_weight_level (s.StmtKind-F.Switch expr (stmt_weight body) marks)
unfolding block_item_weight stmt_kind_weight block_weight stmt_weight
stmt_kind_switch_weight_lem expr body marks = stmt_kind_switch_folds stmt_weight_steps expr body marks

pub stmt_kind_break_weight_lem : (marks : List ℕ) →
    stmt_kind_weight (v_stmt_kind.Break marks) ≡ stmt_kind_weight_level (s.StmtKind-F.Break marks)
unfolding block_item_weight stmt_kind_weight block_weight stmt_weight
stmt_kind_break_weight_lem marks = stmt_kind_break_folds stmt_weight_steps marks

pub stmt_kind_continue_weight_lem : (marks : List ℕ) →
    stmt_kind_weight (v_stmt_kind.Continue marks) ≡ stmt_kind_weight_level (s.StmtKind-F.Continue marks)
unfolding block_item_weight stmt_kind_weight block_weight stmt_weight
stmt_kind_continue_weight_lem marks = stmt_kind_continue_folds stmt_weight_steps marks

pub stmt_kind_goto_weight_lem : (token : ℕ) (marks : List ℕ) →
    stmt_kind_weight (v_stmt_kind.Goto token marks) ≡ stmt_kind_weight_level (s.StmtKind-F.Goto token marks)
unfolding block_item_weight stmt_kind_weight block_weight stmt_weight
stmt_kind_goto_weight_lem token marks = stmt_kind_goto_folds stmt_weight_steps token marks

pub stmt_kind_return_weight_lem : (expr : Option Expr) (marks : List ℕ) →
    stmt_kind_weight (v_stmt_kind.Return expr marks) ≡ stmt_kind_weight_level (s.StmtKind-F.Return expr marks)
unfolding block_item_weight stmt_kind_weight block_weight stmt_weight
stmt_kind_return_weight_lem expr marks = stmt_kind_return_folds stmt_weight_steps expr marks

pub stmt_weight_lem : (x : Stmt) → stmt_weight x ≡ stmt_weight_level (record { labels = x.labels; kind = stmt_kind_weight x.kind })
unfolding block_item_weight stmt_kind_weight block_weight stmt_weight
stmt_weight_lem x = stmt_folds stmt_weight_steps x

pub block_item_declare_weight_lem : (declaration : Declaration) →
    block_item_weight (v_block_item.Declare declaration) ≡ block_item_weight_level (s.BlockItem-F.Declare declaration)
unfolding block_item_weight stmt_kind_weight block_weight stmt_weight
block_item_declare_weight_lem declaration = block_item_declare_folds stmt_weight_steps declaration

pub block_item_do_weight_lem : (body : Stmt) →
    block_item_weight (v_block_item.Do body) ≡ block_item_weight_level (s.BlockItem-F.Do (stmt_weight body))
unfolding block_item_weight stmt_kind_weight block_weight stmt_weight
block_item_do_weight_lem body = block_item_do_folds stmt_weight_steps body

pub block_weight_lem : (x : Block) → block_weight x ≡ block_weight_level (record { items = map block_item_weight x.items; marks = x.marks })
unfolding block_item_weight stmt_kind_weight block_weight stmt_weight
block_weight_lem x = block_folds stmt_weight_steps x

pub item_define_weight_lem : (specs : Specs) (declarator : Declarator) (body : Block) →
    item_weight (v_item.Define specs declarator body) ≡ item_weight_level (v_item.Define specs declarator body)
unfolding item_weight
item_define_weight_lem specs declarator body = refl

pub item_declare_weight_lem : (declaration : Declaration) →
    item_weight (v_item.Declare declaration) ≡ item_weight_level (v_item.Declare declaration)
unfolding item_weight
item_declare_weight_lem declaration = refl

pub ruleset expression_weights = (
  base_form_name_weight_lem,
  base_form_literal_weight_lem,
  base_form_group_weight_lem,
  base_form_compound_weight_lem,
  base_form_size_type_weight_lem,
  post_index_weight_lem,
  post_call_weight_lem,
  post_dot_weight_lem,
  post_arrow_weight_lem,
  post_step_weight_lem,
  prefix_op_weight_lem,
  prefix_cast_weight_lem,
  arm_weight_lem,
  assign_weight_lem,
  base_weight_lem,
  binary_weight_lem,
  cond_weight_lem,
  expr_weight_lem,
  prefixed_weight_lem,
)

pub ruleset declaration_weights = (
  declaration_names_weight_lem,
  declaration_assert_weight_lem,
  init_declarator_weight_lem,
  init_value_weight_lem,
  init_items_weight_lem,
  init_item_weight_lem,
  designator_index_weight_lem,
  designator_field_weight_lem,
  specs_weight_lem,
  spec_storage_weight_lem,
  spec_function_weight_lem,
  spec_qualifier_weight_lem,
  spec_basic_weight_lem,
  spec_named_weight_lem,
  spec_atomic_weight_lem,
  spec_align_type_weight_lem,
  spec_align_expr_weight_lem,
  spec_record_weight_lem,
  spec_enumeration_weight_lem,
  enumerator_weight_lem,
  declarator_weight_lem,
  pointer_weight_lem,
  core_name_weight_lem,
  core_group_weight_lem,
  core_empty_weight_lem,
  suffix_array_weight_lem,
  suffix_params_weight_lem,
  param_weight_lem,
  type_name_weight_lem,
)

pub ruleset statement_weights = (
  label_label_weight_lem,
  label_case_weight_lem,
  label_default_weight_lem,
  for_init_nothing_weight_lem,
  for_init_value_weight_lem,
  for_init_declare_weight_lem,
  stmt_kind_empty_weight_lem,
  stmt_kind_value_weight_lem,
  stmt_kind_braced_weight_lem,
  stmt_kind_if_weight_lem,
  stmt_kind_while_weight_lem,
  stmt_kind_do_while_weight_lem,
  stmt_kind_for_weight_lem,
  stmt_kind_switch_weight_lem,
  stmt_kind_break_weight_lem,
  stmt_kind_continue_weight_lem,
  stmt_kind_goto_weight_lem,
  stmt_kind_return_weight_lem,
  stmt_weight_lem,
  block_item_declare_weight_lem,
  block_item_do_weight_lem,
  block_weight_lem,
  item_define_weight_lem,
  item_declare_weight_lem,
)
