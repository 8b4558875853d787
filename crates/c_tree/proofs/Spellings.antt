-- What a tree spells, by its fields; one law for each struct and each variant.
--
-- Written by `generate` from src/tree.rt.

use Rattle.std.proofs.Common.{◌≡◌, ℕ, List, ◌++◌, Option, map, refl, sym, ap, ◌∙◌}
use Rattle.std.proofs.Common.{append_assoc, append-nil}
use Rattle.std.specs.Option.{option_map}
use Rattle.std.specs.List.{flat_map}
use Rattle.std.proofs.lemmas.List.Folds.{flat_map-map}
use Rattle.c_tree.specs.declared.tree.Unit.{Unit}
use Rattle.c_tree.specs.declared.tree.Item.TheVariants as v_item
use Rattle.c_tree.specs.declared.tree.Declaration.{Declaration}
use Rattle.c_tree.specs.declared.tree.Declaration.TheVariants as v_declaration
use Rattle.c_tree.specs.declared.tree.InitDeclarator.{InitDeclarator, out-InitDeclarator}
use Rattle.c_tree.specs.declared.tree.InitDeclarator.{out-roll-InitDeclarator}
use Rattle.c_tree.specs.declared.tree.Init.TheVariants as v_init
use Rattle.c_tree.specs.declared.tree.InitItem.{InitItem}
use Rattle.c_tree.specs.declared.tree.Designator.TheVariants as v_designator
use Rattle.c_tree.specs.declared.tree.Specs.{Specs}
use Rattle.c_tree.specs.declared.tree.Spec.TheVariants as v_spec
use Rattle.c_tree.specs.declared.tree.Enumerator.{Enumerator, out-Enumerator, out-roll-Enumerator}
use Rattle.c_tree.specs.declared.tree.Declarator.{Declarator, out-Declarator, out-roll-Declarator}
use Rattle.c_tree.specs.declared.tree.Pointer.{Pointer}
use Rattle.c_tree.specs.declared.tree.Core.TheVariants as v_core
use Rattle.c_tree.specs.declared.tree.Suffix.TheVariants as v_suffix
use Rattle.c_tree.specs.declared.tree.Param.{Param, out-Param, out-roll-Param}
use Rattle.c_tree.specs.declared.tree.TypeName.{TypeName, out-TypeName, out-roll-TypeName}
use Rattle.c_tree.specs.declared.tree.Expr.{Expr, out-Expr, out-roll-Expr}
use Rattle.c_tree.specs.declared.tree.Assign.{Assign, out-Assign, out-roll-Assign}
use Rattle.c_tree.specs.declared.tree.Cond.{Cond, out-Cond, out-roll-Cond}
use Rattle.c_tree.specs.declared.tree.Arm.{Arm, out-Arm, out-roll-Arm}
use Rattle.c_tree.specs.declared.tree.Binary.{Binary, out-Binary, out-roll-Binary}
use Rattle.c_tree.specs.declared.tree.Prefixed.{Prefixed}
use Rattle.c_tree.specs.declared.tree.Prefix.TheVariants as v_prefix
use Rattle.c_tree.specs.declared.tree.Base.{Base}
use Rattle.c_tree.specs.declared.tree.BaseForm.TheVariants as v_base_form
use Rattle.c_tree.specs.declared.tree.Post.TheVariants as v_post
use Rattle.c_tree.specs.declared.tree.Block.{Block}
use Rattle.c_tree.specs.declared.tree.BlockItem.TheVariants as v_block_item
use Rattle.c_tree.specs.declared.tree.Stmt.{Stmt}
use Rattle.c_tree.specs.declared.tree.Mark.TheVariants as v_label
use Rattle.c_tree.specs.declared.tree.StmtKind.TheVariants as v_stmt_kind
use Rattle.c_tree.specs.declared.tree.ForInit.{ForInit}
use Rattle.c_tree.specs.declared.tree.ForInit.TheVariants as v_for_init
use Rattle.c_tree.specs.declared.tree.BaseForm.TheOpen as o
use Rattle.c_tree.specs.declared.tree.BlockItem.TheOpen as s
use Rattle.c_tree.specs.Spell.{unit_spelling, item_spelling, declaration_spelling}
use Rattle.c_tree.specs.Spell.{init_declarator_spelling, init_spelling, init_item_spelling}
use Rattle.c_tree.specs.Spell.{designator_spelling, specs_spelling, spec_spelling}
use Rattle.c_tree.specs.Spell.{enumerator_spelling, declarator_spelling, pointer_spelling}
use Rattle.c_tree.specs.Spell.{core_spelling, suffix_spelling, param_spelling, type_name_spelling}
use Rattle.c_tree.specs.Spell.{expr_spelling, assign_spelling, cond_spelling, arm_spelling}
use Rattle.c_tree.specs.Spell.{binary_spelling, prefixed_spelling, prefix_spelling, base_spelling}
use Rattle.c_tree.specs.Spell.{base_form_spelling, post_spelling, block_spelling}
use Rattle.c_tree.specs.Spell.{block_item_spelling, stmt_spelling, label_spelling}
use Rattle.c_tree.specs.Spell.{stmt_kind_spelling, for_init_spelling, unit_level, item_level}
use Rattle.c_tree.specs.Spell.{declaration_level, init_declarator_level, init_level}
use Rattle.c_tree.specs.Spell.{init_item_level, designator_level, specs_level, spec_level}
use Rattle.c_tree.specs.Spell.{enumerator_level, declarator_level, pointer_level, core_level}
use Rattle.c_tree.specs.Spell.{suffix_level, param_level, type_name_level, expr_level, cond_level}
use Rattle.c_tree.specs.Spell.{arm_level, prefixed_level, prefix_level, base_level, base_form_level}
use Rattle.c_tree.specs.Spell.{post_level, block_level, block_item_level, stmt_level, label_level}
use Rattle.c_tree.specs.Spell.{stmt_kind_level, for_init_level, spelling_steps, stmt_spelling_steps}
use Rattle.c_tree.specs.Spell.{target_spelling, operand_spelling, joined, target_level}
use Rattle.c_tree.specs.Spell.{operand_level}
use Rattle.c_tree.proofs.Folds.{declaration_names_folds, declaration_assert_folds}
use Rattle.c_tree.proofs.Folds.{init_declarator_folds, init_value_folds, init_items_folds}
use Rattle.c_tree.proofs.Folds.{init_item_folds, designator_index_folds, designator_field_folds}
use Rattle.c_tree.proofs.Folds.{specs_folds, spec_storage_folds, spec_function_folds}
use Rattle.c_tree.proofs.Folds.{spec_qualifier_folds, spec_basic_folds, spec_named_folds}
use Rattle.c_tree.proofs.Folds.{spec_atomic_folds, spec_align_type_folds, spec_align_expr_folds}
use Rattle.c_tree.proofs.Folds.{spec_record_folds, spec_enumeration_folds, enumerator_folds}
use Rattle.c_tree.proofs.Folds.{declarator_folds, core_name_folds, core_group_folds}
use Rattle.c_tree.proofs.Folds.{core_empty_folds, suffix_array_folds, suffix_params_folds}
use Rattle.c_tree.proofs.Folds.{param_folds, type_name_folds, expr_folds, assign_folds, cond_folds}
use Rattle.c_tree.proofs.Folds.{arm_folds, binary_folds, prefixed_folds, prefix_op_folds}
use Rattle.c_tree.proofs.Folds.{prefix_cast_folds, base_folds, base_form_name_folds}
use Rattle.c_tree.proofs.Folds.{base_form_literal_folds, base_form_group_folds}
use Rattle.c_tree.proofs.Folds.{base_form_compound_folds, base_form_size_type_folds}
use Rattle.c_tree.proofs.Folds.{post_index_folds, post_call_folds, post_dot_folds, post_arrow_folds}
use Rattle.c_tree.proofs.Folds.{post_step_folds, block_folds, block_item_declare_folds}
use Rattle.c_tree.proofs.Folds.{block_item_do_folds, stmt_folds, stmt_kind_empty_folds}
use Rattle.c_tree.proofs.Folds.{stmt_kind_value_folds, stmt_kind_braced_folds, stmt_kind_if_folds}
use Rattle.c_tree.proofs.Folds.{stmt_kind_while_folds, stmt_kind_do_while_folds}
use Rattle.c_tree.proofs.Folds.{stmt_kind_for_folds, stmt_kind_switch_folds, stmt_kind_break_folds}
use Rattle.c_tree.proofs.Folds.{stmt_kind_continue_folds, stmt_kind_goto_folds}
use Rattle.c_tree.proofs.Folds.{stmt_kind_return_folds}

-- ---- Lists of pairs

targets_joined : (targets : List (Prefixed × ℕ)) →
    flat_map target_level (map (λ t. (prefixed_spelling t.0, t.1)) targets) ≡ joined (map target_spelling targets)
targets_joined targets =
    flat_map-map target_level (λ t. (prefixed_spelling t.0, t.1)) targets ∙
    sym (flat_map-map (λ part. part) target_spelling targets)

operands_joined : (operands : List (ℕ × Prefixed)) →
    flat_map operand_level (map (λ t. (t.0, prefixed_spelling t.1)) operands) ≡ joined (map operand_spelling operands)
operands_joined operands =
    flat_map-map operand_level (λ t. (t.0, prefixed_spelling t.1)) operands ∙
    sym (flat_map-map (λ part. part) operand_spelling operands)

-- ---- Expressions

pub base_form_name_spelling_lem : (token : ℕ) →
    base_form_spelling (v_base_form.Name token) ≡ base_form_level (o.BaseForm-F.BaseForm::Name token)
unfolding base_form_spelling core_spelling declaration_spelling designator_spelling init_spelling post_spelling prefix_spelling spec_spelling suffix_spelling arm_spelling assign_spelling base_spelling binary_spelling cond_spelling declarator_spelling enumerator_spelling expr_spelling init_declarator_spelling init_item_spelling param_spelling prefixed_spelling specs_spelling type_name_spelling
base_form_name_spelling_lem token = base_form_name_folds spelling_steps token

pub base_form_literal_spelling_lem : (tokens : List ℕ) →
    base_form_spelling (v_base_form.Literal tokens) ≡ base_form_level (o.BaseForm-F.Literal tokens)
unfolding base_form_spelling core_spelling declaration_spelling designator_spelling init_spelling post_spelling prefix_spelling spec_spelling suffix_spelling arm_spelling assign_spelling base_spelling binary_spelling cond_spelling declarator_spelling enumerator_spelling expr_spelling init_declarator_spelling init_item_spelling param_spelling prefixed_spelling specs_spelling type_name_spelling
base_form_literal_spelling_lem tokens = base_form_literal_folds spelling_steps tokens

pub base_form_group_spelling_lem : (expr : Expr) (marks : List ℕ) →
    base_form_spelling (v_base_form.Group expr marks) ≡ base_form_level (o.BaseForm-F.BaseForm::Group (expr_spelling expr) marks)
unfolding base_form_spelling core_spelling declaration_spelling designator_spelling init_spelling post_spelling prefix_spelling spec_spelling suffix_spelling arm_spelling assign_spelling base_spelling binary_spelling cond_spelling declarator_spelling enumerator_spelling expr_spelling init_declarator_spelling init_item_spelling param_spelling prefixed_spelling specs_spelling type_name_spelling
base_form_group_spelling_lem expr marks = base_form_group_folds spelling_steps expr marks

pub base_form_compound_spelling_lem : (type_name : TypeName) (items : List InitItem) (marks : List ℕ) →
    base_form_spelling (v_base_form.Compound type_name items marks) ≡ base_form_level (o.BaseForm-F.Compound (type_name_spelling type_name) (map init_item_spelling items) marks)
unfolding base_form_spelling core_spelling declaration_spelling designator_spelling init_spelling post_spelling prefix_spelling spec_spelling suffix_spelling arm_spelling assign_spelling base_spelling binary_spelling cond_spelling declarator_spelling enumerator_spelling expr_spelling init_declarator_spelling init_item_spelling param_spelling prefixed_spelling specs_spelling type_name_spelling
base_form_compound_spelling_lem type_name items marks = base_form_compound_folds spelling_steps type_name items marks

pub base_form_size_type_spelling_lem : (token : ℕ) (type_name : TypeName) (marks : List ℕ) →
    base_form_spelling (v_base_form.SizeType token type_name marks) ≡ base_form_level (o.BaseForm-F.SizeType token (type_name_spelling type_name) marks)
unfolding base_form_spelling core_spelling declaration_spelling designator_spelling init_spelling post_spelling prefix_spelling spec_spelling suffix_spelling arm_spelling assign_spelling base_spelling binary_spelling cond_spelling declarator_spelling enumerator_spelling expr_spelling init_declarator_spelling init_item_spelling param_spelling prefixed_spelling specs_spelling type_name_spelling
base_form_size_type_spelling_lem token type_name marks = base_form_size_type_folds spelling_steps token type_name marks

pub post_index_spelling_lem : (expr : Expr) (marks : List ℕ) →
    post_spelling (v_post.Index expr marks) ≡ post_level (o.Post-F.Post::Index (expr_spelling expr) marks)
unfolding base_form_spelling core_spelling declaration_spelling designator_spelling init_spelling post_spelling prefix_spelling spec_spelling suffix_spelling arm_spelling assign_spelling base_spelling binary_spelling cond_spelling declarator_spelling enumerator_spelling expr_spelling init_declarator_spelling init_item_spelling param_spelling prefixed_spelling specs_spelling type_name_spelling
post_index_spelling_lem expr marks = post_index_folds spelling_steps expr marks

pub post_call_spelling_lem : (items : List Assign) (marks : List ℕ) →
    post_spelling (v_post.Call items marks) ≡ post_level (o.Post-F.Call (map assign_spelling items) marks)
unfolding base_form_spelling core_spelling declaration_spelling designator_spelling init_spelling post_spelling prefix_spelling spec_spelling suffix_spelling arm_spelling assign_spelling base_spelling binary_spelling cond_spelling declarator_spelling enumerator_spelling expr_spelling init_declarator_spelling init_item_spelling param_spelling prefixed_spelling specs_spelling type_name_spelling
post_call_spelling_lem items marks = post_call_folds spelling_steps items marks

pub post_dot_spelling_lem : (token : ℕ) (marks : List ℕ) →
    post_spelling (v_post.Dot token marks) ≡ post_level (o.Post-F.Dot token marks)
unfolding base_form_spelling core_spelling declaration_spelling designator_spelling init_spelling post_spelling prefix_spelling spec_spelling suffix_spelling arm_spelling assign_spelling base_spelling binary_spelling cond_spelling declarator_spelling enumerator_spelling expr_spelling init_declarator_spelling init_item_spelling param_spelling prefixed_spelling specs_spelling type_name_spelling
post_dot_spelling_lem token marks = post_dot_folds spelling_steps token marks

pub post_arrow_spelling_lem : (token : ℕ) (marks : List ℕ) →
    post_spelling (v_post.Arrow token marks) ≡ post_level (o.Post-F.Arrow token marks)
unfolding base_form_spelling core_spelling declaration_spelling designator_spelling init_spelling post_spelling prefix_spelling spec_spelling suffix_spelling arm_spelling assign_spelling base_spelling binary_spelling cond_spelling declarator_spelling enumerator_spelling expr_spelling init_declarator_spelling init_item_spelling param_spelling prefixed_spelling specs_spelling type_name_spelling
post_arrow_spelling_lem token marks = post_arrow_folds spelling_steps token marks

pub post_step_spelling_lem : (token : ℕ) →
    post_spelling (v_post.Step token) ≡ post_level (o.Post-F.Step token)
unfolding base_form_spelling core_spelling declaration_spelling designator_spelling init_spelling post_spelling prefix_spelling spec_spelling suffix_spelling arm_spelling assign_spelling base_spelling binary_spelling cond_spelling declarator_spelling enumerator_spelling expr_spelling init_declarator_spelling init_item_spelling param_spelling prefixed_spelling specs_spelling type_name_spelling
post_step_spelling_lem token = post_step_folds spelling_steps token

pub prefix_op_spelling_lem : (token : ℕ) →
    prefix_spelling (v_prefix.Op token) ≡ prefix_level (o.Prefix-F.Op token)
unfolding base_form_spelling core_spelling declaration_spelling designator_spelling init_spelling post_spelling prefix_spelling spec_spelling suffix_spelling arm_spelling assign_spelling base_spelling binary_spelling cond_spelling declarator_spelling enumerator_spelling expr_spelling init_declarator_spelling init_item_spelling param_spelling prefixed_spelling specs_spelling type_name_spelling
prefix_op_spelling_lem token = prefix_op_folds spelling_steps token

pub prefix_cast_spelling_lem : (type_name : TypeName) (marks : List ℕ) →
    prefix_spelling (v_prefix.Cast type_name marks) ≡ prefix_level (o.Prefix-F.Cast (type_name_spelling type_name) marks)
unfolding base_form_spelling core_spelling declaration_spelling designator_spelling init_spelling post_spelling prefix_spelling spec_spelling suffix_spelling arm_spelling assign_spelling base_spelling binary_spelling cond_spelling declarator_spelling enumerator_spelling expr_spelling init_declarator_spelling init_item_spelling param_spelling prefixed_spelling specs_spelling type_name_spelling
prefix_cast_spelling_lem type_name marks = prefix_cast_folds spelling_steps type_name marks

pub arm_spelling_lem : (x : Arm) → arm_spelling x ≡ arm_level (record { test = binary_spelling (out-Arm x).test; then = expr_spelling (out-Arm x).then; marks = (out-Arm x).marks })
unfolding base_form_spelling core_spelling declaration_spelling designator_spelling init_spelling post_spelling prefix_spelling spec_spelling suffix_spelling arm_spelling assign_spelling base_spelling binary_spelling cond_spelling declarator_spelling enumerator_spelling expr_spelling init_declarator_spelling init_item_spelling param_spelling prefixed_spelling specs_spelling type_name_spelling
arm_spelling_lem x = arm_folds spelling_steps x

pub assign_spelling_lem : (x : Assign) →
    assign_spelling x ≡ joined (map target_spelling (out-Assign x).targets) ++ cond_spelling (out-Assign x).value
unfolding base_form_spelling core_spelling declaration_spelling designator_spelling init_spelling post_spelling prefix_spelling spec_spelling suffix_spelling arm_spelling assign_spelling base_spelling binary_spelling cond_spelling declarator_spelling enumerator_spelling expr_spelling init_declarator_spelling init_item_spelling param_spelling prefixed_spelling specs_spelling type_name_spelling
assign_spelling_lem x =
    assign_folds spelling_steps x ∙ ap (λ s. s ++ cond_spelling (out-Assign x).value) (targets_joined (out-Assign x).targets)

pub base_spelling_lem : (x : Base) → base_spelling x ≡ base_level (record { form = base_form_spelling x.form; suffixes = map post_spelling x.suffixes })
unfolding base_form_spelling core_spelling declaration_spelling designator_spelling init_spelling post_spelling prefix_spelling spec_spelling suffix_spelling arm_spelling assign_spelling base_spelling binary_spelling cond_spelling declarator_spelling enumerator_spelling expr_spelling init_declarator_spelling init_item_spelling param_spelling prefixed_spelling specs_spelling type_name_spelling
base_spelling_lem x = base_folds spelling_steps x

pub binary_spelling_lem : (x : Binary) →
    binary_spelling x ≡ prefixed_spelling (out-Binary x).first ++ joined (map operand_spelling (out-Binary x).rest)
unfolding base_form_spelling core_spelling declaration_spelling designator_spelling init_spelling post_spelling prefix_spelling spec_spelling suffix_spelling arm_spelling assign_spelling base_spelling binary_spelling cond_spelling declarator_spelling enumerator_spelling expr_spelling init_declarator_spelling init_item_spelling param_spelling prefixed_spelling specs_spelling type_name_spelling
binary_spelling_lem x =
    binary_folds spelling_steps x ∙ ap (λ s. prefixed_spelling (out-Binary x).first ++ s) (operands_joined (out-Binary x).rest)

pub cond_spelling_lem : (x : Cond) → cond_spelling x ≡ cond_level (record { arms = map arm_spelling (out-Cond x).arms; last = binary_spelling (out-Cond x).last })
unfolding base_form_spelling core_spelling declaration_spelling designator_spelling init_spelling post_spelling prefix_spelling spec_spelling suffix_spelling arm_spelling assign_spelling base_spelling binary_spelling cond_spelling declarator_spelling enumerator_spelling expr_spelling init_declarator_spelling init_item_spelling param_spelling prefixed_spelling specs_spelling type_name_spelling
cond_spelling_lem x = cond_folds spelling_steps x

pub expr_spelling_lem : (x : Expr) → expr_spelling x ≡ expr_level (record { parts = map assign_spelling (out-Expr x).parts; marks = (out-Expr x).marks })
unfolding base_form_spelling core_spelling declaration_spelling designator_spelling init_spelling post_spelling prefix_spelling spec_spelling suffix_spelling arm_spelling assign_spelling base_spelling binary_spelling cond_spelling declarator_spelling enumerator_spelling expr_spelling init_declarator_spelling init_item_spelling param_spelling prefixed_spelling specs_spelling type_name_spelling
expr_spelling_lem x = expr_folds spelling_steps x

pub prefixed_spelling_lem : (x : Prefixed) → prefixed_spelling x ≡ prefixed_level (record { prefixes = map prefix_spelling x.prefixes; base = base_spelling x.base })
unfolding base_form_spelling core_spelling declaration_spelling designator_spelling init_spelling post_spelling prefix_spelling spec_spelling suffix_spelling arm_spelling assign_spelling base_spelling binary_spelling cond_spelling declarator_spelling enumerator_spelling expr_spelling init_declarator_spelling init_item_spelling param_spelling prefixed_spelling specs_spelling type_name_spelling
prefixed_spelling_lem x = prefixed_folds spelling_steps x

-- ---- Declarations

pub declaration_names_spelling_lem : (specs : Specs) (list : List InitDeclarator) (marks : List ℕ) →
    declaration_spelling (v_declaration.Names specs list marks) ≡ declaration_level (o.Declaration-F.Names (specs_spelling specs) (map init_declarator_spelling list) marks)
unfolding base_form_spelling core_spelling declaration_spelling designator_spelling init_spelling post_spelling prefix_spelling spec_spelling suffix_spelling arm_spelling assign_spelling base_spelling binary_spelling cond_spelling declarator_spelling enumerator_spelling expr_spelling init_declarator_spelling init_item_spelling param_spelling prefixed_spelling specs_spelling type_name_spelling
declaration_names_spelling_lem specs list marks = declaration_names_folds spelling_steps specs list marks

pub declaration_assert_spelling_lem : (cond : Expr) (text : List ℕ) (marks : List ℕ) →
    declaration_spelling (v_declaration.Assert cond text marks) ≡ declaration_level (o.Declaration-F.Assert (expr_spelling cond) text marks)
unfolding base_form_spelling core_spelling declaration_spelling designator_spelling init_spelling post_spelling prefix_spelling spec_spelling suffix_spelling arm_spelling assign_spelling base_spelling binary_spelling cond_spelling declarator_spelling enumerator_spelling expr_spelling init_declarator_spelling init_item_spelling param_spelling prefixed_spelling specs_spelling type_name_spelling
declaration_assert_spelling_lem cond text marks = declaration_assert_folds spelling_steps cond text marks

pub init_declarator_spelling_lem : (x : InitDeclarator) → init_declarator_spelling x ≡ init_declarator_level (record { declarator = declarator_spelling (out-InitDeclarator x).declarator; init = option_map init_spelling (out-InitDeclarator x).init; marks = (out-InitDeclarator x).marks })
unfolding base_form_spelling core_spelling declaration_spelling designator_spelling init_spelling post_spelling prefix_spelling spec_spelling suffix_spelling arm_spelling assign_spelling base_spelling binary_spelling cond_spelling declarator_spelling enumerator_spelling expr_spelling init_declarator_spelling init_item_spelling param_spelling prefixed_spelling specs_spelling type_name_spelling
init_declarator_spelling_lem x = init_declarator_folds spelling_steps x

pub init_value_spelling_lem : (expr : Expr) →
    init_spelling (v_init.Value expr) ≡ init_level (o.Init-F.Value (expr_spelling expr))
unfolding base_form_spelling core_spelling declaration_spelling designator_spelling init_spelling post_spelling prefix_spelling spec_spelling suffix_spelling arm_spelling assign_spelling base_spelling binary_spelling cond_spelling declarator_spelling enumerator_spelling expr_spelling init_declarator_spelling init_item_spelling param_spelling prefixed_spelling specs_spelling type_name_spelling
init_value_spelling_lem expr = init_value_folds spelling_steps expr

pub init_items_spelling_lem : (items : List InitItem) (marks : List ℕ) →
    init_spelling (v_init.Items items marks) ≡ init_level (o.Init-F.Items (map init_item_spelling items) marks)
unfolding base_form_spelling core_spelling declaration_spelling designator_spelling init_spelling post_spelling prefix_spelling spec_spelling suffix_spelling arm_spelling assign_spelling base_spelling binary_spelling cond_spelling declarator_spelling enumerator_spelling expr_spelling init_declarator_spelling init_item_spelling param_spelling prefixed_spelling specs_spelling type_name_spelling
init_items_spelling_lem items marks = init_items_folds spelling_steps items marks

pub init_item_spelling_lem : (x : InitItem) → init_item_spelling x ≡ init_item_level (record { designators = map designator_spelling x.designators; init = init_spelling x.init; marks = x.marks })
unfolding base_form_spelling core_spelling declaration_spelling designator_spelling init_spelling post_spelling prefix_spelling spec_spelling suffix_spelling arm_spelling assign_spelling base_spelling binary_spelling cond_spelling declarator_spelling enumerator_spelling expr_spelling init_declarator_spelling init_item_spelling param_spelling prefixed_spelling specs_spelling type_name_spelling
init_item_spelling_lem x = init_item_folds spelling_steps x

pub designator_index_spelling_lem : (expr : Expr) (marks : List ℕ) →
    designator_spelling (v_designator.Index expr marks) ≡ designator_level (o.Designator-F.Designator::Index (expr_spelling expr) marks)
unfolding base_form_spelling core_spelling declaration_spelling designator_spelling init_spelling post_spelling prefix_spelling spec_spelling suffix_spelling arm_spelling assign_spelling base_spelling binary_spelling cond_spelling declarator_spelling enumerator_spelling expr_spelling init_declarator_spelling init_item_spelling param_spelling prefixed_spelling specs_spelling type_name_spelling
designator_index_spelling_lem expr marks = designator_index_folds spelling_steps expr marks

pub designator_field_spelling_lem : (token : ℕ) (marks : List ℕ) →
    designator_spelling (v_designator.Field token marks) ≡ designator_level (o.Designator-F.Field token marks)
unfolding base_form_spelling core_spelling declaration_spelling designator_spelling init_spelling post_spelling prefix_spelling spec_spelling suffix_spelling arm_spelling assign_spelling base_spelling binary_spelling cond_spelling declarator_spelling enumerator_spelling expr_spelling init_declarator_spelling init_item_spelling param_spelling prefixed_spelling specs_spelling type_name_spelling
designator_field_spelling_lem token marks = designator_field_folds spelling_steps token marks

pub specs_spelling_lem : (x : Specs) → specs_spelling x ≡ specs_level (record { words = map spec_spelling x.words })
unfolding base_form_spelling core_spelling declaration_spelling designator_spelling init_spelling post_spelling prefix_spelling spec_spelling suffix_spelling arm_spelling assign_spelling base_spelling binary_spelling cond_spelling declarator_spelling enumerator_spelling expr_spelling init_declarator_spelling init_item_spelling param_spelling prefixed_spelling specs_spelling type_name_spelling
specs_spelling_lem x = specs_folds spelling_steps x

pub spec_storage_spelling_lem : (token : ℕ) →
    spec_spelling (v_spec.Storage token) ≡ spec_level (o.Spec-F.Storage token)
unfolding base_form_spelling core_spelling declaration_spelling designator_spelling init_spelling post_spelling prefix_spelling spec_spelling suffix_spelling arm_spelling assign_spelling base_spelling binary_spelling cond_spelling declarator_spelling enumerator_spelling expr_spelling init_declarator_spelling init_item_spelling param_spelling prefixed_spelling specs_spelling type_name_spelling
spec_storage_spelling_lem token = spec_storage_folds spelling_steps token

pub spec_function_spelling_lem : (token : ℕ) →
    spec_spelling (v_spec.Function token) ≡ spec_level (o.Spec-F.Function token)
unfolding base_form_spelling core_spelling declaration_spelling designator_spelling init_spelling post_spelling prefix_spelling spec_spelling suffix_spelling arm_spelling assign_spelling base_spelling binary_spelling cond_spelling declarator_spelling enumerator_spelling expr_spelling init_declarator_spelling init_item_spelling param_spelling prefixed_spelling specs_spelling type_name_spelling
spec_function_spelling_lem token = spec_function_folds spelling_steps token

pub spec_qualifier_spelling_lem : (token : ℕ) →
    spec_spelling (v_spec.Qualifier token) ≡ spec_level (o.Spec-F.Qualifier token)
unfolding base_form_spelling core_spelling declaration_spelling designator_spelling init_spelling post_spelling prefix_spelling spec_spelling suffix_spelling arm_spelling assign_spelling base_spelling binary_spelling cond_spelling declarator_spelling enumerator_spelling expr_spelling init_declarator_spelling init_item_spelling param_spelling prefixed_spelling specs_spelling type_name_spelling
spec_qualifier_spelling_lem token = spec_qualifier_folds spelling_steps token

pub spec_basic_spelling_lem : (token : ℕ) →
    spec_spelling (v_spec.Basic token) ≡ spec_level (o.Spec-F.Basic token)
unfolding base_form_spelling core_spelling declaration_spelling designator_spelling init_spelling post_spelling prefix_spelling spec_spelling suffix_spelling arm_spelling assign_spelling base_spelling binary_spelling cond_spelling declarator_spelling enumerator_spelling expr_spelling init_declarator_spelling init_item_spelling param_spelling prefixed_spelling specs_spelling type_name_spelling
spec_basic_spelling_lem token = spec_basic_folds spelling_steps token

pub spec_named_spelling_lem : (token : ℕ) →
    spec_spelling (v_spec.Named token) ≡ spec_level (o.Spec-F.Named token)
unfolding base_form_spelling core_spelling declaration_spelling designator_spelling init_spelling post_spelling prefix_spelling spec_spelling suffix_spelling arm_spelling assign_spelling base_spelling binary_spelling cond_spelling declarator_spelling enumerator_spelling expr_spelling init_declarator_spelling init_item_spelling param_spelling prefixed_spelling specs_spelling type_name_spelling
spec_named_spelling_lem token = spec_named_folds spelling_steps token

pub spec_atomic_spelling_lem : (type_name : TypeName) (marks : List ℕ) →
    spec_spelling (v_spec.Atomic type_name marks) ≡ spec_level (o.Spec-F.Atomic (type_name_spelling type_name) marks)
unfolding base_form_spelling core_spelling declaration_spelling designator_spelling init_spelling post_spelling prefix_spelling spec_spelling suffix_spelling arm_spelling assign_spelling base_spelling binary_spelling cond_spelling declarator_spelling enumerator_spelling expr_spelling init_declarator_spelling init_item_spelling param_spelling prefixed_spelling specs_spelling type_name_spelling
spec_atomic_spelling_lem type_name marks = spec_atomic_folds spelling_steps type_name marks

pub spec_align_type_spelling_lem : (type_name : TypeName) (marks : List ℕ) →
    spec_spelling (v_spec.AlignType type_name marks) ≡ spec_level (o.Spec-F.AlignType (type_name_spelling type_name) marks)
unfolding base_form_spelling core_spelling declaration_spelling designator_spelling init_spelling post_spelling prefix_spelling spec_spelling suffix_spelling arm_spelling assign_spelling base_spelling binary_spelling cond_spelling declarator_spelling enumerator_spelling expr_spelling init_declarator_spelling init_item_spelling param_spelling prefixed_spelling specs_spelling type_name_spelling
spec_align_type_spelling_lem type_name marks = spec_align_type_folds spelling_steps type_name marks

pub spec_align_expr_spelling_lem : (expr : Expr) (marks : List ℕ) →
    spec_spelling (v_spec.AlignExpr expr marks) ≡ spec_level (o.Spec-F.AlignExpr (expr_spelling expr) marks)
unfolding base_form_spelling core_spelling declaration_spelling designator_spelling init_spelling post_spelling prefix_spelling spec_spelling suffix_spelling arm_spelling assign_spelling base_spelling binary_spelling cond_spelling declarator_spelling enumerator_spelling expr_spelling init_declarator_spelling init_item_spelling param_spelling prefixed_spelling specs_spelling type_name_spelling
spec_align_expr_spelling_lem expr marks = spec_align_expr_folds spelling_steps expr marks

pub spec_record_spelling_lem : (key : ℕ) (tag : Option ℕ) (body : Option (List Declaration)) (marks : List ℕ) →
    spec_spelling (v_spec.Record key tag body marks) ≡ spec_level (o.Spec-F.Record key tag (option_map (λ l. map declaration_spelling l) body) marks)
unfolding base_form_spelling core_spelling declaration_spelling designator_spelling init_spelling post_spelling prefix_spelling spec_spelling suffix_spelling arm_spelling assign_spelling base_spelling binary_spelling cond_spelling declarator_spelling enumerator_spelling expr_spelling init_declarator_spelling init_item_spelling param_spelling prefixed_spelling specs_spelling type_name_spelling
spec_record_spelling_lem key tag body marks = spec_record_folds spelling_steps key tag body marks

pub spec_enumeration_spelling_lem : (key : ℕ) (tag : Option ℕ) (body : Option (List Enumerator)) (marks : List ℕ) →
    spec_spelling (v_spec.Enumeration key tag body marks) ≡ spec_level (o.Spec-F.Enumeration key tag (option_map (λ l. map enumerator_spelling l) body) marks)
unfolding base_form_spelling core_spelling declaration_spelling designator_spelling init_spelling post_spelling prefix_spelling spec_spelling suffix_spelling arm_spelling assign_spelling base_spelling binary_spelling cond_spelling declarator_spelling enumerator_spelling expr_spelling init_declarator_spelling init_item_spelling param_spelling prefixed_spelling specs_spelling type_name_spelling
spec_enumeration_spelling_lem key tag body marks = spec_enumeration_folds spelling_steps key tag body marks

pub enumerator_spelling_lem : (x : Enumerator) → enumerator_spelling x ≡ enumerator_level (record { name = (out-Enumerator x).name; value = option_map expr_spelling (out-Enumerator x).value; marks = (out-Enumerator x).marks })
unfolding base_form_spelling core_spelling declaration_spelling designator_spelling init_spelling post_spelling prefix_spelling spec_spelling suffix_spelling arm_spelling assign_spelling base_spelling binary_spelling cond_spelling declarator_spelling enumerator_spelling expr_spelling init_declarator_spelling init_item_spelling param_spelling prefixed_spelling specs_spelling type_name_spelling
enumerator_spelling_lem x = enumerator_folds spelling_steps x

pub declarator_spelling_lem : (x : Declarator) → declarator_spelling x ≡ declarator_level (record { pointers = (out-Declarator x).pointers; core = core_spelling (out-Declarator x).core; suffixes = map suffix_spelling (out-Declarator x).suffixes; width = option_map expr_spelling (out-Declarator x).width; marks = (out-Declarator x).marks })
unfolding base_form_spelling core_spelling declaration_spelling designator_spelling init_spelling post_spelling prefix_spelling spec_spelling suffix_spelling arm_spelling assign_spelling base_spelling binary_spelling cond_spelling declarator_spelling enumerator_spelling expr_spelling init_declarator_spelling init_item_spelling param_spelling prefixed_spelling specs_spelling type_name_spelling
declarator_spelling_lem x = declarator_folds spelling_steps x

pub pointer_spelling_lem : (x : Pointer) → pointer_spelling x ≡ pointer_level x
unfolding pointer_spelling
pointer_spelling_lem x = refl

pub core_name_spelling_lem : (token : ℕ) →
    core_spelling (v_core.Name token) ≡ core_level (o.Core-F.Core::Name token)
unfolding base_form_spelling core_spelling declaration_spelling designator_spelling init_spelling post_spelling prefix_spelling spec_spelling suffix_spelling arm_spelling assign_spelling base_spelling binary_spelling cond_spelling declarator_spelling enumerator_spelling expr_spelling init_declarator_spelling init_item_spelling param_spelling prefixed_spelling specs_spelling type_name_spelling
core_name_spelling_lem token = core_name_folds spelling_steps token

pub core_group_spelling_lem : (declarator : Declarator) (marks : List ℕ) →
    core_spelling (v_core.Group declarator marks) ≡ core_level (o.Core-F.Core::Group (declarator_spelling declarator) marks)
unfolding base_form_spelling core_spelling declaration_spelling designator_spelling init_spelling post_spelling prefix_spelling spec_spelling suffix_spelling arm_spelling assign_spelling base_spelling binary_spelling cond_spelling declarator_spelling enumerator_spelling expr_spelling init_declarator_spelling init_item_spelling param_spelling prefixed_spelling specs_spelling type_name_spelling
core_group_spelling_lem declarator marks = core_group_folds spelling_steps declarator marks

pub core_empty_spelling_lem :
    core_spelling v_core.Empty ≡ core_level o.Core-F.Empty
unfolding base_form_spelling core_spelling declaration_spelling designator_spelling init_spelling post_spelling prefix_spelling spec_spelling suffix_spelling arm_spelling assign_spelling base_spelling binary_spelling cond_spelling declarator_spelling enumerator_spelling expr_spelling init_declarator_spelling init_item_spelling param_spelling prefixed_spelling specs_spelling type_name_spelling
core_empty_spelling_lem = core_empty_folds spelling_steps

pub suffix_array_spelling_lem : (words : List ℕ) (size : Option Expr) (star : Option ℕ) (marks : List ℕ) →
    suffix_spelling (v_suffix.Array words size star marks) ≡ suffix_level (o.Suffix-F.Array words (option_map expr_spelling size) star marks)
unfolding base_form_spelling core_spelling declaration_spelling designator_spelling init_spelling post_spelling prefix_spelling spec_spelling suffix_spelling arm_spelling assign_spelling base_spelling binary_spelling cond_spelling declarator_spelling enumerator_spelling expr_spelling init_declarator_spelling init_item_spelling param_spelling prefixed_spelling specs_spelling type_name_spelling
suffix_array_spelling_lem words size star marks = suffix_array_folds spelling_steps words size star marks

pub suffix_params_spelling_lem : (list : List Param) (dots : Option ℕ) (marks : List ℕ) →
    suffix_spelling (v_suffix.Params list dots marks) ≡ suffix_level (o.Suffix-F.Params (map param_spelling list) dots marks)
unfolding base_form_spelling core_spelling declaration_spelling designator_spelling init_spelling post_spelling prefix_spelling spec_spelling suffix_spelling arm_spelling assign_spelling base_spelling binary_spelling cond_spelling declarator_spelling enumerator_spelling expr_spelling init_declarator_spelling init_item_spelling param_spelling prefixed_spelling specs_spelling type_name_spelling
suffix_params_spelling_lem list dots marks = suffix_params_folds spelling_steps list dots marks

pub param_spelling_lem : (x : Param) → param_spelling x ≡ param_level (record { specs = specs_spelling (out-Param x).specs; declarator = declarator_spelling (out-Param x).declarator })
unfolding base_form_spelling core_spelling declaration_spelling designator_spelling init_spelling post_spelling prefix_spelling spec_spelling suffix_spelling arm_spelling assign_spelling base_spelling binary_spelling cond_spelling declarator_spelling enumerator_spelling expr_spelling init_declarator_spelling init_item_spelling param_spelling prefixed_spelling specs_spelling type_name_spelling
param_spelling_lem x = param_folds spelling_steps x

pub type_name_spelling_lem : (x : TypeName) → type_name_spelling x ≡ type_name_level (record { specs = specs_spelling (out-TypeName x).specs; declarator = declarator_spelling (out-TypeName x).declarator })
unfolding base_form_spelling core_spelling declaration_spelling designator_spelling init_spelling post_spelling prefix_spelling spec_spelling suffix_spelling arm_spelling assign_spelling base_spelling binary_spelling cond_spelling declarator_spelling enumerator_spelling expr_spelling init_declarator_spelling init_item_spelling param_spelling prefixed_spelling specs_spelling type_name_spelling
type_name_spelling_lem x = type_name_folds spelling_steps x

-- ---- Statements

pub label_label_spelling_lem : (token : ℕ) (marks : List ℕ) →
    label_spelling (v_label.Label token marks) ≡ label_level (v_label.Label token marks)
unfolding label_spelling
label_label_spelling_lem token marks = refl

pub label_case_spelling_lem : (expr : Expr) (marks : List ℕ) →
    label_spelling (v_label.Case expr marks) ≡ label_level (v_label.Case expr marks)
unfolding label_spelling
label_case_spelling_lem expr marks = refl

pub label_default_spelling_lem : (token : ℕ) (marks : List ℕ) →
    label_spelling (v_label.Default token marks) ≡ label_level (v_label.Default token marks)
unfolding label_spelling
label_default_spelling_lem token marks = refl

pub for_init_nothing_spelling_lem : (marks : List ℕ) →
    for_init_spelling (v_for_init.Nothing marks) ≡ for_init_level (v_for_init.Nothing marks)
unfolding for_init_spelling
for_init_nothing_spelling_lem marks = refl

pub for_init_value_spelling_lem : (expr : Expr) (marks : List ℕ) →
    for_init_spelling (v_for_init.Value expr marks) ≡ for_init_level (v_for_init.Value expr marks)
unfolding for_init_spelling
for_init_value_spelling_lem expr marks = refl

pub for_init_declare_spelling_lem : (declaration : Declaration) →
    for_init_spelling (v_for_init.Declare declaration) ≡ for_init_level (v_for_init.Declare declaration)
unfolding for_init_spelling
for_init_declare_spelling_lem declaration = refl

pub stmt_kind_empty_spelling_lem : (marks : List ℕ) →
    stmt_kind_spelling (v_stmt_kind.Empty marks) ≡ stmt_kind_level (s.StmtKind-F.Empty marks)
unfolding block_item_spelling stmt_kind_spelling block_spelling stmt_spelling
stmt_kind_empty_spelling_lem marks = stmt_kind_empty_folds stmt_spelling_steps marks

pub stmt_kind_value_spelling_lem : (expr : Expr) (marks : List ℕ) →
    stmt_kind_spelling (v_stmt_kind.Value expr marks) ≡ stmt_kind_level (s.StmtKind-F.Value expr marks)
unfolding block_item_spelling stmt_kind_spelling block_spelling stmt_spelling
stmt_kind_value_spelling_lem expr marks = stmt_kind_value_folds stmt_spelling_steps expr marks

pub stmt_kind_braced_spelling_lem : (block : Block) →
    stmt_kind_spelling (v_stmt_kind.Braced block) ≡ stmt_kind_level (s.StmtKind-F.Braced (block_spelling block))
unfolding block_item_spelling stmt_kind_spelling block_spelling stmt_spelling
stmt_kind_braced_spelling_lem block = stmt_kind_braced_folds stmt_spelling_steps block

pub stmt_kind_if_spelling_lem : (arms : List (Expr × Stmt)) (other : Option Stmt) (marks : List ℕ) →
    stmt_kind_spelling (v_stmt_kind.If arms other marks) ≡ stmt_kind_level (s.StmtKind-F.If (map (λ t. (t.0, stmt_spelling t.1)) arms) (option_map stmt_spelling other) marks)
unfolding block_item_spelling stmt_kind_spelling block_spelling stmt_spelling
stmt_kind_if_spelling_lem arms other marks = stmt_kind_if_folds stmt_spelling_steps arms other marks

pub stmt_kind_while_spelling_lem : (expr : Expr) (body : Stmt) (marks : List ℕ) →
    stmt_kind_spelling (v_stmt_kind.While expr body marks) ≡ stmt_kind_level (s.StmtKind-F.While expr (stmt_spelling body) marks)
unfolding block_item_spelling stmt_kind_spelling block_spelling stmt_spelling
stmt_kind_while_spelling_lem expr body marks = stmt_kind_while_folds stmt_spelling_steps expr body marks

pub stmt_kind_do_while_spelling_lem : (body : Stmt) (expr : Expr) (marks : List ℕ) →
    stmt_kind_spelling (v_stmt_kind.DoWhile body expr marks) ≡ stmt_kind_level (s.StmtKind-F.DoWhile (stmt_spelling body) expr marks)
unfolding block_item_spelling stmt_kind_spelling block_spelling stmt_spelling
stmt_kind_do_while_spelling_lem body expr marks = stmt_kind_do_while_folds stmt_spelling_steps body expr marks

pub stmt_kind_for_spelling_lem : (init : ForInit) (cond : Option Expr) (step : Option Expr) (body : Stmt) (marks : List ℕ) →
    stmt_kind_spelling (v_stmt_kind.For init cond step body marks) ≡ stmt_kind_level (s.StmtKind-F.For init cond step (stmt_spelling body) marks)
unfolding block_item_spelling stmt_kind_spelling block_spelling stmt_spelling
stmt_kind_for_spelling_lem init cond step body marks = stmt_kind_for_folds stmt_spelling_steps init cond step body marks

pub stmt_kind_switch_spelling_lem : (expr : Expr) (body : Stmt) (marks : List ℕ) →
    stmt_kind_spelling (v_stmt_kind.Switch expr body marks) ≡ stmt_kind_level (s.StmtKind-F.Switch expr (stmt_spelling body) marks)
unfolding block_item_spelling stmt_kind_spelling block_spelling stmt_spelling
stmt_kind_switch_spelling_lem expr body marks = stmt_kind_switch_folds stmt_spelling_steps expr body marks

pub stmt_kind_break_spelling_lem : (marks : List ℕ) →
    stmt_kind_spelling (v_stmt_kind.Break marks) ≡ stmt_kind_level (s.StmtKind-F.Break marks)
unfolding block_item_spelling stmt_kind_spelling block_spelling stmt_spelling
stmt_kind_break_spelling_lem marks = stmt_kind_break_folds stmt_spelling_steps marks

pub stmt_kind_continue_spelling_lem : (marks : List ℕ) →
    stmt_kind_spelling (v_stmt_kind.Continue marks) ≡ stmt_kind_level (s.StmtKind-F.Continue marks)
unfolding block_item_spelling stmt_kind_spelling block_spelling stmt_spelling
stmt_kind_continue_spelling_lem marks = stmt_kind_continue_folds stmt_spelling_steps marks

pub stmt_kind_goto_spelling_lem : (token : ℕ) (marks : List ℕ) →
    stmt_kind_spelling (v_stmt_kind.Goto token marks) ≡ stmt_kind_level (s.StmtKind-F.Goto token marks)
unfolding block_item_spelling stmt_kind_spelling block_spelling stmt_spelling
stmt_kind_goto_spelling_lem token marks = stmt_kind_goto_folds stmt_spelling_steps token marks

pub stmt_kind_return_spelling_lem : (expr : Option Expr) (marks : List ℕ) →
    stmt_kind_spelling (v_stmt_kind.Return expr marks) ≡ stmt_kind_level (s.StmtKind-F.Return expr marks)
unfolding block_item_spelling stmt_kind_spelling block_spelling stmt_spelling
stmt_kind_return_spelling_lem expr marks = stmt_kind_return_folds stmt_spelling_steps expr marks

pub stmt_spelling_lem : (x : Stmt) → stmt_spelling x ≡ stmt_level (record { labels = x.labels; kind = stmt_kind_spelling x.kind })
unfolding block_item_spelling stmt_kind_spelling block_spelling stmt_spelling
stmt_spelling_lem x = stmt_folds stmt_spelling_steps x

pub block_item_declare_spelling_lem : (declaration : Declaration) →
    block_item_spelling (v_block_item.Declare declaration) ≡ block_item_level (s.BlockItem-F.Declare declaration)
unfolding block_item_spelling stmt_kind_spelling block_spelling stmt_spelling
block_item_declare_spelling_lem declaration = block_item_declare_folds stmt_spelling_steps declaration

pub block_item_do_spelling_lem : (body : Stmt) →
    block_item_spelling (v_block_item.Do body) ≡ block_item_level (s.BlockItem-F.Do (stmt_spelling body))
unfolding block_item_spelling stmt_kind_spelling block_spelling stmt_spelling
block_item_do_spelling_lem body = block_item_do_folds stmt_spelling_steps body

pub block_spelling_lem : (x : Block) → block_spelling x ≡ block_level (record { items = map block_item_spelling x.items; marks = x.marks })
unfolding block_item_spelling stmt_kind_spelling block_spelling stmt_spelling
block_spelling_lem x = block_folds stmt_spelling_steps x

pub item_define_spelling_lem : (specs : Specs) (declarator : Declarator) (body : Block) →
    item_spelling (v_item.Define specs declarator body) ≡ item_level (v_item.Define specs declarator body)
unfolding item_spelling
item_define_spelling_lem specs declarator body = refl

pub item_declare_spelling_lem : (declaration : Declaration) →
    item_spelling (v_item.Declare declaration) ≡ item_level (v_item.Declare declaration)
unfolding item_spelling
item_declare_spelling_lem declaration = refl

pub unit_spelling_lem : (x : Unit) → unit_spelling x ≡ unit_level x
unfolding unit_spelling
unit_spelling_lem x = refl

pub ruleset expression_laws = (
  base_form_name_spelling_lem,
  base_form_literal_spelling_lem,
  base_form_group_spelling_lem,
  base_form_compound_spelling_lem,
  base_form_size_type_spelling_lem,
  post_index_spelling_lem,
  post_call_spelling_lem,
  post_dot_spelling_lem,
  post_arrow_spelling_lem,
  post_step_spelling_lem,
  prefix_op_spelling_lem,
  prefix_cast_spelling_lem,
  arm_spelling_lem,
  assign_spelling_lem,
  base_spelling_lem,
  binary_spelling_lem,
  cond_spelling_lem,
  expr_spelling_lem,
  prefixed_spelling_lem,
)

pub ruleset declaration_laws = (
  declaration_names_spelling_lem,
  declaration_assert_spelling_lem,
  init_declarator_spelling_lem,
  init_value_spelling_lem,
  init_items_spelling_lem,
  init_item_spelling_lem,
  designator_index_spelling_lem,
  designator_field_spelling_lem,
  specs_spelling_lem,
  spec_storage_spelling_lem,
  spec_function_spelling_lem,
  spec_qualifier_spelling_lem,
  spec_basic_spelling_lem,
  spec_named_spelling_lem,
  spec_atomic_spelling_lem,
  spec_align_type_spelling_lem,
  spec_align_expr_spelling_lem,
  spec_record_spelling_lem,
  spec_enumeration_spelling_lem,
  enumerator_spelling_lem,
  declarator_spelling_lem,
  pointer_spelling_lem,
  core_name_spelling_lem,
  core_group_spelling_lem,
  core_empty_spelling_lem,
  suffix_array_spelling_lem,
  suffix_params_spelling_lem,
  param_spelling_lem,
  type_name_spelling_lem,
)

pub ruleset statement_laws = (
  label_label_spelling_lem,
  label_case_spelling_lem,
  label_default_spelling_lem,
  for_init_nothing_spelling_lem,
  for_init_value_spelling_lem,
  for_init_declare_spelling_lem,
  stmt_kind_empty_spelling_lem,
  stmt_kind_value_spelling_lem,
  stmt_kind_braced_spelling_lem,
  stmt_kind_if_spelling_lem,
  stmt_kind_while_spelling_lem,
  stmt_kind_do_while_spelling_lem,
  stmt_kind_for_spelling_lem,
  stmt_kind_switch_spelling_lem,
  stmt_kind_break_spelling_lem,
  stmt_kind_continue_spelling_lem,
  stmt_kind_goto_spelling_lem,
  stmt_kind_return_spelling_lem,
  stmt_spelling_lem,
  block_item_declare_spelling_lem,
  block_item_do_spelling_lem,
  block_spelling_lem,
  item_define_spelling_lem,
  item_declare_spelling_lem,
  unit_spelling_lem,
)

-- What is made of fields is opened into them.
pub ruleset openings = (
  out-roll-InitDeclarator,
  out-roll-Enumerator,
  out-roll-Declarator,
  out-roll-Param,
  out-roll-TypeName,
  out-roll-Expr,
  out-roll-Assign,
  out-roll-Cond,
  out-roll-Arm,
  out-roll-Binary,
)

-- All of them, with what joins their sides.
pub ruleset spelling_laws = (
  append_assoc,
  append-nil,
  flat_map-map,
  openings,
  expression_laws,
  declaration_laws,
  statement_laws,
)
