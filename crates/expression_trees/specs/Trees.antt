-- What is said of the tokens of a text by the parts of expressions.

use Rattle.std.specs.Prelude.{ℕ, List, [], ◌∷◌, Option}
use Rattle.c_lexer.specs.declared.token.Kind.{Kind}
use Rattle.c_tree.specs.declared.tree.TypeName.{TypeName}
use Rattle.c_tree.specs.declared.tree.Spec.{Spec}
use Rattle.c_tree.specs.declared.tree.Pointer.{Pointer}
use Rattle.c_tree.specs.declared.tree.InitItem.{InitItem}
use Rattle.c_tree.specs.declared.tree.Expr.{Expr}
use Rattle.c_tree.specs.declared.tree.Assign.{Assign}
use Rattle.c_tree.specs.declared.tree.Arm.{Arm}
use Rattle.c_tree.specs.declared.tree.Binary.{Binary}
use Rattle.c_tree.specs.declared.tree.Prefixed.{Prefixed}
use Rattle.c_tree.specs.declared.tree.Prefix.{Prefix}
use Rattle.c_tree.specs.declared.tree.BaseForm.{BaseForm}
use Rattle.c_tree.specs.declared.tree.Post.{Post}
use Rattle.c_tree.specs.Folds.{Steps, expr_fold, assign_fold, arm_fold, binary_fold, prefixed_fold}
use Rattle.c_tree.specs.Folds.{prefix_fold, base_form_fold, post_fold, type_name_fold, spec_fold}
use Rattle.c_tree.specs.Folds.{init_item_fold}
use Rattle.c_tree.specs.Spell.{expr_spelling, assign_spelling, arm_spelling, binary_spelling}
use Rattle.c_tree.specs.Spell.{prefixed_spelling, prefix_spelling, base_form_spelling}
use Rattle.c_tree.specs.Spell.{post_spelling, type_name_spelling, spec_spelling}
use Rattle.c_tree.specs.Spell.{pointer_spelling, init_item_spelling, target_spelling}
use Rattle.c_tree.specs.Spell.{operand_spelling}
use Rattle.c_tree.specs.TreeEvents.{Met, tree_steps}
use Rattle.expression_trees.specs.Saying.{Said}

module _ (kind_of : ℕ → Option Kind) (bytes_of : ℕ → List ℕ) where
  abbrev pub steps_of : Steps Met
  steps_of = tree_steps kind_of bytes_of

  abbrev pub of_expr : Expr → Said
  of_expr x = record { symbols = expr_spelling x; events = (expr_fold steps_of x).events }

  abbrev pub of_assign : Assign → Said
  of_assign x = record { symbols = assign_spelling x; events = (assign_fold steps_of x).events }

  abbrev pub of_arm : Arm → Said
  of_arm x = record { symbols = arm_spelling x; events = (arm_fold steps_of x).events }

  abbrev pub of_binary : Binary → Said
  of_binary x = record { symbols = binary_spelling x; events = (binary_fold steps_of x).events }

  abbrev pub of_prefixed : Prefixed → Said
  of_prefixed x =
      record { symbols = prefixed_spelling x; events = (prefixed_fold steps_of x).events }

  -- An operand and the assignment operator behind it.
  abbrev pub of_target : Prefixed × ℕ → Said
  of_target x = record { symbols = target_spelling x; events = (prefixed_fold steps_of x.0).events }

  -- A binary operator and the operand behind it.
  abbrev pub of_operand : ℕ × Prefixed → Said
  of_operand x =
      record { symbols = operand_spelling x; events = (prefixed_fold steps_of x.1).events }

  abbrev pub of_prefix : Prefix → Said
  of_prefix x = record { symbols = prefix_spelling x; events = (prefix_fold steps_of x).events }

  abbrev pub of_base_form : BaseForm → Said
  of_base_form x =
      record { symbols = base_form_spelling x; events = (base_form_fold steps_of x).events }

  abbrev pub of_post : Post → Said
  of_post x = record { symbols = post_spelling x; events = (post_fold steps_of x).events }

  abbrev pub of_type_name : TypeName → Said
  of_type_name x =
      record { symbols = type_name_spelling x; events = (type_name_fold steps_of x).events }

  abbrev pub of_item : InitItem → Said
  of_item x =
      record { symbols = init_item_spelling x; events = (init_item_fold steps_of x).events }

  abbrev pub of_spec : Spec → Said
  of_spec x = record { symbols = spec_spelling x; events = (spec_fold steps_of x).events }

  abbrev pub of_pointer : Pointer → Said
  of_pointer x = record { symbols = pointer_spelling x; events = [] }
