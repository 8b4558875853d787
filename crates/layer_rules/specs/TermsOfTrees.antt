-- The term of each expression of a tree, and what the other parts of declarations have (C11 6.5,
-- 6.7).
use Rattle.std.specs.Prelude.{ℕ, List, [], ◌∷◌, Option, Some, None, map, slice_get, drop}
use Rattle.c_tree.specs.declared.tree.Declaration.{Declaration}
use Rattle.c_tree.specs.declared.tree.Declarator.{Declarator}
use Rattle.c_tree.specs.declared.tree.Specs.{Specs}
use Rattle.c_tree.specs.declared.tree.Expr.{Expr}
use Rattle.c_tree.specs.declared.tree.BaseForm.TheOpen as o
use Rattle.c_tree.specs.Folds.{Steps, BaseFormLevel, PostLevel, PrefixLevel, ArmLevel, AssignLevel}
use Rattle.c_tree.specs.Folds.{BaseLevel, BinaryLevel, CondLevel, ExprLevel, PrefixedLevel}
use Rattle.c_tree.specs.Folds.{declaration_fold, declarator_fold, specs_fold, expr_fold}
use Rattle.layer_rules.specs.Files.{File}
use Rattle.layer_rules.specs.Terms.{NamedType, Term, Name, Literal, Parens, Subscript, Call, Dot}
use Rattle.layer_rules.specs.Terms.{Arrow, Postfix, CompoundLiteral, Prefix, SizeOfType, Cast}
use Rattle.layer_rules.specs.Terms.{Infix, Conditional, Comma, Initialisers}
use Rattle.layer_rules.specs.Grouping.{grouped_binary}
use Rattle.layer_rules.specs.Meanings.{Meaning, nothing, meant, applied}
use Rattle.layer_rules.specs.Specifiers.{spec_meaning, specs_meaning, enumerator_meaning}
use Rattle.layer_rules.specs.Specifiers.{type_name_meaning}
use Rattle.layer_rules.specs.Declarators.{core_meaning, suffix_meaning, declarator_meaning}
use Rattle.layer_rules.specs.Declarators.{param_meaning}
use Rattle.layer_rules.specs.Declarations.{terms_of, init_meaning, init_item_meaning}
use Rattle.layer_rules.specs.Declarations.{init_declarator_meaning, declaration_meaning}

-- The type of a type name. Ours: no other part has one.
abbrev pub type_of : Option NamedType → NamedType
type_of None = record { first = None; text = []; bodies = [] }
type_of (Some type) = type

-- ---- Operands (6.5.1 to 6.5.4)

abbrev pub base_form_meaning : BaseFormLevel Meaning → Meaning
base_form_meaning (o.BaseForm-F.BaseForm::Name token) = meant (Name token)
base_form_meaning (o.BaseForm-F.Literal tokens) = meant (Literal tokens)
base_form_meaning (o.BaseForm-F.BaseForm::Group expr marks) =
    meant (Parens (slice_get marks 0) expr.term)
base_form_meaning (o.BaseForm-F.Compound type_name items marks) =
    meant (CompoundLiteral (slice_get marks 0) (type_of type_name.type)
    (Initialisers (slice_get marks 2) (terms_of items)))
base_form_meaning (o.BaseForm-F.SizeType key type_name marks) =
    meant (SizeOfType key (type_of type_name.type))

abbrev pub post_meaning : PostLevel Meaning → Meaning
post_meaning (o.Post-F.Post::Index expr marks) = applied (λ array. Subscript array expr.term)
post_meaning (o.Post-F.Call arguments marks) = applied (λ callee. Call callee (terms_of arguments))
post_meaning (o.Post-F.Dot member marks) = applied (λ operand. Dot operand member)
post_meaning (o.Post-F.Arrow member marks) = applied (λ operand. Arrow operand member)
post_meaning (o.Post-F.Step operator) = applied (λ operand. Postfix operand operator)

abbrev pub prefix_meaning : PrefixLevel Meaning → Meaning
prefix_meaning (o.Prefix-F.Op operator) = applied (λ operand. Prefix operator operand)
prefix_meaning (o.Prefix-F.Cast type_name marks) =
    applied (λ operand. Cast (slice_get marks 0) (type_of type_name.type) operand)

-- Suffixes are applied from left to right, and before the prefixes, which are applied from right to
-- left.
abbrev pub from_the_left : Term → List Meaning → Term
from_the_left term [] = term
from_the_left term (part ∷ parts) = from_the_left (part.onto term) parts

abbrev pub from_the_right : List Meaning → Term → Term
from_the_right [] term = term
from_the_right (part ∷ parts) term = part.onto (from_the_right parts term)

abbrev pub base_meaning : BaseLevel Meaning → Meaning
base_meaning level = meant (from_the_left level.form.term level.suffixes)

abbrev pub prefixed_meaning : PrefixedLevel Meaning → Meaning
prefixed_meaning level = meant (from_the_right level.prefixes level.base.term)

-- ---- Operators with two and three operands (6.5.5 to 6.5.17)

abbrev pub operand_of : ℕ × Meaning → ℕ × Term
operand_of operand = (operand.0, operand.1.term)

abbrev pub binary_meaning : File → BinaryLevel Meaning → Meaning
binary_meaning file level =
    meant (grouped_binary file level.first.term (map operand_of level.rest))

-- `a ? b : c ? d : e` is `a ? b : (c ? d : e)`.
abbrev pub arm_meaning : ArmLevel Meaning → Meaning
arm_meaning level = applied (λ other. Conditional level.test.term level.then.term other)

abbrev pub cond_meaning : CondLevel Meaning → Meaning
cond_meaning level = meant (from_the_right level.arms level.last.term)

-- `a = b = c` is `a = (b = c)`.
abbrev pub assigned : List (Meaning × ℕ) → Term → Term
assigned [] value = value
assigned (target ∷ targets) value = Infix target.1 target.0.term (assigned targets value)

abbrev pub assign_meaning : AssignLevel Meaning → Meaning
assign_meaning level = meant (assigned level.targets level.value.term)

-- `a, b, c` is `(a, b), c`.
abbrev pub with_commas : Term → List Meaning → Term
with_commas left [] = left
with_commas left (part ∷ parts) = with_commas (Comma left part.term) parts

abbrev pub parts_term : List Meaning → Term
parts_term [] = nothing.term
parts_term (part ∷ parts) = with_commas part.term parts

abbrev pub expr_meaning : ExprLevel Meaning → Meaning
expr_meaning level = meant (parts_term level.parts)

-- ---- Trees

abbrev pub meaning_steps : File → Steps Meaning
meaning_steps file = record {
  base_form = base_form_meaning;
  core = core_meaning file;
  declaration = declaration_meaning;
  designator = λ level. nothing;
  init = init_meaning;
  post = post_meaning;
  prefix = prefix_meaning;
  spec = spec_meaning file;
  suffix = suffix_meaning file;
  arm = arm_meaning;
  assign = assign_meaning;
  base = base_meaning;
  binary = binary_meaning file;
  cond = cond_meaning;
  declarator = declarator_meaning file;
  enumerator = enumerator_meaning;
  expr = expr_meaning;
  init_declarator = init_declarator_meaning;
  init_item = init_item_meaning;
  param = param_meaning;
  prefixed = prefixed_meaning;
  specs = specs_meaning;
  type_name = type_name_meaning;
}

unfoldable pub term_of : File → Expr → Term
term_of file expr = (expr_fold (meaning_steps file) expr).term

unfoldable pub meaning_of_declaration : File → Declaration → Meaning
meaning_of_declaration file = declaration_fold (meaning_steps file)

unfoldable pub meaning_of_specs : File → Specs → Meaning
meaning_of_specs file = specs_fold (meaning_steps file)

unfoldable pub meaning_of_declarator : File → Declarator → Meaning
meaning_of_declarator file = declarator_fold (meaning_steps file)
