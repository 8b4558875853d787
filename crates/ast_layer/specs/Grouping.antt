-- How the operands of an expression are grouped (C11 6.5 p3).
use Rattle.std.specs.Prelude.{ℕ, List, [], ◌∷◌, Option, Some, slice_get}
use Rattle.c_tree.specs.declared.tree.Prefixed.{Prefixed}
use Rattle.c_tree.specs.declared.tree.BaseForm.{BaseForm, out-BaseForm}
use Rattle.c_tree.specs.declared.tree.BaseForm.TheOpen as o
use Rattle.c_tree.specs.declared.tree.Binary.{Binary, out-Binary}
use Rattle.c_tree.specs.declared.tree.Cond.{out-Cond}
use Rattle.c_tree.specs.declared.tree.Assign.{Assign, out-Assign}
use Rattle.c_tree.specs.Folds.{OpenBaseForm}

-- An operand, or an operator with a left and a right side; an operator is the number of its token.
pub data Grouped : Type 0 where
  Operand : Prefixed → Grouped
  Joined : (operator : ℕ) → (left right : Grouped) → Grouped

-- The sum of what stands to the left and of operands, each after its operator: `a + b + c` is
-- `(a + b) + c` (6.5.6).
abbrev pub to_the_left : Grouped → List (ℕ × Prefixed) → Grouped
to_the_left left [] = left
to_the_left left (next ∷ rest) = to_the_left (Joined next.0 left (Operand next.1)) rest

-- The assignment to targets, each before its operator: `a = b = c` is `a = (b = c)` (6.5.16).
abbrev pub to_the_right : List (Prefixed × ℕ) → Grouped → Grouped
to_the_right [] value = value
to_the_right (target ∷ targets) value =
    Joined target.1 (Operand target.0) (to_the_right targets value)

-- Operands that are joined by binary operators of one precedence.
abbrev pub grouped_binary : Binary → Grouped
grouped_binary binary = to_the_left (Operand (out-Binary binary).first) (out-Binary binary).rest

-- An assignment expression. Ours: this version's trees have no conditions in a value (6.5.15), of
-- which it groups what stands last.
abbrev pub grouped_assign : Assign → Grouped
grouped_assign assign =
    to_the_right (out-Assign assign).targets
    (grouped_binary (out-Cond (out-Assign assign).value).last)

-- The first token of what suffixes are applied to (6.5.1, 6.5.2.5, 6.5.3.4).
abbrev pub open_token : OpenBaseForm → Option ℕ
open_token (o.BaseForm-F.BaseForm::Name token) = Some token
open_token (o.BaseForm-F.Literal tokens) = slice_get tokens 0
open_token (o.BaseForm-F.BaseForm::Group expr marks) = slice_get marks 0
open_token (o.BaseForm-F.Compound type_name list marks) = slice_get marks 0
open_token (o.BaseForm-F.SizeType size type_name marks) = Some size

-- The same, of a form as it stands in a tree.
abbrev pub form_token : BaseForm → Option ℕ
form_token form = open_token (out-BaseForm form)

-- The first token of an operand, which has no operator before it: ours, this version reads none.
abbrev pub operand_token : Prefixed → Option ℕ
operand_token operand = form_token operand.base.form

-- The first token of a construct: that of its leftmost operand.
abbrev pub first_token : Grouped → Option ℕ
first_token (Operand operand) = operand_token operand
first_token (Joined operator left right) = first_token left
