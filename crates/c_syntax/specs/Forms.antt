-- The parts of which the trees of expressions are made (C11 6.5).

use Rattle.std.specs.Prelude.{ℕ, Bool, true, false, List, [], ◌∷◌, ◌++◌, None}
use Rattle.c_tree.specs.declared.tree.TypeName.{TypeName, roll-TypeName}
use Rattle.c_tree.specs.declared.tree.Spec.{Spec}
use Rattle.c_tree.specs.declared.tree.Declarator.{Declarator, roll-Declarator}
use Rattle.c_tree.specs.declared.tree.Pointer.{Pointer}
use Rattle.c_tree.specs.declared.tree.Core.TheVariants as core
use Rattle.c_tree.specs.declared.tree.InitItem.{InitItem, roll-InitItem}
use Rattle.c_tree.specs.declared.tree.Init.TheVariants as init
use Rattle.c_tree.specs.declared.tree.Expr.{Expr, roll-Expr}
use Rattle.c_tree.specs.declared.tree.Assign.{Assign, roll-Assign}
use Rattle.c_tree.specs.declared.tree.Cond.{roll-Cond}
use Rattle.c_tree.specs.declared.tree.Arm.{roll-Arm}
use Rattle.c_tree.specs.declared.tree.Binary.{Binary, roll-Binary}
use Rattle.c_tree.specs.declared.tree.Prefixed.{Prefixed}
use Rattle.c_tree.specs.declared.tree.Prefix.{Prefix, out-Prefix}
use Rattle.c_tree.specs.declared.tree.BaseForm.TheOpen as o
use Rattle.c_tree.specs.Folds.{OpenPrefix}
use Rattle.c_tree.specs.declared.tree.Prefix.TheVariants as prefix
use Rattle.c_tree.specs.declared.tree.BaseForm.{BaseForm}
use Rattle.c_tree.specs.declared.tree.BaseForm.TheVariants as form
use Rattle.c_tree.specs.declared.tree.Post.{Post}
use Rattle.c_tree.specs.declared.tree.Post.TheVariants as post
use Rattle.c_tree.specs.Forms.{sole}
use Rattle.c_syntax.specs.declared.forms.Parts.{Parts}
use Rattle.c_syntax.specs.declared.forms.Items.{Items}
use Rattle.c_syntax.specs.declared.forms.Arms.{Arms}
use Rattle.c_syntax.specs.declared.forms.Begun.{Begun}
use Rattle.c_syntax.specs.declared.forms.Mode.{Mode}
use Rattle.c_syntax.specs.declared.forms.Mode.TheVariants.{Cast, Literal, Size}
use Rattle.c_syntax.specs.declared.forms.Chain.{Chain}

-- ---- Type names (6.7.7)

abbrev pub pointer : ℕ → Pointer
pointer star = record { star = star; qualifiers = [] }

-- Pointers to a type.
abbrev pub pointing : List Pointer → Declarator
pointing pointers = roll-Declarator
    (record { pointers = pointers; core = core.Empty; suffixes = []; width = None; marks = [] })

abbrev pub type_name_of : List Spec → List Pointer → TypeName
type_name_of words pointers =
    roll-TypeName (record { specs = record { words = words }; declarator = pointing pointers })

-- ---- Lists with commas

abbrev pub one_part : Assign → List ℕ → Parts
one_part part marks = record { parts = part ∷ []; marks = marks }

abbrev pub with_part : Parts → ℕ → Assign → Parts
with_part parts comma part =
    record { parts = parts.parts ++ part ∷ []; marks = parts.marks ++ comma ∷ [] }

abbrev pub expr_of : Parts → Expr
expr_of parts = roll-Expr (record { parts = parts.parts; marks = parts.marks })

abbrev pub call_of : Parts → ℕ → Post
call_of parts right = post.Call parts.parts (parts.marks ++ right ∷ [])

-- An item of an initialiser list that is one value (6.7.9).
abbrev pub value_item : Assign → InitItem
value_item value =
    roll-InitItem (record { designators = []; init = init.Value (sole value); marks = [] })

abbrev pub one_item : InitItem → List ℕ → Items
one_item item marks = record { items = item ∷ []; marks = marks }

abbrev pub with_item : Items → ℕ → InitItem → Items
with_item items comma item =
    record { items = items.items ++ item ∷ []; marks = items.marks ++ comma ∷ [] }

abbrev pub with_mark : Items → ℕ → Items
with_mark items mark = record { items = items.items; marks = items.marks ++ mark ∷ [] }

abbrev pub compound_of : TypeName → Items → BaseForm
compound_of type_name items = form.Compound type_name items.items items.marks

-- ---- Operands (6.5.2 to 6.5.4)

-- The prefixes with a `sizeof` that was left open.
abbrev pub flushed : Mode → List Prefix → List Prefix
flushed Cast prefixes = prefixes
flushed Literal prefixes = prefixes
flushed (Size key) prefixes = prefixes ++ prefix.Op key ∷ []

abbrev pub chain_start : Chain
chain_start = record { prefixes = []; mode = Cast }

abbrev pub with_op : Chain → ℕ → Mode → Chain
with_op chain op mode =
    record { prefixes = flushed chain.mode chain.prefixes ++ prefix.Op op ∷ []; mode = mode }

abbrev pub with_size : Chain → ℕ → Chain
with_size chain key = record { prefixes = flushed chain.mode chain.prefixes; mode = Size key }

abbrev pub with_cast : List Prefix → TypeName → List ℕ → Chain
with_cast prefixes type_name marks =
    record { prefixes = prefixes ++ prefix.Cast type_name marks ∷ []; mode = Cast }

abbrev pub prefixed_of : List Prefix → BaseForm → List Post → Prefixed
prefixed_of prefixes form suffixes =
    record { prefixes = prefixes; base = record { form = form; suffixes = suffixes } }

-- ---- Operators (6.5.5 to 6.5.16)

abbrev pub is_operator : OpenPrefix → Bool
is_operator (o.Prefix-F.Op op) = true
is_operator (o.Prefix-F.Cast type_name marks) = false

abbrev pub no_cast_first : List Prefix → Bool
no_cast_first [] = true
no_cast_first (first ∷ prefixes) = is_operator (out-Prefix first)

-- A target of an assignment has no cast as its first prefix (6.5.16).
abbrev pub is_target : Prefixed → Bool
is_target operand = no_cast_first operand.prefixes

abbrev pub begun_of : List (Prefixed × ℕ) → Prefixed → Begun
begun_of targets first = record { targets = targets; first = first }

abbrev pub binary_of : Prefixed → List (ℕ × Prefixed) → Binary
binary_of first rest = roll-Binary (record { first = first; rest = rest })

abbrev pub arms_start : Binary → Arms
arms_start last = record { arms = []; last = last }

abbrev pub with_arm : Arms → Expr → List ℕ → Binary → Arms
with_arm arms then_ marks last = record {
  arms = arms.arms ++ roll-Arm (record { test = arms.last; then = then_; marks = marks }) ∷ [];
  last = last;
}

abbrev pub assign_of : List (Prefixed × ℕ) → Arms → Assign
assign_of targets arms = roll-Assign
    (record {
      targets = targets;
      value = roll-Cond (record { arms = arms.arms; last = arms.last });
    })
