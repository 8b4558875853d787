-- How the operands of a list of binary operators are grouped (C11 6.5.5 to 6.5.14): by precedence,
-- and to the left.
use Rattle.std.specs.Prelude.{ℕ, Bool, true, false, List, [], ◌∷◌, Option, Some, None, IsSome}
use Rattle.layer_rules.specs.Files.{File, kind_at}
use Rattle.layer_rules.specs.Operators.{Operator, precedences, kind_operator}
use Rattle.layer_rules.specs.Terms.{Term, Infix}

-- Operands with an operator between two of them: the first, and each operator with the operand
-- behind it.
pub record Chain : Type 0 where
  pub first : Term
  pub rest : List (ℕ × Term)

abbrev pub chain : Term → List (ℕ × Term) → Chain
chain first rest = record { first = first; rest = rest }

-- A chain that is cut at some of its operators: the chain before the first of them, and each of
-- them with the chain behind it.
pub record Cut : Type 0 where
  pub head : Chain
  pub tail : List (ℕ × Chain)

abbrev pub is_there : Option (List ℕ) → Bool
is_there None = false
is_there (Some name) = true

-- The operator is one of these.
abbrev pub is_among : File → List Operator → ℕ → Bool
is_among file operators token = is_there (kind_operator operators [] (kind_at file token))

-- An operand and an operator before a chain that is cut; the chain is cut at the operator, or not.
abbrev pub cut_before : Bool → Term → ℕ → Cut → Cut
cut_before true first operator later = record {
  head = chain first [];
  tail = (operator, later.head) ∷ later.tail;
}
cut_before false first operator later = record {
  head = chain first ((operator, later.head.first) ∷ later.head.rest);
  tail = later.tail;
}

-- A chain that is cut at the operators that are among these.
abbrev pub cut_at : File → List Operator → Term → List (ℕ × Term) → Cut
cut_at file operators first [] = record { head = chain first []; tail = [] }
cut_at file operators first (next ∷ rest) =
    cut_before (is_among file operators next.0) first next.0 (cut_at file operators next.1 rest)

-- What stands to the left, and then each operator with its right side: `a - b + c` is
-- `(a - b) + c`.
abbrev pub to_the_left : (Chain → Term) → Term → List (ℕ × Chain) → Term
to_the_left side left [] = left
to_the_left side left (next ∷ rest) =
    to_the_left side (Infix next.0 left (side next.1)) rest

-- A chain that is cut, where a side is what a piece of it is.
abbrev pub put_together : (Chain → Term) → Cut → Term
put_together side cut = to_the_left side (side cut.head) cut.tail

-- A chain of operators of these precedences, from those that bind least. It is cut at the first
-- ones, and each piece is one of the others. Ours: where no precedence is left, no operator is.
abbrev pub grouped : File → List (List Operator) → Chain → Term
grouped file [] pieces = pieces.first
grouped file (operators ∷ tighter) pieces =
    put_together (λ piece. grouped file tighter piece)
    (cut_at file operators pieces.first pieces.rest)

-- A chain of binary operators.
abbrev pub grouped_binary : File → Term → List (ℕ × Term) → Term
grouped_binary file first rest = grouped file precedences (chain first rest)
