-- The names of operators in the graph: `<operator>.` and the operation, as the Code Property Graph
-- of Joern has them.
use Rattle.std.specs.Prelude.{ℕ, ◌==◌, List, [], ◌∷◌, ◌++◌, Option, Some, None, codes}
use Rattle.std.specs.Prelude.{if◌then◌else◌}
use Prim.Native.String.{String}
use Rattle.std.specs.List.{flat_map}
use Rattle.c_lexer.specs.declared.token.Kind.{Kind}
use Rattle.c_lexer.specs.declared.token.Kind.TheVariants as kind
use Rattle.c_lexer.specs.declared.keyword.TheConstants.{KEY_SIZEOF, KEY_ALIGNOF}
use Rattle.c_lexer.specs.declared.mark.TheConstants.{MARK_PLUS_PLUS, MARK_MINUS_MINUS}
use Rattle.c_lexer.specs.declared.mark.TheConstants.{MARK_AMPERSAND, MARK_STAR, MARK_PLUS}
use Rattle.c_lexer.specs.declared.mark.TheConstants.{MARK_MINUS, MARK_TILDE, MARK_EXCLAMATION}
use Rattle.c_lexer.specs.declared.mark.TheConstants.{MARK_SLASH, MARK_PERCENT, MARK_LEFT_SHIFT}
use Rattle.c_lexer.specs.declared.mark.TheConstants.{MARK_RIGHT_SHIFT, MARK_LESS, MARK_GREATER}
use Rattle.c_lexer.specs.declared.mark.TheConstants.{MARK_LESS_EQUAL, MARK_GREATER_EQUAL}
use Rattle.c_lexer.specs.declared.mark.TheConstants.{MARK_EQUAL_EQUAL, MARK_NOT_EQUAL, MARK_CARET}
use Rattle.c_lexer.specs.declared.mark.TheConstants.{MARK_BAR, MARK_AND_AND, MARK_OR_OR, MARK_EQUAL}
use Rattle.c_lexer.specs.declared.mark.TheConstants.{MARK_STAR_EQUAL, MARK_SLASH_EQUAL}
use Rattle.c_lexer.specs.declared.mark.TheConstants.{MARK_PERCENT_EQUAL, MARK_PLUS_EQUAL}
use Rattle.c_lexer.specs.declared.mark.TheConstants.{MARK_MINUS_EQUAL, MARK_LEFT_SHIFT_EQUAL}
use Rattle.c_lexer.specs.declared.mark.TheConstants.{MARK_RIGHT_SHIFT_EQUAL, MARK_AMPERSAND_EQUAL}
use Rattle.c_lexer.specs.declared.mark.TheConstants.{MARK_CARET_EQUAL, MARK_BAR_EQUAL}

-- The name of an operation.
abbrev pub operator : String → List ℕ
operator operation = codes "<operator>." ++ codes operation

-- An operator: the number of its mark or keyword, and its name.
pub record Operator : Type 0 where
  pub number : ℕ
  pub name : List ℕ

abbrev pub named_operator : ℕ → String → Operator
named_operator number operation = record { number = number; name = operator operation }

-- The binary operators, those of each precedence together, from those that bind least.
abbrev pub precedences : List (List Operator)
precedences =
    -- 6.5.14, 6.5.13.
    (named_operator MARK_OR_OR "logicalOr" ∷ []) ∷
    (named_operator MARK_AND_AND "logicalAnd" ∷ []) ∷
    -- 6.5.12 to 6.5.10.
    (named_operator MARK_BAR "or" ∷ []) ∷
    (named_operator MARK_CARET "xor" ∷ []) ∷
    (named_operator MARK_AMPERSAND "and" ∷ []) ∷
    -- 6.5.9.
    (named_operator MARK_EQUAL_EQUAL "equals" ∷
    named_operator MARK_NOT_EQUAL "notEquals" ∷ []) ∷
    -- 6.5.8.
    (named_operator MARK_LESS "lessThan" ∷
    named_operator MARK_GREATER "greaterThan" ∷
    named_operator MARK_LESS_EQUAL "lessEquals" ∷
    named_operator MARK_GREATER_EQUAL "greaterEquals" ∷ []) ∷
    -- 6.5.7.
    (named_operator MARK_LEFT_SHIFT "shiftLeft" ∷
    named_operator MARK_RIGHT_SHIFT "shiftRight" ∷ []) ∷
    -- 6.5.6.
    (named_operator MARK_PLUS "addition" ∷
    named_operator MARK_MINUS "subtraction" ∷ []) ∷
    -- 6.5.5.
    (named_operator MARK_STAR "multiplication" ∷
    named_operator MARK_SLASH "division" ∷
    named_operator MARK_PERCENT "modulo" ∷ []) ∷
    []

-- The assignment operators (6.5.16).
abbrev pub assignments : List Operator
assignments =
    named_operator MARK_EQUAL "assignment" ∷
    named_operator MARK_STAR_EQUAL "assignmentMultiplication" ∷
    named_operator MARK_SLASH_EQUAL "assignmentDivision" ∷
    named_operator MARK_PERCENT_EQUAL "assignmentModulo" ∷
    named_operator MARK_PLUS_EQUAL "assignmentPlus" ∷
    named_operator MARK_MINUS_EQUAL "assignmentMinus" ∷
    named_operator MARK_LEFT_SHIFT_EQUAL "assignmentShiftLeft" ∷
    named_operator MARK_RIGHT_SHIFT_EQUAL "assignmentShiftRight" ∷
    named_operator MARK_AMPERSAND_EQUAL "assignmentAnd" ∷
    named_operator MARK_CARET_EQUAL "assignmentXor" ∷
    named_operator MARK_BAR_EQUAL "assignmentOr" ∷
    []

-- The operators with an operand on each side.
abbrev pub infix_operators : List Operator
infix_operators = flat_map (λ operators. operators) precedences ++ assignments

-- The marks that stand before their operand (6.5.3).
abbrev pub prefix_operators : List Operator
prefix_operators =
    named_operator MARK_AMPERSAND "addressOf" ∷
    named_operator MARK_STAR "indirection" ∷
    named_operator MARK_PLUS "plus" ∷
    named_operator MARK_MINUS "minus" ∷
    named_operator MARK_TILDE "not" ∷
    named_operator MARK_EXCLAMATION "logicalNot" ∷
    named_operator MARK_PLUS_PLUS "preIncrement" ∷
    named_operator MARK_MINUS_MINUS "preDecrement" ∷
    []

-- The keywords that do (6.5.3.4).
abbrev pub key_operators : List Operator
key_operators =
    named_operator KEY_SIZEOF "sizeOf" ∷
    named_operator KEY_ALIGNOF "alignOf" ∷
    []

-- The marks that stand behind it (6.5.2.4).
abbrev pub postfix_operators : List Operator
postfix_operators =
    named_operator MARK_PLUS_PLUS "postIncrement" ∷
    named_operator MARK_MINUS_MINUS "postDecrement" ∷
    []

-- The name of the operator with the number, if it is among these.
abbrev pub name_among : List Operator → ℕ → Option (List ℕ)
name_among [] number = None
name_among (first ∷ operators) number =
    if number == first.number then Some first.name else name_among operators number

-- The name of the operator that a token of this kind is, by the marks and the keywords that are
-- operators.
abbrev pub kind_operator : List Operator → List Operator → Option Kind → Option (List ℕ)
kind_operator marks keys (Some (kind.Mark number)) = name_among marks number
kind_operator marks keys (Some (kind.Key number)) = name_among keys number
kind_operator marks keys other = None
