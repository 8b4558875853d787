-- The names of operators in the graph: `<operator>.` and the operation, as the Code Property Graph
-- of Joern has them.
use Rattle.std.specs.Prelude.{ℕ, ◌==◌, List, Option, Some, None, codes, if◌then◌else◌}
use Rattle.c_lexer.specs.declared.token.Kind.{Kind}
use Rattle.c_lexer.specs.declared.token.Kind.TheVariants as kind
use Rattle.c_lexer.specs.declared.token.Token.{Token}
use Rattle.c_lexer.specs.declared.mark.TheConstants.{MARK_EQUAL, MARK_PLUS}

-- The name of `=` (6.5.16.1).
abbrev pub assignment : List ℕ
assignment = codes "<operator>.assignment"

-- The name of `+` between two operands (6.5.6).
abbrev pub addition : List ℕ
addition = codes "<operator>.addition"

-- The name of the operator that is the mark with this number; this version reads two.
abbrev pub mark_operator : ℕ → Option (List ℕ)
mark_operator mark =
    if mark == MARK_EQUAL then Some assignment
    else if mark == MARK_PLUS then Some addition
    else None

-- The name of the operator that a token of this kind is.
abbrev pub kind_operator : Kind → Option (List ℕ)
kind_operator (kind.Mark number) = mark_operator number
kind_operator _ = None

-- The name of the operator that a token is, if there is one.
abbrev pub operator_name : Option Token → Option (List ℕ)
operator_name None = None
operator_name (Some token) = kind_operator token.kind
