-- What the code sees of the next tokens is what readers of statements ask of them.

use Rattle.std.proofs.Common.{◌≡◌, ℕ, ◌+◌, Bool, true, false, ◌==◌, ◌||◌, List, [], ◌∷◌, ◌++◌, Some, None, drop, refl, sym, ap, ◌∙◌}
use Rattle.c_lexer.specs.declared.token.Kind.{Kind}
use Rattle.c_lexer.specs.Lexemes.{Lexeme}
use Rattle.c_scopes.specs.Scopes.{OpenScopes}
use Rattle.reading.specs.Terminals.{has}
use Rattle.reading.specs.Readers.{Input, begins, is_ahead}
use Rattle.c_reading.specs.Terminals.{TEXT, mark, terminal}
use Rattle.c_reading.specs.Kept.{KeptToken, numbered}
use Rattle.c_reading.specs.Cursors.{Place, Around, input_at, first_kind}
use Rattle.c_syntax.specs.Scoping.{terminal_of}
use Rattle.c_syntax.specs.Sets.{a_name, a_constant, a_unary, a_step}
use Rattle.c_syntax.proofs.Ahead.{kind_ahead, nothing_ahead}
use Rattle.c_lexer.specs.declared.keyword.TheConstants.{KEY_SIZEOF, KEY_ALIGNOF}
use Rattle.c_lexer.specs.declared.mark.TheConstants.{MARK_LEFT_PAREN}
use Rattle.c_reading.specs.Terminals.{key}
use Rattle.c_stmt.specs.Choices.{is_second}
use Rattle.c_stmt.specs.StatementSets.{a_colon, a_statement_mark, begins_expr, begins_plain, expr_mark}

-- ---- Unions of sets

or_union : (a b c d : Bool) → b ≡ (c || d) → (a || b) ≡ ((a || c) || d)
or_union true b c d e = refl
or_union false b c d e = e

has_union : (set other : List ℕ) (n : ℕ) → has (set ++ other) n ≡ (has set n || has other n)
has_union [] other n = refl
has_union (m ∷ set) other n = or_union (m == n) (has (set ++ other) n) (has set n) (has other n) (has_union set other n)

swap : (x y z : Bool) → (x || (y || z)) ≡ (y || (x || z))
swap true true z = refl
swap true false z = refl
swap false y z = refl

-- The middle one comes first.
moved : (first middle last : List ℕ) (n : ℕ) → has (first ++ (middle ++ last)) n ≡ (has middle n || has (first ++ last) n)
moved first middle last n =
    has_union first (middle ++ last) n
    ∙ ap (λ (b : Bool). has first n || b) (has_union middle last n)
    ∙ swap (has first n) (has middle n) (has last n)
    ∙ ap (λ (b : Bool). has middle n || b) (sym (has_union first last n))

abbrev before_names : List ℕ
before_names = a_unary ++ (a_step ++ (key KEY_SIZEOF ∷ []) ++ key KEY_ALIGNOF ∷ []) ++ (mark MARK_LEFT_PAREN ∷ [])

expr_by_name : (n : ℕ) → has begins_expr n ≡ (has a_name n || has expr_mark n)
expr_by_name n = moved before_names a_name (a_constant ++ TEXT ∷ []) n

absorbed : (a s m : Bool) → (a || (s || (a || m))) ≡ (s || (a || m))
absorbed true true m = refl
absorbed true false m = refl
absorbed false s m = refl

plain_by_mark : (n : ℕ) → has begins_plain n ≡ (has a_statement_mark n || has begins_expr n)
plain_by_mark n =
    has_union a_name (a_statement_mark ++ begins_expr) n
    ∙ ap (λ (b : Bool). has a_name n || b)
    (has_union a_statement_mark begins_expr n ∙ ap (λ (b : Bool). has a_statement_mark n || b) (expr_by_name n))
    ∙ absorbed (has a_name n) (has a_statement_mark n) (has expr_mark n)
    ∙ sym (ap (λ (b : Bool). has a_statement_mark n || b) (expr_by_name n))

-- ---- The next token

abbrev In : OpenScopes → List ℕ → KeptToken → Bool
In scopes set token = has set (terminal_of scopes token)

expr_at : (scopes : OpenScopes) (tokens : List KeptToken) →
    begins (In scopes begins_expr) tokens ≡ (begins (In scopes a_name) tokens || begins (In scopes expr_mark) tokens)
expr_at scopes [] = refl
expr_at scopes (t ∷ tokens) = expr_by_name (terminal_of scopes t)

plain_at : (scopes : OpenScopes) (tokens : List KeptToken) →
    begins (In scopes begins_plain) tokens ≡ (begins (In scopes a_statement_mark) tokens || begins (In scopes begins_expr) tokens)
plain_at scopes [] = refl
plain_at scopes (t ∷ tokens) = plain_by_mark (terminal_of scopes t)

or_first : (a b : Bool) → a ≡ true → true ≡ (a || b)
or_first true b e = refl
or_first false b e = absurd (cc)

or_second : (a b : Bool) → a ≡ false → b ≡ (a || b)
or_second true b e = absurd (cc)
or_second false b e = refl

module _ (input : Input KeptToken OpenScopes Around) where
  pub expr_by_a_name : is_ahead terminal_of a_name input ≡ true → true ≡ is_ahead terminal_of begins_expr input
  expr_by_a_name e = or_first _ _ e ∙ sym (expr_at input.scope input.tokens)

  pub expr_by_a_mark : is_ahead terminal_of a_name input ≡ false → is_ahead terminal_of expr_mark input ≡ is_ahead terminal_of begins_expr input
  expr_by_a_mark e = or_second _ _ e ∙ sym (expr_at input.scope input.tokens)

  pub plain_by_a_mark : is_ahead terminal_of a_statement_mark input ≡ true → true ≡ is_ahead terminal_of begins_plain input
  plain_by_a_mark e = or_first _ _ e ∙ sym (plain_at input.scope input.tokens)

  pub plain_by_expr : is_ahead terminal_of a_statement_mark input ≡ false → is_ahead terminal_of begins_expr input ≡ is_ahead terminal_of begins_plain input
  plain_by_expr e = or_second _ _ e ∙ sym (plain_at input.scope input.tokens)

-- ---- The token behind it

second_some : (at level : ℕ) (left : List Lexeme) (scopes : OpenScopes) (kind : Kind) → first_kind (drop 1 left) ≡ Some kind →
    has a_colon (terminal kind) ≡ is_second terminal_of a_colon (input_at (record { at = at; left = left; level = level }) scopes)
unfolding input_at
second_some at level [] scopes kind e = absurd (cc)
second_some at level (lexeme ∷ left) scopes kind e =
    kind_ahead a_colon refl (record { at = at + 1; left = left; level = level }) scopes kind e

second_none : (at level : ℕ) (left : List Lexeme) (scopes : OpenScopes) → first_kind (drop 1 left) ≡ None →
    false ≡ is_second terminal_of a_colon (input_at (record { at = at; left = left; level = level }) scopes)
unfolding input_at
second_none at level [] scopes e = refl
second_none at level (lexeme ∷ left) scopes e =
    nothing_ahead a_colon refl (record { at = at + 1; left = left; level = level }) scopes e

pub second_kind : (place : Place) (scopes : OpenScopes) (kind : Kind) → first_kind (drop 1 place.left) ≡ Some kind →
    has a_colon (terminal kind) ≡ is_second terminal_of a_colon (input_at place scopes)
second_kind place scopes kind e = second_some place.at place.level place.left scopes kind e

pub no_second : (place : Place) (scopes : OpenScopes) → first_kind (drop 1 place.left) ≡ None →
    false ≡ is_second terminal_of a_colon (input_at place scopes)
no_second place scopes e = second_none place.at place.level place.left scopes e
