-- A token that a text can have, for each terminal of which completions are made (C11 6.4).

use Rattle.std.proofs.Common.{◌≡◌, ◌≢◌, ℕ, zero, suc, ◌<◌, ◌≤◌, ◌==◌, ◌||◌, not, Bool, true, false, List, [], ◌∷◌, map, length, codes, slice_index, slice_range, refl, arith, eqb-true, inl, inr, bytes_eq}
use Prim.Native.String.{String}
use Rattle.c_lexer.specs.declared.token.Kind.{Kind}
use Rattle.c_lexer.specs.declared.token.Kind.TheVariants.{Word, Key, Number, Text, Mark}
use Rattle.c_lexer.specs.declared.keyword.TheConstants.{KEY_SIZEOF, KEY_ALIGNOF, KEY_INT}
use Rattle.c_lexer.specs.declared.mark.TheConstants.{MARK_LEFT_BRACKET, MARK_RIGHT_BRACKET}
use Rattle.c_lexer.specs.declared.mark.TheConstants.{MARK_LEFT_PAREN, MARK_RIGHT_PAREN}
use Rattle.c_lexer.specs.declared.mark.TheConstants.{MARK_LEFT_BRACE, MARK_RIGHT_BRACE}
use Rattle.c_lexer.specs.declared.mark.TheConstants.{MARK_DOT, MARK_ARROW, MARK_COMMA, MARK_EQUAL}
use Rattle.c_lexer.specs.declared.mark.TheConstants.{MARK_QUESTION, MARK_COLON, MARK_STAR, MARK_PLUS_PLUS, MARK_PLUS}
use Rattle.c_lexer.specs.Bytes.{slash, percent_sign}
use Rattle.c_lexer.specs.Entries.{numbers_of}
use Rattle.c_lexer.specs.Keywords.{keywords, IsKeyword}
use Rattle.c_lexer.specs.Marks.{marks, IsMark, IsMarkAt}
use Rattle.c_lexer.specs.Numbers.{IsNumberByte}
use Rattle.c_lexer.specs.Literals.{none}
use Rattle.c_lexer.specs.Lexemes.{Lexeme, IsLexeme}
use Rattle.c_lexer.proofs.Classes.{name_is}
use Rattle.c_lexer.proofs.Tables.{row_passes}
use Rattle.reading.specs.Terminals.{has}
use Rattle.reading.proofs.Sets.{never}
use Rattle.c_reading.specs.Terminals.{terminal}
use Rattle.c_reading.proofs.TerminalsDiffer.{same_kind}
use Rattle.c_syntax.specs.ExactExpressions.{IsToken}
use Rattle.c_syntax.proofs.Readings.{Tokens, needed}

abbrev spelled : Kind → String → Lexeme
spelled kind text = record { kind = kind; spelling = codes text }

-- ---- Marks

mark_is : (number : ℕ) (text : List ℕ) → IsMark (slice_range text 0 (length text)) number → slice_index text 0 ≢ slash → slice_index text 0 ≢ percent_sign →
    IsMarkAt text 0 (length text) number
mark_is number text m no_slash no_percent = record {
  mark = m;
  no_comment = λ c. elim c [ inl p ↦ no_slash p.first_is | inr p ↦ no_slash p.first_is ];
  no_hash = λ p. no_percent p.first_is;
}

left_bracket : IsLexeme (spelled (Mark MARK_LEFT_BRACKET) "[")
unfolding marks
left_bracket = mark_is MARK_LEFT_BRACKET (codes "[") (MARK_LEFT_BRACKET, omega arith, refl) (λ e. omega arith) (λ e. omega arith)

right_bracket : IsLexeme (spelled (Mark MARK_RIGHT_BRACKET) "]")
unfolding marks
right_bracket = mark_is MARK_RIGHT_BRACKET (codes "]") (MARK_RIGHT_BRACKET, omega arith, refl) (λ e. omega arith) (λ e. omega arith)

left_paren : IsLexeme (spelled (Mark MARK_LEFT_PAREN) "(")
unfolding marks
left_paren = mark_is MARK_LEFT_PAREN (codes "(") (MARK_LEFT_PAREN, omega arith, refl) (λ e. omega arith) (λ e. omega arith)

right_paren : IsLexeme (spelled (Mark MARK_RIGHT_PAREN) ")")
unfolding marks
right_paren = mark_is MARK_RIGHT_PAREN (codes ")") (MARK_RIGHT_PAREN, omega arith, refl) (λ e. omega arith) (λ e. omega arith)

left_brace : IsLexeme (spelled (Mark MARK_LEFT_BRACE) "{")
unfolding marks
left_brace = mark_is MARK_LEFT_BRACE (codes "{") (MARK_LEFT_BRACE, omega arith, refl) (λ e. omega arith) (λ e. omega arith)

right_brace : IsLexeme (spelled (Mark MARK_RIGHT_BRACE) "}")
unfolding marks
right_brace = mark_is MARK_RIGHT_BRACE (codes "}") (MARK_RIGHT_BRACE, omega arith, refl) (λ e. omega arith) (λ e. omega arith)

dot : IsLexeme (spelled (Mark MARK_DOT) ".")
unfolding marks
dot = mark_is MARK_DOT (codes ".") (MARK_DOT, omega arith, refl) (λ e. omega arith) (λ e. omega arith)

arrow : IsLexeme (spelled (Mark MARK_ARROW) "->")
unfolding marks
arrow = mark_is MARK_ARROW (codes "->") (MARK_ARROW, omega arith, refl) (λ e. omega arith) (λ e. omega arith)

comma : IsLexeme (spelled (Mark MARK_COMMA) ",")
unfolding marks
comma = mark_is MARK_COMMA (codes ",") (MARK_COMMA, omega arith, refl) (λ e. omega arith) (λ e. omega arith)

equal : IsLexeme (spelled (Mark MARK_EQUAL) "=")
unfolding marks
equal = mark_is MARK_EQUAL (codes "=") (MARK_EQUAL, omega arith, refl) (λ e. omega arith) (λ e. omega arith)

question : IsLexeme (spelled (Mark MARK_QUESTION) "?")
unfolding marks
question = mark_is MARK_QUESTION (codes "?") (MARK_QUESTION, omega arith, refl) (λ e. omega arith) (λ e. omega arith)

colon : IsLexeme (spelled (Mark MARK_COLON) ":")
unfolding marks
colon = mark_is MARK_COLON (codes ":") (MARK_COLON, omega arith, refl) (λ e. omega arith) (λ e. omega arith)

star : IsLexeme (spelled (Mark MARK_STAR) "*")
unfolding marks
star = mark_is MARK_STAR (codes "*") (MARK_STAR, omega arith, refl) (λ e. omega arith) (λ e. omega arith)

plus_plus : IsLexeme (spelled (Mark MARK_PLUS_PLUS) "++")
unfolding marks
plus_plus = mark_is MARK_PLUS_PLUS (codes "++") (MARK_PLUS_PLUS, omega arith, refl) (λ e. omega arith) (λ e. omega arith)

plus : IsLexeme (spelled (Mark MARK_PLUS) "+")
unfolding marks
plus = mark_is MARK_PLUS (codes "+") (MARK_PLUS, omega arith, refl) (λ e. omega arith) (λ e. omega arith)

-- ---- Words

key_sizeof : IsLexeme (spelled (Key KEY_SIZEOF) "sizeof")
unfolding keywords
key_sizeof = (KEY_SIZEOF, omega arith, refl)

key_alignof : IsLexeme (spelled (Key KEY_ALIGNOF) "_Alignof")
unfolding keywords
key_alignof = (KEY_ALIGNOF, omega arith, refl)

key_int : IsLexeme (spelled (Key KEY_INT) "int")
unfolding keywords
key_int = (KEY_INT, omega arith, refl)

a_is_no_keyword : (number : ℕ) → ¬ IsKeyword (codes "a") number
unfolding keywords
a_is_no_keyword number h = never (row_passes (λ row. not (bytes_eq row.0 (codes "a"))) (numbers_of keywords) refl (codes "a", number) h)

word : IsLexeme (spelled Word "a")
word = record { name = name_is (codes "a") refl; no_keyword = a_is_no_keyword }

-- ---- Literals

first_of_one : (i : ℕ) → 0 ≤ i → i < 1 → IsNumberByte (codes "1") 0 i
first_of_one zero l h = inl (inr (omega arith, omega arith))
first_of_one (suc i) l h = absurd (omega arith)

number : IsLexeme (spelled Number "1")
number = record { begins = inl (omega arith, omega arith); not_alone = λ e. omega arith; each = first_of_one }

text : IsLexeme (spelled Text "\"\"")
text = record {
  opening = 0;
  closing = 1;
  forward = omega arith;
  prefix = (0, omega arith, refl);
  quoted = record { opens = refl; characters = none; closes = refl };
  end = refl;
}

-- ---- One for each terminal

abbrev lexemes : List Lexeme
lexemes =
    spelled Word "a" ∷ spelled Number "1" ∷ spelled Text "\"\"" ∷ spelled (Key KEY_SIZEOF) "sizeof" ∷
    spelled (Key KEY_ALIGNOF) "_Alignof" ∷ spelled (Key KEY_INT) "int" ∷ spelled (Mark MARK_LEFT_BRACKET) "[" ∷
    spelled (Mark MARK_RIGHT_BRACKET) "]" ∷ spelled (Mark MARK_LEFT_PAREN) "(" ∷ spelled (Mark MARK_RIGHT_PAREN) ")" ∷
    spelled (Mark MARK_LEFT_BRACE) "{" ∷ spelled (Mark MARK_RIGHT_BRACE) "}" ∷ spelled (Mark MARK_DOT) "." ∷
    spelled (Mark MARK_ARROW) "->" ∷ spelled (Mark MARK_COMMA) "," ∷ spelled (Mark MARK_EQUAL) "=" ∷ spelled (Mark MARK_QUESTION) "?" ∷
    spelled (Mark MARK_COLON) ":" ∷ spelled (Mark MARK_STAR) "*" ∷ spelled (Mark MARK_PLUS_PLUS) "++" ∷
    spelled (Mark MARK_PLUS) "+" ∷ []

abbrev AreLexemes : List Lexeme → Type 0
AreLexemes [] = Prim.Unit {0}
AreLexemes (lexeme ∷ more) = IsLexeme lexeme × AreLexemes more

are_lexemes : AreLexemes lexemes
are_lexemes = (word, (number, (text, (key_sizeof, (key_alignof, (key_int, (left_bracket, (right_bracket, (left_paren, (right_paren, (left_brace, (right_brace, (dot, (arrow, (comma, (equal, (question, (colon, (star, (plus_plus, (plus, tt)))))))))))))))))))))

abbrev terminals : List Lexeme → List ℕ
terminals all = map (λ (lexeme : Lexeme). terminal lexeme.kind) all

pub record Found (kind : Kind) : Type 0 where
  pub lexeme : Lexeme
  pub is : IsLexeme lexeme
  pub same : lexeme.kind ≡ kind

pick : (kind : Kind) (lexeme : Lexeme) → IsLexeme lexeme → (b : Bool) → (terminal lexeme.kind == terminal kind) ≡ b → (rest : Bool) → (b || rest) ≡ true →
    (rest ≡ true → Found kind) → Found kind
pick kind lexeme h true e rest f more = record { lexeme = lexeme; is = h; same = same_kind lexeme.kind kind (eqb-true _ _ e) }
pick kind lexeme h false e rest f more = more f

find_among : (kind : Kind) (all : List Lexeme) → AreLexemes all → has (terminals all) (terminal kind) ≡ true → Found kind
find_among kind [] h e = never e
find_among kind (lexeme ∷ all) h e = pick kind lexeme h.0 (terminal lexeme.kind == terminal kind) refl (has (terminals all) (terminal kind)) e (find_among kind all h.1)

pub found : (kind : Kind) → has needed (terminal kind) ≡ true → Found kind
found kind h = find_among kind lexemes are_lexemes h

unfoldable pub real_tokens : Tokens
real_tokens = record {
  IsToken = IsToken;
  token = λ kind h. record { number = 0; lexeme = (found kind h).lexeme };
  is = λ kind h. (found kind h).is;
  kind_is = λ kind h. (found kind h).same;
}
