-- A token that a text can have, for each terminal of which completions of declarations are made (C11 6.4).

use Rattle.std.proofs.Common.{◌≡◌, ◌≢◌, ℕ, ◌==◌, ◌||◌, Bool, true, false, List, [], ◌∷◌, ◌++◌, map, length, codes, slice_index, slice_range, refl, sym, arith, eqb-true, inl, inr}
use Prim.Native.String.{String}
use Rattle.c_lexer.specs.declared.token.Kind.{Kind}
use Rattle.c_lexer.specs.declared.token.Kind.TheVariants.{Key, Mark}
use Rattle.c_lexer.specs.declared.keyword.TheConstants.{KEY_ALIGNAS, KEY_ATOMIC, KEY_CONST, KEY_ENUM, KEY_EXTERN}
use Rattle.c_lexer.specs.declared.keyword.TheConstants.{KEY_INLINE, KEY_REGISTER, KEY_STATIC, KEY_STATIC_ASSERT}
use Rattle.c_lexer.specs.declared.keyword.TheConstants.{KEY_STRUCT, KEY_TYPEDEF}
use Rattle.c_lexer.specs.declared.mark.TheConstants.{MARK_SEMICOLON, MARK_ELLIPSIS}
use Rattle.c_lexer.specs.Bytes.{slash, percent_sign}
use Rattle.c_lexer.specs.Keywords.{keywords}
use Rattle.c_lexer.specs.Marks.{marks, IsMark, IsMarkAt}
use Rattle.c_lexer.specs.Lexemes.{Lexeme, IsLexeme}
use Rattle.reading.specs.Terminals.{has}
use Rattle.reading.proofs.Sets.{never, within}
use Rattle.c_reading.specs.Terminals.{terminal}
use Rattle.c_reading.proofs.TerminalsDiffer.{same_kind}
use Rattle.c_syntax.proofs.Readings as expressions
use Rattle.c_syntax.proofs.Lexemes.{Found, found}
use Rattle.c_specifiers.proofs.DeclarationReadings.{Tokens, needed}
use Rattle.c_parts.specs.ExactParts.{IsToken}

abbrev spelled : Kind → String → Lexeme
spelled kind text = record { kind = kind; spelling = codes text }

mark_is : (number : ℕ) (text : List ℕ) → IsMark (slice_range text 0 (length text)) number → slice_index text 0 ≢ slash → slice_index text 0 ≢ percent_sign →
    IsMarkAt text 0 (length text) number
mark_is number text m no_slash no_percent = record {
  mark = m;
  no_comment = λ c. elim c [ inl p ↦ no_slash p.first_is | inr p ↦ no_slash p.first_is ];
  no_hash = λ p. no_percent p.first_is;
}

semicolon : IsLexeme (spelled (Mark MARK_SEMICOLON) ";")
unfolding marks
semicolon = mark_is MARK_SEMICOLON (codes ";") (MARK_SEMICOLON, omega arith, refl) (λ e. omega arith) (λ e. omega arith)

ellipsis : IsLexeme (spelled (Mark MARK_ELLIPSIS) "...")
unfolding marks
ellipsis = mark_is MARK_ELLIPSIS (codes "...") (MARK_ELLIPSIS, omega arith, refl) (λ e. omega arith) (λ e. omega arith)

alignas : IsLexeme (spelled (Key KEY_ALIGNAS) "_Alignas")
unfolding keywords
alignas = (KEY_ALIGNAS, omega arith, refl)

atomic : IsLexeme (spelled (Key KEY_ATOMIC) "_Atomic")
unfolding keywords
atomic = (KEY_ATOMIC, omega arith, refl)

const_ : IsLexeme (spelled (Key KEY_CONST) "const")
unfolding keywords
const_ = (KEY_CONST, omega arith, refl)

enum_ : IsLexeme (spelled (Key KEY_ENUM) "enum")
unfolding keywords
enum_ = (KEY_ENUM, omega arith, refl)

extern_ : IsLexeme (spelled (Key KEY_EXTERN) "extern")
unfolding keywords
extern_ = (KEY_EXTERN, omega arith, refl)

inline_ : IsLexeme (spelled (Key KEY_INLINE) "inline")
unfolding keywords
inline_ = (KEY_INLINE, omega arith, refl)

register_ : IsLexeme (spelled (Key KEY_REGISTER) "register")
unfolding keywords
register_ = (KEY_REGISTER, omega arith, refl)

static_ : IsLexeme (spelled (Key KEY_STATIC) "static")
unfolding keywords
static_ = (KEY_STATIC, omega arith, refl)

static_assert : IsLexeme (spelled (Key KEY_STATIC_ASSERT) "_Static_assert")
unfolding keywords
static_assert = (KEY_STATIC_ASSERT, omega arith, refl)

struct_ : IsLexeme (spelled (Key KEY_STRUCT) "struct")
unfolding keywords
struct_ = (KEY_STRUCT, omega arith, refl)

typedef_ : IsLexeme (spelled (Key KEY_TYPEDEF) "typedef")
unfolding keywords
typedef_ = (KEY_TYPEDEF, omega arith, refl)

-- ---- One for each terminal that expressions do not need

abbrev lexemes : List Lexeme
lexemes =
    spelled (Mark MARK_SEMICOLON) ";" ∷ spelled (Mark MARK_ELLIPSIS) "..." ∷ spelled (Key KEY_ALIGNAS) "_Alignas" ∷
    spelled (Key KEY_ATOMIC) "_Atomic" ∷ spelled (Key KEY_CONST) "const" ∷ spelled (Key KEY_ENUM) "enum" ∷
    spelled (Key KEY_EXTERN) "extern" ∷ spelled (Key KEY_INLINE) "inline" ∷ spelled (Key KEY_REGISTER) "register" ∷
    spelled (Key KEY_STATIC) "static" ∷ spelled (Key KEY_STATIC_ASSERT) "_Static_assert" ∷ spelled (Key KEY_STRUCT) "struct" ∷
    spelled (Key KEY_TYPEDEF) "typedef" ∷ []

abbrev AreLexemes : List Lexeme → Type 0
AreLexemes [] = Prim.Unit {0}
AreLexemes (lexeme ∷ more) = IsLexeme lexeme × AreLexemes more

are_lexemes : AreLexemes lexemes
are_lexemes = (semicolon, (ellipsis, (alignas, (atomic, (const_, (enum_, (extern_, (inline_, (register_, (static_, (static_assert, (struct_, (typedef_, tt)))))))))))))

abbrev terminals : List Lexeme → List ℕ
terminals all = map (λ (lexeme : Lexeme). terminal lexeme.kind) all

pick : (kind : Kind) (lexeme : Lexeme) → IsLexeme lexeme → (b : Bool) → (terminal lexeme.kind == terminal kind) ≡ b → (rest : Bool) → (b || rest) ≡ true →
    (rest ≡ true → Found kind) → Found kind
pick kind lexeme h true e rest f more = record { lexeme = lexeme; is = h; same = same_kind lexeme.kind kind (eqb-true _ _ e) }
pick kind lexeme h false e rest f more = more f

find_among : (kind : Kind) (all : List Lexeme) → AreLexemes all → has (terminals all) (terminal kind) ≡ true → Found kind
find_among kind [] h e = never e
find_among kind (lexeme ∷ all) h e = pick kind lexeme h.0 (terminal lexeme.kind == terminal kind) refl (has (terminals all) (terminal kind)) e (find_among kind all h.1)

-- ---- Both kinds of terminals

later : (b c d : Bool) → (b || c) ≡ true → (b || d) ≡ false → (c ≡ true) × (d ≡ false)
later true c d h e = never (sym e)
later false c d h e = (h, e)

behind : (set other : List ℕ) (n : ℕ) → has (set ++ other) n ≡ true → has set n ≡ false → has other n ≡ true
behind [] other n h e = h
behind (m ∷ set) other n h e =
    let both = later (m == n) (has (set ++ other) n) (has set n) h e in
    behind set other n both.0 both.1

choose : (kind : Kind) → has needed (terminal kind) ≡ true → (b : Bool) → has expressions.needed (terminal kind) ≡ b → Found kind
choose kind h true e = found kind e
choose kind h false e =
    find_among kind lexemes are_lexemes (behind expressions.needed (terminals lexemes) (terminal kind)
    (within needed (expressions.needed ++ terminals lexemes) refl (terminal kind) h) e)

pub each : (kind : Kind) → has needed (terminal kind) ≡ true → Found kind
each kind h = choose kind h (has expressions.needed (terminal kind)) refl

unfoldable pub real_tokens : Tokens
real_tokens = record {
  IsToken = IsToken;
  token = λ kind h. record { number = 0; lexeme = (each kind h).lexeme };
  is = λ kind h. (each kind h).is;
  kind_is = λ kind h. (each kind h).same;
}
