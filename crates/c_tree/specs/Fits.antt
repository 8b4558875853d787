-- Which tokens are what a symbol wants.

use Rattle.std.specs.Prelude.{ℕ, ◌≡◌, ◌+◌, ◌⊎◌, List, [], ◌∷◌, map}
use Rattle.std.specs.List.{Contains}
use Rattle.c_lexer.specs.declared.token.Kind.{Kind}
use Rattle.c_lexer.specs.declared.token.Kind.TheVariants as k
use Rattle.c_lexer.specs.declared.token.Token.{Token}
use Rattle.c_lexer.specs.declared.keyword.TheConstants.{KEY_AUTO, KEY_CHAR, KEY_CONST, KEY_DOUBLE}
use Rattle.c_lexer.specs.declared.keyword.TheConstants.{KEY_EXTERN, KEY_FLOAT, KEY_INLINE, KEY_INT}
use Rattle.c_lexer.specs.declared.keyword.TheConstants.{KEY_LONG, KEY_REGISTER, KEY_RESTRICT}
use Rattle.c_lexer.specs.declared.keyword.TheConstants.{KEY_SHORT, KEY_SIGNED, KEY_SIZEOF}
use Rattle.c_lexer.specs.declared.keyword.TheConstants.{KEY_STATIC, KEY_STRUCT, KEY_TYPEDEF}
use Rattle.c_lexer.specs.declared.keyword.TheConstants.{KEY_UNION, KEY_UNSIGNED, KEY_VOID}
use Rattle.c_lexer.specs.declared.keyword.TheConstants.{KEY_VOLATILE, KEY_ALIGNOF, KEY_ATOMIC}
use Rattle.c_lexer.specs.declared.keyword.TheConstants.{KEY_BOOL, KEY_COMPLEX, KEY_NORETURN}
use Rattle.c_lexer.specs.declared.keyword.TheConstants.{KEY_THREAD_LOCAL, KEY_BUILTIN_VA_LIST}
use Rattle.c_lexer.specs.declared.keyword.TheConstants.{KEY_FLOAT32, KEY_FLOAT64, KEY_FLOAT128}
use Rattle.c_lexer.specs.declared.keyword.TheConstants.{KEY_FLOAT32X, KEY_FLOAT64X, KEY_INT128}
use Rattle.c_lexer.specs.declared.mark.TheConstants.{MARK_PLUS_PLUS, MARK_MINUS_MINUS}
use Rattle.c_lexer.specs.declared.mark.TheConstants.{MARK_AMPERSAND, MARK_STAR, MARK_PLUS}
use Rattle.c_lexer.specs.declared.mark.TheConstants.{MARK_MINUS, MARK_TILDE, MARK_EXCLAMATION}
use Rattle.c_lexer.specs.declared.mark.TheConstants.{MARK_SLASH, MARK_PERCENT, MARK_LEFT_SHIFT}
use Rattle.c_lexer.specs.declared.mark.TheConstants.{MARK_RIGHT_SHIFT, MARK_LESS, MARK_GREATER}
use Rattle.c_lexer.specs.declared.mark.TheConstants.{MARK_LESS_EQUAL, MARK_GREATER_EQUAL}
use Rattle.c_lexer.specs.declared.mark.TheConstants.{MARK_EQUAL_EQUAL, MARK_NOT_EQUAL, MARK_CARET}
use Rattle.c_lexer.specs.declared.mark.TheConstants.{MARK_BAR, MARK_AND_AND, MARK_OR_OR, MARK_EQUAL}
use Rattle.c_lexer.specs.declared.mark.TheConstants.{MARK_STAR_EQUAL, MARK_SLASH_EQUAL}
use Rattle.c_lexer.specs.declared.mark.TheConstants.{MARK_PERCENT_EQUAL, MARK_PLUS_EQUAL}
use Rattle.c_lexer.specs.declared.mark.TheConstants.{MARK_MINUS_EQUAL, MARK_LEFT_SHIFT_EQUAL}
use Rattle.c_lexer.specs.declared.mark.TheConstants.{MARK_RIGHT_SHIFT_EQUAL, MARK_AMPERSAND_EQUAL}
use Rattle.c_lexer.specs.declared.mark.TheConstants.{MARK_CARET_EQUAL, MARK_BAR_EQUAL}
use Rattle.c_tree.specs.declared.symbol.Want.{Want}
use Rattle.c_tree.specs.declared.symbol.Want.TheVariants as want
use Rattle.c_tree.specs.declared.symbol.Slot.{Slot}
use Rattle.c_tree.specs.declared.symbol.Slot.TheVariants as slot
use Rattle.c_tree.specs.declared.tree.Unit.{Unit}
use Rattle.c_tree.specs.Spell.{Symbols, unit_spelling}

-- Storage-class specifiers (6.7.1).
abbrev pub storage_classes : List ℕ
storage_classes =
    KEY_TYPEDEF ∷ KEY_EXTERN ∷ KEY_STATIC ∷ KEY_THREAD_LOCAL ∷ KEY_AUTO ∷ KEY_REGISTER ∷ []

-- Function specifiers (6.7.4).
abbrev pub function_specifiers : List ℕ
function_specifiers = KEY_INLINE ∷ KEY_NORETURN ∷ []

-- Type qualifiers (6.7.3).
abbrev pub qualifiers : List ℕ
qualifiers = KEY_CONST ∷ KEY_RESTRICT ∷ KEY_VOLATILE ∷ KEY_ATOMIC ∷ []

-- Type specifiers of one keyword (6.7.2), and after `_Complex` ours: those that system headers use.
abbrev pub type_specifiers : List ℕ
type_specifiers =
    KEY_VOID ∷ KEY_CHAR ∷ KEY_SHORT ∷ KEY_INT ∷ KEY_LONG ∷ KEY_FLOAT ∷ KEY_DOUBLE ∷ KEY_SIGNED ∷
    KEY_UNSIGNED ∷ KEY_BOOL ∷ KEY_COMPLEX ∷ KEY_BUILTIN_VA_LIST ∷ KEY_INT128 ∷ KEY_FLOAT32 ∷
    KEY_FLOAT64 ∷ KEY_FLOAT128 ∷ KEY_FLOAT32X ∷ KEY_FLOAT64X ∷ []

-- Assignment operators (6.5.16).
abbrev pub assignment_operators : List ℕ
assignment_operators =
    MARK_EQUAL ∷ MARK_STAR_EQUAL ∷ MARK_SLASH_EQUAL ∷ MARK_PERCENT_EQUAL ∷ MARK_PLUS_EQUAL ∷
    MARK_MINUS_EQUAL ∷ MARK_LEFT_SHIFT_EQUAL ∷ MARK_RIGHT_SHIFT_EQUAL ∷ MARK_AMPERSAND_EQUAL ∷
    MARK_CARET_EQUAL ∷ MARK_BAR_EQUAL ∷ []

-- Binary operators (6.5.5 to 6.5.14).
abbrev pub binary_operators : List ℕ
binary_operators =
    MARK_STAR ∷ MARK_SLASH ∷ MARK_PERCENT ∷ MARK_PLUS ∷ MARK_MINUS ∷ MARK_LEFT_SHIFT ∷
    MARK_RIGHT_SHIFT ∷ MARK_LESS ∷ MARK_GREATER ∷ MARK_LESS_EQUAL ∷ MARK_GREATER_EQUAL ∷
    MARK_EQUAL_EQUAL ∷ MARK_NOT_EQUAL ∷ MARK_AMPERSAND ∷ MARK_CARET ∷ MARK_BAR ∷ MARK_AND_AND ∷
    MARK_OR_OR ∷ []

-- `++` and `--` (6.5.2.4, 6.5.3.1).
abbrev pub steps : List ℕ
steps = MARK_PLUS_PLUS ∷ MARK_MINUS_MINUS ∷ []

-- Unary operators that are marks (6.5.3).
abbrev pub prefix_operators : List ℕ
prefix_operators =
    MARK_PLUS_PLUS ∷ MARK_MINUS_MINUS ∷ MARK_AMPERSAND ∷ MARK_STAR ∷ MARK_PLUS ∷ MARK_MINUS ∷
    MARK_TILDE ∷ MARK_EXCLAMATION ∷ []

-- The kind is a keyword of the list.
abbrev pub IsKeyAmong : List ℕ → Kind → Type 0
IsKeyAmong keys kind = (number : ℕ) × Contains keys number × (kind ≡ k.Key number)

-- The kind is a mark of the list.
abbrev pub IsMarkAmong : List ℕ → Kind → Type 0
IsMarkAmong marks kind = (number : ℕ) × Contains marks number × (kind ≡ k.Mark number)

-- What may stand in the slot.
abbrev pub MayStand : Slot → Kind → Type 0
MayStand slot.Storage kind = IsKeyAmong storage_classes kind
MayStand slot.Function kind = IsKeyAmong function_specifiers kind
MayStand slot.Qualifier kind = IsKeyAmong qualifiers kind
MayStand slot.Basic kind = IsKeyAmong type_specifiers kind
-- `struct` and `union` (6.7.2.1).
MayStand slot.RecordKey kind = IsKeyAmong (KEY_STRUCT ∷ KEY_UNION ∷ []) kind
-- `static` and type qualifiers (6.7.6.2).
MayStand slot.ArrayWord kind = IsKeyAmong (KEY_STATIC ∷ qualifiers) kind
MayStand slot.AssignOp kind = IsMarkAmong assignment_operators kind
MayStand slot.BinaryOp kind = IsMarkAmong binary_operators kind
-- A mark, or `sizeof` before an expression (6.5.3).
MayStand slot.PrefixOp kind = IsMarkAmong prefix_operators kind ⊎ (kind ≡ k.Key KEY_SIZEOF)
MayStand slot.Step kind = IsMarkAmong steps kind
-- `sizeof` and `_Alignof` before a type name (6.5.3.4).
MayStand slot.SizeKey kind = IsKeyAmong (KEY_SIZEOF ∷ KEY_ALIGNOF ∷ []) kind
-- A constant or a string literal (6.5.1).
MayStand slot.Literal kind = (kind ≡ k.Number) ⊎ (kind ≡ k.Char) ⊎ (kind ≡ k.Text)

-- A token of the kind is what is wanted.
abbrev pub Fits : Want → Kind → Type 0
Fits want.Word kind = kind ≡ k.Word
Fits want.Number kind = kind ≡ k.Number
Fits want.Char kind = kind ≡ k.Char
Fits want.Text kind = kind ≡ k.Text
Fits (want.Key number) kind = kind ≡ k.Key number
Fits (want.Mark number) kind = kind ≡ k.Mark number
Fits (want.Among slot) kind = MayStand slot kind

-- The symbols have the tokens from `at` on, one each in order, and each token is what is wanted.
abbrev pub FitFrom : ℕ → Symbols → List Kind → Type 0
FitFrom at [] [] = Prim.Unit {0}
FitFrom at [] (kind ∷ kinds) = ⊥
FitFrom at (symbol ∷ symbols) [] = ⊥
FitFrom at (symbol ∷ symbols) (kind ∷ kinds) =
    (symbol.token ≡ at) × Fits symbol.want kind × FitFrom (at + 1) symbols kinds

-- The kinds of the tokens.
abbrev pub kinds_of : List Token → List Kind
kinds_of tokens = map (λ token. token.kind) tokens

-- The tree spells tokens of the kinds: symbol i has token i, which is what is wanted.
abbrev pub Spells : Unit → List Kind → Type 0
Spells unit kinds = FitFrom 0 (unit_spelling unit) kinds
