-- Which tokens the parser keeps (ours; the words are those of GNU C).

use Rattle.std.specs.Prelude.{ℕ, ◌≡◌, ◌⊎◌, ◌+◌, ◌<◌, List, [], ◌∷◌, length, slice_get}
use Rattle.std.specs.Prelude.{Option, Some, None}
use Rattle.std.specs.List.{All, filter_map}
use Rattle.c_lexer.specs.declared.token.Kind.{Kind}
use Rattle.c_lexer.specs.declared.token.Kind.TheVariants.{Word, Key, Mark, Line, Pragma}
use Rattle.c_lexer.specs.declared.token.Token.{Token}
use Rattle.c_lexer.specs.declared.keyword.TheConstants.{KEY_ATTRIBUTE, KEY_EXTENSION, KEY_ASM}
use Rattle.c_lexer.specs.declared.mark.TheConstants.{MARK_LEFT_PAREN, MARK_RIGHT_PAREN}
use Rattle.c_lexer.specs.declared.mark.TheConstants.{MARK_RIGHT_BRACKET}
use Rattle.line_marks.specs.Balance.{IsGroup, kind_at}

-- A line marker, a pragma or `__extension__`: it is dropped alone.
abbrev pub IsAbsent : Kind → Type 0
IsAbsent Line = Unit {0}
IsAbsent Pragma = Unit {0}
IsAbsent (Key number) = number ≡ KEY_EXTENSION
IsAbsent _ = ⊥

-- From `from` to `to` stand absent tokens, if any, and a group that begins with `(`.
pub data AreParens (tokens : List Token) : ℕ → ℕ → Type 0 where
  absent : {from to : ℕ} (kind : Kind) → kind_at tokens from ≡ Some kind → IsAbsent kind →
      AreParens tokens (from + 1) to → AreParens tokens from to
  parens : {from to : ℕ} → kind_at tokens from ≡ Some (Mark MARK_LEFT_PAREN) →
      IsGroup tokens from to → AreParens tokens from to

-- The last token that was kept is a word, `)` or `]`, with which a declarator may end: an `__asm__`
-- after it may name the symbol. A statement that stands so, as behind `if (x)`, is not told apart.
abbrev pub MayEndDeclarator : Option Kind → Type 0
MayEndDeclarator (Some Word) = Unit {0}
MayEndDeclarator (Some (Mark number)) =
    (number ≡ MARK_RIGHT_PAREN) ⊎ (number ≡ MARK_RIGHT_BRACKET)
MayEndDeclarator _ = ⊥

-- From `at` to `to` stands what is dropped: an absent token, `__attribute__` with its parentheses,
-- or, where a declarator may end, `__asm__` with its parentheses.
pub data IsDropped (tokens : List Token) (before : Option Kind) (at : ℕ) : ℕ → Type 0 where
  absent : (kind : Kind) → kind_at tokens at ≡ Some kind → IsAbsent kind →
      IsDropped tokens before at (at + 1)
  attribute : {to : ℕ} → kind_at tokens at ≡ Some (Key KEY_ATTRIBUTE) →
      AreParens tokens (at + 1) to → IsDropped tokens before at to
  symbol : {to : ℕ} → kind_at tokens at ≡ Some (Key KEY_ASM) → MayEndDeclarator before →
      AreParens tokens (at + 1) to → IsDropped tokens before at to

-- The token at the position is `__attribute__`, and no parentheses follow it.
pub record IsBadAttribute (tokens : List Token) (at : ℕ) : Type 0 where
  pub word : kind_at tokens at ≡ Some (Key KEY_ATTRIBUTE)
  pub alone : (to : ℕ) → ¬ AreParens tokens (at + 1) to

-- The token at the position is kept: it is none of the above.
pub record IsKept (tokens : List Token) (before : Option Kind) (at : ℕ) (kind : Kind) : Type 0 where
  pub token : kind_at tokens at ≡ Some kind
  pub stays : (to : ℕ) → ¬ IsDropped tokens before at to
  pub good : ¬ IsBadAttribute tokens at

-- From `at` on, behind the kept token `before` if there is one, these positions are kept; `stop` is
-- where no token is left or the first bad `__attribute__`. What is dropped is not looked into.
pub data Strips (tokens : List Token) : Option Kind → ℕ → List ℕ → ℕ → Type 0 where
  ends : {before : Option Kind} {at : ℕ} → kind_at tokens at ≡ None → Strips tokens before at [] at
  stops : {before : Option Kind} {at : ℕ} → IsBadAttribute tokens at → Strips tokens before at [] at
  drops : {before : Option Kind} {at stop : ℕ} {kept : List ℕ} (to : ℕ) →
      IsDropped tokens before at to → Strips tokens before to kept stop →
      Strips tokens before at kept stop
  keeps : {before : Option Kind} {at stop : ℕ} {kept : List ℕ} (kind : Kind) →
      IsKept tokens before at kind → Strips tokens (Some kind) (at + 1) kept stop →
      Strips tokens before at (at ∷ kept) stop

-- The parser keeps the tokens at these positions.
pub record AreKept (tokens : List Token) (kept : List ℕ) : Type 0 where
  pub stop : ℕ
  pub strips : Strips tokens None 0 kept stop
  pub end : kind_at tokens stop ≡ None

-- The parser keeps nothing of the tokens, for the `__attribute__` at the position is bad.
pub record StopsStripping (tokens : List Token) (at : ℕ) : Type 0 where
  pub kept : List ℕ
  pub strips : Strips tokens None 0 kept at
  pub bad : IsBadAttribute tokens at

-- Each position is that of an item of the list.
abbrev pub ArePositionsIn : {A : Type 0} → List A → List ℕ → Type 0
ArePositionsIn items positions = All (λ position. position < length items) positions

-- The items at the positions, in their order. At kept positions these are the kept tokens.
unfoldable pub items_at : {A : Type 0} → List A → List ℕ → List A
items_at items positions = filter_map (slice_get items) positions
