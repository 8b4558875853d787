-- Balanced brackets among the tokens of a file (ours; the brackets are those of C11 6.4.6).

use Rattle.std.specs.Prelude.{ℕ, ◌≡◌, ◌⊎◌, ◌+◌, ◌≤◌, List, Option, Some, option_map, slice_get}
use Rattle.c_lexer.specs.declared.token.Kind.{Kind}
use Rattle.c_lexer.specs.declared.token.Kind.TheVariants.{Mark}
use Rattle.c_lexer.specs.declared.token.Token.{Token}
use Rattle.c_lexer.specs.declared.mark.TheConstants.{MARK_LEFT_BRACKET, MARK_RIGHT_BRACKET}
use Rattle.c_lexer.specs.declared.mark.TheConstants.{MARK_LEFT_PAREN, MARK_RIGHT_PAREN}
use Rattle.c_lexer.specs.declared.mark.TheConstants.{MARK_LEFT_BRACE, MARK_RIGHT_BRACE}

-- The kind of the token at the position, if one stands there.
unfoldable pub kind_at : List Token → ℕ → Option Kind
kind_at tokens at = option_map (λ token. token.kind) (slice_get tokens at)

-- The first mark is an opening bracket, and the second its own closing one.
abbrev pub Closes : ℕ → ℕ → Type 0
Closes opening closing =
    ((opening ≡ MARK_LEFT_PAREN) × (closing ≡ MARK_RIGHT_PAREN))
    ⊎ ((opening ≡ MARK_LEFT_BRACKET) × (closing ≡ MARK_RIGHT_BRACKET))
    ⊎ ((opening ≡ MARK_LEFT_BRACE) × (closing ≡ MARK_RIGHT_BRACE))

-- The kind is a bracket's, opening or closing. They are the first six marks.
abbrev pub IsBracket : Kind → Type 0
IsBracket (Mark number) = number ≤ MARK_RIGHT_BRACE
IsBracket _ = ⊥

-- From `at` to `to` the brackets are balanced: there stand tokens that are no brackets, and groups,
-- each of an opening bracket, balanced text and its own closing bracket.
pub data AreBalanced (tokens : List Token) : ℕ → ℕ → Type 0 where
  none : {at : ℕ} → AreBalanced tokens at at
  plain : {at to : ℕ} (kind : Kind) → kind_at tokens at ≡ Some kind → ¬ IsBracket kind →
      AreBalanced tokens (at + 1) to → AreBalanced tokens at to
  group : {at to : ℕ} (opening closing end : ℕ) → kind_at tokens at ≡ Some (Mark opening) →
      AreBalanced tokens (at + 1) end → kind_at tokens end ≡ Some (Mark closing) →
      Closes opening closing → AreBalanced tokens (end + 1) to → AreBalanced tokens at to

-- From `at` to `to` stands one group.
pub record IsGroup (tokens : List Token) (at to : ℕ) : Type 0 where
  pub opening : ℕ
  pub closing : ℕ
  pub end : ℕ
  pub opens : kind_at tokens at ≡ Some (Mark opening)
  pub inside : AreBalanced tokens (at + 1) end
  pub closes : kind_at tokens end ≡ Some (Mark closing)
  pub pair : Closes opening closing
  pub past : to ≡ end + 1
