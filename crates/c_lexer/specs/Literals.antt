-- Character constants and string literals (C11 6.4.4.4, 6.4.5).

use Rattle.std.specs.Prelude.{ℕ, ◌≡◌, ◌≢◌, ◌+◌, ◌<◌, ◌≤◌, List, [], ◌∷◌}
use Rattle.std.specs.Prelude.{codes, slice_index, slice_range}
use Rattle.std.specs.List.{Contains}
use Rattle.c_lexer.specs.Bytes.{line_feed, backslash, single_quote, double_quote}

-- A byte that stands for itself between such quotes.
pub record IsPlain (quote byte : ℕ) : Type 0 where
  pub no_feed : byte ≢ line_feed
  pub no_backslash : byte ≢ backslash
  pub no_quote : byte ≢ quote

-- What stands between the offsets are characters of a literal with this quote: plain bytes, and
-- backslashes each with the byte after it, which ends no line. Ours: which escape sequences C11
-- knows (6.4.4.4) is not asked.
pub data AreCharacters (bytes : List ℕ) (quote : ℕ) : ℕ → ℕ → Type 0 where
  none : {at : ℕ} → AreCharacters bytes quote at at
  plain : {from to : ℕ} → IsPlain quote (slice_index bytes from) →
      AreCharacters bytes quote (from + 1) to → AreCharacters bytes quote from to
  escaped : {from to : ℕ} → slice_index bytes from ≡ backslash →
      slice_index bytes (from + 1) ≢ line_feed →
      AreCharacters bytes quote (from + 2) to → AreCharacters bytes quote from to

-- Quotes stand at the two offsets, with characters between them.
pub record IsQuoted (bytes : List ℕ) (quote opening closing : ℕ) : Type 0 where
  pub opens : slice_index bytes opening ≡ quote
  pub characters : AreCharacters bytes quote (opening + 1) closing
  pub closes : slice_index bytes closing ≡ quote

-- What may stand before the quotes (6.4.4.4p1, 6.4.5p1).
abbrev pub char_prefixes : List (List ℕ)
char_prefixes = [] ∷ codes "L" ∷ codes "u" ∷ codes "U" ∷ []

abbrev pub text_prefixes : List (List ℕ)
text_prefixes = [] ∷ codes "u8" ∷ codes "u" ∷ codes "U" ∷ codes "L" ∷ []

-- A literal stands between the offsets: one of the prefixes, and characters between quotes.
pub record IsLiteral (prefixes : List (List ℕ)) (quote : ℕ) (bytes : List ℕ) (from to : ℕ)
    : Type 0 where
  pub opening : ℕ
  pub closing : ℕ
  pub forward : from ≤ opening
  pub prefix : Contains prefixes (slice_range bytes from opening)
  pub quoted : IsQuoted bytes quote opening closing
  pub end : to ≡ closing + 1

-- A character constant has a character (6.4.4.4p1).
pub record IsChar (bytes : List ℕ) (from to : ℕ) : Type 0 where
  pub literal : IsLiteral char_prefixes single_quote bytes from to
  pub some : literal.opening + 1 < literal.closing

abbrev pub IsText : List ℕ → ℕ → ℕ → Type 0
IsText bytes from to = IsLiteral text_prefixes double_quote bytes from to
