-- What is passed over between tokens (C11 6.4p3): blanks and comments.

use Rattle.std.specs.Prelude.{ℕ, ◌≡◌, ◌⊎◌, ◌+◌, ◌<◌, List, length, slice_index}
use Rattle.c_lexer.specs.Bytes.{IsBlank}
use Rattle.c_lexer.specs.Comments.{IsBlockComment, IsLineComment}

-- One blank stands between the offsets.
pub record IsOneBlank (bytes : List ℕ) (from to : ℕ) : Type 0 where
  pub within : from < length bytes
  pub blank : IsBlank (slice_index bytes from)
  pub one : to ≡ from + 1

-- One thing that is passed over whole stands between the offsets.
abbrev pub IsPassed : List ℕ → ℕ → ℕ → Type 0
IsPassed bytes from to =
    IsOneBlank bytes from to ⊎ IsBlockComment bytes from to ⊎ IsLineComment bytes from to

-- What stands between the offsets is passed over, one thing after the other.
pub data PassesOver (bytes : List ℕ) : ℕ → ℕ → Type 0 where
  nothing : {at : ℕ} → PassesOver bytes at at
  onward : {from via to : ℕ} → IsPassed bytes from via → PassesOver bytes via to →
      PassesOver bytes from to

-- It is passed over, and nothing more is.
pub record PassesAll (bytes : List ℕ) (from to : ℕ) : Type 0 where
  pub passed : PassesOver bytes from to
  pub no_more : (past : ℕ) → ¬ IsPassed bytes to past
