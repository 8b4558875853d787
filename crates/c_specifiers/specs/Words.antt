-- Words that are names.

use Rattle.std.specs.Prelude.{ℕ, List}
use Rattle.c_reading.specs.Kept.{KeptToken}

-- The number of the token, and the bytes of the name.
pub record NamedToken : Type 0 where
  pub token : ℕ
  pub bytes : List ℕ

abbrev pub word_of : KeptToken → NamedToken
word_of token = record { token = token.number; bytes = token.lexeme.spelling }
