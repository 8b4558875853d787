-- Where the reading of a file begins.

use Rattle.std.specs.Prelude.{ℕ, List}
use Rattle.c_lexer.specs.declared.token.Token.{Token}
use Rattle.c_scopes.specs.Scopes.{OpenScopes, file_scope}
use Rattle.reading.specs.Readers.{Input}
use Rattle.c_reading.specs.Kept.{KeptToken, kept_lexemes}
use Rattle.c_reading.specs.Cursors.{Around, beginning, input_at}

-- Before the first kept token, with nothing around it and nothing declared.
abbrev pub beginning_of : List ℕ → List Token → List ℕ → Input KeptToken OpenScopes Around
beginning_of bytes tokens kept = input_at (beginning (kept_lexemes bytes tokens kept)) file_scope
