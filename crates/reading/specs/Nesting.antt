-- Rules that hold one another in brackets, and their readers.

use Rattle.std.specs.Prelude.{ℕ, zero, suc}
use Rattle.reading.specs.Languages.{no_word}
use Rattle.reading.specs.Rules.{Rule}
use Rattle.reading.specs.Readers.{Reader, refuse}

-- The rules of some names, each on a level. What a rule holds in brackets is one level deeper, and
-- has a turn less.
unfoldable pub nested : {Token Scope Name : Type 0} {Value : Name → Type 0} →
    ((n : Name) → ℕ → ℕ → ((m : Name) → Rule Token Scope (Value m)) → Rule Token Scope (Value n)) →
    ℕ → ℕ → (n : Name) → Rule Token Scope (Value n)
nested body zero level n = λ scope. no_word
nested body (suc turns) level n = body n turns level (nested body turns (suc level))

-- Their readers. What a reader reads in brackets has room for a level less.
unfoldable pub nested_reader : {Token Scope Around Name : Type 0} {Value : Name → Type 0} →
    ((n : Name) → ℕ → ((m : Name) → Reader Token Scope Around (Value m)) →
    Reader Token Scope Around (Value n)) →
    ℕ → (n : Name) → Reader Token Scope Around (Value n)
nested_reader body zero n = refuse
nested_reader body (suc room) n = body n room (nested_reader body room)
