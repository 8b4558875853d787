-- That a function gives what the reader of a rule gives.

use Rattle.std.specs.Prelude.{ℕ, Result}
use Rattle.c_reading.specs.declared.stop.Stop.{Stop}
use Rattle.c_reading.specs.Reads.{Reads}
use Rattle.c_syntax.specs.declared.source.Source.{Source}
use Rattle.c_syntax.specs.Scoping.{PartReader, input_from}
use Rattle.c_stmt.specs.Below.{BelowReaders, InsideReaders}

-- The reader has room for so many levels, and what stands in braces or is a body is read one level
-- deeper.
abbrev pub Gives : {A : Type 0} → (BelowReaders → ℕ → InsideReaders → PartReader A) →
    BelowReaders → ℕ → (ℕ → InsideReaders) → Source → Result A Stop → Source → Type 0
Gives reader below room inside old result new =
    Reads (reader below room (inside room) (input_from old)) result (input_from new)
