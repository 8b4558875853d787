-- That a function gives what the reader of a rule gives, where declarators of functions stand in
-- parentheses.

use Rattle.std.specs.Prelude.{ℕ, ◌<◌, Result}
use Rattle.c_reading.specs.declared.stop.Stop.{Stop}
use Rattle.c_reading.specs.Reads.{Reads}
use Rattle.c_syntax.specs.declared.source.Source.{Source}
use Rattle.c_syntax.specs.Scoping.{PartReader, input_from}
use Rattle.c_specifiers.specs.Inside.{InsideReaders}
use Rattle.c_heads.specs.declared.forms.Enclosed.{Enclosed}
use Rattle.c_heads.specs.HeadReaders.{enclosed_in}

-- The reader has room for so many levels, and what stands in brackets is read one level deeper.
abbrev pub GivesFunction : {A : Type 0} →
    (ℕ → InsideReaders → PartReader Enclosed → PartReader A) → ℕ → (ℕ → InsideReaders) →
    Source → Result A Stop → Source → Type 0
GivesFunction reader room readers old result new =
    Reads (reader room (readers room) (enclosed_in readers room) (input_from old)) result
    (input_from new)

-- What stands in brackets may be read on each deeper level.
abbrev pub CanReadDeeper : (ℕ → Type 0) → ℕ → Type 0
CanReadDeeper can_read room = (less : ℕ) → less < room → can_read less
