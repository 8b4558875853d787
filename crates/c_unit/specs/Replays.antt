-- A file that is read anew, up to a place.

use Rattle.std.specs.Prelude.{ℕ, Bool, List, [], ◌∷◌}
use Rattle.reading.specs.Readers.{◌>>=◌, pure}
use Rattle.c_syntax.specs.Scoping.{PartReader}
use Rattle.c_stmt.specs.Below.{BelowReaders}
use Rattle.c_unit.specs.declared.forms.Head.{Head}
use Rattle.c_unit.specs.UnitReaders.{picked}

-- External declarations, of each of which it is given whether it is a function definition.
unfoldable pub replays : BelowReaders → (ℕ → PartReader Head) → ℕ → List Bool →
    PartReader (Prim.Unit {0})
replays below head room [] = pure tt
replays below head room (definition ∷ more) = do
  next ← picked below head room definition
  replays below head room more
