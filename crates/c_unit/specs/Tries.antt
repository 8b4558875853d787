-- What the code makes of the two readings of an external declaration.

use Rattle.std.specs.Prelude.{ℕ, max, Result, Ok, Err}
use Rattle.c_reading.specs.declared.stop.Stop.{Stop}
use Rattle.c_reading.specs.declared.stop.Stop.TheVariants as stop
use Rattle.c_unit.specs.declared.forms.External.{External}
use Rattle.c_unit.specs.declared.external.Tried.{Tried}
use Rattle.c_unit.specs.declared.external.Tried.TheVariants.{Counts, Offends}

-- The first counts, but where a token offends it.
abbrev pub tried : Result External Stop → Tried
tried (Ok taken) = Counts (Ok taken)
tried (Err (stop.Offends token)) = Offends token
tried (Err (stop.TooDeep token)) = Counts (Err (stop.TooDeep token))
tried (Err stop.Memory) = Counts (Err stop.Memory)

-- The second behind this stop of the first.
abbrev pub later_of : ℕ → Result External Stop → Result External Stop
later_of token (Ok taken) = Ok taken
later_of token (Err (stop.Offends other)) = Err (stop.Offends (max token other))
later_of token (Err (stop.TooDeep other)) = Err (stop.TooDeep other)
later_of token (Err stop.Memory) = Err stop.Memory
