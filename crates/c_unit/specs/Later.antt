-- Two readings of the same tokens, of which the one that goes on later says what offends.

use Rattle.std.specs.Prelude.{nat_lt, if◌then◌else◌, Ok, Err}
use Rattle.reading.specs.Readers.{Input, Outcome, offends, too_deep}
use Rattle.c_scopes.specs.Scopes.{OpenScopes}
use Rattle.c_reading.specs.Kept.{KeptToken}
use Rattle.c_reading.specs.Cursors.{Around, number_ahead}
use Rattle.c_syntax.specs.Scoping.{PartReader}

-- The later of two places.
abbrev pub further : Input KeptToken OpenScopes Around → Input KeptToken OpenScopes Around →
    Input KeptToken OpenScopes Around
further at other = if nat_lt (number_ahead other) (number_ahead at) then at else other

-- Behind a reading that stops: the second, or the later of both stops.
abbrev pub behind_stop : {A : Type 0} → Input KeptToken OpenScopes Around →
    Outcome KeptToken OpenScopes Around A → Outcome KeptToken OpenScopes Around A
behind_stop at (Ok end) = Ok end
behind_stop at (Err (too_deep other)) = Err (too_deep other)
behind_stop at (Err (offends other)) = Err (offends (further at other))

-- The first reading, or the second where the first offends somewhere.
abbrev pub behind_first : {A : Type 0} → Outcome KeptToken OpenScopes Around A →
    Outcome KeptToken OpenScopes Around A → Outcome KeptToken OpenScopes Around A
behind_first (Ok end) other = Ok end
behind_first (Err (too_deep at)) other = Err (too_deep at)
behind_first (Err (offends at)) other = behind_stop at other

abbrev pub later : {A : Type 0} → PartReader A → PartReader A → PartReader A
later p q = λ input. behind_first (p input) (q input)
