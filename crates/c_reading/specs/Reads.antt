-- That a function of the code reads as a reader does.

use Rattle.std.specs.Prelude.{◌≡◌, Result, Ok, Err}
use Rattle.reading.specs.Readers.{Input, Outcome, offends, too_deep}
use Rattle.c_reading.specs.declared.stop.Stop.{Stop}
use Rattle.c_reading.specs.declared.stop.Stop.TheVariants as stop
use Rattle.c_reading.specs.Kept.{KeptToken}
use Rattle.c_reading.specs.Cursors.{Around, number_ahead}

-- The reader stops so, and blames that token. Want of memory says nothing.
abbrev pub Halts : {Scope A : Type 0} → Outcome KeptToken Scope Around A → Stop → Type 0
Halts {Scope} outcome (stop.Offends token) = (input : Input KeptToken Scope Around) ×
    (outcome ≡ Err (offends input)) × (token ≡ number_ahead input)
Halts {Scope} outcome (stop.TooDeep token) = (input : Input KeptToken Scope Around) ×
    (outcome ≡ Err (too_deep input)) × (token ≡ number_ahead input)
Halts outcome stop.Memory = Prim.Unit {0}

-- The result is the reader's outcome, and `new` what is left, unless memory was wanting.
abbrev pub Reads : {Scope A : Type 0} → Outcome KeptToken Scope Around A → Result A Stop →
    Input KeptToken Scope Around → Type 0
Reads outcome (Ok a) new = outcome ≡ Ok (a, new)
Reads outcome (Err stop) new = Halts outcome stop
