-- That a function of the code gives what a reader gives, and the place behind it.

use Rattle.std.specs.Prelude.{◌≡◌, List, Result, Ok, Err}
use Rattle.reading.specs.Readers.{Input, Outcome}
use Rattle.c_tree.specs.declared.tree.Item.{Item}
use Rattle.c_tree.specs.declared.tree.Unit.{Unit}
use Rattle.c_scopes.specs.Scopes.{OpenScopes}
use Rattle.c_reading.specs.declared.stop.Stop.{Stop}
use Rattle.c_reading.specs.Kept.{KeptToken}
use Rattle.c_reading.specs.Cursors.{Around}
use Rattle.c_reading.specs.Reads.{Halts}
use Rattle.c_syntax.specs.declared.source.Source.{Source}
use Rattle.c_syntax.specs.Scoping.{input_from}
use Rattle.c_unit.specs.declared.forms.External.{External}
use Rattle.c_unit.specs.declared.forms.Items.{Items}

-- The source is the one behind it.
abbrev pub GoesTo : Outcome KeptToken OpenScopes Around (Prim.Unit {0}) → Result Source Stop →
    Type 0
GoesTo outcome (Ok source) = outcome ≡ Ok (tt, input_from source)
GoesTo outcome (Err stop) = Halts outcome stop

-- An external declaration, with the source behind it.
abbrev pub Takes : Outcome KeptToken OpenScopes Around Item → Result External Stop → Type 0
Takes outcome (Ok taken) = outcome ≡ Ok (taken.item, input_from taken.source)
Takes outcome (Err stop) = Halts outcome stop

-- All of them, with the source behind them.
abbrev pub TakesAll : Outcome KeptToken OpenScopes Around (List Item) → Result Items Stop → Type 0
TakesAll outcome (Ok all) = outcome ≡ Ok (all.list, input_from all.source)
TakesAll outcome (Err stop) = Halts outcome stop

-- A whole file, behind which nothing is read.
abbrev pub Tells : Outcome KeptToken OpenScopes Around Unit → Result Unit Stop → Type 0
Tells outcome (Ok unit) =
    (end : Input KeptToken OpenScopes Around) × (outcome ≡ Ok (unit, end))
Tells outcome (Err stop) = Halts outcome stop
