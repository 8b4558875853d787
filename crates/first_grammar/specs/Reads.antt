-- What a reading function answers.

use Rattle.std.specs.Prelude.{Result, Ok, Err}
use Rattle.first_grammar.specs.Rest.{Rest}
use Rattle.first_grammar.specs.declared.stop.GrammarStop.{GrammarStop}
use Rattle.first_grammar.specs.declared.stop.GrammarStop.TheVariants as stop

-- The part stands there, up to where the rest begins; where the file is refused, none does.
abbrev pub Reads : {A : Type 0} → (A → Rest → Rest → Type 0) → Rest → Result A GrammarStop →
    Rest → Type 0
Reads {A} Stands before (Ok part) after = Stands part before after
Reads {A} Stands before (Err stop.Unbuilt) after =
    (part : A) (end : Rest) → ¬ Stands part before end
Reads {A} Stands before (Err stop.Memory) after = Prim.Unit {0}
