-- That a function gives what the reader of a rule gives.

use Rattle.std.specs.Prelude.{ℕ, ◌+◌, Result}
use Rattle.c_tree.specs.declared.tree.Assign.{Assign}
use Rattle.c_reading.specs.declared.stop.Stop.{Stop}
use Rattle.c_reading.specs.Reads.{Reads}
use Rattle.c_syntax.specs.declared.source.Source.{Source}
use Rattle.c_syntax.specs.Scoping.{PartReader, input_from}
use Rattle.c_syntax.specs.declared.forms.AssignForm.{AssignForm}
use Rattle.c_specifiers.specs.Inside.{InsideReaders}

-- The reader has room for so many levels, and what stands in brackets is read one level deeper.
abbrev pub Gives : {A : Type 0} → (ℕ → InsideReaders → PartReader A) → ℕ → (ℕ → InsideReaders) →
    Source → Result A Stop → Source → Type 0
Gives reader room readers old result new =
    Reads (reader room (readers room) (input_from old)) result (input_from new)

-- The same, where an assignment expression of the form stands on the level.
abbrev pub GivesHere : {A : Type 0} → (ℕ → InsideReaders → PartReader Assign → PartReader A) →
    AssignForm → ℕ → (ℕ → InsideReaders) → Source → Result A Stop → Source → Type 0
GivesHere reader form room readers old result new =
    Reads (reader room (readers room) ((readers (room + 1)).assign form) (input_from old)) result
    (input_from new)
