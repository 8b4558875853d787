-- Single tokens in rules and readers of C.

use Rattle.std.specs.Prelude.{ℕ, Bool, if◌then◌else◌, List, [], ◌∷◌, Err}
use Rattle.reading.specs.Readers.{expect, take, offends, branch}
use Rattle.reading.specs.Rules.{one}
use Rattle.c_reading.specs.Terminals.{mark, key}
use Rattle.c_reading.specs.Cursors.{number_of}
use Rattle.c_syntax.specs.Scoping.{Part, PartReader, terminal_of}

-- ---- Readers

-- A token with a terminal of the set; its number.
abbrev pub expect_among : List ℕ → ℕ → PartReader ℕ
expect_among set room = expect terminal_of set number_of room

abbrev pub expect_mark : ℕ → ℕ → PartReader ℕ
expect_mark number room = expect_among (mark number ∷ []) room

abbrev pub expect_key : ℕ → ℕ → PartReader ℕ
expect_key number room = expect_among (key number ∷ []) room

-- The next token, if it may stand there; its number.
abbrev pub take_where : Bool → ℕ → PartReader ℕ
take_where may_stand room = λ input.
    if may_stand then take number_of room input else Err (offends input)

-- By the next token.
abbrev pub where_among : {A : Type 0} → List ℕ → PartReader A → PartReader A → PartReader A
where_among set p q = branch terminal_of set p q

abbrev pub where_mark : {A : Type 0} → ℕ → PartReader A → PartReader A → PartReader A
where_mark number p q = where_among (mark number ∷ []) p q

abbrev pub where_key : {A : Type 0} → ℕ → PartReader A → PartReader A → PartReader A
where_key number p q = where_among (key number ∷ []) p q

-- ---- Rules

abbrev pub one_among : List ℕ → ℕ → Part ℕ
one_among set level = one terminal_of set number_of level

abbrev pub one_mark : ℕ → ℕ → Part ℕ
one_mark number level = one_among (mark number ∷ []) level

abbrev pub one_key : ℕ → ℕ → Part ℕ
one_key number level = one_among (key number ∷ []) level
