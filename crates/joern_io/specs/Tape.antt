-- A sink in memory, of which writes fail by their number.
use Rattle.std.specs.Prelude.{ℕ, ◌≡◌, ◌-◌, List, length}

-- What contracts see of a tape.
pub record TapeState : Type 0 where
  -- All bytes that were taken.
  pub took : List ℕ
  -- How many bytes it has room for in all.
  pub room : ℕ
  -- A write takes at most as many bytes.
  pub piece : ℕ
  -- The numbers of the writes that fail.
  pub fails : List ℕ
  -- How many writes of pieces that are not empty there were: the next one has the next number.
  pub writes : ℕ
  -- How many of them failed.
  pub faults : ℕ

-- How many bytes it has room for yet.
abbrev pub room_left : TapeState → ℕ
room_left tape = tape.room - length tape.took

-- What a tape was made with stays: its room, the length of a piece and the numbers that fail.
abbrev pub KeepsTape : TapeState → TapeState → Type 0
KeepsTape old new = (new.room ≡ old.room) × (new.piece ≡ old.piece) × (new.fails ≡ old.fails)
