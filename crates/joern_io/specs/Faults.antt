-- Counts of calls and of faults, in 64 bits. Such a count never falls.
use Rattle.std.specs.Prelude.{ℕ, ◌+◌, ◌-◌, ◌^◌, ◌≤◌, min}

-- The last value of a count.
abbrev pub last_count : ℕ
last_count = 2 ^ 64 - 1

-- The count after one more: it stays at its last value.
abbrev pub next_count : ℕ → ℕ
next_count count = min (count + 1) last_count

-- A count rose: it is greater than it was, or it stands at its last value.
abbrev pub Rose : ℕ → ℕ → Type 0
Rose old new = next_count old ≤ new
