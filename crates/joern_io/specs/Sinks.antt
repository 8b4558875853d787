-- What contracts see of a sink, and what a write does to it.
use Rattle.std.specs.Prelude.{ℕ, ◌≡◌, ◌<◌, ◌≤◌, List, ◌++◌, length, take, Option, Some, None}
use Rattle.joern_io.specs.Faults.{Rose}

-- What contracts see of a sink.
pub record SinkState : Type 0 where
  -- All bytes that it took so far, in their order. None of a sink that does not tell, as of a
  -- terminal: then no clause speaks of bytes.
  pub took : Option (List ℕ)
  -- How many writes met a fault so far, in 64 bits.
  pub faults : ℕ

-- What was taken grew by the bytes, where it is told.
abbrev pub Appends : Option (List ℕ) → Option (List ℕ) → List ℕ → Type 0
Appends None new bytes = Unit {0}
Appends (Some old) new bytes = new ≡ Some (old ++ bytes)

-- What was taken grew by a proper prefix of the bytes: not by all of them.
abbrev pub AppendsProperPrefix : Option (List ℕ) → Option (List ℕ) → List ℕ → Type 0
AppendsProperPrefix old new bytes =
    (count : ℕ) × (count < length bytes) × Appends old new (take count bytes)

-- The sink took exactly these bytes more, where it tells, and its count of faults did not fall.
pub record Takes (old new : SinkState) (bytes : List ℕ) : Type 0 where
  pub taken : Appends old.took new.took bytes
  pub never_falls : old.faults ≤ new.faults

-- The sink's count of faults rose, and it took a proper prefix of the bytes, where it tells.
pub record TakesPrefix (old new : SinkState) (bytes : List ℕ) : Type 0 where
  pub rose : Rose old.faults new.faults
  pub taken : AppendsProperPrefix old.took new.took bytes
  pub never_falls : old.faults ≤ new.faults

-- The sink's count of faults rose, and it took nothing.
pub record TakesNothing (old new : SinkState) : Type 0 where
  pub rose : Rose old.faults new.faults
  pub same : new.took ≡ old.took
  pub never_falls : old.faults ≤ new.faults
