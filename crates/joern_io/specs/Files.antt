-- What contracts see of files that are read one at a time, and what a call does to them.
use Rattle.std.specs.Prelude.{ℕ, ◌≡◌, ◌≢◌, ◌≤◌, ◌⊎◌, Bool, true, List, [], length, take, drop}
use Rattle.std.specs.Prelude.{Option, Some, None, IfSome}
use Rattle.joern_io.specs.Faults.{Rose}
use Rattle.joern_io.specs.Held.{Held, file_of, Lacks, IsLargerThan}

-- What contracts see of files.
pub record FilesState : Type 0 where
  -- What the device holds, by name. It never changes. None of a device that does not tell, as of a
  -- disk: then no clause speaks of bytes.
  pub held : Option Held
  -- The bytes that are still to be read of the open file. None where no file is open, or where the
  -- device does not tell.
  pub left : Option (List ℕ)
  -- Whether a file is open.
  pub is_open : Bool
  -- How many calls met a fault so far, in 64 bits.
  pub faults : ℕ

-- What is held is the same, and the count of faults did not fall.
pub record KeepsFiles (old new : FilesState) : Type 0 where
  pub held : new.held ≡ old.held
  pub never_falls : old.faults ≤ new.faults

-- The count of faults rose, or the files are known to lack the name.
abbrev pub RoseOrLacks : FilesState → FilesState → List ℕ → Type 0
RoseOrLacks old new name = Rose old.faults new.faults ⊎ Lacks old.held name

-- The bytes left are those held under the name, where it is told what is held.
abbrev pub IsWholeFile : Option Held → List ℕ → Option (List ℕ) → Type 0
IsWholeFile None name left = Unit {0}
IsWholeFile (Some held) name left =
    (bytes : List ℕ) × (file_of held name ≡ Some bytes) × (left ≡ Some bytes)

-- The file of this name is open at its front.
pub record Opens (old new : FilesState) (name : List ℕ) : Type 0 where
  pub is_open : new.is_open ≡ true
  pub left : IsWholeFile old.held name new.left

-- The next count bytes stand at the front of the piece, and the others are left. A count of 0 for a
-- piece that is not empty is the end of the file.
pub record ReadsFront (old : List ℕ) (new : Option (List ℕ)) (count : ℕ) (piece : List ℕ)
    : Type 0 where
  pub within : count ≤ length old
  pub front : take count piece ≡ take count old
  pub rest : new ≡ Some (drop count old)
  pub end : piece ≢ [] → count ≡ 0 → old ≡ []

-- The same, where the bytes left are told.
abbrev pub ReadsLeft : Option (List ℕ) → Option (List ℕ) → ℕ → List ℕ → Type 0
ReadsLeft None new count piece = Unit {0}
ReadsLeft (Some old) new count piece = ReadsFront old new count piece

-- The next count bytes of the open file were read to the front of the piece.
abbrev pub Reads : FilesState → FilesState → ℕ → List ℕ → Type 0
Reads old new count piece = ReadsLeft old.left new.left count piece

-- These bytes are held under the name, where it is told what is held.
abbrev pub HoldsFile : FilesState → List ℕ → List ℕ → Type 0
HoldsFile files name bytes = IfSome files.held (λ held. file_of held name ≡ Some bytes)

-- More bytes than the limit are held under the name, where it is told what is held.
abbrev pub HoldsLargerFile : FilesState → List ℕ → ℕ → Type 0
HoldsLargerFile files name limit =
    IfSome files.held (λ held. IsLargerThan limit (file_of held name))
