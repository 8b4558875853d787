-- Files of a file system, of whose content nothing is told but what its readers tell.
use Rattle.std.specs.Prelude.{ℕ, Bool, List, Option}

-- What contracts see of them.
pub record DiskState : Type 0 where
  -- The bytes that the reader of the open file has left. None where no file is open, or where the
  -- reader does not tell.
  pub left : Option (List ℕ)
  -- Whether a file is open.
  pub is_open : Bool
  -- How many calls failed.
  pub faults : ℕ
