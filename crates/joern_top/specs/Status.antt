-- How a run ends (ours).
use Rattle.std.specs.Prelude.{ℕ}
use Rattle.joern_top.specs.declared.status.Status.{Status}
use Rattle.joern_top.specs.declared.status.Status.TheVariants as status

-- The status with which the program ends.
abbrev pub status_code : Status → ℕ
status_code status.Ok = 0
status_code status.Usage = 2
status_code (status.SourceRefused _ _ _) = 3
status_code (status.ReadFault _) = 6
status_code status.WriteFault = 7
status_code (status.Limit _ _) = 8
status_code status.NoMemory = 9

-- Neither a fault nor want of memory.
abbrev pub IsAnswer : Status → Type 0
IsAnswer (status.ReadFault _) = ⊥
IsAnswer status.WriteFault = ⊥
IsAnswer status.NoMemory = ⊥
IsAnswer _ = Unit {0}
