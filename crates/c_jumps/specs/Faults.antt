-- Which faults a file has, and which comes first (C11 6.8.1, 6.8.4.2, 6.8.6, 6.9).

use Rattle.std.specs.Prelude.{ℕ, ◌≤◌, List, Option}
use Rattle.c_lexer.specs.declared.token.Kind.{Kind}
use Rattle.c_tree.specs.declared.tree.Unit.{Unit}
use Rattle.c_tree.specs.Jumps as rules
use Rattle.c_jumps.specs.declared.fault.Jump.TheVariants as jump
use Rattle.c_jumps.specs.declared.fault.Fault.{Fault}
use Rattle.c_jumps.specs.declared.fault.Fault.TheVariants as fault
use Rattle.c_jumps.specs.declared.fault.Blamed.{Blamed}

-- What the code says of a token, in the words of the rules.
abbrev pub fault_of : Fault → rules.Fault
fault_of (fault.BadJump jump.StrayBreak) = rules.StrayBreak
fault_of (fault.BadJump jump.StrayContinue) = rules.StrayContinue
fault_of (fault.BadJump jump.StrayCase) = rules.StrayCase
fault_of (fault.BadJump jump.StrayDefault) = rules.StrayDefault
fault_of (fault.BadJump jump.SecondDefault) = rules.SecondDefault
fault_of (fault.BadJump jump.SecondLabel) = rules.SecondLabel
fault_of (fault.BadJump jump.MissingLabel) = rules.MissingLabel
fault_of fault.Redefined = rules.Redefined

abbrev pub blamed_by : Blamed → rules.Blamed
blamed_by blamed = rules.blame (fault_of blamed.fault) blamed.token

module _ (kind_of : ℕ → Option Kind) (bytes_of : ℕ → List ℕ) (unit : Unit) where
  -- The file has no fault.
  abbrev pub IsFaultless : Type 0
  IsFaultless = (blamed : rules.Blamed) → ¬ rules.IsFileFault kind_of bytes_of unit blamed

  -- This is a fault of the file, and none blames a token before its own.
  pub record IsFirstFault (blamed : rules.Blamed) : Type 0 where
    pub fault : rules.IsFileFault kind_of bytes_of unit blamed
    pub least : (other : rules.Blamed) → rules.IsFileFault kind_of bytes_of unit other →
        blamed.token ≤ other.token
