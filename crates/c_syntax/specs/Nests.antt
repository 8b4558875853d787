-- A function value that reads assignment expressions one level deeper.

use Rattle.std.specs.Prelude.{ℕ, Result}
use Rattle.std.specs.declared.alloc.Global.{Global}
use denote.Ref.{MutBor}
use Rattle.c_tree.specs.declared.tree.Assign.{Assign}
use Rattle.c_reading.specs.declared.stop.Stop.{Stop}
use Rattle.c_reading.specs.Reads.{Reads}
use Rattle.c_syntax.specs.declared.source.Source.{Source}
use Rattle.c_syntax.specs.Scoping.{input_from}
use Rattle.c_syntax.specs.SimplestReaders.{assign}

pub record Nests (room : ℕ) (pre : Global → ℕ → MutBor Source → Type 0)
    (post : Global → ℕ → MutBor Source → Result Assign Stop → MutBor Source → Type 0) :
    Type 0 where
  pub callable : (alloc : Global) (old : MutBor Source) → pre alloc room old
  pub reads : (alloc : Global) (old new : MutBor Source) (r : Result Assign Stop) →
      post alloc room old r new → Reads (assign room (input_from old.now)) r (input_from new.now)
