-- Function values that read items of blocks and statements, where so many levels are left.

use Rattle.std.specs.Prelude.{ℕ, Result}
use Rattle.std.specs.declared.alloc.Global.{Global}
use denote.Ref.{MutBor}
use Rattle.c_tree.specs.declared.tree.BlockItem.{BlockItem}
use Rattle.c_reading.specs.declared.stop.Stop.{Stop}
use Rattle.c_reading.specs.Reads.{Reads}
use Rattle.c_syntax.specs.declared.source.Source.{Source}
use Rattle.c_syntax.specs.Scoping.{input_from}
use Rattle.c_stmt.specs.declared.forms.Ended.{Ended}
use Rattle.c_stmt.specs.Below.{BelowReaders}
use Rattle.c_stmt.specs.Statements.{items, nested_in, statements}

-- Each may be called with what statements are made of, and gives what the reader gives.
pub record Ties {B : Type 0} (readers : BelowReaders) (below : B) (room : ℕ)
    (item_pre : Global → B → ℕ → MutBor Source → Type 0)
    (item_post : Global → B → ℕ → MutBor Source → Result BlockItem Stop → MutBor Source → Type 0)
    (statement_pre : Global → B → ℕ → MutBor Source → Type 0)
    (statement_post : Global → B → ℕ → MutBor Source → Result Ended Stop → MutBor Source →
    Type 0) : Type 0 where
  pub item_callable : (alloc : Global) (old : MutBor Source) → item_pre alloc below room old
  pub item_reads : (alloc : Global) (old new : MutBor Source) (r : Result BlockItem Stop) →
      item_post alloc below room old r new →
      Reads (nested_in readers room items (input_from old.now)) r (input_from new.now)
  pub statement_callable : (alloc : Global) (old : MutBor Source) →
      statement_pre alloc below room old
  pub statement_reads : (alloc : Global) (old new : MutBor Source) (r : Result Ended Stop) →
      statement_post alloc below room old r new →
      Reads (nested_in readers room statements (input_from old.now)) r (input_from new.now)
