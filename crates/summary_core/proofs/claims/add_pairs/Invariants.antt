use Rattle.summary_core.proofs.Publishing.{Adding}
use Rattle.summary_core.proofs.claims.add_pairs.Given as goal

abbrev pub invariant-loop-out : goal.invariant-loop-out
invariant-loop-out l = Adding l.fn.history.items l.goal l.outs l.history.items l.out-index
