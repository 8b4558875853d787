use Rattle.matched_paths.specs.Edges.{IsOut}
use Rattle.path_facts.proofs.Summing.{Summing}
use Rattle.path_facts.proofs.saturating.summaries.Given as goal

abbrev pub invariant-loop-fact : goal.invariant-loop-fact
invariant-loop-fact l = Summing (IsOut l.flow) l.facts l.pairs.items l.fact-index
