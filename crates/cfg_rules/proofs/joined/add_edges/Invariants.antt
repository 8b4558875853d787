use Rattle.std.proofs.Common.{take}
use Rattle.cfg_rules.specs.Sets.{HasEdges}
use Rattle.cfg_rules.proofs.joined.add_edges.Given as goal

abbrev pub invariant-loop-mark : goal.invariant-loop-mark
invariant-loop-mark l = HasEdges l.initial.edges.items l.edges.items (take l.mark-index l.from) l.to
