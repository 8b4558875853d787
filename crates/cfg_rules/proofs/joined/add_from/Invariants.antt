use Rattle.std.proofs.Common.{◌≡◌, ◌++◌, map, take, ℕ}
use Rattle.cfg_rules.proofs.joined.add_from.Given as goal

abbrev pub invariant-loop-mark : goal.invariant-loop-mark
invariant-loop-mark l = l.edges.items ≡ l.initial.edges.items ++ map (λ (b : ℕ). (l.from, b)) (take l.mark-index l.to)
