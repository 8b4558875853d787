use Rattle.std.proofs.Common.{◌≡◌, length, drop}
use Rattle.graph_store.specs.GrownRows.{rows_with_settings}
use Rattle.graph_store.proofs.applying.set_all.Given as goal

abbrev pub invariant-loop-setting : goal.invariant-loop-setting
invariant-loop-setting l = record {
  kept : rows_with_settings l.numbers (drop l.setting-index l.settings) l.nodes ≡ rows_with_settings l.numbers l.settings l.fn.nodes;
  same : length l.nodes ≡ length l.fn.nodes;
}
