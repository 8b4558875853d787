use Rattle.std.proofs.Common.{◌≡◌, ◌≤◌, drop}
use Rattle.line_marks.specs.Kept.{items_at}
use Rattle.c_unit.specs.declared.beginning.Seen.TheVariants.{Open}
use Rattle.c_unit.specs.Beginnings as spec
use Rattle.c_unit.proofs.beginning.is_definition_at.Given as goal

abbrev pub invariant-loop-number : goal.invariant-loop-number
invariant-loop-number l = record {
  told : spec.is_definition_at l.tokens l.kept l.at ≡ spec.tells (Open l.depth l.closed) (drop l.number (items_at l.tokens l.kept));
  few : l.depth ≤ l.number;
}
