use Rattle.std.proofs.Common.{not, ap}
use Rattle.line_marks.proofs.Groups.{not_dropped_at}
use Rattle.line_marks.proofs.stripping.needed_ends.Goals as goal

pub returns-else-may_drop_groups : goal.returns-else-may_drop_groups
returns-else-may_drop_groups c = record {
  known = λ at kind here may. absurd (not_dropped_at c.args.tokens.now at kind (c.may_drop_groups.ensures (ap not c.if-may_drop_groups.false)) here may);
}
