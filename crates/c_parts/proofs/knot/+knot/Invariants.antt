use Rattle.std.proofs.Common.{◌+◌, ◌*◌}
use Rattle.c_parts.proofs.knot.+knot.Given as goal

abbrev pub decreases-assign_in : goal.decreases-assign_in
decreases-assign_in l = 2 * l.room

abbrev pub decreases-type_name_in : goal.decreases-type_name_in
decreases-type_name_in l = 2 * l.room + 1

abbrev pub decreases-param_in : goal.decreases-param_in
decreases-param_in l = 2 * l.room + 1

abbrev pub decreases-member_in : goal.decreases-member_in
decreases-member_in l = 2 * l.room + 1

abbrev pub decreases-group_in : goal.decreases-group_in
decreases-group_in l = 2 * l.room + 1

abbrev pub decreases-item_in : goal.decreases-item_in
decreases-item_in l = 2 * l.room + 1
