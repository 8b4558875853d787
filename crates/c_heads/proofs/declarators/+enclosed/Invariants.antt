-- Measures: six a level, so that what calls another function on its level is above it.
use Rattle.std.proofs.Common.{◌+◌, ◌*◌}
use Rattle.c_heads.proofs.declarators.+enclosed.Given as goal

abbrev pub decreases-enclosed_in : goal.decreases-enclosed_in
decreases-enclosed_in g l = 6 * l.grammar.now.room

abbrev pub decreases-function_group : goal.decreases-function_group
decreases-function_group g l = 6 * l.grammar.now.room + 1

abbrev pub decreases-enclosed_group : goal.decreases-enclosed_group
decreases-enclosed_group g l = 6 * l.grammar.now.room + 1

abbrev pub decreases-function_core : goal.decreases-function_core
decreases-function_core g l = 6 * l.grammar.now.room + 2

abbrev pub decreases-pointed_function : goal.decreases-pointed_function
decreases-pointed_function g l = 6 * l.grammar.now.room + 3

abbrev pub decreases-enclosed_pointed : goal.decreases-enclosed_pointed
decreases-enclosed_pointed g l = 6 * l.grammar.now.room + 4

abbrev pub decreases-enclosed_declarator : goal.decreases-enclosed_declarator
decreases-enclosed_declarator g l = 6 * l.grammar.now.room + 5
