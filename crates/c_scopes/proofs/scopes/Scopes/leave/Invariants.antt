-- What is around stays until the scope is left, and each turn takes one declaration back.

use Rattle.std.proofs.Common.{◌≡◌, length}
use Rattle.c_scopes.proofs.scopes.Scopes.leave.Given as goal

abbrev pub invariant-loop : goal.invariant-loop
invariant-loop l = l.self.around ≡ l.initial.self.around

abbrev pub decreases-loop : goal.decreases-loop
decreases-loop l = length l.self.innermost
