use Rattle.c_scopes.proofs.Intervals.{said_in_scopes}
use Rattle.c_scopes.proofs.laws.law_scopes_say_what_intervals_say.Goals as goal

pub returns : goal.returns
returns c = said_in_scopes
