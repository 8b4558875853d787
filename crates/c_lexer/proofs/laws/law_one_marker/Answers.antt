use Rattle.c_lexer.proofs.Directives.{marker_once}
use Rattle.c_lexer.proofs.laws.law_one_marker.Goals as goal

pub returns : goal.returns
returns c = record { one = marker_once }
