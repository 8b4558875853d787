use Rattle.line_marks.proofs.Deciding.{some_stripping}
use Rattle.line_marks.proofs.Dropping.{kept_once, not_both, stop_once}
use Rattle.line_marks.proofs.laws.law_one_stripping.Goals as goal

pub returns-clause-one_list : goal.returns-clause-one_list
returns-clause-one_list c = kept_once

pub returns-clause-one_stop : goal.returns-clause-one_stop
returns-clause-one_stop c = stop_once

pub returns-clause-some : goal.returns-clause-some
returns-clause-some c = some_stripping

pub returns-clause-not_both : goal.returns-clause-not_both
returns-clause-not_both c = not_both
