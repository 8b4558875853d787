use Rattle.c_lexer.proofs.OneReading.{one_list, one_stop, never_both}
use Rattle.c_lexer.proofs.SomeReading.{some_reading}
use Rattle.c_lexer.proofs.laws.law_one_reading.Goals as goal

pub returns-clause-one_list : goal.returns-clause-one_list
returns-clause-one_list c = one_list

pub returns-clause-one_stop : goal.returns-clause-one_stop
returns-clause-one_stop c = one_stop

pub returns-clause-not_both : goal.returns-clause-not_both
returns-clause-not_both c = never_both

pub returns-clause-some : goal.returns-clause-some
returns-clause-some c = some_reading
