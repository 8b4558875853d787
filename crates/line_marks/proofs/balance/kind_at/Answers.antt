use Rattle.std.proofs.Common.{arith}
use Rattle.std.proofs.lemmas.Grind.{common_steps}
use Rattle.std.proofs.lemmas.Option.{gets}
use Rattle.line_marks.specs.Balance.{kind_at}
use Rattle.line_marks.proofs.balance.kind_at.Goals as goal

pub returns-in-Some-clause-kind : goal.returns-in-Some-clause-kind
unfolding kind_at
returns-in-Some-clause-kind c = grind (arith, common_steps, gets)

pub returns-in-None-clause-kind : goal.returns-in-None-clause-kind
unfolding kind_at
returns-in-None-clause-kind c = grind (arith, common_steps, gets)
