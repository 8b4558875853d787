use Rattle.line_marks.proofs.ItemsAt.{length-items_at, slice_get-items_at}
use Rattle.line_marks.proofs.Rising.{few_kept, kept_inside, kept_rising}
use Rattle.line_marks.proofs.laws.law_kept_positions.Goals as goal

pub returns-clause-rising : goal.returns-clause-rising
returns-clause-rising c = kept_rising

pub returns-clause-inside : goal.returns-clause-inside
returns-clause-inside c = kept_inside

pub returns-clause-few : goal.returns-clause-few
returns-clause-few c = few_kept

pub returns-clause-one_each : goal.returns-clause-one_each
returns-clause-one_each c = λ tokens kept are. length-items_at tokens kept (kept_inside tokens kept are)

pub returns-clause-at : goal.returns-clause-at
returns-clause-at c = λ tokens kept number are within. slice_get-items_at tokens kept number (kept_inside tokens kept are) within
