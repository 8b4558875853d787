use Rattle.line_marks.proofs.OnePlace.{files_once, places_once}
use Rattle.line_marks.proofs.laws.law_one_place.Goals as goal

pub returns-clause-places : goal.returns-clause-places
returns-clause-places c = λ bytes tokens name first second files more a b. places_once bytes tokens name first second files more a b

pub returns-clause-files : goal.returns-clause-files
returns-clause-files c = λ bytes tokens name first second files more a b. files_once bytes tokens name first second files more a b
