use Rattle.std.proofs.Common.{refl}
use Rattle.c_lexer.specs.Keywords.{keywords}
use Rattle.c_lexer.specs.Marks.{marks}
use Rattle.c_lexer.proofs.Positions.{have_positions}
use Rattle.c_lexer.proofs.laws.law_names.Goals as goal

pub returns-clause-keywords : goal.returns-clause-keywords
unfolding keywords
returns-clause-keywords c = have_positions keywords refl refl

pub returns-clause-marks : goal.returns-clause-marks
unfolding marks
returns-clause-marks c = have_positions marks refl refl
