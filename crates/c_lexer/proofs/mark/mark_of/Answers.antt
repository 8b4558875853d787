use Rattle.c_lexer.specs.Marks.{marks}
use Rattle.c_lexer.proofs.mark.mark_of.Goals as goal

pub returns : goal.returns
unfolding marks
returns c = c.look_up.ensures
