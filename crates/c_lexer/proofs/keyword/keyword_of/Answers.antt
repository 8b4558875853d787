use Rattle.c_lexer.specs.Keywords.{keywords}
use Rattle.c_lexer.proofs.keyword.keyword_of.Goals as goal

pub returns : goal.returns
unfolding keywords
returns c = c.look_up.ensures
