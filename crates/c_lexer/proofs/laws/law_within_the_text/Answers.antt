use Rattle.c_lexer.proofs.Within.{few_tokens, tokens_within}
use Rattle.c_lexer.proofs.laws.law_within_the_text.Goals as goal

pub returns-clause-within : goal.returns-clause-within
returns-clause-within c = tokens_within

pub returns-clause-few : goal.returns-clause-few
returns-clause-few c = few_tokens
