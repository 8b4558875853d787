use Rattle.c_parts.proofs.RealTokens.{real_tokens}
use Rattle.c_parts.proofs.PartsAreRead.{declaration_is_exact}
use Rattle.c_parts.proofs.laws.law_declarations_are_exact.Goals as goal

pub returns : goal.returns
unfolding real_tokens
returns c = λ around level h scopes left. declaration_is_exact real_tokens around level h scopes left
