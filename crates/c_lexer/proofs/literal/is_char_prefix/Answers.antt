use Rattle.std.proofs.Common.{arith, refl}
use Rattle.c_lexer.proofs.Literals.{one_byte_prefix}
use Rattle.c_lexer.proofs.literal.is_char_prefix.Goals as goal

pub returns-in-empty-2 : goal.returns-in-empty-2
returns-in-empty-2 c = (λ _. (one_byte_prefix c.args.text.now (omega arith) (grind arith)).0, λ _. refl)
