use Rattle.std.proofs.Common.{rules}
use Rattle.c_lexer.proofs.Longest.{no_prefixed}
use Rattle.c_lexer.proofs.lexer.prefixed_literal.Goals as goal

pub returns-in_default : goal.returns-in_default
returns-in_default c literal h =
    no_prefixed c.args.text.bytes.now c.args.from c.args.end c.requires.some c.requires.each c.requires.ends (λ l. (search rules, search rules)) literal.kind literal.end h.is h.spelled
