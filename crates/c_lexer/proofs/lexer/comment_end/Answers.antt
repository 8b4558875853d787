use Rattle.std.proofs.Common.{rules}
use Rattle.c_lexer.proofs.Comments.{block_passed}
use Rattle.c_lexer.proofs.lexer.comment_end.Goals as goal

pub returns-then-is_pair-clause-end : goal.returns-then-is_pair-clause-end
returns-then-is_pair-clause-end c = block_passed c.args.text.bytes.now c.args.at c.block_comment_end.result (search rules) c.block_comment_end.ensures
