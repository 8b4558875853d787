use Rattle.std.proofs.Common.{length, ◌-◌, ◌+◌, ◌≤◌, ◌<◌, ℕ}
use Rattle.c_lexer.specs.Bytes.{asterisk, slash}
use Rattle.c_lexer.specs.Comments.{IsPair}
use Rattle.c_lexer.proofs.comment.block_comment_end.Given as goal

abbrev pub invariant-loop-close : goal.invariant-loop-close
invariant-loop-close l = record {
  low : l.at + 2 ≤ l.close;
  none : (i : ℕ) → l.at + 2 ≤ i → i < l.close → IsPair l.text.bytes.now i asterisk slash → ⊥;
}

abbrev pub decreases-loop-close : goal.decreases-loop-close
decreases-loop-close l = length l.text.bytes.now - l.close
