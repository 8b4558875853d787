use Rattle.std.proofs.Common.{◌≡◌}
use Rattle.c_lexer.specs.Lines.{line_at, column_at}
use Rattle.joern_top.proofs.refusal.Refusal.new.Given as goal

abbrev pub invariant-loop-byte : goal.invariant-loop-byte
invariant-loop-byte l = record {
  line : l.line ≡ line_at l.before l.byte-index;
  column : l.column ≡ column_at l.before l.byte-index;
}
