use Rattle.std.proofs.Common.{length, ◌-◌, ◌≤◌, ◌≡◌, ◌++◌, ℕ, List}
use Rattle.c_lexer.specs.Reading.{Reads}
use Rattle.c_lexer.specs.declared.token.Token.{Token}
use Rattle.c_lexer.proofs.lexer.lex.Given as goal

abbrev pub invariant-loop-first : goal.invariant-loop-first
invariant-loop-first l = record {
  text : l.cursor.bytes ≡ l.text.bytes.now;
  inside : l.cursor.at ≤ length l.text.bytes.now;
  reads : (rest : List Token) (stop : ℕ) → Reads l.text.bytes.now l.cursor.at rest stop →
      Reads l.text.bytes.now 0 (l.tokens.items ++ rest) stop;
}

abbrev pub decreases-loop-first : goal.decreases-loop-first
decreases-loop-first l = length l.text.bytes.now - l.cursor.at
