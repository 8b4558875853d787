use Rattle.std.proofs.Common.{sym, ◌∙◌, arith}
use Rattle.c_reading.specs.Terminals.{TYPEDEF_NAME}
use Rattle.c_syntax.proofs.Ahead.{typedef_ahead, no_word_ahead}
use Rattle.c_syntax.proofs.source.Source.is_at_typedef_name.Goals as goal

pub returns-then-is_at : goal.returns-then-is_at
returns-then-is_at c = typedef_ahead c.args.self.now.cursor c.args.self.now.scopes _ c.is_typedef.result c.spelling.ensures c.is_typedef.ensures (sym c.if-is_at.true ∙ c.is_at.ensures)

pub returns-else-is_at : goal.returns-else-is_at
returns-else-is_at c = no_word_ahead TYPEDEF_NAME c.args.self.now.cursor c.args.self.now.scopes (omega arith) (sym c.if-is_at.false ∙ c.is_at.ensures)
