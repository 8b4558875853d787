use Rattle.std.proofs.Common.{sym, ◌∙◌}
use Rattle.c_reading.specs.Cursors.{input_at}
use Rattle.c_reading.proofs.Places.{length-numbered}
use Rattle.c_syntax.proofs.source.Source.left.Goals as goal

pub returns : goal.returns
unfolding input_at
returns c = c.left.ensures ∙ sym (length-numbered c.args.self.now.cursor.at c.args.self.now.cursor.left)
