use Rattle.std.proofs.Common.{sym, ◌∙◌}
use Rattle.c_reading.specs.Cursors.{input_of, by_kind}
use Rattle.c_reading.proofs.Places.{number_ahead_is, expect_none}
use Rattle.c_reading.proofs.cursor.Cursor.expect.Goals as goal

pub returns-else-is_at : goal.returns-else-is_at
returns-else-is_at c = rw (c.refusal.ensures) (input_of c.args.self.now, expect_none by_kind _ c.args.room c.args.self.now tt (sym c.if-is_at.false ∙ c.is_at.ensures), number_ahead_is c.args.self.now tt)
