use Rattle.std.proofs.Common.{true, false, refl, sym, subst}
use Rattle.c_reading.specs.Cursors.{number_of}
use Rattle.c_reading.specs.Reads.{Reads}
use Rattle.c_reading.proofs.InScope.{reads_take}
use Rattle.c_reading.proofs.Places.{number_ahead_is}
use Rattle.c_syntax.specs.Scoping.{input_from}
use Rattle.c_syntax.specs.Steps.{take_where}
use Rattle.c_syntax.proofs.source.Source.take_if.Goals as goal

pub returns-then-may_stand : goal.returns-then-may_stand
returns-then-may_stand c =
    rw (c.if-may_stand.true) (reads_take c.args.self.now.scopes number_of c.args.room c.args.self.now.cursor _ c.take.result c.take.ensures)

pub returns-else-may_stand : goal.returns-else-may_stand
returns-else-may_stand c =
    rw (c.if-may_stand.false, c.refusal.ensures) (input_from c.args.self.now, refl, number_ahead_is c.args.self.now.cursor c.args.self.now.scopes)
