use Rattle.std.proofs.Common.{rules, ◌≡◌, ◌↔◌, IsTrue, sym}
use Rattle.c_reading.proofs.TerminalsDiffer.{at_kind, at_end}
use Rattle.c_reading.proofs.cursor.Cursor.is_at.Goals as goal

pub returns-in-Some : goal.returns-in-Some
returns-in-Some c =
    let same : IsTrue c.eq.result ↔ (c.in-Some.next ≡ c.args.kind) = search rules in
    at_kind c.args.kind c.in-Some.next c.args.self.now tt c.eq.result same (sym c.in-Some.ensures)

pub returns-in-None : goal.returns-in-None
returns-in-None c = at_end c.args.kind c.args.self.now tt (sym c.in-None.ensures)
