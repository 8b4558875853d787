use Rattle.std.proofs.Common.{◌≡◌, length, sym, ap, ◌∙◌}
use Rattle.c_reading.specs.Cursors.{Place}
use Rattle.c_reading.proofs.Places.{many_left}
use Rattle.c_reading.proofs.cursor.Cursor.left.Goals as goal

pub returns : goal.returns
returns c =
    let i = c.self.inside in
    sym (many_left i.bytes.now i.tokens.now i.kept.now i.at c.self.invariant.2) ∙ ap (λ (p : Place). length p.left) c.self.view_is
