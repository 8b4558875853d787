use Rattle.std.proofs.Common.{◌≡◌, ◌≤◌, length, sym, ◌∙◌, arith, eqb-true, eq-eqb}
use Rattle.line_marks.specs.Kept.{items_at}
use Rattle.line_marks.proofs.ItemsAt.{length-items_at}
use Rattle.first_grammar.proofs.Places.{done_is, is_end}
use Rattle.first_grammar.proofs.cursor.Cursor.is_done.Goals as goal

pub returns : goal.returns
returns c =
    let tokens = items_at c.self.inside.tokens.now c.self.inside.kept.now in
    let many = length-items_at c.self.inside.tokens.now c.self.inside.kept.now c.self.invariant.2 in
    let at = c.self.inside.at in (
      (λ h. let e : at ≡ length tokens = eqb-true _ _ h ∙ sym many in
          sym c.self.view_is ∙ done_is tokens at (omega arith)),
      (λ h. let e : length tokens ≤ at = is_end tokens at (c.self.view_is ∙ h) in
          eq-eqb _ _ (omega (arith, many))),
    )
