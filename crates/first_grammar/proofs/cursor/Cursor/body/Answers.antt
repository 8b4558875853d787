use Rattle.std.proofs.Common.{ℕ, List, ap, refl, ◌∙◌, subst}
use Rattle.c_tree.specs.declared.tree.Block.{Block}
use Rattle.c_tree.specs.declared.tree.BlockItem.{BlockItem}
use Rattle.first_grammar.specs.Rest.{Rest}
use Rattle.first_grammar.specs.Grammar.{Runs, StatementAt, body}
use Rattle.first_grammar.proofs.cursor.Cursor.body.Goals as goal

pub returns : goal.returns
unfolding body
returns c = record {
  left = c.in_ok-open.open;
  items = c.in_ok-items.items;
  right = c.in_ok-close.close;
  inside = c.expect.new.self;
  opens = c.in_ok-open.ensures;
  statements = (
    subst (λ (r : Rest). Runs StatementAt c.in_ok-items.items c.expect.new.self r) c.in_ok-close.ensures
        c.in_ok-items.ensures.0,
    refl,
  );
  is =
      ap (λ (v : List BlockItem). let block : Block = record { items = v; marks = c.in_ok-two_marks.field-0 } in block)
      c.items.view_is ∙
      ap (λ (v : List ℕ). let block : Block = record { items = c.in_ok-items.items; marks = v } in block)
      c.in_ok-two_marks.ensures;
}
