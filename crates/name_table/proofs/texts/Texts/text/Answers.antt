-- A text ends where the next one begins.

use Rattle.std.proofs.Common.{◌≡◌, ◌∙◌, sym, ◌+◌, ◌≤◌, ℕ, ap, arith, length, slice_get, Some}
use Rattle.std.specs.Prelude.{slice_range}
use Rattle.name_table.specs.Texts.{begin_of}
use Rattle.name_table.proofs.Packing.{within_ends, read_text, length-texts_of}
use Rattle.name_table.proofs.texts.Texts.text.Goals as goal

pub begin_in-begin-requires : goal.begin_in-begin-requires
begin_in-begin-requires c =
    let inside = within_ends c.self.inside.bytes.items c.self.inside.ends.items c.args.self.now
    c.args.number c.self.view_is c.requires in
    rw c.deref.ensures.value (omega arith)

pub begin_in-end-requires : goal.begin_in-end-requires
begin_in-end-requires c =
    let inside = within_ends c.self.inside.bytes.items c.self.inside.ends.items c.args.self.now
    c.args.number c.self.view_is c.requires in
    rw c.deref-2.ensures.value (omega arith)

module _ (c : goal.After-deref-3) where
  abbrev begin : ℕ
  begin = c.begin_in-begin.result

  abbrev end : ℕ
  end = c.begin_in-end.result

  read : (begin ≤ end) × (end ≤ length c.self.inside.bytes.items)
      × (slice_get c.args.self.now c.args.number
      ≡ Some (slice_range c.self.inside.bytes.items begin end))
  read = read_text c.self.inside.bytes.items c.self.inside.ends.items c.args.self.now c.args.number
      begin end c.self.view_is c.requires c.self.invariant
      (c.begin_in-begin.ensures ∙ ap (λ ends. begin_of ends c.args.number) c.deref.ensures.value)
      (c.begin_in-end.ensures
      ∙ ap (λ ends. begin_of ends (c.args.number + 1)) c.deref-2.ensures.value)

pub slice_bounds-result-count : goal.slice_bounds-result-count
slice_bounds-result-count c = (read c).0

pub slice_bounds-result-start : goal.slice_bounds-result-start
slice_bounds-result-start c = let h = read c in omega arith

pub slice_bounds-result-end : goal.slice_bounds-result-end
slice_bounds-result-end c =
    let h = read c in let is = ap length c.deref-3.ensures.value in omega arith

pub returns-clause-text : goal.returns-clause-text
returns-clause-text c = (read_text c.self.inside.bytes.items c.self.inside.ends.items
    c.args.self.now c.args.number c.begin_in-begin.result c.begin_in-end.result c.self.view_is
    c.requires c.self.invariant
    (c.begin_in-begin.ensures ∙ ap (λ ends. begin_of ends c.args.number) c.deref.ensures.value)
    (c.begin_in-end.ensures
    ∙ ap (λ ends. begin_of ends (c.args.number + 1)) c.deref-2.ensures.value)).2
    ∙ ap (λ bytes. Some (slice_range bytes c.begin_in-begin.result c.begin_in-end.result))
    (sym c.deref-3.ensures.value)

pub returns-clause-few : goal.returns-clause-few
returns-clause-few c =
    let few = c.self.invariant.few in
    let long = length-texts_of c.self.inside.bytes.items c.self.inside.ends.items in
    let is = ap length c.self.view_is in omega arith
