-- The text that is added ends with the bytes.

use Rattle.std.proofs.Common.{◌≡◌, ◌∙◌, ◌+◌, ◌<◌, ◌^◌, ap, arith, length, ◌++◌, ◌∷◌, []}
use Rattle.name_table.specs.Texts.{texts_of}
use Rattle.name_table.proofs.Packing.{AreEnds-push, texts_of-push}
use Rattle.name_table.proofs.texts.Texts.push.Goals as goal

module _ (c : goal.In-Ok) where
  ends_there : c.in-Ok-Ok.end ≡ length c.self.inside.bytes.items + length c.args.text.now
  ends_there = let is = c.len.ensures in let long = c.self.inside.bytes.ok.0 in
      let end = c.in-Ok-Ok.ensures.1 in omega arith

  room : length c.self.inside.ends.items + 1 < 2 ^ 32
  room = let is = c.len-2.ensures in let long = c.self.inside.ends.ok.0 in
      let fits = c.in-Ok-Ok.ensures'.0 in omega arith

pub invariant_of-self-in-Ok : goal.invariant_of-self-in-Ok
invariant_of-self-in-Ok c = rw (c.in_ok-push.ensures.items, c.in-Ok.ensures.items)
    (AreEnds-push c.self.inside.bytes.items c.args.text.now c.self.inside.ends.items
    c.in-Ok-Ok.end c.self.invariant (ends_there c) (room c))

pub returns-in-Ok-clause-ok : goal.returns-in-Ok-clause-ok
returns-in-Ok-clause-ok c =
    ap (texts_of c.extend_from_slice.new.self.items) c.in_ok-push.ensures.items
    ∙ ap (λ bytes. texts_of bytes (c.self.inside.ends.items ++ c.in-Ok-Ok.end ∷ []))
    c.in-Ok.ensures.items
    ∙ texts_of-push c.self.inside.bytes.items c.args.text.now c.self.inside.ends.items
    c.in-Ok-Ok.end c.self.invariant (ends_there c)
    ∙ ap (λ texts. texts ++ c.args.text.now ∷ []) c.self.view_is
