-- The bytes end where the last text began.

use Rattle.std.proofs.Common.{◌≡◌, ◌∙◌, List, ℕ, ap, length, ◌++◌, ◌∷◌, [], take}
use Rattle.name_table.specs.Texts.{begin_of, texts_of, AreEnds}
use Rattle.name_table.proofs.Packing.{parts_of-pop}
use Rattle.name_table.proofs.texts.Texts.pop.Goals as goal

module _ (c : goal.After-truncate) where
  abbrev ends : List ℕ
  ends = c.pop.new.self.items

  abbrev cut : List ℕ
  cut = c.truncate.new.self.items

  cuts : cut ≡ take (begin_of ends (length ends)) c.self.inside.bytes.items
  cuts = c.truncate.ensures.items ∙ ap (λ n. take n c.self.inside.bytes.items)
      (c.begin_in-begin.ensures ∙ ap (λ es. begin_of es c.len.result) c.deref.ensures.value
      ∙ ap (begin_of ends) (c.len.ensures ∙ c.pop.new.self.ok.0))

  parts : AreEnds cut ends × ((text : List ℕ) × (c.args.self.now ≡ texts_of cut ends ++ text ∷ []))
  parts = parts_of-pop c.self.inside.bytes.items c.self.inside.ends.items ends cut c.pop.result
      c.args.self.now c.self.invariant c.self.view_is c.requires c.pop.ensures.items
      (λ some. c.pop.ensures.variant.1 (rw c.self.inside.ends.ok.0 some)) cuts

pub invariant_of-self : goal.invariant_of-self
invariant_of-self c = (parts c).0

pub returns : goal.returns
returns c = (parts c).1
