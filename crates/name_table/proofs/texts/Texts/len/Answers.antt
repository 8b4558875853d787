use Rattle.std.proofs.Common.{◌∙◌, sym, ap, length}
use Rattle.name_table.proofs.Packing.{length-texts_of}
use Rattle.name_table.proofs.texts.Texts.len.Goals as goal

pub returns : goal.returns
returns c = c.len.ensures ∙ c.self.inside.ends.ok.0
    ∙ sym (length-texts_of c.self.inside.bytes.items c.self.inside.ends.items)
    ∙ ap length c.self.view_is
