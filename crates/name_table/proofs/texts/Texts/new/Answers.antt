use Rattle.std.proofs.Common.{refl}
use Rattle.name_table.specs.Texts.{texts_of}
use Rattle.name_table.proofs.texts.Texts.new.Goals as goal

pub returns : goal.returns
unfolding texts_of
returns c = rw c.new-2.ensures.items refl
