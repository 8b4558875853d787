use Rattle.std.proofs.Common.{List, [], ap}
use Rattle.c_tree.specs.Fits.{kinds_of}
use Rattle.c_tree.specs.declared.tree.Item.{Item}
use Rattle.c_tree.specs.declared.tree.Unit.{Unit}
use Rattle.first_grammar.specs.Rest.{numbered}
use Rattle.first_grammar.proofs.Unique.{items_unique}
use Rattle.first_grammar.proofs.Inward.{unit_in}
use Rattle.first_grammar.proofs.laws.law_one_unit.Goals as goal

pub returns : goal.returns
returns c = λ bytes tokens first second h g.
    let same = items_unique first.items second.items (numbered 0 (kinds_of tokens)) [] []
    (unit_in bytes tokens first h) (unit_in bytes tokens second g) in
    let unit : List Item → Unit = λ items. record { items = items } in
    ap unit same.0
