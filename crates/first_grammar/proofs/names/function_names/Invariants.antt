use Rattle.std.proofs.Common.{◌≡◌, map, take}
use Rattle.line_marks.specs.Kept.{items_at}
use Rattle.first_grammar.specs.FirstUnit.{name_of}
use Rattle.first_grammar.proofs.names.function_names.Given as goal

abbrev pub invariant-loop-item : goal.invariant-loop-item
invariant-loop-item l =
    map (λ name. name.now) l.names.items ≡ map (name_of l.bytes (items_at l.tokens l.kept)) (take l.item-index l.items)
