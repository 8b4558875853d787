use Rattle.std.proofs.Common.{◌≡◌, ◌<◌, map, take}
use Rattle.std.specs.List.{All}
use Rattle.flow_index.specs.Crossings.{slot_of}
use Rattle.flow_index.proofs.bridging.entry_slots.Given as goal

abbrev pub invariant-loop-entry : goal.invariant-loop-entry
invariant-loop-entry l = record {
  slots : l.keys.items ≡ map (λ entry. slot_of l.slots entry.call entry.to) (take l.entry-index l.opens);
  below : All (λ key. key < l.slots) l.keys.items;
}
