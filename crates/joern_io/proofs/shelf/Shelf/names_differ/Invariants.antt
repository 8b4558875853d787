use Rattle.std.proofs.Common.{◌↔◌, drop}
use Rattle.joern_io.specs.Shelf.{held_of, NamesDiffer}
use Rattle.joern_io.proofs.shelf.Shelf.names_differ.Given as goal

-- A name that stands twice stands so from the position on.
abbrev pub invariant-loop-position : goal.invariant-loop-position
invariant-loop-position l = NamesDiffer (held_of l.files) ↔ NamesDiffer (held_of (drop l.position l.files))
