use Rattle.std.proofs.Common.{◌≡◌, drop}
use Rattle.joern_io.specs.Held.{file_of}
use Rattle.joern_io.specs.Shelf.{held_of}
use Rattle.joern_io.proofs.shelf.position_of.Given as goal

-- The file is among those from the position on, or nowhere.
abbrev pub invariant-loop-position : goal.invariant-loop-position
invariant-loop-position l = file_of (held_of l.files) l.name ≡ file_of (held_of (drop l.position l.files)) l.name
