use Rattle.std.proofs.Common.{◌≡◌, ◌+◌, ◌-◌, true, vec_len}
use Rattle.joern_io.specs.Files.{KeepsFiles}
use Rattle.joern_io.proofs.Rest.{TookOff}
use Rattle.joern_io.proofs.reading.read_rest.Given as goal

-- What was read and what is left are what was left at first.
abbrev pub invariant-loop-piece : goal.invariant-loop-piece
invariant-loop-piece g l = record {
  keeps : KeepsFiles (g.F.Files.state l.fn.files) (g.F.Files.state l.files);
  open_still : (g.F.Files.state l.files).is_open ≡ true;
  read : TookOff (g.F.Files.state l.fn.files).left (g.F.Files.state l.files).left l.bytes.items;
}

abbrev pub decreases-loop-piece : goal.decreases-loop-piece
decreases-loop-piece g l = l.limit + 1 - vec_len l.bytes
