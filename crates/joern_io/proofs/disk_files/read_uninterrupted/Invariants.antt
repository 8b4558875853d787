use Rattle.std.specs.Io.KnownBytes.{Keeps}
use Rattle.joern_io.proofs.disk_files.read_uninterrupted.Given as goal

-- What was interrupted lost no bytes.
abbrev pub invariant-loop : goal.invariant-loop
invariant-loop g l = Keeps (g.F.Read.remaining l.fn.file) (g.F.Read.remaining l.file)
