use Rattle.std.specs.Io.KnownBytes.{Keeps}
use Rattle.joern_io.proofs.std_sink.write_uninterrupted.Given as goal

-- What was interrupted took no bytes.
abbrev pub invariant-loop : goal.invariant-loop
invariant-loop g l = Keeps (g.W.Write.contents l.fn.out) (g.W.Write.contents l.out)
