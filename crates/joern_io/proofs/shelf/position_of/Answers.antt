use Rattle.std.proofs.Common.{arith}
use Rattle.std.proofs.lemmas.Grind.{common_steps}
use Rattle.joern_io.proofs.Finding.{file_of-drop, bytes_at-read}
use Rattle.joern_io.proofs.shelf.position_of.Goals as goal

pub returns-then-eq-clause-found : goal.returns-then-eq-clause-found
returns-then-eq-clause-found c =
    let at = c.loop-position.position in
    let file = c.index-files-position.result in
    let first = file_of-drop c.args.files.now at file (omega arith) c.index-files-position.is c.args.name.now in
    let bytes = bytes_at-read c.args.files.now at file (omega arith) c.index-files-position.is in
    grind (arith, common_steps, c.loop-position.invariant)
