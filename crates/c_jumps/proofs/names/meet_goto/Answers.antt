use Rattle.std.proofs.Common.{refl, subst}
use Rattle.std.specs.List.{Contains}
use Rattle.c_jumps.specs.Names as meets
use Rattle.c_jumps.proofs.Adding.{known_name}
use Rattle.c_jumps.proofs.names.meet_goto.Goals as goal

pub returns-in-Some : goal.returns-in-Some
returns-in-Some c =
    let known = known_name c.args.labels.now c.spelling.result.now c.in-Some.field-0 c.in-Some.ensures.number.stands in
    meets.MeetsGoto.known (subst (λ name. Contains c.args.labels.now name) c.spelling.ensures known) refl
