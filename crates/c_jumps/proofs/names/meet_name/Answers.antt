use Rattle.std.proofs.Common.{refl, subst}
use Rattle.std.proofs.lemmas.Result.{on_ok_weaker}
use Rattle.std.specs.List.{Contains}
use Rattle.c_jumps.specs.Names.{MeetsName}
use Rattle.c_jumps.specs.Names as meets
use Rattle.c_jumps.proofs.Adding.{known_name}
use Rattle.c_jumps.proofs.names.meet_name.Goals as goal

pub returns-in-Some : goal.returns-in-Some
returns-in-Some c =
    let known = known_name c.args.names.now c.spelling-name.result.now c.in-Some.field-0 c.in-Some.ensures.number.stands in
    let here = subst (λ name. Contains c.args.names.now name) c.spelling-name.ensures known in
    on_ok_weaker c.push.result (λ more. meets.MeetsName.known here refl more) c.push.ensures
