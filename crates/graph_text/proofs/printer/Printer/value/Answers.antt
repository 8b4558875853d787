use Rattle.std.proofs.Common.{◌≡◌, ◌-◌, length, take, drop, arith, length-drop}
use Rattle.std.proofs.lemmas.Grind.{common_steps}
use Rattle.graph_text.proofs.Escaping.{escaped-take-add}
use Rattle.graph_text.proofs.Composing.{Prints-then}
use Rattle.graph_text.proofs.printer.Printer.value.Goals as goal

pub loop-at-preserved : goal.loop-at-preserved
loop-at-preserved g c =
    let at = c.loop-at.at in
    let count = c.front-count.result in
    let bytes = c.args.bytes.now in
    let left = length-drop at bytes in
    let whole : take (length bytes - at) (drop at bytes) ≡ drop at bytes = grind (arith, common_steps, left) in
    record {
      within = omega (arith, c.front-count.ensures.within, left);
      printed = rw (escaped-take-add at count bytes) (Prints-then c.loop-at.invariant.printed (rw whole at c.front-count.ensures.printed));
    }
