use Rattle.std.proofs.Common.{refl}
use Rattle.std.proofs.lemmas.Option.{slice_get_read}
use Rattle.cfg_rules.proofs.Exact.{left_copy}
use Rattle.cfg_rules.proofs.InOrder.{so_far_none, so_far_next}
use Rattle.cfg_rules.proofs.sequence.join_parts.Goals as goal

pub loop-part-init : goal.loop-part-init
loop-part-init c = λ plan x chain parts. so_far_none plan x _ _ c.entry-here.ensures

pub loop-part-preserved : goal.loop-part-preserved
loop-part-preserved c = λ plan x chain parts. so_far_next plan x _ _ c.part-item.result _ _ _ _ _ chain
    c.loop-part-test.true (parts.each _ _ (slice_get_read _ _ _ _ refl c.loop-part-test.true c.part-item.is)) (c.loop-part.invariant plan x chain parts)
    c.in_ok-enter.ensures (left_copy c.in_ok-last.ensures c.in_ok-here.ensures)
