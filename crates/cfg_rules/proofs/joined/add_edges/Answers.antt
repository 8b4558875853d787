use Rattle.std.proofs.lemmas.List.{take_more}
use Rattle.cfg_rules.proofs.Members.{edges_none, edges_more}
use Rattle.cfg_rules.proofs.joined.add_edges.Goals as goal

pub loop-mark-init : goal.loop-mark-init
loop-mark-init c = edges_none _ _

pub loop-mark-preserved : goal.loop-mark-preserved
loop-mark-preserved c =
    rw (take_more c.args.from.now c.loop-mark.mark-index 0 c.loop-mark-test.true)
    (rw (c.in_ok-add_from.ensures) (edges_more _ _ _ _ _ c.loop-mark.invariant))
