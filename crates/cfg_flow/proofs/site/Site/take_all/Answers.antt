use Rattle.std.proofs.Common.{◌≡◌, ℕ, length, subst, arith}
use Rattle.cfg_flow.specs.Tables.{ArePartsTaken}
use Rattle.cfg_flow.proofs.Placing.{parts_more, parts_none}
use Rattle.cfg_flow.proofs.site.Site.take_all.Goals as goal

pub loop-k-init : goal.loop-k-init
loop-k-init c = λ plan jumps plan_is site ready. parts_none plan _ _ _ c.new-taken.ensures.items ready

pub loop-k-preserved : goal.loop-k-preserved
loop-k-preserved c = λ plan jumps plan_is site ready.
    let so_far = c.loop-k.invariant plan jumps plan_is site ready in
    parts_more plan _ _ _ _ _ _ _ c.in_ok-push.ensures.items so_far (c.take.ensures plan jumps _ plan_is site so_far.ready (omega arith))

pub returns : goal.returns
returns c = λ plan jumps plan_is site ready.
    let all : c.loop-k.k ≡ length c.args.self.now.parts.now = omega arith in
    subst (λ (n : ℕ). ArePartsTaken plan c.args.self.now.x n c.loop-k.taken.items c.loop-k.table) all (c.loop-k.invariant plan jumps plan_is site ready)
