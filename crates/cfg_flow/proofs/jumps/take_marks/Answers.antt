use Rattle.std.proofs.Common.{◌≡◌, ◌∷◌, ◌++◌, [], List, subst, vec_len}
use Rattle.cfg_flow.specs.declared.plan.Jump.{Jump}
use Rattle.cfg_flow.specs.Jumping.{AreNoneFrom, IsLastFrom}
use Rattle.cfg_flow.proofs.Leaping.{popped, shorter, taking_end, taking_more, taking_none}
use Rattle.cfg_flow.proofs.jumps.take_marks.Goals.{After-pop}
use Rattle.cfg_flow.proofs.jumps.take_marks.Goals as goal

last : (c : After-pop) → IsLastFrom c.args.x c.loop-jump.ahead.items c.in-Some.jump
last c = subst (λ (js : List Jump). IsLastFrom c.args.x js c.in-Some.jump) c.as_slice.ensures.value c.in-Some.ensures

split : (c : After-pop) → c.loop-jump.ahead.items ≡ c.pop.new.self.items ++ c.in-Some.jump ∷ []
split c = popped _ _ (vec_len c.loop-jump.ahead) c.in-Some.jump c.loop-jump.ahead.ok.0 (last c).some c.pop.ensures.rest (last c).last

pub loop-jump-init : goal.loop-jump-init
loop-jump-init c = λ all ahead. taking_none all _ _ _ c.new-marks.ensures.items ahead

pub loop-jump-preserved : goal.loop-jump-preserved
loop-jump-preserved c = λ all ahead.
    taking_more all _ _ _ _ _ c.in-Some.jump (split c) (last c).from c.in_ok-add_mark.ensures (c.loop-jump.invariant all ahead)

pub loop-jump-smaller : goal.loop-jump-smaller
loop-jump-smaller c = shorter _ _ c.in-Some.jump (split c)

pub returns : goal.returns
returns c = λ all ahead. taking_end all _ _ _
    (subst (λ (js : List Jump). AreNoneFrom c.args.x js) c.as_slice.ensures.value c.in_default.ensures)
    (c.loop-jump.invariant all ahead)
