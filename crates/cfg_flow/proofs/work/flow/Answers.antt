use Rattle.std.proofs.Common.{◌≡◌, ◌+◌, ◌-◌, ℕ, length, refl, subst, arith, rules}
use Rattle.cfg_flow.specs.Works.{AreJoinedFrom}
use Rattle.cfg_flow.proofs.Joining.{flow_from, none_joined}
use Rattle.cfg_flow.proofs.work.flow.Goals as goal

pub loop-x-init : goal.loop-x-init
loop-x-init c =
    let room : length c.in_ok-gaps.field-0.items ≡ length c.args.plan.rows.items = omega (arith, c.in_ok-gaps.ensures, c.len.ensures, c.args.plan.rows.ok.0) in
    record {
      room = room;
      joined = λ flat.
          let all : c.number_of-x.result ≡ length c.args.plan.rows.items = omega (arith, c.number_of-x.ensures.all, c.len-2.ensures, c.args.plan.rows.ok.0, flat.few) in
          none_joined c.args.plan _ _ all room
          record { targets = c.in_order.ensures _; breaks = c.in_order-2.ensures _; continues = c.in_order-3.ensures _ }
          c.new.ensures.items c.new-2.ensures.items;
    }

pub loop-x-preserved : goal.loop-x-preserved
loop-x-preserved c = record {
  room = search rules;
  joined = λ flat.
      let at : c.loop-x.x ≡ (c.loop-x.x - 1) + 1 = omega arith in
      c.in_ok-join.ensures.joined c.args.plan flat
      record { rows = c.as_slice.ensures.value; parts = c.as_slice-2.ensures.value; end = refl }
      (subst (λ (n : ℕ). AreJoinedFrom c.args.plan n c.loop-x.work) at (c.loop-x.invariant.joined flat));
}

pub returns : goal.returns
returns c = λ flat.
    let at : c.loop-x.x ≡ 0 = omega arith in
    flow_from c.args.plan c.loop-x.work _ flat
    (subst (λ (n : ℕ). AreJoinedFrom c.args.plan n c.loop-x.work) at (c.loop-x.invariant.joined flat))
    c.put_in_order.ensures.same c.put_in_order.ensures.rising
