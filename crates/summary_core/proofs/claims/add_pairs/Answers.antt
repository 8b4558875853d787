use Rattle.summary_core.proofs.Publishing.{adding_one, adding_skip, adding_end}
use Rattle.summary_core.proofs.claims.add_pairs.Goals as goal
use Rattle.summary_core.proofs.claims.add_pairs.Goals.{then-not-has+in_default, else-not-has}

pub loop-out-preserved : goal.loop-out-preserved
loop-out-preserved c =
    let before = c.args.history.now.items in
    let stands = c.has.ensures before c.requires.knows in
    elim c.if-not-has.branch [
      | then-not-has+in_default w ↦
          rw (w.history-is, w.in_default.ensures.items)
          (adding_one before c.args.goal c.args.outs.now c.loop-out.history.items c.loop-out.out-index c.requires.rise c.loop-out-test.true
          (λ has. let on = stands.1 has in let off = w.if-not-has.true in let no : ⊥ = cc in no) c.loop-out.invariant)
      | else-not-has w ↦
          rw w.history-is
          (adding_skip before c.args.goal c.args.outs.now c.loop-out.history.items c.loop-out.out-index (stands.0 w.if-not-has.false) c.loop-out.invariant)
    ]

pub returns-clause-ok : goal.returns-clause-ok
returns-clause-ok c = adding_end c.args.history.now.items c.args.goal c.args.outs.now c.loop-out.history.items c.loop-out.out-index c.loop-out-test.false c.loop-out.invariant
