use Rattle.summary_core.proofs.Wanting.{wanted_one, wanted_skip, wanted_end}
use Rattle.summary_core.proofs.wanted.wanted_goals.Goals as goal
use Rattle.summary_core.proofs.wanted.wanted_goals.Goals.{then-in_both+in_ok-push, else-in_both}

pub loop-vertex-preserved : goal.loop-vertex-preserved
loop-vertex-preserved c =
    let flow = c.args.flow.now in
    let starts = c.args.starts.now in
    let vertex = c.loop-vertex.vertex in
    elim c.if-in_both.branch [
      | then-in_both+in_ok-push w ↦
          let both = c.in_both.ensures.0 w.if-in_both.true in
          rw (w.wanted-is, w.in_ok-push.ensures.items)
          (wanted_one flow starts c.loop-vertex.wanted.items vertex
          (record { goal = (c.in_ok-goals.ensures vertex).0 both.0; met = (c.in_ok-met.ensures vertex).0 both.1 }) c.loop-vertex.invariant)
      | else-in_both w ↦ rw w.wanted-is
          (wanted_skip flow starts c.loop-vertex.wanted.items vertex (λ wanted. let on = c.in_both.ensures.1 ((c.in_ok-goals.ensures vertex).1 wanted.goal, (c.in_ok-met.ensures vertex).1 wanted.met) in let off = w.if-in_both.false in cc) c.loop-vertex.invariant)
    ]

pub returns : goal.returns
returns c = wanted_end c.args.flow.now c.args.starts.now c.loop-vertex.wanted.items c.loop-vertex.vertex c.loop-vertex-test.false c.loop-vertex.invariant
