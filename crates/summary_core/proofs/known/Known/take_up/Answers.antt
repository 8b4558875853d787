use Rattle.std.proofs.Common.{refl}
use Rattle.std.proofs.lemmas.List.{get_or_default}
use Rattle.matched_paths.specs.declared.flow_graph.Pair.{Pair}
use Rattle.summary_core.proofs.Knowing.{take_up_none, take_up_one}
use Rattle.summary_core.proofs.known.Known.take_up.Goals as goal

abbrev no_pair : Pair
no_pair = record { goal = 0; out = 0 }

pub returns-in_err-insert-clause-front : goal.returns-in_err-insert-clause-front
returns-in_err-insert-clause-front c = take_up_none c.loop-self.self _ c.args.history.now c.loop-self.invariant refl c.in_err-insert.ensures.err

pub loop-self-preserved : goal.loop-self-preserved
loop-self-preserved c =
    take_up_one c.loop-self.self _ c.args.history.now _ c.loop-self.invariant c.loop-self-test.true (get_or_default c.args.history.now c.loop-self.self.taken no_pair _ c.loop-self-test.true) refl c.in_ok-insert.ensures.updates
