use Rattle.std.proofs.Common.{arith}
use Rattle.cfg_rules.specs.declared.rule.Rule.TheVariants.{ShortCircuit}
use Rattle.cfg_rules.proofs.Answering.{if_ok}
use Rattle.cfg_flow.proofs.Placing.{alone_part, ready_kept}
use Rattle.cfg_flow.proofs.Siting.{never_continued, site_rule}
use Rattle.cfg_flow.proofs.site.Site.short_circuit.Goals as goal

pub returns : goal.returns
returns c = if_ok c.join_short_circuit.result c.join_short_circuit.ensures (λ next is jumps plan plan_is site ready.
    let p0 = c.take-first.ensures plan jumps 0 plan_is site ready (omega arith) in
    let p1 = c.take-second.ensures plan jumps 1 plan_is site p0.ready (omega arith) in
    let rule = site_rule ShortCircuit site c.requires in
    record {
      joined = is plan rule (alone_part p0.alone (never_continued ShortCircuit 0 site c.requires (λ can e. absurd can))) (alone_part p1.alone (never_continued ShortCircuit 1 site c.requires (λ can e. absurd can)));
      kept = ready_kept p1.ready;
    })
