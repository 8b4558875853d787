use Rattle.std.proofs.Common.{arith}
use Rattle.cfg_rules.specs.declared.rule.Rule.TheVariants.{For}
use Rattle.cfg_rules.proofs.Answering.{if_ok}
use Rattle.cfg_flow.proofs.Placing.{alone_body, alone_part, ready_kept}
use Rattle.cfg_flow.proofs.Siting.{never_continued, site_breaks, site_continues, site_rule}
use Rattle.cfg_flow.proofs.site.Site.for_loop.Goals as goal

pub returns : goal.returns
returns c = if_ok c.join_for.result c.join_for.ensures (λ next is plan plan_is site ready.
    let p0 = c.take-first.ensures plan c.args.jumps 0 plan_is site ready (omega arith) in
    let p1 = c.take-condition.ensures plan c.args.jumps 1 plan_is site p0.ready (omega arith) in
    let p2 = c.take-third.ensures plan c.args.jumps 2 plan_is site p1.ready (omega arith) in
    let p3 = c.take-body.ensures plan c.args.jumps 3 plan_is site p2.ready (omega arith) in
    let rule = site_rule For site c.requires in
    record {
      joined = is plan _ rule (alone_part p0.alone (never_continued For 0 site c.requires (λ can e. omega arith))) (alone_part p1.alone (never_continued For 1 site c.requires (λ can e. omega arith))) (alone_part p2.alone (never_continued For 2 site c.requires (λ can e. omega arith))) (alone_body p3.alone c.in_ok-ended.ensures (site_continues For site c.requires tt)) (site_breaks For site c.requires tt);
      kept = ready_kept p3.ready;
    })
