use Rattle.std.proofs.Common.{arith}
use Rattle.cfg_rules.specs.declared.rule.Rule.TheVariants.{Do}
use Rattle.cfg_rules.proofs.Answering.{if_ok}
use Rattle.cfg_flow.proofs.Placing.{alone_body, alone_part, ready_kept}
use Rattle.cfg_flow.proofs.Siting.{never_continued, site_breaks, site_continues, site_rule}
use Rattle.cfg_flow.proofs.site.Site.do_loop.Goals as goal

pub returns : goal.returns
returns c = if_ok c.join_do.result c.join_do.ensures (λ next is plan plan_is site ready.
    let p0 = c.take-body.ensures plan c.args.jumps 0 plan_is site ready (omega arith) in
    let p1 = c.take-condition.ensures plan c.args.jumps 1 plan_is site p0.ready (omega arith) in
    let rule = site_rule Do site c.requires in
    record {
      joined = is plan _ rule (alone_body p0.alone c.in_ok-body.ensures (site_continues Do site c.requires tt)) (alone_part p1.alone (never_continued Do 1 site c.requires (λ can e. omega arith))) (site_breaks Do site c.requires tt);
      kept = ready_kept p1.ready;
    })
