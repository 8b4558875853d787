use Rattle.std.proofs.Common.{arith}
use Rattle.cfg_rules.specs.declared.rule.Rule.TheVariants.{Method}
use Rattle.cfg_rules.proofs.Answering.{if_ok}
use Rattle.cfg_flow.proofs.Placing.{alone_part, ready_kept}
use Rattle.cfg_flow.proofs.Siting.{never_continued, site_end, site_rule}
use Rattle.cfg_flow.proofs.site.Site.method.Goals as goal

pub returns : goal.returns
returns c = if_ok c.join_method.result c.join_method.ensures (λ next is jumps plan plan_is site ready.
    let p0 = c.take-body.ensures plan jumps 0 plan_is site ready (omega arith) in
    let rule = site_rule Method site c.requires in
    record {
      joined = is plan rule (alone_part p0.alone (never_continued Method 0 site c.requires (λ can e. absurd can))) (site_end site);
      kept = ready_kept p0.ready;
    })
