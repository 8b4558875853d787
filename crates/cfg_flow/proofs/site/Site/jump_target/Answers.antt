use Rattle.std.proofs.Common.{arith}
use Rattle.cfg_rules.specs.declared.rule.Rule.TheVariants.{JumpTarget}
use Rattle.cfg_rules.proofs.Answering.{if_ok}
use Rattle.cfg_flow.proofs.Placing.{alone_part, ready_kept}
use Rattle.cfg_flow.proofs.Siting.{never_continued, site_rule}
use Rattle.cfg_flow.proofs.site.Site.jump_target.Goals as goal

pub returns : goal.returns
returns c = if_ok c.join_jump_target.result c.join_jump_target.ensures (λ next is jumps plan plan_is site ready.
    let p1 = c.take-statement.ensures plan jumps 0 plan_is site ready (omega arith) in
    let rule = site_rule JumpTarget site c.requires in
    record {
      joined = is plan rule (alone_part p1.alone (never_continued JumpTarget 1 site c.requires (λ can e. absurd can)));
      kept = ready_kept p1.ready;
    })
