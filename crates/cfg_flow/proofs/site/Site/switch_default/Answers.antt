use Rattle.std.proofs.Common.{ℕ, List, sym, subst, arith}
use Rattle.cfg_rules.specs.declared.rule.Rule.TheVariants.{SwitchDefault}
use Rattle.cfg_rules.specs.Sets.{AreTargets}
use Rattle.cfg_rules.proofs.Answering.{if_ok}
use Rattle.cfg_flow.proofs.Placing.{alone_part, ready_kept}
use Rattle.cfg_flow.proofs.Siting.{never_continued, site_breaks, site_rule, site_targets}
use Rattle.cfg_flow.proofs.site.Site.switch_default.Goals as goal

pub returns : goal.returns
returns c = if_ok c.join_switch_default.result c.join_switch_default.ensures (λ next is plan plan_is site ready.
    let p0 = c.take-condition.ensures plan c.args.jumps 0 plan_is site ready (omega arith) in
    let p1 = c.take-body.ensures plan c.args.jumps 1 plan_is site p0.ready (omega arith) in
    let rule = site_rule SwitchDefault site c.requires in
    record {
      joined = is plan _ rule (alone_part p0.alone (never_continued SwitchDefault 0 site c.requires (λ can e. absurd can))) (alone_part p1.alone (never_continued SwitchDefault 1 site c.requires (λ can e. absurd can))) (subst (λ (ts : List ℕ). AreTargets plan c.args.self.now.x ts) (sym c.as_slice.ensures) (site_targets site)) (site_breaks SwitchDefault site c.requires tt);
      kept = ready_kept p1.ready;
    })
