use Rattle.std.proofs.Common.{ℕ, List, sym, subst}
use Rattle.cfg_rules.specs.declared.rule.Rule.TheVariants.{Call}
use Rattle.cfg_rules.specs.declared.summary.Summary.{Summary}
use Rattle.cfg_rules.specs.Plan.{Continues}
use Rattle.cfg_rules.specs.Sequence.{AreParts}
use Rattle.cfg_rules.proofs.Answering.{if_ok}
use Rattle.cfg_flow.proofs.Placing.{all_parts, ready_kept}
use Rattle.cfg_flow.proofs.Siting.{never_continued, site_count, site_rule}
use Rattle.cfg_flow.proofs.site.Site.call.Goals as goal

pub returns : goal.returns
returns c = if_ok c.join_call.result c.join_call.ensures (λ next is jumps plan plan_is site ready.
    let parts = c.in_ok-operands.ensures plan jumps plan_is site ready in
    let never : (k a : ℕ) → ¬ (Continues plan c.args.self.now.x a k) = λ k. never_continued Call k site c.requires (λ can e. absurd can) in
    let all : AreParts plan c.args.self.now.x c.in_ok-operands.operands.items = all_parts parts (site_count site) never in
    record {
      joined = is plan (site_rule Call site c.requires) (subst (λ (ms : List Summary). AreParts plan c.args.self.now.x ms) (sym c.as_slice.ensures.value) all);
      kept = ready_kept parts.ready;
    })
