use Rattle.std.proofs.Common.{ℕ, List, sym, subst}
use Rattle.cfg_rules.specs.declared.rule.Rule.TheVariants.{Block}
use Rattle.cfg_rules.specs.declared.summary.Summary.{Summary}
use Rattle.cfg_rules.specs.Plan.{Continues}
use Rattle.cfg_rules.specs.Sequence.{AreParts}
use Rattle.cfg_rules.proofs.Answering.{if_ok}
use Rattle.cfg_flow.proofs.Placing.{all_parts, ready_kept}
use Rattle.cfg_flow.proofs.Siting.{never_continued, site_count, site_rule}
use Rattle.cfg_flow.proofs.site.Site.block.Goals as goal

pub returns : goal.returns
returns c = if_ok c.join_block.result c.join_block.ensures (λ next is jumps plan plan_is site ready.
    let parts = c.in_ok-items.ensures plan jumps plan_is site ready in
    let never : (k a : ℕ) → ¬ (Continues plan c.args.self.now.x a k) = λ k. never_continued Block k site c.requires (λ can e. absurd can) in
    let all : AreParts plan c.args.self.now.x c.in_ok-items.items.items = all_parts parts (site_count site) never in
    record {
      joined = is plan _ (site_rule Block site c.requires) (subst (λ (ms : List Summary). AreParts plan c.args.self.now.x ms) (sym c.as_slice.ensures.value) all);
      kept = ready_kept parts.ready;
    })
