use Rattle.std.proofs.Common.{List, ℕ, inl, inr, subst, sym}
use Rattle.cfg_rules.specs.declared.rule.Rule.TheVariants.{Silent, Primary, SizeOf, Goto, Break, Continue}
use Rattle.cfg_rules.specs.Sets.{AreTargets}
use Rattle.cfg_rules.proofs.Answering.{if_ok}
use Rattle.cfg_flow.proofs.Placing.{ready_kept}
use Rattle.cfg_flow.proofs.Siting.{site_rule, site_targets}
use Rattle.cfg_flow.proofs.site.Site.join.Goals as goal

pub returns-in-Silent : goal.returns-in-Silent
returns-in-Silent c = λ plan plan_is site ready. record {
  joined = c.join_silent.ensures plan c.args.self.now.x (site_rule Silent site c.in-Silent.is);
  kept = ready_kept ready;
}

pub returns-in-Primary : goal.returns-in-Primary
returns-in-Primary c = if_ok c.join_primary.result c.join_primary.ensures (λ next is plan plan_is site ready. record {
  joined = is plan (elim c.in-Primary.is [ inl e ↦ inl (site_rule Primary site e) | inr e ↦ inr (site_rule SizeOf site e) ]);
  kept = ready_kept ready;
})

pub returns-in-Goto : goal.returns-in-Goto
returns-in-Goto c = if_ok c.join_goto.result c.join_goto.ensures (λ next is plan plan_is site ready. record {
  joined = is plan (site_rule Goto site c.in-Goto.is) (subst (λ (ts : List ℕ). AreTargets plan c.args.self.now.x ts) (sym c.as_slice.ensures) (site_targets site));
  kept = ready_kept ready;
})

pub returns-in-Break : goal.returns-in-Break
returns-in-Break c = if_ok c.join_jump.result c.join_jump.ensures (λ next is plan plan_is site ready. record {
  joined = is plan (elim c.in-Break.is [ inl e ↦ inl (site_rule Break site e) | inr e ↦ inr (site_rule Continue site e) ]);
  kept = ready_kept ready;
})

pub returns-in-Call : goal.returns-in-Call
returns-in-Call c = if_ok c.call.result c.call.ensures (λ next is. is c.args.jumps)

pub returns-in-Block : goal.returns-in-Block
returns-in-Block c = if_ok c.block.result c.block.ensures (λ next is. is c.args.jumps)

pub returns-in-ShortCircuit : goal.returns-in-ShortCircuit
returns-in-ShortCircuit c = if_ok c.short_circuit.result c.short_circuit.ensures (λ next is. is c.args.jumps)

pub returns-in-Conditional : goal.returns-in-Conditional
returns-in-Conditional c = if_ok c.conditional.result c.conditional.ensures (λ next is. is c.args.jumps)

pub returns-in-If : goal.returns-in-If
returns-in-If c = if_ok c.selection.result c.selection.ensures (λ next is. is c.args.jumps)

pub returns-in-JumpTarget : goal.returns-in-JumpTarget
returns-in-JumpTarget c = if_ok c.jump_target.result c.jump_target.ensures (λ next is. is c.args.jumps)

pub returns-in-Return : goal.returns-in-Return
returns-in-Return c = if_ok c.returning.result c.returning.ensures (λ next is. is c.args.jumps)

pub returns-in-Method : goal.returns-in-Method
returns-in-Method c = if_ok c.method.result c.method.ensures (λ next is. is c.args.jumps)
