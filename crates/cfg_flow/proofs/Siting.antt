-- What a plan says of the construct at a site.
use Rattle.std.proofs.Common.{ℕ, ◌≡◌, ◌↔◌, List, Option, Some, slice_get, length, sym, ◌∙◌, ap, subst}
use Rattle.cfg_rules.specs.declared.rule.Rule.{Rule}
use Rattle.cfg_rules.specs.Member.{IsIn}
use Rattle.cfg_rules.specs.Rules.{CanBreak, CanContinue, body}
use Rattle.cfg_rules.specs.Plan.{Construct, RuleAt, HasRule, parts_at, part_count, flat_part, part, JumpsAt, JumpsTo, end_at, end_of, BreaksAt, Breaks, ContinuesAt, Continues}
use Rattle.cfg_rules.specs.Sets.{AreBreaks, AreTargets}
use Rattle.cfg_flow.specs.declared.jumps.Jumps.{Jumps}
use Rattle.cfg_flow.specs.declared.site.Site.{Site}
use Rattle.cfg_flow.specs.Tables.{part_in}
use Rattle.cfg_flow.specs.Steps.{IsSite}

pub site_rule : {plan : List Construct} {site : Site} {jumps : Jumps} (r : Rule) → IsSite plan site jumps → site.rule ≡ r → HasRule plan site.x r
unfolding HasRule
site_rule r s e = subst (λ (o : Option Construct). RuleAt o r) (sym s.is) (s.rule ∙ e)

pub site_part : {plan : List Construct} {site : Site} {jumps : Jumps} (k : ℕ) → IsSite plan site jumps → part plan site.x k ≡ part_in site.parts.now k
unfolding part
site_part k s = ap (λ (o : Option Construct). flat_part (slice_get (parts_at o) k)) s.is ∙ ap (λ (ps : List (Option ℕ)). flat_part (slice_get ps k)) s.parts

pub site_count : {plan : List Construct} {site : Site} {jumps : Jumps} → IsSite plan site jumps → part_count plan site.x ≡ length site.parts.now
unfolding part_count
site_count s = ap (λ (o : Option Construct). length (parts_at o)) s.is ∙ ap (λ (ps : List (Option ℕ)). length ps) s.parts

pub site_end : {plan : List Construct} {site : Site} {jumps : Jumps} → IsSite plan site jumps → end_of plan site.x ≡ site.end
unfolding end_of
site_end s = ap end_at s.is ∙ s.end

pub site_targets : {plan : List Construct} {site : Site} {jumps : Jumps} → IsSite plan site jumps → AreTargets plan site.x jumps.targets.items
unfolding JumpsTo
site_targets {jumps = jumps} s = record { are = λ b. subst (λ (o : Option Construct). IsIn jumps.targets.items b ↔ JumpsAt o b) (sym s.is) (s.targets b) }

pub site_breaks : {plan : List Construct} {site : Site} {jumps : Jumps} (r : Rule) → IsSite plan site jumps → site.rule ≡ r → CanBreak r → AreBreaks plan site.x jumps.breaks.items
unfolding Breaks
site_breaks {jumps = jumps} r s e can = record { are = λ a. subst (λ (o : Option Construct). IsIn jumps.breaks.items a ↔ BreaksAt o a) (sym s.is) (λ i. ((s.breaks a).0 i, subst CanBreak (sym (s.rule ∙ e)) can), λ b. (s.breaks a).1 b.0) }

pub site_continues : {plan : List Construct} {site : Site} {jumps : Jumps} (r : Rule) → IsSite plan site jumps → site.rule ≡ r → CanContinue r → (a : ℕ) → IsIn jumps.continues.items a ↔ Continues plan site.x a (body r)
unfolding Continues
site_continues {jumps = jumps} r s e can a = subst (λ (o : Option Construct). IsIn jumps.continues.items a ↔ ContinuesAt o a (body r)) (sym s.is) (λ i. ((s.continues a).0 i, subst CanContinue (sym (s.rule ∙ e)) can, ap body (sym (s.rule ∙ e))), λ b. (s.continues a).1 b.0)

-- No `continue` ends a part that is no body of a loop.
pub never_continued : {plan : List Construct} {site : Site} {jumps : Jumps} (r : Rule) (k : ℕ) → IsSite plan site jumps → site.rule ≡ r → (CanContinue r → ¬ (k ≡ body r)) → (a : ℕ) → ¬ (Continues plan site.x a k)
unfolding Continues
never_continued r k s e never a c =
    let at : ContinuesAt (Some s.construct) a k = subst (λ (o : Option Construct). ContinuesAt o a k) s.is c in
    let rule = s.rule ∙ e in
    never (subst CanContinue rule at.1) (at.2 ∙ ap body rule)
