-- How the parts of what is passed are joined.
use Rattle.std.proofs.Common.{ℕ, ◌≡◌, inl, List, refl}
use Rattle.cfg_rules.specs.declared.rule.Rule.TheVariants.{Silent}
use Rattle.cfg_rules.specs.declared.arrival.Arrival.{Arrival}
use Rattle.cfg_rules.specs.declared.joined.Joined.{Joined}
use Rattle.cfg_rules.specs.Member.{IsIn}
use Rattle.cfg_rules.specs.Rules.{entry, exit, arrows}
use Rattle.cfg_rules.specs.Plan.{Construct, HasRule, part_count}
use Rattle.cfg_rules.specs.Joined.{Source, head, Comes, Goes}
use Rattle.cfg_rules.specs.Sets.{Has, IsEntry, IsJoined}
use Rattle.cfg_rules.proofs.Exact.{IsClosed, HasArrows, rule_arrows, step, unbroken, none, unread, flow_unread, ins4, outs4, closed4, Added, entry_sound, joined, by4, added_nothing}

pub silent_is : (plan : List Construct) (x : ℕ) (next : Arrival) (old new : Joined) → HasRule plan x Silent →
    new ≡ old →
    IsEntry next → IsJoined plan x next old new
unfolding IsIn
silent_is plan x next old new rule same en =
    joined plan x next old new (arrows Silent n) ins outs marks leads finals more has closed ends_sound added sound
    (λ s h. absurd h)
    (λ s b h l. absurd h)
    (λ s b h l. absurd h)
    (by4 plan x none none none none more (λ s e h f. absurd h)
    (λ s e h f. absurd h)
    (λ s e h f. absurd h)
    (λ s e h f. absurd h)) where
      n : ℕ
      n = part_count plan x

      has : HasArrows plan x (arrows Silent n)
      has = rule_arrows plan x Silent rule

      ins : ℕ → Source → Type 0
      ins = ins4 none none none none

      outs : ℕ → Source → Type 0
      outs = outs4 plan x (unread plan x 0) (unread plan x 1) (unread plan x 2) (unread plan x 3)

      marks : Source → Type 0
      marks = none

      leads : Source → Type 0
      leads = none

      finals : Source → Type 0
      finals = none

      more : Source → ℕ → Type 0
      more = λ s b. ⊥

      closed : IsClosed plan x (arrows Silent n) ins outs marks leads finals (λ s. Has next s)
      closed = closed4 plan x (arrows Silent n) none none none none (unread plan x 0) (unread plan x 1) (unread plan x 2) (unread plan x 3) none none none (λ s. Has next s)
          (flow_unread plan x 0)
          (flow_unread plan x 1)
          (flow_unread plan x 2)
          (flow_unread plan x 3)
          ((λ s e. (en.has s).1 e), tt)
          (λ e r. absurd (unbroken plan x e Silent rule (λ v. v) r))

      ends_sound : (s : Source) → Has next s → Comes plan x s (head exit)
      ends_sound = (λ s h. step entry exit has (inl refl) (entry_sound en s h))

      added : Added old new more
      added = added_nothing same

      sound : (s : Source) (b : ℕ) → more s b → Goes plan x s b
      sound s b m = absurd m
