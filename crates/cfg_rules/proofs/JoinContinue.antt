-- How the parts of `continue` are joined.
use Rattle.std.proofs.Common.{ℕ, inl, List, [], ◌∷◌, refl, subst}
use Rattle.cfg_rules.specs.declared.rule.Rule.TheVariants.{Continue}
use Rattle.cfg_rules.specs.declared.arrival.Arrival.{Arrival}
use Rattle.cfg_rules.specs.declared.joined.Joined.{Joined}
use Rattle.cfg_rules.specs.Member.{IsIn}
use Rattle.cfg_rules.specs.Rules.{entry, mark, exit, arrows}
use Rattle.cfg_rules.specs.Plan.{Construct, HasRule, part_count}
use Rattle.cfg_rules.specs.Joined.{Source, head, Comes, Goes, stops}
use Rattle.cfg_rules.specs.Sets.{Has, IsLed, IsEntry, AreFrom, IsJoined}
use Rattle.cfg_rules.proofs.Exact.{IsClosed, HasArrows, rule_arrows, step, unbroken, none, unread, flow_unread, ins4, outs4, closed4, Added, to_own, add_own, entry_sound, joined, by4, nowhere_sound}

pub continue_is : (plan : List Construct) (x : ℕ) (here next : Arrival) (old new : Joined) → HasRule plan x Continue →
    IsEntry here →
    IsLed (x ∷ []) here old new →
    AreFrom [] next → IsJoined plan x next old new
unfolding IsIn
continue_is plan x here next old new rule en e1 nw =
    joined plan x next old new (arrows Continue n) ins outs marks leads finals more has closed ends_sound added sound
    (λ s h. (h, refl))
    (λ s b h l. absurd h)
    (λ s b h l. absurd h)
    (by4 plan x none none none none more (λ s e h f. absurd h)
    (λ s e h f. absurd h)
    (λ s e h f. absurd h)
    (λ s e h f. absurd h)) where
      n : ℕ
      n = part_count plan x

      has : HasArrows plan x (arrows Continue n)
      has = rule_arrows plan x Continue rule

      ins : ℕ → Source → Type 0
      ins = ins4 none none none none

      outs : ℕ → Source → Type 0
      outs = outs4 plan x (unread plan x 0) (unread plan x 1) (unread plan x 2) (unread plan x 3)

      marks : Source → Type 0
      marks = (λ s. Has here s)

      leads : Source → Type 0
      leads = none

      finals : Source → Type 0
      finals = none

      more : Source → ℕ → Type 0
      more = λ s b. to_own x here s b

      closed : IsClosed plan x (arrows Continue n) ins outs marks leads finals (λ s. Has next s)
      closed = closed4 plan x (arrows Continue n) none none none none (unread plan x 0) (unread plan x 1) (unread plan x 2) (unread plan x 3) (λ s. Has here s) none none (λ s. Has next s)
          (flow_unread plan x 0)
          (flow_unread plan x 1)
          (flow_unread plan x 2)
          (flow_unread plan x 3)
          ((λ s e. (en.has s).1 e), tt)
          (λ e r. absurd (unbroken plan x e Continue rule (λ v. v) r))

      at_mark : (s : Source) → Has here s → Comes plan x s (head mark)
      at_mark = (λ s h. step entry mark has (inl refl) (entry_sound en s h))

      ends_sound : (s : Source) → Has next s → Comes plan x s (head exit)
      ends_sound = nowhere_sound nw

      added : Added old new more
      added = add_own e1

      sound : (s : Source) (b : ℕ) → more s b → Goes plan x s b
      sound s b m = subst (λ (v : ℕ). Goes plan x s v) m.1 (stops (at_mark s m.0))
