-- How the parts of `goto` are joined.
use Rattle.std.proofs.Common.{ℕ, ◌⊎◌, inl, inr, List, [], ◌∷◌, refl, subst}
use Rattle.cfg_rules.specs.declared.rule.Rule.TheVariants.{Goto}
use Rattle.cfg_rules.specs.declared.arrival.Arrival.{Arrival}
use Rattle.cfg_rules.specs.declared.joined.Joined.{Joined}
use Rattle.cfg_rules.specs.Member.{IsIn}
use Rattle.cfg_rules.specs.Rules.{entry, stop, mark, jump, exit, arrows}
use Rattle.cfg_rules.specs.Plan.{Construct, HasRule, part_count}
use Rattle.cfg_rules.specs.Joined.{Source, head, Comes, Goes, stops, jumps}
use Rattle.cfg_rules.specs.Sets.{Has, IsLed, IsEntry, AreFrom, AreTargets, IsJoined}
use Rattle.cfg_rules.proofs.Exact.{IsClosed, HasArrows, rule_arrows, step, unbroken, none, unread, flow_unread, ins4, outs4, closed4, Added, added_then, to_targets, add_targets, to_own, add_own, own_sound, own_has, entry_sound, joined, by4, nowhere_sound}

pub goto_is : (plan : List Construct) (x : ℕ) (targets : List ℕ) (here start next : Arrival) (old o1 new : Joined) → HasRule plan x Goto →
    AreTargets plan x targets →
    IsEntry here →
    IsLed (x ∷ []) here old o1 →
    AreFrom (x ∷ []) start →
    IsLed targets start o1 new →
    AreFrom [] next → IsJoined plan x next old new
unfolding IsIn
goto_is plan x targets here start next old o1 new rule le en e1 fr e2 nw =
    joined plan x next old new (arrows Goto n) ins outs marks leads finals more has closed ends_sound added sound
    (λ s h. inl ((h, refl)))
    (λ s b h l. inr (h, l))
    (λ s b h l. absurd h)
    (by4 plan x none none none none more (λ s e h f. absurd h)
    (λ s e h f. absurd h)
    (λ s e h f. absurd h)
    (λ s e h f. absurd h)) where
      n : ℕ
      n = part_count plan x

      has : HasArrows plan x (arrows Goto n)
      has = rule_arrows plan x Goto rule

      ins : ℕ → Source → Type 0
      ins = ins4 none none none none

      outs : ℕ → Source → Type 0
      outs = outs4 plan x (unread plan x 0) (unread plan x 1) (unread plan x 2) (unread plan x 3)

      marks : Source → Type 0
      marks = (λ s. Has here s)

      leads : Source → Type 0
      leads = (λ s. Has start s)

      finals : Source → Type 0
      finals = none

      more : Source → ℕ → Type 0
      more = λ s b. (to_own x here s b) ⊎ (to_targets plan x start s b)

      closed : IsClosed plan x (arrows Goto n) ins outs marks leads finals (λ s. Has next s)
      closed = closed4 plan x (arrows Goto n) none none none none (unread plan x 0) (unread plan x 1) (unread plan x 2) (unread plan x 3) (λ s. Has here s) (λ s. Has start s) none (λ s. Has next s)
          (flow_unread plan x 0)
          (flow_unread plan x 1)
          (flow_unread plan x 2)
          (flow_unread plan x 3)
          ((λ s e. (en.has s).1 e), ((λ s m. own_has fr s m), tt))
          (λ e r. absurd (unbroken plan x e Goto rule (λ v. v) r))

      at_mark : (s : Source) → Has here s → Comes plan x s (head mark)
      at_mark = (λ s h. step entry mark has (inl refl) (entry_sound en s h))

      at_jump : (s : Source) → Has start s → Comes plan x s (head jump)
      at_jump = (λ s h. step stop jump has (inr (inl refl)) (own_sound fr s h))

      ends_sound : (s : Source) → Has next s → Comes plan x s (head exit)
      ends_sound = nowhere_sound nw

      added : Added old new more
      added = added_then (λ s b. to_own x here s b) (to_targets plan x start) (add_own e1) (add_targets le e2)

      sound : (s : Source) (b : ℕ) → more s b → Goes plan x s b
      sound s b m = elim m [ inl l2 ↦ subst (λ (v : ℕ). Goes plan x s v) l2.1 (stops (at_mark s l2.0)) | inr r2 ↦ jumps (at_jump s r2.0) r2.1 ]
