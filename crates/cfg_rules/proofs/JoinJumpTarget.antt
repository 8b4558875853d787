-- How the parts of a statement behind a label are joined.
use Rattle.std.proofs.Common.{ℕ, ◌⊎◌, inl, inr, List, [], ◌∷◌, refl, subst}
use Rattle.cfg_rules.specs.declared.rule.Rule.TheVariants.{JumpTarget}
use Rattle.cfg_rules.specs.declared.summary.Summary.{Summary}
use Rattle.cfg_rules.specs.declared.arrival.Arrival.{Arrival}
use Rattle.cfg_rules.specs.declared.joined.Joined.{Joined}
use Rattle.cfg_rules.specs.Member.{IsIn}
use Rattle.cfg_rules.specs.Rules.{entry, out_of, stop, into, mark, exit, arrows}
use Rattle.cfg_rules.specs.Plan.{Construct, HasRule, part_count}
use Rattle.cfg_rules.specs.Joined.{Source, head, Comes, Goes, stops}
use Rattle.cfg_rules.specs.Sets.{Has, IsLed, IsLeft, IsEntry, AreFrom, IsPart, IsJoined}
use Rattle.cfg_rules.proofs.Exact.{inners, IsClosed, HasArrows, rule_arrows, left_sound, step, unbroken, none, unread, flow_unread, flow_left, ins4, outs4, closed4, Added, added_then, to_part, add_part, to_own, add_own, own_sound, own_has, entry_sound, joined, by4}

pub jump_target_is : (plan : List Construct) (x : ℕ) (statement : Summary) (here start next : Arrival) (old o1 new : Joined) → HasRule plan x JumpTarget →
    IsPart plan x 1 statement →
    IsEntry here →
    IsLed (x ∷ []) here old o1 →
    AreFrom (x ∷ []) start →
    IsLed statement.first.items start o1 new →
    IsLeft statement.last.items statement.passable start next → IsJoined plan x next old new
unfolding IsIn
jump_target_is plan x statement here start next old o1 new rule p1 en e1 fr e2 l1 =
    joined plan x next old new (arrows JumpTarget n) ins outs marks leads finals more has closed ends_sound added sound
    (λ s h. inl ((h, refl)))
    (λ s b h l. absurd h)
    (λ s b h l. absurd h)
    (by4 plan x none (λ s. Has start s) none none more (λ s e h f. absurd h)
    (λ s e h f. inr (h, f))
    (λ s e h f. absurd h)
    (λ s e h f. absurd h)) where
      n : ℕ
      n = part_count plan x

      has : HasArrows plan x (arrows JumpTarget n)
      has = rule_arrows plan x JumpTarget rule

      ins : ℕ → Source → Type 0
      ins = ins4 none (λ s. Has start s) none none

      outs : ℕ → Source → Type 0
      outs = outs4 plan x (unread plan x 0) (λ s. Has next s) (unread plan x 2) (unread plan x 3)

      marks : Source → Type 0
      marks = (λ s. Has here s)

      leads : Source → Type 0
      leads = none

      finals : Source → Type 0
      finals = none

      more : Source → ℕ → Type 0
      more = λ s b. (to_own x here s b) ⊎ (to_part plan x 1 start s b)

      closed : IsClosed plan x (arrows JumpTarget n) ins outs marks leads finals (λ s. Has next s)
      closed = closed4 plan x (arrows JumpTarget n) none (λ s. Has start s) none none (unread plan x 0) (λ s. Has next s) (unread plan x 2) (unread plan x 3) (λ s. Has here s) none none (λ s. Has next s)
          (flow_unread plan x 0)
          (flow_left p1 l1)
          (flow_unread plan x 2)
          (flow_unread plan x 3)
          ((λ s e. (en.has s).1 e), ((λ s m. own_has fr s m), ((λ s m. m), tt)))
          (λ e r. absurd (unbroken plan x e JumpTarget rule (λ v. v) r))

      at_mark : (s : Source) → Has here s → Comes plan x s (head mark)
      at_mark = (λ s h. step entry mark has (inl refl) (entry_sound en s h))

      in_statement : (s : Source) → Has start s → Comes plan x s (head (into 1))
      in_statement = (λ s h. step stop (into 1) has (inr (inl refl)) (own_sound fr s h))

      ends_sound : (s : Source) → Has next s → Comes plan x s (head exit)
      ends_sound = (λ s h. step (out_of 1) exit has (inr (inr (inl refl))) (left_sound p1 l1 in_statement s h))

      added : Added old new more
      added = added_then (λ s b. to_own x here s b) (to_part plan x 1 start) (add_own e1) (add_part p1 e2)

      sound : (s : Source) (b : ℕ) → more s b → Goes plan x s b
      sound s b m = elim m [ inl l2 ↦ subst (λ (v : ℕ). Goes plan x s v) l2.1 (stops (at_mark s l2.0)) | inr r2 ↦ inners (in_statement s r2.0) r2.1 ]
