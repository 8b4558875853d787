-- How the parts of a function are joined.
use Rattle.std.proofs.Common.{ℕ, ◌≡◌, ◌⊎◌, inl, inr, List, [], ◌∷◌, Option, refl}
use Rattle.cfg_rules.specs.declared.rule.Rule.TheVariants.{Method}
use Rattle.cfg_rules.specs.declared.summary.Summary.{Summary}
use Rattle.cfg_rules.specs.declared.arrival.Arrival.{Arrival}
use Rattle.cfg_rules.specs.declared.joined.Joined.{Joined}
use Rattle.cfg_rules.specs.Member.{IsIn}
use Rattle.cfg_rules.specs.Rules.{entry, out_of, stop, into, finish, exit, arrows}
use Rattle.cfg_rules.specs.Plan.{Construct, HasRule, end_of, part_count}
use Rattle.cfg_rules.specs.Joined.{Source, head, Comes, Goes, finishes}
use Rattle.cfg_rules.specs.Sets.{Has, IsLed, IsLeft, IsEntry, AreFrom, IsPart, IsJoined, marks_of}
use Rattle.cfg_rules.proofs.Exact.{inners, IsClosed, HasArrows, rule_arrows, left_sound, step, unbroken, none, unread, flow_unread, flow_left, ins4, outs4, closed4, Added, added_then, to_part, add_part, to_end, add_end, own_sound, own_has, entry_sound, joined, by4}

pub method_is : (plan : List Construct) (x : ℕ) (body : Summary) (end : Option ℕ) (start ended next : Arrival) (old o1 new : Joined) → HasRule plan x Method →
    IsPart plan x 0 body →
    end_of plan x ≡ end →
    AreFrom (x ∷ []) start →
    IsLed body.first.items start old o1 →
    IsLeft body.last.items body.passable start ended →
    IsLed (marks_of end) ended o1 new →
    IsEntry next → IsJoined plan x next old new
unfolding IsIn
method_is plan x body end start ended next old o1 new rule p0 fi fr e1 l0 e2 en =
    joined plan x next old new (arrows Method n) ins outs marks leads finals more has closed ends_sound added sound
    (λ s h. absurd h)
    (λ s b h l. absurd h)
    (λ s b h l. inr (h, l))
    (by4 plan x (λ s. Has start s) none none none more (λ s e h f. inl ((h, f)))
    (λ s e h f. absurd h)
    (λ s e h f. absurd h)
    (λ s e h f. absurd h)) where
      n : ℕ
      n = part_count plan x

      has : HasArrows plan x (arrows Method n)
      has = rule_arrows plan x Method rule

      ins : ℕ → Source → Type 0
      ins = ins4 (λ s. Has start s) none none none

      outs : ℕ → Source → Type 0
      outs = outs4 plan x (λ s. Has ended s) (unread plan x 1) (unread plan x 2) (unread plan x 3)

      marks : Source → Type 0
      marks = none

      leads : Source → Type 0
      leads = none

      finals : Source → Type 0
      finals = (λ s. Has ended s)

      more : Source → ℕ → Type 0
      more = λ s b. (to_part plan x 0 start s b) ⊎ (to_end plan x ended s b)

      closed : IsClosed plan x (arrows Method n) ins outs marks leads finals (λ s. Has next s)
      closed = closed4 plan x (arrows Method n) (λ s. Has start s) none none none (λ s. Has ended s) (unread plan x 1) (unread plan x 2) (unread plan x 3) none none (λ s. Has ended s) (λ s. Has next s)
          (flow_left p0 l0)
          (flow_unread plan x 1)
          (flow_unread plan x 2)
          (flow_unread plan x 3)
          ((λ s m. own_has fr s m), ((λ s m. m), ((λ s e. (en.has s).1 e), tt)))
          (λ e r. absurd (unbroken plan x e Method rule (λ v. v) r))

      in_body : (s : Source) → Has start s → Comes plan x s (head (into 0))
      in_body = (λ s h. step stop (into 0) has (inl refl) (own_sound fr s h))

      at_end : (s : Source) → Has ended s → Comes plan x s (head finish)
      at_end = (λ s h. step (out_of 0) finish has (inr (inl refl)) (left_sound p0 l0 in_body s h))

      ends_sound : (s : Source) → Has next s → Comes plan x s (head exit)
      ends_sound = (λ s h. step entry exit has (inr (inr (inl refl))) (entry_sound en s h))

      added : Added old new more
      added = added_then (λ s b. to_part plan x 0 start s b) (to_end plan x ended) (add_part p0 e1) (add_end plan x fi e2)

      sound : (s : Source) (b : ℕ) → more s b → Goes plan x s b
      sound s b m = elim m [ inl l2 ↦ inners (in_body s l2.0) l2.1 | inr r2 ↦ finishes (at_end s r2.0) r2.1 ]
