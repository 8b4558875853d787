-- How the parts of `return` are joined.
use Rattle.std.proofs.Common.{ℕ, ◌≡◌, ◌⊎◌, inl, inr, List, [], ◌∷◌, Option, refl, subst}
use Rattle.cfg_rules.specs.declared.rule.Rule.TheVariants.{Return}
use Rattle.cfg_rules.specs.declared.summary.Summary.{Summary}
use Rattle.cfg_rules.specs.declared.arrival.Arrival.{Arrival}
use Rattle.cfg_rules.specs.declared.joined.Joined.{Joined}
use Rattle.cfg_rules.specs.Member.{IsIn}
use Rattle.cfg_rules.specs.Rules.{entry, out_of, stop, into, mark, finish, exit, arrows}
use Rattle.cfg_rules.specs.Plan.{Construct, HasRule, end_of, part_count}
use Rattle.cfg_rules.specs.Joined.{Source, head, Comes, Goes, stops, finishes}
use Rattle.cfg_rules.specs.Sets.{Has, IsLed, IsLeft, IsEntry, AreFrom, IsPart, IsJoined, marks_of}
use Rattle.cfg_rules.proofs.Exact.{inners, IsClosed, HasArrows, rule_arrows, left_sound, step, unbroken, none, unread, flow_unread, flow_left, ins4, outs4, closed4, Added, added_then, to_part, add_part, to_own, add_own, to_end, add_end, own_sound, own_has, entry_sound, joined, by4, nowhere_sound}

pub return_is : (plan : List Construct) (x : ℕ) (value : Summary) (end : Option ℕ) (here ended start next : Arrival) (old o1 o2 new : Joined) → HasRule plan x Return →
    IsPart plan x 0 value →
    end_of plan x ≡ end →
    IsEntry here →
    IsLeft value.last.items value.passable here ended →
    AreFrom (x ∷ []) start →
    IsLed value.first.items here old o1 →
    IsLed (x ∷ []) ended o1 o2 →
    IsLed (marks_of end) start o2 new →
    AreFrom [] next → IsJoined plan x next old new
unfolding IsIn
return_is plan x value end here ended start next old o1 o2 new rule p0 fi en l0 fr e1 e2 e3 nw =
    joined plan x next old new (arrows Return n) ins outs marks leads finals more has closed ends_sound added sound
    (λ s h. inl (inr (h, refl)))
    (λ s b h l. absurd h)
    (λ s b h l. inr (h, l))
    (by4 plan x (λ s. Has here s) none none none more (λ s e h f. inl (inl ((h, f))))
    (λ s e h f. absurd h)
    (λ s e h f. absurd h)
    (λ s e h f. absurd h)) where
      n : ℕ
      n = part_count plan x

      has : HasArrows plan x (arrows Return n)
      has = rule_arrows plan x Return rule

      ins : ℕ → Source → Type 0
      ins = ins4 (λ s. Has here s) none none none

      outs : ℕ → Source → Type 0
      outs = outs4 plan x (λ s. Has ended s) (unread plan x 1) (unread plan x 2) (unread plan x 3)

      marks : Source → Type 0
      marks = (λ s. Has ended s)

      leads : Source → Type 0
      leads = none

      finals : Source → Type 0
      finals = (λ s. Has start s)

      more : Source → ℕ → Type 0
      more = λ s b. ((to_part plan x 0 here s b) ⊎ (to_own x ended s b)) ⊎ (to_end plan x start s b)

      closed : IsClosed plan x (arrows Return n) ins outs marks leads finals (λ s. Has next s)
      closed = closed4 plan x (arrows Return n) (λ s. Has here s) none none none (λ s. Has ended s) (unread plan x 1) (unread plan x 2) (unread plan x 3) (λ s. Has ended s) none (λ s. Has start s) (λ s. Has next s)
          (flow_left p0 l0)
          (flow_unread plan x 1)
          (flow_unread plan x 2)
          (flow_unread plan x 3)
          ((λ s e. (en.has s).1 e), ((λ s m. m), ((λ s m. own_has fr s m), tt)))
          (λ e r. absurd (unbroken plan x e Return rule (λ v. v) r))

      in_value : (s : Source) → Has here s → Comes plan x s (head (into 0))
      in_value = (λ s h. step entry (into 0) has (inl refl) (entry_sound en s h))

      at_mark : (s : Source) → Has ended s → Comes plan x s (head mark)
      at_mark = (λ s h. step (out_of 0) mark has (inr (inl refl)) (left_sound p0 l0 in_value s h))

      at_end : (s : Source) → Has start s → Comes plan x s (head finish)
      at_end = (λ s h. step stop finish has (inr (inr (inl refl))) (own_sound fr s h))

      ends_sound : (s : Source) → Has next s → Comes plan x s (head exit)
      ends_sound = nowhere_sound nw

      added : Added old new more
      added = added_then (λ s b. (to_part plan x 0 here s b) ⊎ (to_own x ended s b)) (to_end plan x start) (added_then (λ s b. to_part plan x 0 here s b) (to_own x ended) (add_part p0 e1) (add_own e2)) (add_end plan x fi e3)

      sound : (s : Source) (b : ℕ) → more s b → Goes plan x s b
      sound s b m = elim m [ inl l3 ↦ elim l3 [ inl l2 ↦ inners (in_value s l2.0) l2.1 | inr r2 ↦ subst (λ (v : ℕ). Goes plan x s v) r2.1 (stops (at_mark s r2.0)) ] | inr r3 ↦ finishes (at_end s r3.0) r3.1 ]
