-- How the parts of `if` are joined.
use Rattle.std.proofs.Common.{ℕ, ◌⊎◌, inl, inr, List, refl}
use Rattle.cfg_rules.specs.declared.rule.Rule.TheVariants.{If}
use Rattle.cfg_rules.specs.declared.summary.Summary.{Summary}
use Rattle.cfg_rules.specs.declared.arrival.Arrival.{Arrival}
use Rattle.cfg_rules.specs.declared.joined.Joined.{Joined}
use Rattle.cfg_rules.specs.Member.{IsIn}
use Rattle.cfg_rules.specs.Rules.{entry, out_of, into, exit, arrows}
use Rattle.cfg_rules.specs.Plan.{Construct, HasRule, part_count}
use Rattle.cfg_rules.specs.Joined.{Source, head, Comes, Goes}
use Rattle.cfg_rules.specs.Sets.{Has, IsLed, IsLeft, IsLeftByEither, LeavesBy, IsEntry, IsPart, IsJoined}
use Rattle.cfg_rules.proofs.Exact.{inners, IsClosed, HasArrows, rule_arrows, left_sound, step, unbroken, none, unread, flow_unread, flow_left, ins4, outs4, closed4, Added, added_then, to_part, add_part, entry_sound, joined, by4, flow_by, by_sound}

pub if_is : (plan : List Construct) (x : ℕ) (condition chosen other : Summary) (here tested next : Arrival) (old o1 o2 new : Joined) → HasRule plan x If →
    IsPart plan x 0 condition →
    IsPart plan x 1 chosen →
    IsPart plan x 2 other →
    IsEntry here →
    IsLeft condition.last.items condition.passable here tested →
    IsLeftByEither chosen other tested next →
    IsLed condition.first.items here old o1 →
    IsLed chosen.first.items tested o1 o2 →
    IsLed other.first.items tested o2 new → IsJoined plan x next old new
unfolding IsIn
if_is plan x condition chosen other here tested next old o1 o2 new rule p0 p1 p2 en l0 ei e1 e2 e3 =
    joined plan x next old new (arrows If n) ins outs marks leads finals more has closed ends_sound added sound
    (λ s h. absurd h)
    (λ s b h l. absurd h)
    (λ s b h l. absurd h)
    (by4 plan x (λ s. Has here s) (λ s. Has tested s) (λ s. Has tested s) none more (λ s e h f. inl (inl ((h, f))))
    (λ s e h f. inl (inr (h, f)))
    (λ s e h f. inr (h, f))
    (λ s e h f. absurd h)) where
      n : ℕ
      n = part_count plan x

      has : HasArrows plan x (arrows If n)
      has = rule_arrows plan x If rule

      ins : ℕ → Source → Type 0
      ins = ins4 (λ s. Has here s) (λ s. Has tested s) (λ s. Has tested s) none

      outs : ℕ → Source → Type 0
      outs = outs4 plan x (λ s. Has tested s) (λ s. LeavesBy chosen tested s) (λ s. LeavesBy other tested s) (unread plan x 3)

      marks : Source → Type 0
      marks = none

      leads : Source → Type 0
      leads = none

      finals : Source → Type 0
      finals = none

      more : Source → ℕ → Type 0
      more = λ s b. ((to_part plan x 0 here s b) ⊎ (to_part plan x 1 tested s b)) ⊎ (to_part plan x 2 tested s b)

      closed : IsClosed plan x (arrows If n) ins outs marks leads finals (λ s. Has next s)
      closed = closed4 plan x (arrows If n) (λ s. Has here s) (λ s. Has tested s) (λ s. Has tested s) none (λ s. Has tested s) (λ s. LeavesBy chosen tested s) (λ s. LeavesBy other tested s) (unread plan x 3) none none none (λ s. Has next s)
          (flow_left p0 l0)
          (flow_by tested p1)
          (flow_by tested p2)
          (flow_unread plan x 3)
          ((λ s e. (en.has s).1 e), ((λ s m. m), ((λ s m. m), ((λ s m. (ei.has s).1 (inl m)), ((λ s m. (ei.has s).1 (inr m)), tt)))))
          (λ e r. absurd (unbroken plan x e If rule (λ v. v) r))

      in_condition : (s : Source) → Has here s → Comes plan x s (head (into 0))
      in_condition = (λ s h. step entry (into 0) has (inl refl) (entry_sound en s h))

      in_chosen : (s : Source) → Has tested s → Comes plan x s (head (into 1))
      in_chosen = (λ s h. step (out_of 0) (into 1) has (inr (inl refl)) (left_sound p0 l0 in_condition s h))

      in_other : (s : Source) → Has tested s → Comes plan x s (head (into 2))
      in_other = (λ s h. step (out_of 0) (into 2) has (inr (inr (inl refl))) (left_sound p0 l0 in_condition s h))

      ends_sound : (s : Source) → Has next s → Comes plan x s (head exit)
      ends_sound = λ s h. elim ((ei.has s).0 h) [ inl m ↦ step (out_of 1) exit has (inr (inr (inr (inl refl)))) (by_sound tested p1 in_chosen s m) | inr m ↦ step (out_of 2) exit has (inr (inr (inr (inr (inl refl))))) (by_sound tested p2 in_other s m) ]

      added : Added old new more
      added = added_then (λ s b. (to_part plan x 0 here s b) ⊎ (to_part plan x 1 tested s b)) (to_part plan x 2 tested) (added_then (λ s b. to_part plan x 0 here s b) (to_part plan x 1 tested) (add_part p0 e1) (add_part p1 e2)) (add_part p2 e3)

      sound : (s : Source) (b : ℕ) → more s b → Goes plan x s b
      sound s b m = elim m [ inl l3 ↦ elim l3 [ inl l2 ↦ inners (in_condition s l2.0) l2.1 | inr r2 ↦ inners (in_chosen s r2.0) r2.1 ] | inr r3 ↦ inners (in_other s r3.0) r3.1 ]
