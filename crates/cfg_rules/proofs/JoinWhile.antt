-- How the parts of `while` are joined.
use Rattle.std.proofs.Common.{ℕ, ◌⊎◌, inl, inr, List, refl}
use Rattle.cfg_rules.specs.declared.rule.Rule.TheVariants.{While}
use Rattle.cfg_rules.specs.declared.summary.Summary.{Summary}
use Rattle.cfg_rules.specs.declared.arrival.Arrival.{Arrival}
use Rattle.cfg_rules.specs.declared.joined.Joined.{Joined}
use Rattle.cfg_rules.specs.Member.{IsIn}
use Rattle.cfg_rules.specs.Rules.{entry, out_of, into, exit, arrows}
use Rattle.cfg_rules.specs.Plan.{Construct, HasRule, part_count}
use Rattle.cfg_rules.specs.Joined.{Source, tail, head, Comes, Goes}
use Rattle.cfg_rules.specs.Sets.{Has, IsLed, IsLeft, IsEntry, IsAgain, IsPast, IsPart, AreBreaks, IsJoined}
use Rattle.cfg_rules.proofs.Exact.{inners, IsClosed, HasArrows, rule_arrows, left_sound, past_ends, past_sound, step, none, unread, flow_unread, ins4, outs4, closed4, Added, added_then, to_part, add_part, entry_sound, joined, by4, flow_again, flow_round, again_sound}

pub while_is : (plan : List Construct) (x : ℕ) (condition body : Summary) (breaks : List ℕ) (here once ran tested next : Arrival) (old o1 o2 new : Joined) → HasRule plan x While →
    IsPart plan x 0 condition →
    IsPart plan x 1 body →
    AreBreaks plan x breaks →
    IsEntry here →
    IsLeft condition.last.items condition.passable here once →
    IsLeft body.last.items body.passable once ran →
    IsAgain once condition.passable ran tested →
    IsPast tested breaks next →
    IsLed condition.first.items here old o1 →
    IsLed condition.first.items ran o1 o2 →
    IsLed body.first.items tested o2 new → IsJoined plan x next old new
unfolding IsIn
while_is plan x condition body breaks here once ran tested next old o1 o2 new rule p0 p1 br en l0 l1 ag pa e1 e2 e3 =
    joined plan x next old new (arrows While n) ins outs marks leads finals more has closed ends_sound added sound
    (λ s h. absurd h)
    (λ s b h l. absurd h)
    (λ s b h l. absurd h)
    (by4 plan x (λ s. Has here s ⊎ Has ran s) (λ s. Has tested s) none none more (λ s e h f. elim h [ inl u ↦ inl (inl ((u, f))) | inr v ↦ inl (inr (v, f)) ])
    (λ s e h f. inr (h, f))
    (λ s e h f. absurd h)
    (λ s e h f. absurd h)) where
      n : ℕ
      n = part_count plan x

      has : HasArrows plan x (arrows While n)
      has = rule_arrows plan x While rule

      ins : ℕ → Source → Type 0
      ins = ins4 (λ s. Has here s ⊎ Has ran s) (λ s. Has tested s) none none

      outs : ℕ → Source → Type 0
      outs = outs4 plan x (λ s. Has tested s) (λ s. Has ran s) (unread plan x 2) (unread plan x 3)

      marks : Source → Type 0
      marks = none

      leads : Source → Type 0
      leads = none

      finals : Source → Type 0
      finals = none

      more : Source → ℕ → Type 0
      more = λ s b. ((to_part plan x 0 here s b) ⊎ (to_part plan x 0 ran s b)) ⊎ (to_part plan x 1 tested s b)

      closed : IsClosed plan x (arrows While n) ins outs marks leads finals (λ s. Has next s)
      closed = closed4 plan x (arrows While n) (λ s. Has here s ⊎ Has ran s) (λ s. Has tested s) none none (λ s. Has tested s) (λ s. Has ran s) (unread plan x 2) (unread plan x 3) none none none (λ s. Has next s)
          (flow_again p0 l0 ag)
          (flow_round p1 l1 ag)
          (flow_unread plan x 2)
          (flow_unread plan x 3)
          ((λ s e. inl ((en.has s).1 e)), ((λ s m. m), ((λ s m. (pa.has s).1 (inl m)), ((λ s m. inr m), tt))))
          (λ e r. past_ends e br pa r)

      in_condition : (s : Source) → Has here s → Comes plan x s (head (into 0))
      in_condition = (λ s h. step entry (into 0) has (inl refl) (entry_sound en s h))

      once_sound : (s : Source) → Has once s → Comes plan x s (tail (out_of 0))
      once_sound = left_sound p0 l0 in_condition

      ran_sound : (s : Source) → Has ran s → Comes plan x s (tail (out_of 1))
      ran_sound = left_sound p1 l1 (λ s h. step (out_of 0) (into 1) has (inr (inl refl)) (once_sound s h))

      in_round : (s : Source) → Has ran s → Comes plan x s (head (into 0))
      in_round = (λ s h. step (out_of 1) (into 0) has (inr (inr (inr (inl refl)))) (ran_sound s h))

      tested_sound : (s : Source) → Has tested s → Comes plan x s (tail (out_of 0))
      tested_sound = again_sound p0 ag once_sound in_round

      in_body : (s : Source) → Has tested s → Comes plan x s (head (into 1))
      in_body = (λ s h. step (out_of 0) (into 1) has (inr (inl refl)) (tested_sound s h))

      ends_sound : (s : Source) → Has next s → Comes plan x s (head exit)
      ends_sound = (past_sound br pa (λ s h. step (out_of 0) exit has (inr (inr (inl refl))) (tested_sound s h)))

      added : Added old new more
      added = added_then (λ s b. (to_part plan x 0 here s b) ⊎ (to_part plan x 0 ran s b)) (to_part plan x 1 tested) (added_then (λ s b. to_part plan x 0 here s b) (to_part plan x 0 ran) (add_part p0 e1) (add_part p0 e2)) (add_part p1 e3)

      sound : (s : Source) (b : ℕ) → more s b → Goes plan x s b
      sound s b m = elim m [ inl l3 ↦ elim l3 [ inl l2 ↦ inners (in_condition s l2.0) l2.1 | inr r2 ↦ inners (in_round s r2.0) r2.1 ] | inr r3 ↦ inners (in_body s r3.0) r3.1 ]
