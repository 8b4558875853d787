-- How the parts of `do` are joined.
use Rattle.std.proofs.Common.{ℕ, ◌⊎◌, inl, inr, List, refl}
use Rattle.cfg_rules.specs.declared.rule.Rule.TheVariants.{Do}
use Rattle.cfg_rules.specs.declared.summary.Summary.{Summary}
use Rattle.cfg_rules.specs.declared.arrival.Arrival.{Arrival}
use Rattle.cfg_rules.specs.declared.joined.Joined.{Joined}
use Rattle.cfg_rules.specs.Member.{IsIn}
use Rattle.cfg_rules.specs.Rules.{entry, out_of, into, exit, arrows}
use Rattle.cfg_rules.specs.Plan.{Construct, HasRule, part_count}
use Rattle.cfg_rules.specs.Joined.{Source, tail, head, Comes, Goes}
use Rattle.cfg_rules.specs.Sets.{Has, IsLed, IsLeft, IsEntry, IsAgain, IsPast, IsPart, AreBreaks, IsJoined}
use Rattle.cfg_rules.proofs.Exact.{inners, IsClosed, HasArrows, rule_arrows, left_sound, past_ends, past_sound, step, none, unread, flow_unread, ins4, outs4, closed4, Added, added_then, to_part, add_part, entry_sound, joined, by4, flow_again, flow_round, again_sound}

pub do_is : (plan : List Construct) (x : ℕ) (body condition : Summary) (breaks : List ℕ) (here once tested ran next : Arrival) (old o1 o2 new : Joined) → HasRule plan x Do →
    IsPart plan x 0 body →
    IsPart plan x 1 condition →
    AreBreaks plan x breaks →
    IsEntry here →
    IsLeft body.last.items body.passable here once →
    IsLeft condition.last.items condition.passable once tested →
    IsAgain once body.passable tested ran →
    IsPast tested breaks next →
    IsLed body.first.items here old o1 →
    IsLed body.first.items tested o1 o2 →
    IsLed condition.first.items ran o2 new → IsJoined plan x next old new
unfolding IsIn
do_is plan x body condition breaks here once tested ran next old o1 o2 new rule p0 p1 br en l0 l1 ag pa e1 e2 e3 =
    joined plan x next old new (arrows Do n) ins outs marks leads finals more has closed ends_sound added sound
    (λ s h. absurd h)
    (λ s b h l. absurd h)
    (λ s b h l. absurd h)
    (by4 plan x (λ s. Has here s ⊎ Has tested s) (λ s. Has ran s) none none more (λ s e h f. elim h [ inl u ↦ inl (inl ((u, f))) | inr v ↦ inl (inr (v, f)) ])
    (λ s e h f. inr (h, f))
    (λ s e h f. absurd h)
    (λ s e h f. absurd h)) where
      n : ℕ
      n = part_count plan x

      has : HasArrows plan x (arrows Do n)
      has = rule_arrows plan x Do rule

      ins : ℕ → Source → Type 0
      ins = ins4 (λ s. Has here s ⊎ Has tested s) (λ s. Has ran s) none none

      outs : ℕ → Source → Type 0
      outs = outs4 plan x (λ s. Has ran s) (λ s. Has tested s) (unread plan x 2) (unread plan x 3)

      marks : Source → Type 0
      marks = none

      leads : Source → Type 0
      leads = none

      finals : Source → Type 0
      finals = none

      more : Source → ℕ → Type 0
      more = λ s b. ((to_part plan x 0 here s b) ⊎ (to_part plan x 0 tested s b)) ⊎ (to_part plan x 1 ran s b)

      closed : IsClosed plan x (arrows Do n) ins outs marks leads finals (λ s. Has next s)
      closed = closed4 plan x (arrows Do n) (λ s. Has here s ⊎ Has tested s) (λ s. Has ran s) none none (λ s. Has ran s) (λ s. Has tested s) (unread plan x 2) (unread plan x 3) none none none (λ s. Has next s)
          (flow_again p0 l0 ag)
          (flow_round p1 l1 ag)
          (flow_unread plan x 2)
          (flow_unread plan x 3)
          ((λ s e. inl ((en.has s).1 e)), ((λ s m. m), ((λ s m. inr m), ((λ s m. (pa.has s).1 (inl m)), tt))))
          (λ e r. past_ends e br pa r)

      in_body : (s : Source) → Has here s → Comes plan x s (head (into 0))
      in_body = (λ s h. step entry (into 0) has (inl refl) (entry_sound en s h))

      once_sound : (s : Source) → Has once s → Comes plan x s (tail (out_of 0))
      once_sound = left_sound p0 l0 in_body

      tested_sound : (s : Source) → Has tested s → Comes plan x s (tail (out_of 1))
      tested_sound = left_sound p1 l1 (λ s h. step (out_of 0) (into 1) has (inr (inl refl)) (once_sound s h))

      in_round : (s : Source) → Has tested s → Comes plan x s (head (into 0))
      in_round = (λ s h. step (out_of 1) (into 0) has (inr (inr (inl refl))) (tested_sound s h))

      in_condition : (s : Source) → Has ran s → Comes plan x s (head (into 1))
      in_condition = (λ s h. step (out_of 0) (into 1) has (inr (inl refl)) (again_sound p0 ag once_sound in_round s h))

      ends_sound : (s : Source) → Has next s → Comes plan x s (head exit)
      ends_sound = (past_sound br pa (λ s h. step (out_of 1) exit has (inr (inr (inr (inl refl)))) (tested_sound s h)))

      added : Added old new more
      added = added_then (λ s b. (to_part plan x 0 here s b) ⊎ (to_part plan x 0 tested s b)) (to_part plan x 1 ran) (added_then (λ s b. to_part plan x 0 here s b) (to_part plan x 0 tested) (add_part p0 e1) (add_part p0 e2)) (add_part p1 e3)

      sound : (s : Source) (b : ℕ) → more s b → Goes plan x s b
      sound s b m = elim m [ inl l3 ↦ elim l3 [ inl l2 ↦ inners (in_body s l2.0) l2.1 | inr r2 ↦ inners (in_round s r2.0) r2.1 ] | inr r3 ↦ inners (in_condition s r3.0) r3.1 ]
