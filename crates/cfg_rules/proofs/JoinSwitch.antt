-- How the parts of `switch` without `default` are joined.
use Rattle.std.proofs.Common.{ℕ, ◌⊎◌, inl, inr, List, refl}
use Rattle.cfg_rules.specs.declared.rule.Rule.TheVariants.{Switch}
use Rattle.cfg_rules.specs.declared.summary.Summary.{Summary}
use Rattle.cfg_rules.specs.declared.arrival.Arrival.{Arrival}
use Rattle.cfg_rules.specs.declared.joined.Joined.{Joined}
use Rattle.cfg_rules.specs.Member.{IsIn}
use Rattle.cfg_rules.specs.Rules.{entry, out_of, into, jump, exit, arrows}
use Rattle.cfg_rules.specs.Plan.{Construct, HasRule, part_count}
use Rattle.cfg_rules.specs.Joined.{Source, tail, head, Comes, Goes, jumps}
use Rattle.cfg_rules.specs.Sets.{Has, IsAfter, IsLed, IsLeft, IsEntry, IsPast, IsPart, AreBreaks, AreTargets, IsJoined}
use Rattle.cfg_rules.proofs.Exact.{inners, IsClosed, HasArrows, rule_arrows, left_sound, past_ends, past_sound, step, none, unread, flow_unread, flow_left, ins4, outs4, closed4, Added, added_then, to_part, add_part, to_targets, add_targets, entry_sound, joined, by4, last_sound, flow_last}

pub switch_is : (plan : List Construct) (x : ℕ) (condition body : Summary) (targets breaks : List ℕ) (here tested ran next : Arrival) (old o1 new : Joined) → HasRule plan x Switch →
    IsPart plan x 0 condition →
    IsPart plan x 1 body →
    AreTargets plan x targets →
    AreBreaks plan x breaks →
    IsEntry here →
    IsLeft condition.last.items condition.passable here tested →
    IsLed condition.first.items here old o1 →
    IsLed targets tested o1 new →
    IsPast tested body.last.items ran →
    IsPast ran breaks next → IsJoined plan x next old new
unfolding IsIn
switch_is plan x condition body targets breaks here tested ran next old o1 new rule p0 p1 le br en l0 e1 e2 ra pa =
    joined plan x next old new (arrows Switch n) ins outs marks leads finals more has closed ends_sound added sound
    (λ s h. absurd h)
    (λ s b h l. inr (h, l))
    (λ s b h l. absurd h)
    (by4 plan x (λ s. Has here s) none none none more (λ s e h f. inl ((h, f)))
    (λ s e h f. absurd h)
    (λ s e h f. absurd h)
    (λ s e h f. absurd h)) where
      n : ℕ
      n = part_count plan x

      has : HasArrows plan x (arrows Switch n)
      has = rule_arrows plan x Switch rule

      ins : ℕ → Source → Type 0
      ins = ins4 (λ s. Has here s) none none none

      outs : ℕ → Source → Type 0
      outs = outs4 plan x (λ s. Has tested s) (λ s. IsAfter body.last.items s) (unread plan x 2) (unread plan x 3)

      marks : Source → Type 0
      marks = none

      leads : Source → Type 0
      leads = (λ s. Has tested s)

      finals : Source → Type 0
      finals = none

      more : Source → ℕ → Type 0
      more = λ s b. (to_part plan x 0 here s b) ⊎ (to_targets plan x tested s b)

      closed : IsClosed plan x (arrows Switch n) ins outs marks leads finals (λ s. Has next s)
      closed = closed4 plan x (arrows Switch n) (λ s. Has here s) none none none (λ s. Has tested s) (λ s. IsAfter body.last.items s) (unread plan x 2) (unread plan x 3) none (λ s. Has tested s) none (λ s. Has next s)
          (flow_left p0 l0)
          (flow_last p1)
          (flow_unread plan x 2)
          (flow_unread plan x 3)
          ((λ s e. (en.has s).1 e), ((λ s m. m), ((λ s m. (pa.has s).1 (inl ((ra.has s).1 (inl m)))), ((λ s m. (pa.has s).1 (inl ((ra.has s).1 (inr m)))), tt))))
          (λ e r. past_ends e br pa r)

      in_condition : (s : Source) → Has here s → Comes plan x s (head (into 0))
      in_condition = (λ s h. step entry (into 0) has (inl refl) (entry_sound en s h))

      tested_sound : (s : Source) → Has tested s → Comes plan x s (tail (out_of 0))
      tested_sound = left_sound p0 l0 in_condition

      at_jump : (s : Source) → Has tested s → Comes plan x s (head jump)
      at_jump = (λ s h. step (out_of 0) jump has (inr (inl refl)) (tested_sound s h))

      ends_sound : (s : Source) → Has next s → Comes plan x s (head exit)
      ends_sound = (past_sound br pa (λ s h. elim ((ra.has s).0 h) [ inl t ↦ step (out_of 0) exit has (inr (inr (inl refl))) (tested_sound s t) | inr l ↦ step (out_of 1) exit has (inr (inr (inr (inl refl)))) (last_sound p1 s l) ]))

      added : Added old new more
      added = added_then (λ s b. to_part plan x 0 here s b) (to_targets plan x tested) (add_part p0 e1) (add_targets le e2)

      sound : (s : Source) (b : ℕ) → more s b → Goes plan x s b
      sound s b m = elim m [ inl l2 ↦ inners (in_condition s l2.0) l2.1 | inr r2 ↦ jumps (at_jump s r2.0) r2.1 ]
