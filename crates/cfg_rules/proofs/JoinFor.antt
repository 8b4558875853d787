-- How the parts of `for` are joined.
use Rattle.std.proofs.Common.{ℕ, ◌⊎◌, inl, inr, List, refl}
use Rattle.cfg_rules.specs.declared.rule.Rule.TheVariants.{For}
use Rattle.cfg_rules.specs.declared.summary.Summary.{Summary}
use Rattle.cfg_rules.specs.declared.arrival.Arrival.{Arrival}
use Rattle.cfg_rules.specs.declared.joined.Joined.{Joined}
use Rattle.cfg_rules.specs.declared.loops.Ring.{Ring}
use Rattle.cfg_rules.specs.Member.{IsIn}
use Rattle.cfg_rules.specs.Rules.{entry, out_of, into, exit, arrows}
use Rattle.cfg_rules.specs.Plan.{Construct, HasRule, part_count}
use Rattle.cfg_rules.specs.Joined.{Source, after, tail, head, Comes, Goes}
use Rattle.cfg_rules.specs.Sets.{Has, IsLed, IsLedRound, IsLeft, IsEntry, IsRing, IsPast, IsPart, AreBreaks, IsJoined}
use Rattle.cfg_rules.proofs.Exact.{passes, inners, IsClosed, HasArrows, rule_arrows, left_sound, left_up, left_passes, past_ends, past_sound, step, none, flow_left, ins4, outs4, closed4, Added, to_part, add_part, entry_sound, joined, by4, flow_again, flow_round, again_sound, added_round}

pub for_is : (plan : List Construct) (x : ℕ) (first condition third body : Summary) (breaks : List ℕ) (ring : Ring) (here set next : Arrival) (old o1 new : Joined) → HasRule plan x For →
    IsPart plan x 0 first →
    IsPart plan x 1 condition →
    IsPart plan x 2 third →
    IsPart plan x 3 body →
    AreBreaks plan x breaks →
    IsEntry here →
    IsLeft first.last.items first.passable here set →
    IsRing set condition third body ring →
    IsLed first.first.items here old o1 →
    IsLedRound set ring condition third body o1 new →
    IsPast ring.tested breaks next → IsJoined plan x next old new
unfolding IsIn
for_is plan x first condition third body breaks ring here set next old o1 new rule p0 p1 p2 p3 br en l0 ri e1 lr pa =
    joined plan x next old new (arrows For n) ins outs marks leads finals more has closed ends_sound added sound
    (λ s h. absurd h)
    (λ s b h l. absurd h)
    (λ s b h l. absurd h)
    (by4 plan x (λ s. Has here s) (λ s. Has set s ⊎ Has ring.stepped s) (λ s. Has ring.ran s) (λ s. Has ring.tested s) more (λ s e h f. inl (inl (inl (inl ((h, f))))))
    (λ s e h f. elim h [ inl u ↦ inl (inl (inl (inr (u, f)))) | inr v ↦ inl (inl (inr (v, f))) ])
    (λ s e h f. inr (h, f))
    (λ s e h f. inl (inr (h, f)))) where
      n : ℕ
      n = part_count plan x

      has : HasArrows plan x (arrows For n)
      has = rule_arrows plan x For rule

      ins : ℕ → Source → Type 0
      ins = ins4 (λ s. Has here s) (λ s. Has set s ⊎ Has ring.stepped s) (λ s. Has ring.ran s) (λ s. Has ring.tested s)

      outs : ℕ → Source → Type 0
      outs = outs4 plan x (λ s. Has set s) (λ s. Has ring.tested s) (λ s. Has ring.stepped s) (λ s. Has ring.ran s)

      marks : Source → Type 0
      marks = none

      leads : Source → Type 0
      leads = none

      finals : Source → Type 0
      finals = none

      more : Source → ℕ → Type 0
      more = λ s b. ((((to_part plan x 0 here s b) ⊎ (to_part plan x 1 set s b)) ⊎ (to_part plan x 1 ring.stepped s b)) ⊎ (to_part plan x 3 ring.tested s b)) ⊎ (to_part plan x 2 ring.ran s b)

      closed : IsClosed plan x (arrows For n) ins outs marks leads finals (λ s. Has next s)
      closed = closed4 plan x (arrows For n) (λ s. Has here s) (λ s. Has set s ⊎ Has ring.stepped s) (λ s. Has ring.ran s) (λ s. Has ring.tested s) (λ s. Has set s) (λ s. Has ring.tested s) (λ s. Has ring.stepped s) (λ s. Has ring.ran s) none none none (λ s. Has next s)
          (flow_left p0 l0)
          (flow_again p1 ri.tests ri.tests_again)
          (flow_round p2 ri.steps ri.runs_again)
          (record { passed = λ s u h. elim ((ri.tests_again.has s).0 h) [ inl e ↦ (ri.runs_again.has s).1 (inl (left_passes s p3 ri.runs u e)) | inr q ↦ (ri.runs_again.has s).1 (inr (ri.bypasses.1 (q.0, p3.passable.1 u), q.1)) ]; up = λ a u. (ri.runs_again.has (after a)).1 (inl (left_up a p3 ri.runs u)) })
          ((λ s e. (en.has s).1 e), ((λ s m. inl m), ((λ s m. m), ((λ s m. (pa.has s).1 (inl m)), ((λ s m. m), ((λ s m. inr m), tt))))))
          (λ e r. past_ends e br pa r)

      in_first : (s : Source) → Has here s → Comes plan x s (head (into 0))
      in_first = (λ s h. step entry (into 0) has (inl refl) (entry_sound en s h))

      in_condition : (s : Source) → Has set s → Comes plan x s (head (into 1))
      in_condition = (λ s h. step (out_of 0) (into 1) has (inr (inl refl)) (left_sound p0 l0 in_first s h))

      once_sound : (s : Source) → Has ri.once s → Comes plan x s (tail (out_of 1))
      once_sound = left_sound p1 ri.tests in_condition

      twice_sound : (s : Source) → Has ri.twice s → Comes plan x s (tail (out_of 3))
      twice_sound = left_sound p3 ri.runs (λ s h. step (out_of 1) (into 3) has (inr (inr (inl refl))) (once_sound s h))

      stepped_sound : (s : Source) → Has ring.stepped s → Comes plan x s (tail (out_of 2))
      stepped_sound = left_sound p2 ri.steps (λ s h. step (out_of 3) (into 2) has (inr (inr (inr (inr (inl refl))))) (twice_sound s h))

      in_round : (s : Source) → Has ring.stepped s → Comes plan x s (head (into 1))
      in_round = (λ s h. step (out_of 2) (into 1) has (inr (inr (inr (inr (inr (inl refl)))))) (stepped_sound s h))

      tested_sound : (s : Source) → Has ring.tested s → Comes plan x s (tail (out_of 1))
      tested_sound = again_sound p1 ri.tests_again once_sound in_round

      in_body : (s : Source) → Has ring.tested s → Comes plan x s (head (into 3))
      in_body = (λ s h. step (out_of 1) (into 3) has (inr (inr (inl refl))) (tested_sound s h))

      ran_sound : (s : Source) → Has ring.ran s → Comes plan x s (tail (out_of 3))
      ran_sound = λ s h. elim ((ri.runs_again.has s).0 h) [ inl e ↦ twice_sound s e | inr q ↦ passes (p3.passable.0 (ri.bypasses.0 q.0).1) (in_body s ((ri.tests_again.has s).1 (inr ((ri.bypasses.0 q.0).0, q.1)))) ]

      in_third : (s : Source) → Has ring.ran s → Comes plan x s (head (into 2))
      in_third = (λ s h. step (out_of 3) (into 2) has (inr (inr (inr (inr (inl refl))))) (ran_sound s h))

      ends_sound : (s : Source) → Has next s → Comes plan x s (head exit)
      ends_sound = (past_sound br pa (λ s h. step (out_of 1) exit has (inr (inr (inr (inl refl)))) (tested_sound s h)))

      added : Added old new more
      added = added_round (to_part plan x 0 here) p1 p2 p3 (add_part p0 e1) lr

      sound : (s : Source) (b : ℕ) → more s b → Goes plan x s b
      sound s b m = elim m [ inl l5 ↦ elim l5 [ inl l4 ↦ elim l4 [ inl l3 ↦ elim l3 [ inl l2 ↦ inners (in_first s l2.0) l2.1 | inr r2 ↦ inners (in_condition s r2.0) r2.1 ] | inr r3 ↦ inners (in_round s r3.0) r3.1 ] | inr r4 ↦ inners (in_body s r4.0) r4.1 ] | inr r5 ↦ inners (in_third s r5.0) r5.1 ]
