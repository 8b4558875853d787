-- How the parts of `&&` and `||` are joined.
use Rattle.std.proofs.Common.{ℕ, ◌⊎◌, inl, inr, List, [], ◌∷◌, refl, subst}
use Rattle.cfg_rules.specs.declared.rule.Rule.TheVariants.{ShortCircuit}
use Rattle.cfg_rules.specs.declared.summary.Summary.{Summary}
use Rattle.cfg_rules.specs.declared.arrival.Arrival.{Arrival}
use Rattle.cfg_rules.specs.declared.joined.Joined.{Joined}
use Rattle.cfg_rules.specs.Member.{IsIn}
use Rattle.cfg_rules.specs.Rules.{entry, out_of, stop, into, mark, exit, arrows}
use Rattle.cfg_rules.specs.Plan.{Construct, HasRule, part_count}
use Rattle.cfg_rules.specs.Joined.{Source, tail, head, Comes, Goes, stops}
use Rattle.cfg_rules.specs.Sets.{Has, IsLed, IsLeft, LeavesBy, IsEntry, IsPast, AreFrom, IsPart, IsJoined}
use Rattle.cfg_rules.proofs.Exact.{inners, IsClosed, HasArrows, rule_arrows, left_sound, step, unbroken, none, unread, flow_unread, flow_left, ins4, outs4, closed4, Added, added_then, to_part, add_part, to_own, add_own, own_sound, own_has, entry_sound, joined, by4, last_sound, flow_by}

pub short_circuit_is : (plan : List Construct) (x : ℕ) (first second : Summary) (here tested ended next : Arrival) (old o1 o2 new : Joined) → HasRule plan x ShortCircuit →
    IsPart plan x 0 first →
    IsPart plan x 1 second →
    IsEntry here →
    IsLeft first.last.items first.passable here tested →
    IsPast tested second.last.items ended →
    IsLed first.first.items here old o1 →
    IsLed second.first.items tested o1 o2 →
    IsLed (x ∷ []) ended o2 new →
    AreFrom (x ∷ []) next → IsJoined plan x next old new
unfolding IsIn
short_circuit_is plan x first second here tested ended next old o1 o2 new rule p0 p1 en l0 pa e1 e2 e3 fr =
    joined plan x next old new (arrows ShortCircuit n) ins outs marks leads finals more has closed ends_sound added sound
    (λ s h. inr (h, refl))
    (λ s b h l. absurd h)
    (λ s b h l. absurd h)
    (by4 plan x (λ s. Has here s) (λ s. Has tested s) none none more (λ s e h f. inl (inl ((h, f))))
    (λ s e h f. inl (inr (h, f)))
    (λ s e h f. absurd h)
    (λ s e h f. absurd h)) where
      n : ℕ
      n = part_count plan x

      has : HasArrows plan x (arrows ShortCircuit n)
      has = rule_arrows plan x ShortCircuit rule

      ins : ℕ → Source → Type 0
      ins = ins4 (λ s. Has here s) (λ s. Has tested s) none none

      outs : ℕ → Source → Type 0
      outs = outs4 plan x (λ s. Has tested s) (λ s. LeavesBy second tested s) (unread plan x 2) (unread plan x 3)

      marks : Source → Type 0
      marks = (λ s. Has ended s)

      leads : Source → Type 0
      leads = none

      finals : Source → Type 0
      finals = none

      more : Source → ℕ → Type 0
      more = λ s b. ((to_part plan x 0 here s b) ⊎ (to_part plan x 1 tested s b)) ⊎ (to_own x ended s b)

      closed : IsClosed plan x (arrows ShortCircuit n) ins outs marks leads finals (λ s. Has next s)
      closed = closed4 plan x (arrows ShortCircuit n) (λ s. Has here s) (λ s. Has tested s) none none (λ s. Has tested s) (λ s. LeavesBy second tested s) (unread plan x 2) (unread plan x 3) (λ s. Has ended s) none none (λ s. Has next s)
          (flow_left p0 l0)
          (flow_by tested p1)
          (flow_unread plan x 2)
          (flow_unread plan x 3)
          ((λ s e. (en.has s).1 e), ((λ s m. m), ((λ s m. (pa.has s).1 (inl m)), ((λ s m. elim m [ inl l ↦ (pa.has s).1 (inr l) | inr q ↦ (pa.has s).1 (inl q.1) ]), ((λ s m. own_has fr s m), tt)))))
          (λ e r. absurd (unbroken plan x e ShortCircuit rule (λ v. v) r))

      in_first : (s : Source) → Has here s → Comes plan x s (head (into 0))
      in_first = (λ s h. step entry (into 0) has (inl refl) (entry_sound en s h))

      out_first : (s : Source) → Has tested s → Comes plan x s (tail (out_of 0))
      out_first = left_sound p0 l0 in_first

      in_second : (s : Source) → Has tested s → Comes plan x s (head (into 1))
      in_second = (λ s h. step (out_of 0) (into 1) has (inr (inl refl)) (out_first s h))

      at_mark : (s : Source) → Has ended s → Comes plan x s (head mark)
      at_mark = λ s h. elim ((pa.has s).0 h) [ inl t ↦ step (out_of 0) mark has (inr (inr (inl refl))) (out_first s t) | inr l ↦ step (out_of 1) mark has (inr (inr (inr (inl refl)))) (last_sound p1 s l) ]

      ends_sound : (s : Source) → Has next s → Comes plan x s (head exit)
      ends_sound = (λ s h. step stop exit has (inr (inr (inr (inr (inl refl))))) (own_sound fr s h))

      added : Added old new more
      added = added_then (λ s b. (to_part plan x 0 here s b) ⊎ (to_part plan x 1 tested s b)) (to_own x ended) (added_then (λ s b. to_part plan x 0 here s b) (to_part plan x 1 tested) (add_part p0 e1) (add_part p1 e2)) (add_own e3)

      sound : (s : Source) (b : ℕ) → more s b → Goes plan x s b
      sound s b m = elim m [ inl l3 ↦ elim l3 [ inl l2 ↦ inners (in_first s l2.0) l2.1 | inr r2 ↦ inners (in_second s r2.0) r2.1 ] | inr r3 ↦ subst (λ (v : ℕ). Goes plan x s v) r3.1 (stops (at_mark s r3.0)) ]
