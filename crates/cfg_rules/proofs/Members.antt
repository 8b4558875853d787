-- Membership, union and products.
use Rattle.std.proofs.Common.{ℕ, ◌≡◌, ◌↔◌, ◌⊎◌, inl, inr, List, [], ◌∷◌, ◌++◌, Bool, true, false, IsTrue, map, refl, sym, ◌∙◌, ap, subst}
use Rattle.cfg_rules.specs.Member.{IsIn}
use Rattle.cfg_rules.specs.declared.arrival.Arrival.{Arrival}
use Rattle.cfg_rules.specs.declared.joined.Joined.{Joined}
use Rattle.cfg_rules.specs.Sets.{IsUnion, HasEdges, IsLed, IsBoth, IsSame, AreFrom, IsEntry, Has, Got, IsAfter}
use Rattle.cfg_rules.specs.Joined.{Source, entered, after}

pub in_left : {X : Type 0} (xs ys : List X) (x : X) → IsIn xs x → IsIn (xs ++ ys) x
unfolding IsIn
in_left (y ∷ xs) ys x (inl e) = inl e
in_left (y ∷ xs) ys x (inr m) = inr (in_left xs ys x m)
in_left [] ys x m = absurd m

pub in_right : {X : Type 0} (xs ys : List X) (x : X) → IsIn ys x → IsIn (xs ++ ys) x
unfolding IsIn
in_right [] ys x m = m
in_right (y ∷ xs) ys x m = inr (in_right xs ys x m)

pub in_either : {X : Type 0} (xs ys : List X) (x : X) → IsIn (xs ++ ys) x → IsIn xs x ⊎ IsIn ys x
unfolding IsIn
in_either [] ys x m = inr m
in_either (y ∷ xs) ys x (inl e) = inl (inl e)
in_either (y ∷ xs) ys x (inr m) = elim (in_either xs ys x m) [ inl l ↦ inl (inr l) | inr r ↦ inr r ]

pub union_append : (xs ys : List ℕ) → IsUnion xs ys (xs ++ ys)
union_append xs ys = record { has = λ m. (in_either xs ys m, elim [ inl l ↦ in_left xs ys m l | inr r ↦ in_right xs ys m r ]) }

pub union_is : (xs ys all : List ℕ) → all ≡ xs ++ ys → IsUnion xs ys all
union_is xs ys all e = subst (λ (zs : List ℕ). IsUnion xs ys zs) (sym e) (union_append xs ys)

pub union_turned : (xs ys all : List ℕ) → IsUnion xs ys all → IsUnion ys xs all
union_turned xs ys all u = record { has = λ m. (λ i. elim ((u.has m).0 i) [ inl l ↦ inr l | inr r ↦ inl r ], elim [ inl l ↦ (u.has m).1 (inr l) | inr r ↦ (u.has m).1 (inl r) ]) }

pub in_paired : (c : ℕ) (ys : List ℕ) (a b : ℕ) → IsIn {X = ℕ × ℕ} (map (λ (v : ℕ). (c, v)) ys) (a, b) ↔ ((c ≡ a) × IsIn ys b)
unfolding IsIn
in_paired c [] a b = (λ m. absurd m, λ (e, m). absurd m)
in_paired c (y ∷ ys) a b = (
  elim [ inl e ↦ (ap (λ (p : ℕ × ℕ). p.0) e, inl (ap (λ (p : ℕ × ℕ). p.1) e)) | inr m ↦ (((in_paired c ys a b).0 m).0, inr ((in_paired c ys a b).0 m).1) ],
  λ (e, m). elim m [ inl f ↦ inl (let pair : (c, y) ≡ (a, b) = cc in pair) | inr n ↦ inr ((in_paired c ys a b).1 (e, n)) ],
)

pub edges_none : (old : List (ℕ × ℕ)) (to : List ℕ) → HasEdges old old [] to
unfolding IsIn
edges_none old to = record { has = λ a b. (λ m. inl m, elim [ inl m ↦ m | inr p ↦ absurd p.0 ]) }

pub edges_more : (old mid : List (ℕ × ℕ)) (from : List ℕ) (c : ℕ) (to : List ℕ) → HasEdges old mid from to → HasEdges old (mid ++ map (λ (v : ℕ). (c, v)) to) (from ++ c ∷ []) to
unfolding IsIn
edges_more old mid from c to h = record {
  has = λ a b. (
    λ m. elim (in_either mid (map (λ (v : ℕ). (c, v)) to) (a, b) m) [
      | inl l ↦ elim ((h.has a b).0 l) [ inl o ↦ inl o | inr p ↦ inr (in_left from (c ∷ []) a p.0, p.1) ]
      | inr r ↦ inr (in_right from (c ∷ []) a (inl ((in_paired c to a b).0 r).0), ((in_paired c to a b).0 r).1)
    ],
    elim [
      | inl o ↦ in_left mid (map (λ (v : ℕ). (c, v)) to) (a, b) ((h.has a b).1 (inl o))
      | inr p ↦ elim (in_either from (c ∷ []) a p.0) [
        | inl l ↦ in_left mid (map (λ (v : ℕ). (c, v)) to) (a, b) ((h.has a b).1 (inr (l, p.1)))
        | inr r ↦ in_right mid (map (λ (v : ℕ). (c, v)) to) (a, b) ((in_paired c to a b).1 (elim r [ inl e ↦ e | inr n ↦ absurd n ], p.1))
      ]
    ],
  );
}

no_true : {b : Bool} → b ≡ false → IsTrue b → ⊥
no_true e t = cc

pub both_is : (there also next : Arrival) → IsUnion there.marks.items also.marks.items next.marks.items → ((there.entered ≡ true) × (next.entered ≡ true)) ⊎ ((there.entered ≡ false) × (next.entered ≡ also.entered)) → IsBoth there also next
unfolding Has
both_is there also next u e = record { has = λ s. at s } where
  at : (s : Source) → Has next s ↔ (Has there s ⊎ Has also s)
  at (after a) = u.has a
  at entered = elim e [ inl (t, f) ↦ (λ m. inl t, λ m. f) | inr (t, f) ↦ (λ m. inr (sym f ∙ m), elim [ inl l ↦ absurd (no_true t l) | inr r ↦ f ∙ r ]) ]

pub same_is : (there next : Arrival) → next.marks.items ≡ there.marks.items → next.entered ≡ there.entered → IsSame there next
unfolding Has
same_is there next u e = record { has = λ s. at s } where
  at : (s : Source) → Has next s ↔ Has there s
  at (after a) = (λ m. subst (λ (xs : List ℕ). IsIn xs a) u m, λ m. subst (λ (xs : List ℕ). IsIn xs a) (sym u) m)
  at entered = (λ m. sym e ∙ m, λ m. e ∙ m)

pub from_is : (marks : List ℕ) (next : Arrival) → next.marks.items ≡ marks → next.entered ≡ false → AreFrom marks next
unfolding Has IsAfter
from_is marks next u e = record { has = λ s. at s } where
  at : (s : Source) → Has next s ↔ IsAfter marks s
  at (after a) = (λ m. subst (λ (xs : List ℕ). IsIn xs a) u m, λ m. subst (λ (xs : List ℕ). IsIn xs a) (sym u) m)
  at entered = (λ m. no_true e m, λ m. absurd m)

pub entry_is : (next : Arrival) → next.marks.items ≡ [] → next.entered ≡ true → IsEntry next
unfolding Has IsIn
entry_is next u e = record { has = λ s. at s } where
  at : (s : Source) → Has next s ↔ (s ≡ entered)
  at (after a) = (λ m. absurd (subst (λ (xs : List ℕ). IsIn xs a) u m), λ f. cc)
  at entered = (λ m. refl, λ f. e)

-- What was led on, where the entry is one of the arrivals and where it is not.

pub led_nowhere : (here : Arrival) (old : Joined) → IsLed [] here old old
unfolding IsIn
led_nowhere here old = record { got = λ s b. (λ m. inl m, elim [ inl m ↦ m | inr p ↦ absurd p.1 ]) }

pub led_is : (first : List ℕ) (here : Arrival) (old new : Joined) → HasEdges old.edges.items new.edges.items here.marks.items first → ((here.entered ≡ true) × (new.first.items ≡ old.first.items ++ first)) ⊎ ((here.entered ≡ false) × (new.first.items ≡ old.first.items)) → IsLed first here old new
unfolding Got Has
led_is first here old new h e = record { got = λ s b. got_at s b } where
  got_at : (s : Source) (b : ℕ) → Got new s b ↔ (Got old s b ⊎ (Has here s × IsIn first b))
  got_at (after a) b = h.has a b
  got_at entered b = elim e [
    | inl (t, f) ↦ (
      λ m. elim (in_either old.first.items first b (subst (λ (xs : List ℕ). IsIn xs b) f m)) [ inl l ↦ inl l | inr r ↦ inr (t, r) ],
      λ m. subst (λ (xs : List ℕ). IsIn xs b) (sym f) (elim m [ inl l ↦ in_left old.first.items first b l | inr p ↦ in_right old.first.items first b p.1 ]),
    )
    | inr (t, f) ↦ (
      λ m. inl (subst (λ (xs : List ℕ). IsIn xs b) f m),
      λ m. subst (λ (xs : List ℕ). IsIn xs b) (sym f) (elim m [ inl l ↦ l | inr p ↦ absurd (no_true t p.0) ]),
    )
  ]

pub same_edges : (old old' new : List (ℕ × ℕ)) (from from' to to' : List ℕ) → old ≡ old' → from ≡ from' → to ≡ to' → HasEdges old new from to → HasEdges old' new from' to'
same_edges old old' new from from' to to' e f g h =
    subst (λ (xs : List ℕ). HasEdges old' new from' xs) g (subst (λ (xs : List ℕ). HasEdges old' new xs to) f (subst (λ (xs : List (ℕ × ℕ)). HasEdges xs new from to) e h))
