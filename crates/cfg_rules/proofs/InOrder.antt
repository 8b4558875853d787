-- Parts in order: a block's items, a call's operands.
use Rattle.std.proofs.Common.{ℕ, zero, suc, ◌≡◌, ◌+◌, ◌<◌, ◌≤◌, ◌↔◌, ◌⊎◌, inl, inr, List, [], ◌∷◌, ◌++◌, Option, refl, sym, ◌∙◌, subst, ap, arith, add-one}
use Rattle.std.proofs.Math.Nat.{eq-or-lt_of_le}
use Rattle.cfg_rules.specs.declared.summary.Summary.{Summary}
use Rattle.cfg_rules.specs.declared.arrival.Arrival.{Arrival}
use Rattle.cfg_rules.specs.declared.joined.Joined.{Joined}
use Rattle.cfg_rules.specs.Member.{IsIn}
use Rattle.cfg_rules.specs.Rules.{Tail, entry, out_of, stop, Head, into, mark, jump, finish, exit, Arrow, arrow, in_order}
use Rattle.cfg_rules.specs.declared.rule.Rule.TheVariants.{Block, Call}
use Rattle.cfg_rules.specs.Plan.{Construct, HasArrow, HasRule, part, part_count}
use Rattle.cfg_rules.specs.Joined.{Source, entered, after, tail, head, Comes, begin, own, along, through, over, up, broke, continued, Goes, stops, jumps, finishes, inner}
use Rattle.cfg_rules.specs.Sequence.{before, IsChain, SoFar}
use Rattle.cfg_rules.specs.Sets.{Has, Got, IsLed, IsLeft, IsEntry, IsPart, AreFrom, IsFirstOf, IsLastOf, IsPassed, IsJoined}
use Rattle.cfg_rules.proofs.Exact.{rule_arrows, unbroken, inners, left_sound, left_up, left_passes, add_part, add_own, own_sound, own_has}
use Rattle.cfg_rules.proofs.Members.{in_left, in_right, in_either}

-- From one part on: the arrow into part j begins at the part before it.
pub into_from : (t : Tail) (k n : ℕ) (e : Head) (p : Tail) (j : ℕ) → ((i : ℕ) → e ≡ into i → ⊥) → t ≡ before k → IsIn (in_order t k n e) (arrow p (into j)) → p ≡ before j
unfolding IsIn
into_from t k zero e p j never st (inl f) = absurd (never j (ap (λ (a : Arrow). a.to) f))
into_from t k zero e p j never st (inr m) = absurd m
into_from t k (suc n) e p j never st (inl f) =
    let to : into k ≡ into j = ap (λ (a : Arrow). a.to) f in
    let same : k ≡ j = cc in sym (ap (λ (a : Arrow). a.from) f) ∙ st ∙ ap before same
into_from t k (suc n) e p j never st (inr m) =
    into_from (out_of k) (k + 1) n e p j never (sym (ap before (add-one k))) m

-- The arrow to the end begins after the last part.
pub end_from : (t : Tail) (k n : ℕ) (e : Head) (p : Tail) → ((i : ℕ) → e ≡ into i → ⊥) → t ≡ before k → IsIn (in_order t k n e) (arrow p e) → p ≡ before (k + n)
unfolding IsIn
end_from t k zero e p never st (inl f) = sym (ap (λ (a : Arrow). a.from) f) ∙ st ∙ ap before (omega arith)
end_from t k zero e p never st (inr m) = absurd m
end_from t k (suc n) e p never st (inl f) = absurd (never k (sym (ap (λ (a : Arrow). a.to) f)))
end_from t k (suc n) e p never st (inr m) =
    end_from (out_of k) (k + 1) n e p never (sym (ap before (add-one k))) m ∙ ap before (omega arith)

pub has_into : (t : Tail) (k n : ℕ) (e : Head) (j : ℕ) → t ≡ before k → k ≤ j → j < k + n → IsIn (in_order t k n e) (arrow (before j) (into j))
unfolding IsIn
has_into t k zero e j st low high = absurd (omega arith)
has_into t k (suc n) e j st low high = by (λ above. has_into (out_of k) (k + 1) n e j (sym (ap before (add-one k))) (omega arith) (omega arith)) (eq-or-lt_of_le low) where
  by : (k < j → IsIn (in_order (out_of k) (k + 1) n e) (arrow (before j) (into j))) → (k ≡ j) ⊎ (k < j) → IsIn (in_order t k (suc n) e) (arrow (before j) (into j))
  by later (inl same) = inl (ap (λ (v : Tail). arrow v (into k)) st ∙ ap (λ (v : ℕ). arrow (before v) (into v)) same)
  by later (inr above) = inr (later above)

pub has_end : (t : Tail) (k n : ℕ) (e : Head) → t ≡ before k → IsIn (in_order t k n e) (arrow (before (k + n)) e)
unfolding IsIn
has_end t k zero e st = inl (ap (λ (v : Tail). arrow v e) (st ∙ ap before (omega arith)))
has_end t k (suc n) e st =
    subst (λ (v : ℕ). IsIn (in_order t k (suc n) e) (arrow (before v) e)) (omega arith) (inr (has_end (out_of k) (k + 1) n e (sym (ap before (add-one k)))))

-- What comes out of a part is exact, if what comes to it is.
pub out_whole : {plan : List Construct} {x k : ℕ} {m : Summary} {here next : Arrival} → IsPart plan x k m → IsLeft m.last.items m.passable here next → ((s : Source) → Comes plan x s (head (into k)) → Has here s) → (s : Source) → Comes plan x s (tail (out_of k)) → Has next s
out_whole {plan} p l h s (through d e m) = left_passes s p l (subst (IsPassed plan) (sym e) m) (h s d)
out_whole {plan} p l h s (over d e) = left_passes s p l (subst (IsPassed plan) (sym e) tt) (h s d)
out_whole {plan} p l h s (up {a = a} e m) = left_up a p l (inl (subst (λ (o : Option ℕ). IsLastOf plan o a) (sym e) m))
out_whole p l h s (continued {a = a} c) = left_up a p l (inr c)

at_entry : {plan : List Construct} {x : ℕ} (s : Source) → Comes plan x s (tail entry) → s ≡ entered
at_entry s begin = refl

pub so_far_none : (plan : List Construct) (x : ℕ) (here : Arrival) (old : Joined) → IsEntry here → SoFar plan x 0 here old old
so_far_none plan x here old en = record {
  here = λ s. (λ h. subst (λ (v : Source). Comes plan x v (tail entry)) (sym ((en.has s).0 h)) begin, λ d. (en.has s).1 (at_entry s d));
  got = λ s b. (λ o. inl o, elim [ inl o ↦ o | inr (j, low, d, f) ↦ absurd (omega arith) ]);
}

from_before : {plan : List Construct} {x n k : ℕ} {s : Source} → IsChain plan x n → Comes plan x s (head (into k)) → Comes plan x s (tail (before k))
from_before {plan} {x} {k = k} {s = s} ch (along {t = t} d l) =
    subst (λ (p : Tail). Comes plan x s (tail p)) (ch.only t k l) d

pub so_far_more : (plan : List Construct) (x n k : ℕ) (m : Summary) (here next : Arrival) (old mid now : Joined) → IsChain plan x n → k < n → IsPart plan x k m → SoFar plan x k here old mid → IsLed m.first.items here mid now → IsLeft m.last.items m.passable here next → SoFar plan x (suc k) next old now
so_far_more plan x n k m here next old mid now ch low p so e l = record {
  here = λ s. (left_sound p l comes s, out_whole p l (λ s d. (so.here s).1 (from_before ch d)) s);
  got = λ s b. (
    λ g. elim (((add_part p e).got s b).0 g) [
      | inl o ↦ elim ((so.got s b).0 o) [ inl u ↦ inl u | inr (j, lower, d, f) ↦ inr (j, omega arith, d, f) ]
      | inr q ↦ inr (k, omega arith, comes s q.0, q.1)
    ],
    elim [
      | inl o ↦ ((add_part p e).got s b).1 (inl ((so.got s b).1 (inl o)))
      | inr (j, lower, d, f) ↦ last s b j (under j lower) d f
    ],
  );
} where
  under : (j : ℕ) → j < suc k → (j < k) ⊎ (j ≡ k)
  under j lower = let most : j ≤ k = omega arith in elim (eq-or-lt_of_le most) [ inl same ↦ inr same | inr less ↦ inl less ]

  comes : (s : Source) → Has here s → Comes plan x s (head (into k))
  comes s h = along ((so.here s).0 h) (ch.leads k low)

  last : (s : Source) (b j : ℕ) → (j < k) ⊎ (j ≡ k) → Comes plan x s (head (into j)) → IsFirstOf plan (part plan x j) b → Got now s b
  last s b j (inl lower) d f = ((add_part p e).got s b).1 (inl ((so.got s b).1 (inr (j, lower, d, f))))
  last s b j (inr same) d f = ((add_part p e).got s b).1 (inr (
    (so.here s).1 (from_before ch (subst (λ (v : ℕ). Comes plan x s (head (into v))) same d)),
    subst (λ (v : ℕ). IsFirstOf plan (part plan x v) b) same f,
  ))

-- Each arrow ends at the end or at one of the parts.
pub order_ends : (t : Tail) (k n : ℕ) (e : Head) (p : Tail) (h : Head) → IsIn (in_order t k n e) (arrow p h) → (h ≡ e) ⊎ ((j : ℕ) × (j < k + n) × (h ≡ into j))
unfolding IsIn
order_ends t k zero e p h (inl f) = inl (sym (ap (λ (a : Arrow). a.to) f))
order_ends t k zero e p h (inr m) = absurd m
order_ends t k (suc n) e p h (inl f) = inr (k, omega arith, sym (ap (λ (a : Arrow). a.to) f))
order_ends t k (suc n) e p h (inr m) = elim (order_ends (out_of k) (k + 1) n e p h m) [ inl f ↦ inl f | inr (j, low, f) ↦ inr (j, omega arith, f) ]

-- The same of all parts, from the entry on.
pub has_last : (n : ℕ) (e : Head) → IsIn (in_order entry 0 n e) (arrow (before n) e)
has_last n e = let whole : 0 + n ≡ n = omega arith in
    subst (λ (v : ℕ). IsIn (in_order entry 0 n e) (arrow (before v) e)) whole (has_end entry 0 n e refl)

pub end_last : (n : ℕ) (e : Head) (p : Tail) → ((i : ℕ) → ¬ (e ≡ into i)) → IsIn (in_order entry 0 n e) (arrow p e) → p ≡ before n
end_last n e p never m = let whole : 0 + n ≡ n = omega arith in end_from entry 0 n e p never refl m ∙ ap before whole

pub so_far_next : (plan : List Construct) (x n k : ℕ) (m : Summary) (here next : Arrival) (old mid now : Joined) → IsChain plan x n → k < n → IsPart plan x k m → SoFar plan x k here old mid → IsLed m.first.items here mid now → IsLeft m.last.items m.passable here next → SoFar plan x (k + 1) next old now
so_far_next plan x n k m here next old mid now ch low p so e l =
    subst (λ (v : ℕ). SoFar plan x v next old now) (sym (add-one k)) (so_far_more plan x n k m here next old mid now ch low p so e l)

-- A construct whose arrows to parts are those of parts in order, to an end that is no part.
pub chain_is : (plan : List Construct) (x n : ℕ) (e : Head) → ((i : ℕ) → ¬ (e ≡ into i)) → ((t : Tail) (k : ℕ) → HasArrow plan x t (into k) ↔ IsIn (in_order entry 0 n e) (arrow t (into k))) → IsChain plan x n
chain_is plan x n e never has = record {
  leads = λ k low. (has (before k) k).1 (has_into entry 0 n e k refl (omega arith) (omega arith));
  only = λ p k a. into_from entry 0 n e p k never refl ((has p k).0 a);
}

pub at_stop : {plan : List Construct} {x : ℕ} (s : Source) → Comes plan x s (tail stop) → s ≡ after x
at_stop s own = refl

-- The first marks of the parts are what the construct goes to within.
pub goes_in : {plan : List Construct} {x n k : ℕ} {s : Source} (b : ℕ) → ((t : Tail) (j : ℕ) → HasArrow plan x t (into j) → j < n) → Comes plan x s (head (into k)) → IsFirstOf plan (part plan x k) b → (j : ℕ) × (j < n) × Comes plan x s (head (into j)) × IsFirstOf plan (part plan x j) b
goes_in {k = k} b below (along {t = t} d l) f = (k, below t k l, along d l, f)

pub block_is : (plan : List Construct) (x n : ℕ) (next : Arrival) (old new : Joined) → HasRule plan x Block → n ≡ part_count plan x → (IsChain plan x n → SoFar plan x n next old new) → IsJoined plan x next old new
block_is plan x n next old new rule count so_far = record { leaves = λ s. (leaves s, left s); goes = λ s b. (goes s b, whole s b) } where
  has : (t : Tail) (h : Head) → HasArrow plan x t h ↔ IsIn (in_order entry 0 n exit) (arrow t h)
  has t h = subst (λ (v : ℕ). HasArrow plan x t h ↔ IsIn (in_order entry 0 v exit) (arrow t h)) (sym count) ((rule_arrows plan x Block rule).is t h)

  chain : IsChain plan x n
  chain = chain_is plan x n exit (λ i e. cc) (λ t k. has t (into k))

  so : SoFar plan x n next old new
  so = so_far chain

  leaves : (s : Source) → Has next s → Comes plan x s (head exit)
  leaves s h = along ((so.here s).0 h) ((has (before n) exit).1 (has_last n exit))

  left : (s : Source) → Comes plan x s (head exit) → Has next s
  left s (along {t = t} d l) = (so.here s).1 (subst (λ (p : Tail). Comes plan x s (tail p)) (end_last n exit t (λ i e. cc) ((has t exit).0 l)) d)
  left s (broke {a = a} r) = absurd (unbroken plan x a Block rule (λ v. v) r)

  below : (t : Tail) (k : ℕ) → HasArrow plan x t (into k) → k < n
  below t k l = elim (order_ends entry 0 n exit t (into k) ((has t (into k)).0 l)) [
    | inl e ↦ cc
    | inr (j, low, e) ↦ let same : k ≡ j = cc in rw same (omega arith)
  ]

  ended : (h : Head) (t : Tail) → ¬ (h ≡ exit) → ((k : ℕ) → ¬ (h ≡ into k)) → HasArrow plan x t h → ⊥
  ended h t never nor l = elim (order_ends entry 0 n exit t h ((has t h).0 l)) [ inl e ↦ never e | inr (j, low, e) ↦ nor j e ]

  goes : (s : Source) (b : ℕ) → Got new s b → Got old s b ⊎ Goes plan x s b
  goes s b g = elim ((so.got s b).0 g) [ inl o ↦ inl o | inr (j, low, d, f) ↦ inr (inners d f) ]

  added : (s : Source) (b : ℕ) → Goes plan x s b → Got new s b
  added s b (stops (along {t = u} d l)) = absurd (ended mark u (λ e. cc) (λ k e. cc) l)
  added s b (jumps (along {t = u} d l) t) = absurd (ended jump u (λ e. cc) (λ k e. cc) l)
  added s b (finishes (along {t = u} d l) t) = absurd (ended finish u (λ e. cc) (λ k e. cc) l)
  added s b (inner {k = k} d e g) = (so.got s b).1 (inr (goes_in b below d (subst (λ (o : Option ℕ). IsFirstOf plan o b) (sym e) g)))

  whole : (s : Source) (b : ℕ) → (Got old s b ⊎ Goes plan x s b) → Got new s b
  whole s b (inl o) = (so.got s b).1 (inl o)
  whole s b (inr g) = added s b g

pub call_is : (plan : List Construct) (x n : ℕ) (here next : Arrival) (old mid new : Joined) → HasRule plan x Call → n ≡ part_count plan x → (IsChain plan x n → SoFar plan x n here old mid) → IsLed (x ∷ []) here mid new → AreFrom (x ∷ []) next → IsJoined plan x next old new
unfolding IsIn
call_is plan x n here next old mid new rule count so_far e fr = record { leaves = λ s. (leaves s, left s); goes = λ s b. (goes s b, whole s b) } where
  has : (t : Tail) (h : Head) → HasArrow plan x t h ↔ IsIn (in_order entry 0 n mark ++ (arrow stop exit ∷ [])) (arrow t h)
  has t h = subst (λ (v : ℕ). HasArrow plan x t h ↔ IsIn (in_order entry 0 v mark ++ (arrow stop exit ∷ [])) (arrow t h)) (sym count) ((rule_arrows plan x Call rule).is t h)

  last : (t : Tail) (h : Head) → HasArrow plan x t h → IsIn (in_order entry 0 n mark) (arrow t h) ⊎ ((t ≡ stop) × (h ≡ exit))
  last t h l = elim (in_either (in_order entry 0 n mark) (arrow stop exit ∷ []) (arrow t h) ((has t h).0 l)) [
    | inl m ↦ inl m
    | inr m ↦ elim m [ inl f ↦ inr (sym (ap (λ (a : Arrow). a.from) f), sym (ap (λ (a : Arrow). a.to) f)) | inr f ↦ absurd f ]
  ]

  ordered : (t : Tail) (h : Head) → ¬ (h ≡ exit) → HasArrow plan x t h → IsIn (in_order entry 0 n mark) (arrow t h)
  ordered t h never l = elim (last t h l) [ inl m ↦ m | inr f ↦ absurd (never f.1) ]

  chain : IsChain plan x n
  chain = chain_is plan x n mark (λ i e. cc) (λ t k. (ordered t (into k) (λ e. cc), λ m. (has t (into k)).1 (in_left (in_order entry 0 n mark) (arrow stop exit ∷ []) (arrow t (into k)) m)))

  so : SoFar plan x n here old mid
  so = so_far chain

  leaves : (s : Source) → Has next s → Comes plan x s (head exit)
  leaves s h = along (own_sound fr s h) ((has stop exit).1 (in_right (in_order entry 0 n mark) (arrow stop exit ∷ []) (arrow stop exit) (inl refl)))

  left : (s : Source) → Comes plan x s (head exit) → Has next s
  left s (along {t = t} d l) = elim (last t exit l) [
    | inl m ↦ elim (order_ends entry 0 n mark t exit m) [ inl f ↦ cc | inr (j, low, f) ↦ cc ]
    | inr f ↦ own_has fr s (at_stop s (subst (λ (p : Tail). Comes plan x s (tail p)) f.0 d))
  ]
  left s (broke {a = a} r) = absurd (unbroken plan x a Call rule (λ v. v) r)

  below : (t : Tail) (k : ℕ) → HasArrow plan x t (into k) → k < n
  below t k l = elim (order_ends entry 0 n mark t (into k) (ordered t (into k) (λ e. cc) l)) [
    | inl e ↦ cc
    | inr (j, low, e) ↦ let same : k ≡ j = cc in rw same (omega arith)
  ]

  ended : (h : Head) (t : Tail) → ¬ (h ≡ exit) → ¬ (h ≡ mark) → ((k : ℕ) → ¬ (h ≡ into k)) → HasArrow plan x t h → ⊥
  ended h t out never nor l = elim (order_ends entry 0 n mark t h (ordered t h out l)) [ inl e ↦ never e | inr (j, low, e) ↦ nor j e ]

  goes : (s : Source) (b : ℕ) → Got new s b → Got old s b ⊎ Goes plan x s b
  goes s b g = elim (((add_own e).got s b).0 g) [
    | inl m ↦ elim ((so.got s b).0 m) [ inl o ↦ inl o | inr (j, low, d, f) ↦ inr (inners d f) ]
    | inr q ↦ inr (subst (λ (v : ℕ). Goes plan x s v) q.1 (stops (along ((so.here s).0 q.0) ((has (before n) mark).1 (in_left (in_order entry 0 n mark) (arrow stop exit ∷ []) (arrow (before n) mark) (has_last n mark))))))
  ]

  added : (s : Source) (b : ℕ) → Goes plan x s b → Got new s b
  added s b (stops (along {t = t} d l)) = ((add_own e).got s b).1 (inr ((so.here s).1 (subst (λ (p : Tail). Comes plan x s (tail p)) (end_last n mark t (λ i e. cc) (ordered t mark (λ e. cc) l)) d), refl))
  added s b (jumps (along {t = u} d l) t) = absurd (ended jump u (λ e. cc) (λ e. cc) (λ k e. cc) l)
  added s b (finishes (along {t = u} d l) t) = absurd (ended finish u (λ e. cc) (λ e. cc) (λ k e. cc) l)
  added s b (inner {k = k} d f g) = ((add_own e).got s b).1 (inl ((so.got s b).1 (inr (goes_in b below d (subst (λ (o : Option ℕ). IsFirstOf plan o b) (sym f) g)))))

  whole : (s : Source) (b : ℕ) → (Got old s b ⊎ Goes plan x s b) → Got new s b
  whole s b (inl o) = ((add_own e).got s b).1 (inl ((so.got s b).1 (inl o)))
  whole s b (inr g) = added s b g
