-- Pairs that rise, and which list they make.
use Rattle.std.proofs.Common.{ℕ, zero, suc, ◌≡◌, ◌+◌, ◌<◌, ◌≤◌, ◌↔◌, ◌⊎◌, inl, inr, List, [], ◌∷◌, Bool, true, false, cond, get_or, refl, sym, ◌∙◌, ap, subst, arith}
use Rattle.std.specs.Prelude.{filter}
use Rattle.std.proofs.Math.Nat.{eq-or-lt_of_le}
use Rattle.std.specs.List.{AllByRecursion, Contains}
use Rattle.std.proofs.lemmas.List.Elements.{All-from_recursion}
use Rattle.std.proofs.lemmas.List.Kept.{AllPairs-cons, AllPairs-filter}
use Rattle.cfg_rules.specs.Member.{IsIn}
use Rattle.cfg_rules.specs.Plan.{Construct}
use Rattle.cfg_flow.specs.Edges.{AreFlow, IsBefore, IsRising}
use Rattle.cfg_flow.proofs.Members.{contains, is_in}
use Rattle.cfg_edges.specs.Edges.{IsWithin, edges_within, flows, pairs_from, pairs_with}
use Rattle.cfg_edges.proofs.Flowing.{flow_within, flows_is}

-- ---- All pairs, rising.

weaker : (P Q : ℕ × ℕ → Type 0) → ((e : ℕ × ℕ) → P e → Q e) → (es : List (ℕ × ℕ)) → AllByRecursion P es → AllByRecursion Q es
weaker P Q f [] a = a
weaker P Q f (e ∷ es) a = (f e a.0, weaker P Q f es a.1)

all_with : (P : ℕ × ℕ → Type 0) (a b n : ℕ) (rest : List (ℕ × ℕ)) → ((j : ℕ) → b ≤ j → P (a, j)) → AllByRecursion P rest → AllByRecursion P (pairs_with a b n rest)
unfolding pairs_with
all_with P a b zero rest f r = r
all_with P a b (suc n) rest f r = (f b (omega arith), all_with P a (b + 1) n rest (λ j low. f j (omega arith)) r)

later : (v a n w : ℕ) → v < a → AllByRecursion (λ (e : ℕ × ℕ). v < e.0) (pairs_from a n w)
unfolding pairs_from
later v a zero w low = tt
later v a (suc n) w low = all_with (λ (e : ℕ × ℕ). v < e.0) a 0 w (pairs_from (a + 1) n w) (λ j at. low) (later v (a + 1) n w (omega arith))

row_rises : (a b n : ℕ) (rest : List (ℕ × ℕ)) → IsRising rest → AllByRecursion (λ (e : ℕ × ℕ). a < e.0) rest → IsRising (pairs_with a b n rest)
unfolding pairs_with
row_rises a b zero rest r low = r
row_rises a b (suc n) rest r low =
    AllPairs-cons IsBefore (a, b) (pairs_with a (b + 1) n rest) (All-from_recursion (IsBefore (a, b)) (pairs_with a (b + 1) n rest) (all_with (IsBefore (a, b)) a (b + 1) n rest (λ j at. inr (refl, omega arith)) (weaker (λ (e : ℕ × ℕ). a < e.0) (IsBefore (a, b)) (λ e f. inl f) rest low))) (row_rises a (b + 1) n rest r low)

pairs_rise : (a n w : ℕ) → IsRising (pairs_from a n w)
unfolding pairs_from
pairs_rise a zero w = λ i j d low high. absurd (omega arith)
pairs_rise a (suc n) w = row_rises a 0 w (pairs_from (a + 1) n w) (pairs_rise (a + 1) n w) (later a (a + 1) n w (omega arith))

in_rest : (a b n : ℕ) (rest : List (ℕ × ℕ)) (e : ℕ × ℕ) → IsIn rest e → IsIn (pairs_with a b n rest) e
unfolding pairs_with IsIn
in_rest a b zero rest e i = i
in_rest a b (suc n) rest e i = inr (in_rest a (b + 1) n rest e i)

in_row : (a b n c : ℕ) (rest : List (ℕ × ℕ)) → b ≤ c → c < b + n → IsIn (pairs_with a b n rest) (a, c)
unfolding pairs_with IsIn
in_row a b zero c rest low high = absurd (omega arith)
in_row a b (suc n) c rest low high = by (λ l. in_row a (b + 1) n c rest (omega arith) (omega arith)) (eq-or-lt_of_le low) where
  by : (b < c → IsIn (pairs_with a (b + 1) n rest) (a, c)) → (b ≡ c) ⊎ (b < c) → (◌≡◌ {A = ℕ × ℕ} (a, b) (a, c)) ⊎ IsIn (pairs_with a (b + 1) n rest) (a, c)
  by more (inl e) = inl (ap (λ (v : ℕ). (a, v)) e)
  by more (inr l) = inr (more l)

in_pairs : (a n w x y : ℕ) → a ≤ x → x < a + n → y < w → IsIn (pairs_from a n w) (x, y)
unfolding pairs_from
in_pairs a zero w x y low high inside = absurd (omega arith)
in_pairs a (suc n) w x y low high inside = by (λ l. in_pairs (a + 1) n w x y (omega arith) (omega arith) inside) (eq-or-lt_of_le low) where
  by : (a < x → IsIn (pairs_from (a + 1) n w) (x, y)) → (a ≡ x) ⊎ (a < x) → IsIn (pairs_with a 0 w (pairs_from (a + 1) n w)) (x, y)
  by more (inl e) = subst (λ (v : ℕ). IsIn (pairs_with a 0 w (pairs_from (a + 1) n w)) (v, y)) e (in_row a 0 w y (pairs_from (a + 1) n w) (omega arith) (omega arith))
  by more (inr l) = in_rest a 0 w (pairs_from (a + 1) n w) (x, y) (more l)

-- ---- Those that pass a test.

in_filter : (test : ℕ × ℕ → Bool) (es : List (ℕ × ℕ)) (e : ℕ × ℕ) → IsIn (filter test es) e → test e ≡ true
unfolding IsIn
in_filter test [] e i = absurd i
in_filter test (x ∷ xs) e i = by (test x) refl (λ j. in_filter test xs e j) i where
  by : (b : Bool) → test x ≡ b → (IsIn (filter test xs) e → test e ≡ true) → IsIn (cond b (x ∷ filter test xs) (filter test xs)) e → test e ≡ true
  by true f more (inl same) = subst (λ (v : ℕ × ℕ). test v ≡ true) same f
  by true f more (inr j) = more j
  by false f more j = more j

to_filter : (test : ℕ × ℕ → Bool) (es : List (ℕ × ℕ)) (e : ℕ × ℕ) → IsIn es e → test e ≡ true → IsIn (filter test es) e
unfolding IsIn
to_filter test [] e i t = absurd i
to_filter test (x ∷ xs) e (inl same) t =
    let at : test x ≡ true = subst (λ (v : ℕ × ℕ). test v ≡ true) (sym same) t in
    subst (λ (b : Bool). IsIn (cond b (x ∷ filter test xs) (filter test xs)) e) (sym at) (inl same)
to_filter test (x ∷ xs) e (inr i) t = by (test x) (to_filter test xs e i t) where
  by : (b : Bool) → IsIn (filter test xs) e → IsIn (cond b (x ∷ filter test xs) (filter test xs)) e
  by true j = inr j
  by false j = j

-- The edges that are computed are the flow.
pub edges_are_flow : (plan : List Construct) (count : ℕ) → IsWithin count plan → AreFlow plan (edges_within count plan)
edges_are_flow plan count w = record {
  flow = λ a b. (
    λ has. (flows_is plan a b).0 (in_filter (λ e. flows plan e.0 e.1) (pairs_from 0 count count) (a, b) (is_in {X = ℕ × ℕ} (edges_within count plan) (a, b) has)),
    λ run.
        let within = flow_within plan count a b w run in
        contains {X = ℕ × ℕ} (edges_within count plan) (a, b) (to_filter (λ e. flows plan e.0 e.1) (pairs_from 0 count count) (a, b) (in_pairs 0 count count a b (omega arith) (omega arith) within.1) ((flows_is plan a b).1 run)),
  );
  rising = AllPairs-filter IsBefore (λ e. flows plan e.0 e.1) (pairs_from 0 count count) (pairs_rise 0 count count);
}

-- ---- Two lists that rise and have the same pairs are one.

pub data Rises : List (ℕ × ℕ) → Type 0 where
  none : Rises []
  more : (x : ℕ × ℕ) (xs : List (ℕ × ℕ)) → ((y : ℕ × ℕ) → IsIn xs y → IsBefore x y) → Rises xs → Rises (x ∷ xs)

rises : (xs : List (ℕ × ℕ)) → IsRising xs → Rises xs
rises [] r = none
rises (x ∷ xs) r = more x xs (λ y i. first y (contains {X = ℕ × ℕ} xs y i)) (rises xs (λ i j d low high. shifted i j d (r (suc i) (suc j) d (omega arith) (omega arith)))) where
  shifted : (i j : ℕ) (d : ℕ × ℕ) → IsBefore (get_or (x ∷ xs) (suc i) d) (get_or (x ∷ xs) (suc j) d) → IsBefore (get_or xs i d) (get_or xs j d)
  shifted i j d b = b

  first : (y : ℕ × ℕ) → Contains {X = ℕ × ℕ} xs y → IsBefore x y
  first y (k, within, e) =
      let next : k + 1 ≡ suc k = omega arith in
      let before : IsBefore x (get_or (x ∷ xs) (k + 1) y) = r 0 (k + 1) y (omega arith) (omega arith) in
      let at : IsBefore x (get_or xs k y) = subst (λ (n : ℕ). IsBefore x (get_or (x ∷ xs) n y)) next before in
      subst (λ (v : ℕ × ℕ). IsBefore x v) e at

never_both : (x y : ℕ × ℕ) → IsBefore x y → ¬ (IsBefore y x)
never_both x y (inl a) (inl b) = omega arith
never_both x y (inl a) (inr b) = omega arith
never_both x y (inr a) (inl b) = omega arith
never_both x y (inr a) (inr b) = omega arith

heads : (x y : ℕ × ℕ) (xs ys : List (ℕ × ℕ)) → ((v : ℕ × ℕ) → IsIn xs v → IsBefore x v) → ((v : ℕ × ℕ) → IsIn ys v → IsBefore y v) → IsIn (y ∷ ys) x → IsIn (x ∷ xs) y → x ≡ y
unfolding IsIn
heads x y xs ys after behind (inl e) i = sym e
heads x y xs ys after behind (inr j) (inl e) = e
heads x y xs ys after behind (inr j) (inr i) = absurd (never_both x y (after y i) (behind x j))

-- What is in one of two lists of one first pair, and behind it, is behind it in the other.
tails : (x y : ℕ × ℕ) (xs ys : List (ℕ × ℕ)) (e : ℕ × ℕ) → x ≡ y → ((v : ℕ × ℕ) → IsIn xs v → IsBefore x v) → IsIn xs e → IsIn (y ∷ ys) e → IsIn ys e
unfolding IsIn
tails x y xs ys e same after i (inr j) = j
tails x y xs ys e same after i (inl f) =
    let back : e ≡ x = sym f ∙ sym same in
    let before : IsBefore x x = subst (λ (v : ℕ × ℕ). IsBefore x v) back (after e i) in
    absurd (never_both x x before before)

same_lists : (xs ys : List (ℕ × ℕ)) → Rises xs → Rises ys → ((e : ℕ × ℕ) → IsIn xs e ↔ IsIn ys e) → xs ≡ ys
unfolding IsIn
same_lists [] [] r s same = refl
same_lists [] (y ∷ ys) r s same = absurd ((same y).1 (inl refl))
same_lists (x ∷ xs) [] r s same = absurd ((same x).0 (inl refl))
same_lists (x ∷ xs) (y ∷ ys) (more v vs after r) (more u us behind s) same =
    let first : x ≡ y = heads x y xs ys after behind ((same x).0 (inl refl)) ((same y).1 (inl refl)) in
    let rest : xs ≡ ys = same_lists xs ys r s (λ e. (
      λ i. tails x y xs ys e first after i ((same e).0 (inr i)),
      λ i. tails y x ys xs e (sym first) behind i ((same e).1 (inr i)),
    )) in
    ap (λ (v : ℕ × ℕ). v ∷ xs) first ∙ ap (λ (es : List (ℕ × ℕ)). y ∷ es) rest

pub one_flow : (plan : List Construct) (one other : List (ℕ × ℕ)) → AreFlow plan one → AreFlow plan other → one ≡ other
one_flow plan one other f g = same_lists one other (rises one f.rising) (rises other g.rising) (λ e. (
  λ i. is_in {X = ℕ × ℕ} other e ((g.flow e.0 e.1).1 ((f.flow e.0 e.1).0 (contains {X = ℕ × ℕ} one e i))),
  λ i. is_in {X = ℕ × ℕ} one e ((f.flow e.0 e.1).1 ((g.flow e.0 e.1).0 (contains {X = ℕ × ℕ} other e i))),
))
