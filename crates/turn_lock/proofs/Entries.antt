-- Histories that begin one another, and entries at their positions.
use Rattle.std.proofs.Common.{◌≡◌, ◌≢◌, ℕ, zero, suc, ◌+◌, ◌<◌, ◌≤◌, ◌==◌, nat_lt, nat_eq, cond, if◌then◌else◌, Bool, true, false, List, [], ◌∷◌, ◌++◌, drop, length, slice_get, Some, sym, refl, ap, ◌∙◌, subst, arith, append_assoc, ne_eqb, sum_by}
use mathlib.Core.Logic.{dite}
use native.Mathlib.Decide.{ℕ_discrete}
use Rattle.std.proofs.lemmas.Bool.Decides.{nat_tests}
use Rattle.std.proofs.lemmas.List.Sums.{sum_by-cons}
use Rattle.turn_lock.specs.declared.view.Positioned.{Positioned}
use Rattle.turn_lock.specs.Entries.{added, longer, shorter, positioned, positioned_from, AreAll, AreApart, AreAt, Extends}

at_most_one : (b : Bool) → cond b 1 0 ≤ 1
at_most_one true = omega arith
at_most_one false = omega arith

none_if_false : (b : Bool) → b ≡ false → cond b 1 0 ≤ 0
none_if_false true e = absurd (cc)
none_if_false false e = omega arith

module _ {E : Type 0} where
  append_nil : (xs : List E) → xs ++ [] ≡ xs
  append_nil [] = refl
  append_nil (x ∷ xs) = ap (λ (l : List E). x ∷ l) (append_nil xs)

  pub extends_itself : (log : List E) → Extends log log
  extends_itself log = record { rest = []; is = sym (append_nil log) }

  pub extends_on : (a b c : List E) → Extends a b → Extends b c → Extends a c
  extends_on a b c p q = record { rest = q.rest ++ p.rest; is = p.is ∙ ap (λ (l : List E). l ++ p.rest) q.is ∙ append_assoc c q.rest p.rest }

  pub extends_as : (a b c d : List E) → a ≡ b → c ≡ d → Extends b d → Extends a c
  extends_as a b c d p q e = subst (λ (l : List E). Extends l c) (sym p) (subst (Extends b) (sym q) e)

  -- Of two beginnings of one history, the longer begins with the shorter.
  begins : (log a b : List E) → Extends log a → Extends log b → length a ≤ length b → Extends b a
  begins log a b p q h = go log a b p.rest q.rest p.is q.is h
    where
      head_eq : {x y : E} {xs ys : List E} → x ∷ xs ≡ y ∷ ys → x ≡ y
      head_eq e = cc

      tail_eq : {x y : E} {xs ys : List E} → x ∷ xs ≡ y ∷ ys → xs ≡ ys
      tail_eq e = cc

      go : (log a b u v : List E) → log ≡ a ++ u → log ≡ b ++ v → length a ≤ length b → Extends b a
      go log [] b u v p q h = record { rest = b; is = refl }
      go log (x ∷ a) [] u v p q h = absurd (omega arith)
      go log (x ∷ a) (y ∷ b) u v p q h =
          let e : x ∷ (a ++ u) ≡ y ∷ (b ++ v) = sym p ∙ q in
          let r = go (b ++ v) a b u v (sym (tail_eq e)) refl (omega arith) in
          record { rest = r.rest; is = λ i. head_eq (sym e) i ∷ r.is i }

  pick : (c : Bool) (a d : List E) (P : List E → Type 0) → P a → P d → P (if c then d else a)
  pick true a d P p q = q
  pick false a d P p q = p

  ordered : (log a d : List E) → Extends log a → Extends log d → (c : Bool) → nat_lt (length a) (length d) ≡ c → Extends (if c then d else a) (if c then a else d)
  ordered log a d p q true e = begins log a d p q (grind (arith, nat_tests))
  ordered log a d p q false e = begins log d a q p (grind (arith, nat_tests))

  pub extends_longer : (log a b : List E) → Extends log a → Extends log b → Extends log (longer a b)
  extends_longer log a b p q = pick (nat_lt (length a) (length b)) a b (Extends log) p q

  pub longer_extends_shorter : (log a b : List E) → Extends log a → Extends log b → Extends (longer a b) (shorter a b)
  longer_extends_shorter log a b p q = ordered log a b p q (nat_lt (length a) (length b)) refl

  both : (a b : List E) (c : Bool) → Extends (if c then b else a) (if c then a else b) → Extends (if c then b else a) a × Extends (if c then b else a) b
  both a b true e = (e, extends_itself b)
  both a b false e = (extends_itself a, e)

  -- Where the longer of two begins with the shorter, it begins with both.
  pub longer_extends_both : (a b : List E) → Extends (longer a b) (shorter a b) → Extends (longer a b) a × Extends (longer a b) b
  longer_extends_both a b e = both a b (nat_lt (length a) (length b)) e

  get_on : (a b : List E) (k : ℕ) (x : E) → slice_get a k ≡ Some x → slice_get (a ++ b) k ≡ Some x
  get_on [] b k x e = absurd (cc)
  get_on (y ∷ ys) b zero x e = e
  get_on (y ∷ ys) b (suc k) x e = get_on ys b k x e

  at_more : (a b : List E) (owns : List (Positioned E)) → AreAt a owns → AreAt (a ++ b) owns
  at_more a b [] s = tt
  at_more a b (own ∷ owns) s = (get_on a b own.position own.entry s.0, at_more a b owns s.1)

  -- What stands in a history stands in a later one.
  pub at_later : (log a : List E) (owns : List (Positioned E)) → Extends log a → AreAt a owns → AreAt log owns
  at_later log a owns p s = subst (λ (l : List E). AreAt l owns) (sym p.is) (at_more a p.rest owns s)

  pub at_both : (log : List E) (xs ys : List (Positioned E)) → AreAt log xs → AreAt log ys → AreAt log (xs ++ ys)
  at_both log [] ys s t = t
  at_both log (x ∷ xs) ys s t = (s.0, at_both log xs ys s.1 t)

  shift : (y : E) (ys : List E) (n : ℕ) (xs : List E) → AreAt ys (positioned_from n xs) → AreAt (y ∷ ys) (positioned_from (suc n) xs)
  shift y ys n [] s = tt
  shift y ys n (x ∷ xs) s = (s.0, shift y ys (suc n) xs s.1)

  rest_at : (log rest : List E) → AreAt (log ++ rest) (positioned_from (length log) rest)
  rest_at [] [] = tt
  rest_at [] (x ∷ xs) = (refl, shift x xs 0 xs (rest_at [] xs))
  rest_at (y ∷ ys) rest = shift y (ys ++ rest) (length ys) rest (rest_at ys rest)

  drop_front : (log rest : List E) → drop (length log) (log ++ rest) ≡ rest
  drop_front [] rest = refl
  drop_front (x ∷ xs) rest = drop_front xs rest

  -- What was added to a history stands in it.
  pub added_at : (later log : List E) → Extends later log → AreAt later (added log later)
  added_at later log p =
      subst (λ (l : List E). AreAt l (positioned_from (length log) (drop (length log) l))) (sym p.is)
      (subst (λ (r : List E). AreAt (log ++ p.rest) (positioned_from (length log) r)) (sym (drop_front log p.rest)) (rest_at log p.rest))

  weight_on : (weight : Positioned E → ℕ) (n : ℕ) (log rest : List E) → sum_by weight (positioned_from n (log ++ rest)) ≡ sum_by weight (positioned_from n log) + sum_by weight (positioned_from (length log + n) rest)
  weight_on weight n [] rest = let e : 0 + n ≡ n = omega arith in let f = ap (λ (k : ℕ). sum_by weight (positioned_from k rest)) e in omega arith
  weight_on weight n (x ∷ xs) rest =
      let first : Positioned E = record { position = n; entry = x } in
      let r = weight_on weight (suc n) xs rest in
      let e : length xs + suc n ≡ suc (length xs) + n = omega arith in
      let f = ap (λ (k : ℕ). sum_by weight (positioned_from k rest)) e in
      let c = sum_by-cons weight first (positioned_from (suc n) (xs ++ rest)) in
      let d = sum_by-cons weight first (positioned_from (suc n) xs) in
      omega (arith, r, f, c, d)

  -- A later history weighs as much more as what was added.
  pub weight_of_added : (weight : Positioned E → ℕ) (later log : List E) → Extends later log → sum_by weight (positioned later) ≡ sum_by weight (positioned log) + sum_by weight (added log later)
  weight_of_added weight later log p =
      let a = ap (λ (l : List E). sum_by weight (positioned_from 0 l)) p.is in
      let b = weight_on weight 0 log p.rest in
      let c : length log + 0 ≡ length log = omega arith in
      let d = ap (λ (k : ℕ). sum_by weight (positioned_from k p.rest)) c in
      let e = ap (λ (l : List E). sum_by weight (positioned_from (length log) (drop (length log) l))) p.is in
      let f = ap (λ (l : List E). sum_by weight (positioned_from (length log) l)) (drop_front log p.rest) in
      omega (arith, a, b, d, e, f)

  abbrev one_at : ℕ → Positioned E → ℕ
  one_at position own = cond (own.position == position) 1 0

  elsewhere : (position n : ℕ) (x : E) → n ≢ position → one_at position (record { position = n; entry = x }) ≡ 0
  elsewhere position n x h = let a : one_at position (record { position = n; entry = x }) ≤ 0 = none_if_false (nat_eq n position) (ne_eqb n position h) in omega arith

  none_before : (position n : ℕ) (xs : List E) → position < n → sum_by (one_at position) (positioned_from n xs) ≡ 0
  none_before position n [] h = refl
  none_before position n (x ∷ xs) h =
      let a = elsewhere position n x (λ e. absurd (omega arith)) in
      let b = none_before position (suc n) xs (omega arith) in
      omega (arith, a, b, sum_by-cons (one_at position) (record { position = n; entry = x }) (positioned_from (suc n) xs))

  positions_apart : (position n : ℕ) (xs : List E) → sum_by (one_at position) (positioned_from n xs) ≤ 1
  positions_apart position n [] = omega arith
  positions_apart position n (x ∷ xs) =
      let first : Positioned E = record { position = n; entry = x } in
      let c = sum_by-cons (one_at position) first (positioned_from (suc n) xs) in
      dite (ℕ_discrete n position)
      (λ (e : n ≡ position). let a : one_at position first ≤ 1 = at_most_one (nat_eq n position) in let b = none_before position (suc n) xs (omega arith) in omega (arith, a, b, c))
      (λ (e : n ≢ position). let a = elsewhere position n x e in let b = positions_apart position (suc n) xs in omega (arith, a, b, c))

  -- All entries of a history are apart.
  pub all_apart : (owns : List (Positioned E)) (log : List E) → AreAll log owns → AreApart owns
  all_apart owns log h position = let a = h (one_at position) in let b = positions_apart position 0 log in omega (arith, a, b)

  -- Entries with their positions, weighed by the entries alone.
  pub weight_of_positioned : (weight : E → ℕ) (n : ℕ) (xs : List E) → sum_by (λ (own : Positioned E). weight own.entry) (positioned_from n xs) ≡ sum_by weight xs
  weight_of_positioned weight n [] = refl
  weight_of_positioned weight n (x ∷ xs) =
      let r = weight_of_positioned weight (suc n) xs in
      let c = sum_by-cons (λ (own : Positioned E). weight own.entry) (record { position = n; entry = x }) (positioned_from (suc n) xs) in
      omega (arith, r, c, sum_by-cons weight x xs)

  -- What was added, weighed by the entries alone.
  pub weight_of_rest : (weight : E → ℕ) (later log rest : List E) → later ≡ log ++ rest → sum_by (λ (own : Positioned E). weight own.entry) (added log later) ≡ sum_by weight rest
  weight_of_rest weight later log rest e =
      let a = ap (λ (l : List E). sum_by (λ (own : Positioned E). weight own.entry) (positioned_from (length log) (drop (length log) l))) e in
      let b = ap (λ (l : List E). sum_by (λ (own : Positioned E). weight own.entry) (positioned_from (length log) l)) (drop_front log rest) in
      a ∙ b ∙ weight_of_positioned weight (length log) rest
