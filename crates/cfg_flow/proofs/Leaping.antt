-- Jumps taken off the end of a list in order.
use Rattle.std.proofs.Common.{ℕ, zero, suc, ◌≡◌, ◌+◌, ◌-◌, ◌<◌, ◌≤◌, ◌⊎◌, inl, inr, List, [], ◌∷◌, ◌++◌, length, get_or, take, Bool, true, false, cond, Some, None, slice_get, refl, sym, ◌∙◌, ap, subst, arith, length-append}
use Rattle.std.specs.Prelude.{◌==◌}
use Rattle.std.proofs.lemmas.Option.{get_or_from_slice_get, slice_get-get_or, none-some}
use Rattle.std.specs.List.Sorted.{IsNonDecreasingBy}
use Rattle.std.proofs.lemmas.Bool.{eqb-true, eq-eqb}
use Rattle.std.proofs.lemmas.List.{get_or_append_left}
use Rattle.cfg_rules.specs.Member.{IsIn}
use Rattle.cfg_rules.proofs.Members.{in_left, in_right, in_either}
use Rattle.cfg_flow.specs.declared.plan.Jump.{Jump}
use Rattle.cfg_flow.specs.Plans.{marks_at}
use Rattle.cfg_flow.specs.Jumping.{AreAhead, AreTaken, AreNoneFrom, IsMarkAdded}
use Rattle.cfg_flow.proofs.Members.{contains, in_one, one_in, none_in}

abbrev pub jump : ℕ → ℕ → Jump
jump x m = record { construct = x; mark = m }

same_jump : (j : Jump) (x m : ℕ) → j.construct ≡ x → j.mark ≡ m → j ≡ jump x m
same_jump j x m e f = ap (λ (v : ℕ). jump v j.mark) e ∙ ap (λ (v : ℕ). jump x v) f

-- The marks of x are those of the jumps of x.
pub marks_in : (x m : ℕ) (js : List Jump) → IsIn (marks_at x js) m → IsIn js (jump x m)
unfolding marks_at IsIn
marks_in x m [] i = i
marks_in x m (j ∷ js) i = by (j.construct == x) refl (λ k. marks_in x m js k) i where
  by : (b : Bool) → (j.construct == x) ≡ b → (IsIn (marks_at x js) m → IsIn js (jump x m)) → IsIn (cond b (j.mark ∷ marks_at x js) (marks_at x js)) m → IsIn (j ∷ js) (jump x m)
  by true e rest (inl f) = inl (same_jump j x m (eqb-true j.construct x e) f)
  by true e rest (inr i) = inr (rest i)
  by false e rest i = inr (rest i)

pub in_marks : (x m : ℕ) (js : List Jump) → IsIn js (jump x m) → IsIn (marks_at x js) m
unfolding marks_at IsIn
in_marks x m [] i = i
in_marks x m (j ∷ js) (inl e) =
    let at : j.construct ≡ x = ap (λ (v : Jump). v.construct) e in
    let mark : j.mark ≡ m = ap (λ (v : Jump). v.mark) e in
    subst (λ (b : Bool). IsIn (cond b (j.mark ∷ marks_at x js) (marks_at x js)) m) (sym (eq-eqb j.construct x at)) (inl mark)
in_marks x m (j ∷ js) (inr i) = by (j.construct == x) (in_marks x m js i) where
  by : (b : Bool) → IsIn (marks_at x js) m → IsIn (cond b (j.mark ∷ marks_at x js) (marks_at x js)) m
  by true i = inr i
  by false i = i

-- Some marks of x were taken off the end.
pub record AreTaking (all : List Jump) (x : ℕ) (marks : List ℕ) (left : List Jump) : Type 0 where
  pub below : (j : Jump) → IsIn all j → j.construct < x → IsIn left j
  pub among : (j : Jump) → IsIn left j → IsIn all j
  pub rise : IsNonDecreasingBy (λ j. j.construct) left
  pub sound : (m : ℕ) → IsIn marks m → IsIn (marks_at x all) m
  pub whole : (m : ℕ) → IsIn (marks_at x all) m → IsIn marks m ⊎ IsIn left (jump x m)

pub taking_none : (all : List Jump) (x : ℕ) (marks : List ℕ) (left : List Jump) → marks ≡ [] → AreAhead all (x + 1) left → AreTaking all x marks left
unfolding IsIn
taking_none all x marks left none a = record {
  below = λ j i low. a.below j i (omega arith);
  among = a.among;
  rise = a.rise;
  sound = λ m i. absurd (subst (λ (ms : List ℕ). IsIn ms m) none i);
  whole = λ m i. inr (a.below (jump x m) (marks_in x m all i) (omega arith));
}

front_rises : (front : List Jump) (j : Jump) → IsNonDecreasingBy (λ (k : Jump). k.construct) (front ++ j ∷ []) → IsNonDecreasingBy (λ (k : Jump). k.construct) front
front_rises front j r = λ i k d low high. by i k d low high (r i k d low (omega (arith, length-append front (j ∷ [])))) where
  by : (i k : ℕ) (d : Jump) → i ≤ k → k < length front → (get_or (front ++ j ∷ []) i d).construct ≤ (get_or (front ++ j ∷ []) k d).construct → (get_or front i d).construct ≤ (get_or front k d).construct
  by i k d low high h =
      let a : get_or (front ++ j ∷ []) i d ≡ get_or front i d = get_or_append_left front (j ∷ []) d i (omega arith) in
      let b : get_or (front ++ j ∷ []) k d ≡ get_or front k d = get_or_append_left front (j ∷ []) d k high in
      subst (λ (v : Jump). v.construct ≤ (get_or front k d).construct) a (subst (λ (v : Jump). (get_or (front ++ j ∷ []) i d).construct ≤ v.construct) b h)

-- One more jump is taken: it is of x, or of a construct above it.
pub taking_more : (all : List Jump) (x : ℕ) (marks more : List ℕ) (left front : List Jump) (j : Jump) → left ≡ front ++ j ∷ [] → x ≤ j.construct → IsMarkAdded x j marks more → AreTaking all x marks left → AreTaking all x more front
taking_more all x marks more left front j split high which t = record {
  below = λ k i low. elim (in_either front (j ∷ []) k (here k (t.below k i low))) [ inl f ↦ f | inr o ↦ absurd (let same : j.construct ≡ k.construct = ap (λ (v : Jump). v.construct) (in_one j k o) in omega arith) ];
  among = λ k i. t.among k (subst (λ (js : List Jump). IsIn js k) (sym split) (in_left front (j ∷ []) k i));
  rise = front_rises front j (subst (λ (js : List Jump). IsNonDecreasingBy (λ (k : Jump). k.construct) js) split t.rise);
  sound = λ m i. sound m which i;
  whole = λ m i. whole m which (t.whole m i);
} where
  here : (k : Jump) → IsIn left k → IsIn (front ++ j ∷ []) k
  here k i = subst (λ (js : List Jump). IsIn js k) split i

  last : IsIn left j
  last = subst (λ (js : List Jump). IsIn js j) (sym split) (in_right front (j ∷ []) j (one_in j))

  sound : (m : ℕ) → IsMarkAdded x j marks more → IsIn more m → IsIn (marks_at x all) m
  sound m (inl (at, e)) i = elim (in_either marks (j.mark ∷ []) m (subst (λ (ms : List ℕ). IsIn ms m) e i)) [
    | inl o ↦ t.sound m o
    | inr o ↦ in_marks x m all (subst (λ (k : Jump). IsIn all k) (same_jump j x m at (in_one j.mark m o)) (t.among j last))
  ]
  sound m (inr (off, e)) i = t.sound m (subst (λ (ms : List ℕ). IsIn ms m) e i)

  whole : (m : ℕ) → IsMarkAdded x j marks more → IsIn marks m ⊎ IsIn left (jump x m) → IsIn more m ⊎ IsIn front (jump x m)
  whole m (inl (at, e)) (inl i) = inl (subst (λ (ms : List ℕ). IsIn ms m) (sym e) (in_left marks (j.mark ∷ []) m i))
  whole m (inr (off, e)) (inl i) = inl (subst (λ (ms : List ℕ). IsIn ms m) (sym e) i)
  whole m (inl (at, e)) (inr i) = elim (in_either front (j ∷ []) (jump x m) (here (jump x m) i)) [
    | inl f ↦ inr f
    | inr o ↦ let mark : j.mark ≡ m = ap (λ (v : Jump). v.mark) (in_one j (jump x m) o) in inl (subst (λ (ms : List ℕ). IsIn ms m) (sym e) (in_right marks (j.mark ∷ []) m (subst (λ (v : ℕ). IsIn (j.mark ∷ []) v) mark (one_in j.mark))))
  ]
  whole m (inr (off, e)) (inr i) = elim (in_either front (j ∷ []) (jump x m) (here (jump x m) i)) [
    | inl f ↦ inr f
    | inr o ↦ absurd (off (ap (λ (v : Jump). v.construct) (in_one j (jump x m) o)))
  ]

-- All are taken once no jump of x is left.
pub taking_all : (all : List Jump) (x : ℕ) (marks : List ℕ) (left : List Jump) → ((m : ℕ) → ¬ (IsIn left (jump x m))) → AreTaking all x marks left → AreTaken all x marks left
taking_all all x marks left none t = record {
  marks = λ m. (t.sound m, λ i. elim (t.whole m i) [ inl o ↦ o | inr o ↦ absurd (none m o) ]);
  left = record { below = t.below; among = t.among; rise = t.rise };
}

-- None is left of x or above where the last is of a construct below x.
pub none_from : (x : ℕ) (left : List Jump) (j : Jump) → slice_get left (length left - 1) ≡ Some j → j.construct < x → AreNoneFrom x left
none_from x left j last low = record { none = λ r k i. by r k (contains left k i) } where
  by : IsNonDecreasingBy (λ (k : Jump). k.construct) left → (k : Jump) → (i : ℕ) × (i < length left) × (get_or left i k ≡ k) → k.construct < x
  by r k (i, within, e) =
      let h : (get_or left i k).construct ≤ (get_or left (length left - 1) k).construct = r i (length left - 1) k (omega arith) (omega arith) in
      let end : get_or left (length left - 1) k ≡ j = get_or_from_slice_get left (length left - 1) j k last in
      let at : (get_or left i k).construct ≡ k.construct = ap (λ (v : Jump). v.construct) e in
      let top : (get_or left (length left - 1) k).construct ≡ j.construct = ap (λ (v : Jump). v.construct) end in
      omega arith

pub none_of_none : (x : ℕ) (left : List Jump) → slice_get left (length left - 1) ≡ None → AreNoneFrom x left
none_of_none x [] last = record { none = λ r k i. absurd (none_in [] k refl i) }
none_of_none x (j ∷ js) last = record { none = λ r k i. absurd (none-some (get_or (j ∷ js) (length (j ∷ js) - 1) j) (sym last ∙ slice_get-get_or (j ∷ js) (length (j ∷ js) - 1) j (omega arith))) }

pub taking_end : (all : List Jump) (x : ℕ) (marks : List ℕ) (left : List Jump) → AreNoneFrom x left → AreTaking all x marks left → AreTaken all x marks left
taking_end all x marks left none t = taking_all all x marks left (λ m i. let low : x < x = none.none t.rise (jump x m) i in omega arith) t

take_last : {X : Type 0} (xs : List X) (k : ℕ) (x : X) → slice_get xs k ≡ Some x → k + 1 ≡ length xs → xs ≡ take k xs ++ x ∷ []
take_last [] k x e all = cc
take_last (y ∷ []) zero x e all = cc
take_last (y ∷ z ∷ zs) zero x e all = absurd (omega arith)
take_last (y ∷ ys) (suc k) x e all = ap (λ l. y ∷ l) (take_last ys k x e (omega arith))

pub popped : (left front : List Jump) (n : ℕ) (j : Jump) → n ≡ length left → 0 < length left → front ≡ take (n - 1) left → slice_get left (length left - 1) ≡ Some j → left ≡ front ++ j ∷ []
popped left front n j all some e last =
    let at : length left - 1 ≡ n - 1 = omega arith in
    take_last left (n - 1) j (subst (λ (v : ℕ). slice_get left v ≡ Some j) at last) (omega arith) ∙ ap (λ (l : List Jump). l ++ j ∷ []) (sym e)

pub shorter : (left front : List Jump) (j : Jump) → left ≡ front ++ j ∷ [] → length front < length left
shorter left front j split =
    let count : length left ≡ length (front ++ j ∷ []) = ap (λ (l : List Jump). length l) split in
    let more : length (front ++ j ∷ []) ≡ length front + 1 = length-append front (j ∷ []) in
    omega arith
