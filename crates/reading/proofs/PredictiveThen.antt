-- One part after the other, where each is predictive, and no token both goes on behind a word of the
-- first and begins the second.

use Rattle.std.proofs.Common.{◌≡◌, Bool, true, List, [], ◌∷◌, ◌++◌, sym, ap, ◌∙◌, subst, append_assoc, append-nil}
use Rattle.reading.specs.Languages.{Leveled, Language, tokens_of, IsThen, sequence}
use Rattle.reading.proofs.Cutting.{Cut, equal, earlier, later, cut, tokens_append, head_is}
use Rattle.reading.proofs.Predictive.{IsPredictive}

module _ {Token A B : Type 0} (X X' : Language Token A) (f f' : A → Language Token B) (null : Bool)
    (first : Token → Bool) (last : A → Token → Bool) (null_f : A → Bool)
    (first_f : A → Token → Bool) (last_f : B → Token → Bool)
    (px : IsPredictive X X' null first last)
    (pf : (a : A) → IsPredictive (f a) (f' a) (null_f a) (first_f a) last_f)
    (apart : (a : A) (c : Token) → last a c ≡ true → first_f a c ≡ true → ⊥) where
  -- What follows cannot be cut off later.
  pub no_later : (x x' : List (Leveled Token)) (a a' : A) (t : Token) (r : List Token) →
      tokens_of x ≡ tokens_of x' ++ t ∷ r → X x a → X x' a' →
      (y' : List (Leveled Token)) (b' : B) (q : List Token) → f a' y' b' → tokens_of y' ≡ t ∷ q → ⊥
  no_later x x' a a' t r e h h' [] b' q k d = absurd (let g : [] ≡ t ∷ q = d in cc)
  no_later x x' a a' t r e h h' (s ∷ y') b' q k d =
      apart a' t (px.follows x' x t r a' a e h' h)
      (subst (λ z. first_f a' z ≡ true) (head_is d) ((pf a').begins s y' b' k))

  joined_cut : (v w : List (Leveled Token)) (b b' : B) (h : IsThen X f v b) (k : IsThen X f w b')
      (u : List Token) → tokens_of w ≡ tokens_of v ++ u →
      Cut (tokens_of h.front) (tokens_of h.back ++ u) (tokens_of k.front) (tokens_of k.back)
  joined_cut v w b b' h k u e = cut _ _ _ _
      (let p : tokens_of v ≡ tokens_of h.front ++ tokens_of h.back = ap tokens_of h.split ∙ tokens_append h.front h.back in
      let q : tokens_of w ≡ tokens_of k.front ++ tokens_of k.back = ap tokens_of k.split ∙ tokens_append k.front k.back in
      sym (append_assoc (tokens_of h.front) (tokens_of h.back) u) ∙ ap (λ z. z ++ u) (sym p) ∙ sym e ∙ q)

  on_cut : (last' : B → Token → Bool) → ((b : B) (c : Token) → last_f b c ≡ true → last' b c ≡ true) →
      ((a : A) (b : B) → f a [] b → (c : Token) → last a c ≡ true → last' b c ≡ true) →
      (v w : List (Leveled Token)) (b b' : B) (h : IsThen X f v b) (k : IsThen X f w b') (t : Token) (u : List Token) →
      Cut (tokens_of h.front) (tokens_of h.back ++ t ∷ u) (tokens_of k.front) (tokens_of k.back) → last' b t ≡ true
  on_cut last' lasts nulls v w b b' h k t u (equal p q) =
      let same : h.value ≡ k.value = px.unambiguous h.front k.front h.value k.value p h.begin k.begin in
      lasts b _ ((pf h.value).follows h.back k.back t u b b' (sym q) h.rest (subst (λ a. f a k.back b') (sym same) k.rest))
  on_cut last' lasts nulls v w b b' h k t u (earlier s r p q) = go h.back h.rest q
    where
      go : (y : List (Leveled Token)) → f h.value y b → tokens_of y ++ t ∷ u ≡ s ∷ (r ++ tokens_of k.back) → last' b t ≡ true
      go [] g d = nulls h.value b g _ (subst (λ z. last h.value z ≡ true) (sym (head_is d)) (px.follows h.front k.front s r h.value k.value p h.begin k.begin))
      go (z ∷ y) g d = absurd (apart h.value s (px.follows h.front k.front s r h.value k.value p h.begin k.begin) (subst (λ m. first_f h.value m ≡ true) (head_is d) ((pf h.value).begins z y b g)))
  on_cut last' lasts nulls v w b b' h k t u (later s r p q) =
      absurd (no_later h.front k.front h.value k.value s r p h.begin k.begin k.back b' _ k.rest q)

  same_cut : (v w : List (Leveled Token)) (b b' : B) (h : IsThen X f v b) (k : IsThen X f w b') →
      Cut (tokens_of h.front) (tokens_of h.back ++ []) (tokens_of k.front) (tokens_of k.back) → b ≡ b'
  same_cut v w b b' h k (equal p q) =
      let same : h.value ≡ k.value = px.unambiguous h.front k.front h.value k.value p h.begin k.begin in
      (pf h.value).unambiguous h.back k.back b b' (sym (append-nil (tokens_of h.back)) ∙ q) h.rest (subst (λ a. f a k.back b') (sym same) k.rest)
  same_cut v w b b' h k (earlier s r p q) =
      absurd (no_later k.front h.front k.value h.value s r p k.begin h.begin h.back b _ h.rest (sym (append-nil (tokens_of h.back)) ∙ q))
  same_cut v w b b' h k (later s r p q) =
      absurd (no_later h.front k.front h.value k.value s r p h.begin k.begin k.back b' _ k.rest q)

  begins_at : (first' : Token → Bool) → ((c : Token) → first c ≡ true → first' c ≡ true) →
      ((a : A) → X [] a → (c : Token) → first_f a c ≡ true → first' c ≡ true) →
      (s : Leveled Token) (w : List (Leveled Token)) (b : B) (front back : List (Leveled Token)) (a : A) →
      s ∷ w ≡ front ++ back → X front a → f a back b → first' s.0 ≡ true
  begins_at first' firsts nulls s w b [] [] a e x y = absurd (let g : s ∷ w ≡ [] = e in cc)
  begins_at first' firsts nulls s w b [] (z ∷ back) a e x y =
      let g : s ≡ z = (let k : s ∷ w ≡ z ∷ back = e in cc) in
      nulls a x _ (subst (λ m. first_f a m.0 ≡ true) (sym g) ((pf a).begins z back b y))
  begins_at first' firsts nulls s w b (z ∷ front) back a e x y =
      let g : s ≡ z = (let k : s ∷ w ≡ z ∷ (front ++ back) = e in cc) in
      firsts _ (subst (λ m. first m.0 ≡ true) (sym g) (px.begins z front a x))

  nullable_at : (null' : Bool) → ((a : A) → null ≡ true → null_f a ≡ true → null' ≡ true) → (b : B)
      (front back : List (Leveled Token)) (a : A) → [] ≡ front ++ back → X front a → f a back b → null' ≡ true
  nullable_at null' nulls b [] [] a e x y = nulls a (px.nullable a x) ((pf a).nullable b y)
  nullable_at null' nulls b [] (z ∷ back) a e x y = absurd (let g : [] ≡ z ∷ back = e in cc)
  nullable_at null' nulls b (z ∷ front) back a e x y = absurd (let g : [] ≡ z ∷ (front ++ back) = e in cc)

  pub predictive_then : (null' : Bool) (first' : Token → Bool) (last' : B → Token → Bool) →
      ((a : A) → null ≡ true → null_f a ≡ true → null' ≡ true) →
      ((c : Token) → first c ≡ true → first' c ≡ true) →
      ((a : A) → X [] a → (c : Token) → first_f a c ≡ true → first' c ≡ true) →
      ((b : B) (c : Token) → last_f b c ≡ true → last' b c ≡ true) →
      ((a : A) (b : B) → f a [] b → (c : Token) → last a c ≡ true → last' b c ≡ true) →
      IsPredictive (sequence X f) (sequence X' f') null' first' last'
  predictive_then null' first' last' nulls firsts nulls_first lasts nulls_last = record {
    grows = λ w b x. record {
      front = x.front;
      back = x.back;
      value = x.value;
      split = x.split;
      begin = px.grows x.front x.value x.begin;
      rest = (pf x.value).grows x.back b x.rest;
    };
    nullable = λ b x. nullable_at null' nulls b x.front x.back x.value x.split x.begin x.rest;
    begins = λ s w b x. begins_at first' firsts nulls_first s w b x.front x.back x.value x.split x.begin x.rest;
    follows = λ v w t u b c e x y. on_cut last' lasts nulls_last v w b c x y t u (joined_cut v w b c x y (t ∷ u) e);
    unambiguous = λ v w b c e x y. same_cut v w b c x y (joined_cut v w b c x y [] (sym e ∙ sym (append-nil (tokens_of v))));
  }
