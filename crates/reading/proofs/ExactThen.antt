-- One part after the other is read exactly, where each part is.

use Rattle.std.proofs.Common.{◌≡◌, ℕ, zero, suc, ◌+◌, ◌≤◌, Bool, true, List, [], ◌∷◌, ◌++◌, refl, sym, ap, ◌∙◌, subst, append_assoc, append-nil, arith}
use Rattle.reading.specs.Languages.{Leveled, Language, tokens_of, sequence}
use Rattle.reading.specs.Readers.{Outcome, Reader, and_then}
use Rattle.reading.specs.Exact.{HIGHEST_LEVEL, AreShallow, Family, AreNoWord, IsLongest}
use Rattle.reading.specs.Exact.{IsExact, reads, refuses, is_too_deep}
use Rattle.reading.proofs.Cutting.{Cut, equal, earlier, later, cut, tokens_append, same_head, early_head}
use Rattle.reading.proofs.Predictive.{IsPredictive}
use Rattle.reading.proofs.PredictiveThen.{no_later}
use Rattle.reading.proofs.Words.{Word, each_append}

-- A family whose words stay words with more turns.
pub raised : {Token A : Type 0} (X : Family Token A) → ((d : ℕ) (w : List (Leveled Token)) (a : A) → X d w a → X (suc d) w a) →
    (k d : ℕ) (w : List (Leveled Token)) (a : A) → X d w a → X (k + d) w a
raised X up zero d w a x = let e : d ≡ 0 + d = omega arith in subst (λ n. X n w a) e x
raised X up (suc k) d w a x = let e : suc (k + d) ≡ suc k + d = omega arith in subst (λ n. X n w a) e (up (k + d) w a (raised X up k d w a x))

pub raised_left : {Token A : Type 0} (X : Family Token A) → ((d : ℕ) (w : List (Leveled Token)) (a : A) → X d w a → X (suc d) w a) →
    (k d : ℕ) (w : List (Leveled Token)) (a : A) → X k w a → X (k + d) w a
raised_left X up k d w a x = let e : d + k ≡ k + d = omega arith in subst (λ n. X n w a) e (raised X up d k w a x)

module _ {Token Scope Around A' B' : Type 0} (IsLexeme : Token → Type 0) (around : Around)
    (X : Family Token (A' × Scope)) (f : ℕ → A' × Scope → Language Token (B' × Scope)) (null : Bool)
    (first : Token → Bool) (last : A' × Scope → Token → Bool) (null_f : A' × Scope → Bool)
    (first_f : A' × Scope → Token → Bool) (last_f : B' × Scope → Token → Bool)
    (px : (d : ℕ) → IsPredictive (X d) (X (suc d)) null first last)
    (pf : (d : ℕ) (a : A' × Scope) → IsPredictive (f d a) (f (suc d) a) (null_f a) (first_f a) last_f)
    (apart : (a : A' × Scope) (c : Token) → last a c ≡ true → first_f a c ≡ true → ⊥) where
  -- The whole.
  abbrev Both : Family Token (B' × Scope)
  Both d = sequence (X d) (f d)

  up : (d : ℕ) (w : List (Leveled Token)) (a : A' × Scope) → X d w a → X (suc d) w a
  up d = (px d).grows

  up_f : (a : A' × Scope) (d : ℕ) (w : List (Leveled Token)) (b : B' × Scope) → f d a w b → f (suc d) a w b
  up_f a d = (pf d a).grows

  -- No cut is before the end of a word.
  cut_late : (d e : ℕ) (x x' y' : List (Leveled Token)) (a a' : A' × Scope) (b' : B' × Scope) (t : Token) (r q : List Token) →
      tokens_of x ≡ tokens_of x' ++ t ∷ r → X d x a → X e x' a' → f e a' y' b' → tokens_of y' ≡ t ∷ q → ⊥
  cut_late d e x x' y' a a' b' t r q h p p' k l =
      no_later (X (d + e)) (X (suc (d + e))) (f (d + e)) (f (suc (d + e))) null first last null_f first_f last_f (px (d + e)) (pf (d + e)) apart
      x x' a a' t r h (raised_left X up d e x a p) (raised X up d e x' a' p') y' b' q (raised (λ n. f n a') (up_f a') d e y' b' k) l

  joined_cut : (w : List (Leveled Token)) (u : List Token) (d : ℕ) (b : B' × Scope) (run : List (Leveled Token)) →
      tokens_of w ≡ tokens_of run ++ u → (h : Both d w b) → Cut (tokens_of run) u (tokens_of h.front) (tokens_of h.back)
  joined_cut w u d b run e h = cut _ _ _ _ (sym e ∙ ap tokens_of h.split ∙ tokens_append h.front h.back)

  -- ---- The first part is not whole

  first_at : (run more : List (Leveled Token)) (d : ℕ) (a : A' × Scope) → X d (run ++ more) a → AreNoWord X (tokens_of run) → (u : List Token) →
      ((s : Token) (r m : List Token) → u ≡ s ∷ r → AreNoWord X (tokens_of run ++ s ∷ m)) →
      (e : ℕ) (w : List (Leveled Token)) (b : B' × Scope) (h : Both e w b) → Cut (tokens_of run) u (tokens_of h.front) (tokens_of h.back) → ⊥
  first_at run more d a x none u goes e w b h (equal p q) = none e h.front h.value (sym p) h.begin
  first_at run more d a x none u goes e w b h (earlier s r p q) = goes s _ r q e h.front h.value p h.begin
  first_at run more d a x none u goes e w b h (later s r p q) =
      cut_late d e (run ++ more) h.front h.back a h.value b s (r ++ tokens_of more) _
      (tokens_append run more ∙ ap (λ z. z ++ tokens_of more) p ∙ append_assoc (tokens_of h.front) (s ∷ r) (tokens_of more)) x h.begin h.rest q

  none_first : (run more : List (Leveled Token)) (d : ℕ) (a : A' × Scope) → X d (run ++ more) a → AreNoWord X (tokens_of run) → (u : List Token) →
      ((s : Token) (r m : List Token) → u ≡ s ∷ r → AreNoWord X (tokens_of run ++ s ∷ m)) →
      (e : ℕ) (w : List (Leveled Token)) (b : B' × Scope) → tokens_of w ≡ tokens_of run ++ u → Both e w b → ⊥
  none_first run more d a x none u goes e w b k h = first_at run more d a x none u goes e w b h (joined_cut w u e b run k h)

  -- ---- The first part is whole, and the second goes on with nothing

  second_at : (run back : List (Leveled Token)) (d : ℕ) (a : A' × Scope) → X d run a → (u : List Token) → AreNoWord (λ n. f n a) (tokens_of back ++ u) →
      ((s : Token) (r m : List Token) → tokens_of back ++ u ≡ s ∷ r → AreNoWord X (tokens_of run ++ s ∷ m)) →
      (e : ℕ) (w : List (Leveled Token)) (b : B' × Scope) (h : Both e w b) → Cut (tokens_of run) (tokens_of back ++ u) (tokens_of h.front) (tokens_of h.back) → ⊥
  second_at run back d a x u none goes e w b h (equal p q) =
      let same : h.value ≡ a = (px (d + e)).unambiguous h.front run h.value a (sym p) (raised X up d e h.front h.value h.begin) (raised_left X up d e run a x) in
      none e h.back b (sym q) (subst (λ z. f e z h.back b) same h.rest)
  second_at run back d a x u none goes e w b h (earlier s r p q) = goes s _ r q e h.front h.value p h.begin
  second_at run back d a x u none goes e w b h (later s r p q) = cut_late d e run h.front h.back a h.value b s r _ p x h.begin h.rest q

  none_second : (run back : List (Leveled Token)) (d : ℕ) (a : A' × Scope) → X d run a → (u : List Token) → AreNoWord (λ n. f n a) (tokens_of back ++ u) →
      ((s : Token) (r m : List Token) → tokens_of back ++ u ≡ s ∷ r → AreNoWord X (tokens_of run ++ s ∷ m)) →
      (e : ℕ) (w : List (Leveled Token)) (b : B' × Scope) → tokens_of w ≡ tokens_of (run ++ back) ++ u → Both e w b → ⊥
  none_second run back d a x u none goes e w b k h =
      second_at run back d a x u none goes e w b h
      (joined_cut w (tokens_of back ++ u) e b run (k ∙ ap (λ z. z ++ u) (tokens_append run back) ∙ append_assoc (tokens_of run) (tokens_of back) u) h)

  -- ---- Both parts

  pair : (x y : List (Leveled Token)) (a : A' × Scope) (b : B' × Scope) (d e : ℕ) → X d x a → f e a y b → Both (d + e) (x ++ y) b
  pair x y a b d e p q = record { front = x; back = y; value = a; split = refl; begin = raised_left X up d e x a p; rest = raised (λ n. f n a) (up_f a) d e y b q }

  tokens_after : (ts : List Token) (run back : List (Leveled Token)) (left u : List Token) → ts ≡ tokens_of run ++ left → left ≡ tokens_of back ++ u → ts ≡ tokens_of (run ++ back) ++ u
  tokens_after ts run back left u e e' =
      e ∙ ap (λ z. tokens_of run ++ z) e' ∙ sym (append_assoc (tokens_of run) (tokens_of back) u) ∙ ap (λ z. z ++ u) (sym (tokens_append run back))

  second : (ts : List Token) (run : List (Leveled Token)) (left : List Token) (d : ℕ) (a : A' × Scope) → ts ≡ tokens_of run ++ left → AreShallow run → X d run a → IsLongest X run left →
      (o : Outcome Token Scope Around B') → IsExact IsLexeme around (λ n. f n a) left o → IsExact IsLexeme around Both ts o
  second ts run left d a e sh x long o (reads back left' d' b sc e' sh' y long') =
      reads (run ++ back) left' (d + d') b sc (tokens_after ts run back left left' e e')
      (each_append (λ s. s.1 ≤ HIGHEST_LEVEL) run back sh sh') (pair run back a (b, sc) d d' x y)
      (λ t us more h. none_second run back d a x (t ∷ more) (long' t us more h)
      (λ s r m g. let q = same_head (tokens_of back) more us r t s g in long s q.0 m (e' ∙ ap (λ z. tokens_of back ++ z) h ∙ q.1)))
  second ts run left d a e sh x long o (refuses back more left' d' b sc e' sh' lex y long' none) =
      refuses (run ++ back) more left' (d + d') b sc (tokens_after ts run back left left' e e')
      (each_append (λ s. s.1 ≤ HIGHEST_LEVEL) run back sh sh') lex
      (subst (λ z. Both (d + d') z b) (sym (append_assoc run back more)) (pair run (back ++ more) a b d d' x y))
      (λ t us m h. none_second run back d a x (t ∷ m) (long' t us m h)
      (λ s r k g. let q = same_head (tokens_of back) m us r t s g in long s q.0 k (e' ∙ ap (λ z. tokens_of back ++ z) h ∙ q.1)))
      (λ n w c g h. none_second run back d a x [] (subst (λ z. AreNoWord (λ k. f k a) z) (sym (append-nil (tokens_of back))) none)
      (λ s r k l. let q = early_head (tokens_of back) left' r s (sym (append-nil (tokens_of back)) ∙ l) in long s q.0 k (e' ∙ q.1)) n w c (g ∙ sym (append-nil (tokens_of (run ++ back)))) h)
  second ts run left d a e sh x long o (is_too_deep back more t level left' d' b sc e' sh' k lex y) =
      is_too_deep (run ++ back) more t level left' (d + d') b sc (tokens_after ts run back left (t ∷ left') e e')
      (each_append (λ s. s.1 ≤ HIGHEST_LEVEL) run back sh sh') k lex
      (subst (λ z. Both (d + d') z b) (sym (append_assoc run back ((t, level) ∷ more))) (pair run (back ++ (t, level) ∷ more) a b d d' x y))

  -- With a word as which the second part may end.
  module _ (some : (a : A' × Scope) → Word IsLexeme (λ d. f d a)) where
    pub exact_then : (q : A' → Reader Token Scope Around B') (ts : List Token) (o : Outcome Token Scope Around A') → IsExact IsLexeme around X ts o →
        ((run : List (Leveled Token)) (left : List Token) (d : ℕ) (a : A' × Scope) → ts ≡ tokens_of run ++ left → X d run a → AreShallow run →
        IsExact IsLexeme around (λ n. f n a) left (q a.0 (record { tokens = left; scope = a.1; around = around }))) →
        IsExact IsLexeme around Both ts (and_then o q)
    exact_then q ts o (reads run left d a sc e sh x long) go = second ts run left d (a, sc) e sh x long _ (go run left d (a, sc) e x sh)
    exact_then q ts o (refuses run more left d a sc e sh lex x long none) go =
        let s = some a in
        refuses run (more ++ s.word) left (d + s.turns) s.value sc e sh (each_append (λ z. IsLexeme z.0) more s.word lex s.lexemes)
        (subst (λ z. Both (d + s.turns) z s.value) (append_assoc run more s.word) (pair (run ++ more) s.word a s.value d s.turns x s.is))
        (λ t us m h. none_first run more d a x none (t ∷ m) (λ z r k g. long z us k (h ∙ (let l : t ≡ z = cc in cc))))
        (λ n w c g h. none_first run more d a x none [] (λ z r k l. absurd (cc)) n w c (g ∙ sym (append-nil (tokens_of run))) h)
    exact_then q ts o (is_too_deep run more t level left d a sc e sh k lex x) go =
        let s = some a in
        is_too_deep run (more ++ s.word) t level left (d + s.turns) s.value sc e sh k (each_append (λ z. IsLexeme z.0) more s.word lex s.lexemes)
        (subst (λ z. Both (d + s.turns) z s.value) (append_assoc run ((t, level) ∷ more) s.word) (pair (run ++ (t, level) ∷ more) s.word a s.value d s.turns x s.is))
