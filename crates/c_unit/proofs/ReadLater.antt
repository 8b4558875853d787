-- Two parts of which no word begins one of the other are read exactly by two readings.

use Rattle.std.proofs.Common.{◌≡◌, inl, inr, ℕ, suc, ◌+◌, ◌<◌, ◌≤◌, Bool, true, false, if◌then◌else◌, List, [], ◌∷◌, ◌++◌, length, Ok, Err, refl, sym, ap, ◌∙◌, length-append, append_assoc, arith}
use Rattle.reading.specs.Terminals.{is_within}
use Rattle.reading.specs.Languages.{Leveled, tokens_of, either}
use Rattle.reading.specs.Rules.{Rule, ◌or◌}
use Rattle.reading.specs.Readers.{Reader, Input, Outcome, offends, too_deep}
use Rattle.reading.specs.Exact.{AreShallow, AreLexemes, Family, AreNoWord, IsLongest, IsExact, reads, refuses, is_too_deep}
use Rattle.reading.proofs.Sets.{never}
use Rattle.reading.proofs.Cutting.{Cut, cut, equal, earlier, later}
use Rattle.reading.proofs.ExactThen.{raised, raised_left}
use Rattle.reading.proofs.ReadBy.{Stage, Covers, covers_all, IsWhole, no, IsReadBy}
use Rattle.c_stmt.proofs.Apart.{NoneBegins, read_apart}

-- ---- The later of two stops, by the tokens that are left

-- The first list has fewer elements.
abbrev pub is_shorter : {A : Type 0} → List A → List A → Bool
is_shorter [] [] = false
is_shorter [] (b ∷ other) = true
is_shorter (a ∷ list) [] = false
is_shorter (a ∷ list) (b ∷ other) = is_shorter list other

-- The place of which fewer tokens are left.
abbrev pub further : {Token Scope Around : Type 0} → Input Token Scope Around → Input Token Scope Around → Input Token Scope Around
further at other = if is_shorter at.tokens other.tokens then at else other

-- Behind a reading that stops: the second, or the later of both stops.
abbrev pub behind_stop : {Token Scope Around A : Type 0} → Input Token Scope Around → Outcome Token Scope Around A → Outcome Token Scope Around A
behind_stop at (Ok end) = Ok end
behind_stop at (Err (too_deep other)) = Err (too_deep other)
behind_stop at (Err (offends other)) = Err (offends (further at other))

-- The first reading, or the second where the first offends somewhere.
abbrev pub behind_first : {Token Scope Around A : Type 0} → Outcome Token Scope Around A → Outcome Token Scope Around A → Outcome Token Scope Around A
behind_first (Ok end) other = Ok end
behind_first (Err (too_deep at)) other = Err (too_deep at)
behind_first (Err (offends at)) other = behind_stop at other

-- Either of two readings is tried first.
abbrev pub either_way : {Token Scope Around A : Type 0} → (Input Token Scope Around → Bool) → Reader Token Scope Around A → Reader Token Scope Around A → Reader Token Scope Around A
either_way is_first p q = λ input. if is_first input then behind_first (p input) (q input) else behind_first (q input) (p input)

-- ---- Lengths

pub shorter_true : {A : Type 0} (l m : List A) → is_shorter l m ≡ true → length l < length m
shorter_true [] [] e = never e
shorter_true [] (b ∷ m) e = omega arith
shorter_true (a ∷ l) [] e = never e
shorter_true (a ∷ l) (b ∷ m) e = let k = shorter_true l m e in omega arith

pub shorter_false : {A : Type 0} (l m : List A) → is_shorter l m ≡ false → length m ≤ length l
shorter_false [] [] e = omega arith
shorter_false [] (b ∷ m) e = never (sym e)
shorter_false (a ∷ l) [] e = omega arith
shorter_false (a ∷ l) (b ∷ m) e = let k = shorter_false l m e in omega arith

-- A reading stops behind a run of the tokens.
record Stopped {Token A : Type 0} (IsLexeme : Token → Type 0) (X : Family Token A) (ts left : List Token) : Type 0 where
  run : List (Leveled Token)
  more : List (Leveled Token)
  turns : ℕ
  value : A
  split : ts ≡ tokens_of run ++ left
  shallow : AreShallow run
  lexemes : AreLexemes IsLexeme more
  is : X turns (run ++ more) value
  longest : IsLongest X run left
  none : AreNoWord X (tokens_of run)

-- ---- Each of two readings is exact

module _ {Token Scope Around A : Type 0} (IsLexeme : Token → Type 0) (around : Around) (X Y : Family Token (A × Scope))
    (up_x : (d : ℕ) (w : List (Leveled Token)) (a : A × Scope) → X d w a → X (suc d) w a) (up_y : (d : ℕ) (w : List (Leveled Token)) (a : A × Scope) → Y d w a → Y (suc d) w a)
    (xy : (d : ℕ) → NoneBegins (X d) (Y d)) (yx : (d : ℕ) → NoneBegins (Y d) (X d)) where
  abbrev OrFamily : Family Token (A × Scope)
  OrFamily d = either (X d) (Y d)

  longest_x : (run : List (Leveled Token)) (left : List Token) (d : ℕ) (a : A × Scope) → X d run a → IsLongest X run left → IsLongest OrFamily run left
  longest_x run left d a x long t us more h e w b g (inl z) = long t us more h e w b g z
  longest_x run left d a x long t us more h e w b g (inr y) =
      yx (d + e) w run b a (t ∷ more) g (raised Y up_y d e w b y) (raised_left X up_x d e run a x)

  longest_y : (run : List (Leveled Token)) (left : List Token) (d : ℕ) (a : A × Scope) → Y d run a → IsLongest Y run left → IsLongest OrFamily run left
  longest_y run left d a y long t us more h e w b g (inr z) = long t us more h e w b g z
  longest_y run left d a y long t us more h e w b g (inl x) =
      xy (d + e) w run b a (t ∷ more) g (raised X up_x d e w b x) (raised_left Y up_y d e run a y)

  -- A part that goes no further than a shorter run goes no further than a longer one.
  module _ (Z : Family Token (A × Scope)) (short long : List Token) (left : List Token) (t : Token) (r : List Token) (e : long ≡ short ++ t ∷ r)
      (ends : (more : List Token) → AreNoWord Z (short ++ t ∷ more)) where
    none_longer : (more : List Token) → AreNoWord Z (long ++ more)
    none_longer more d w b g z = ends (r ++ more) d w b (g ∙ (ap (λ k. k ++ more) e ∙ append_assoc short (t ∷ r) more)) z

    none_equal : AreNoWord Z long
    none_equal d w b g z = ends r d w b (g ∙ e) z

  module _ (ts : List Token) (run_x run_y : List (Leveled Token)) (left_x left_y : List Token) (e_x : ts ≡ tokens_of run_x ++ left_x) (e_y : ts ≡ tokens_of run_y ++ left_y)
      (long_x : IsLongest X run_x left_x) (none_x : AreNoWord X (tokens_of run_x)) (long_y : IsLongest Y run_y left_y) (none_y : AreNoWord Y (tokens_of run_y)) where
    -- The first run is longer, and the second part goes no further.
    y_behind : length left_x < length left_y → Cut (tokens_of run_x) left_x (tokens_of run_y) left_y → IsLongest Y run_x left_x × AreNoWord Y (tokens_of run_x)
    y_behind h (equal p q) = absurd (let k : length left_x ≡ length left_y = ap length q in omega arith)
    y_behind h (earlier t r p q) = absurd (let k : length left_x ≡ suc (length (r ++ left_y)) = ap length q in let l = length-append r left_y in omega arith)
    y_behind h (later t r p q) = (
      λ s us more k. none_longer Y (tokens_of run_y) (tokens_of run_x) left_x t r p (λ m. long_y t (r ++ left_x) m q) (s ∷ more),
      none_equal Y (tokens_of run_y) (tokens_of run_x) left_x t r p (λ m. long_y t (r ++ left_x) m q),
    )

    x_behind : length left_y ≤ length left_x → Cut (tokens_of run_x) left_x (tokens_of run_y) left_y → IsLongest X run_y left_y × AreNoWord X (tokens_of run_y)
    x_behind h (equal p q) =
        (λ s us more k d w b g x. long_x s us more (q ∙ k) d w b (g ∙ ap (λ z. z ++ s ∷ more) (sym p)) x, λ d w b g x. none_x d w b (g ∙ sym p) x)
    x_behind h (earlier t r p q) = (
      λ s us more k. none_longer X (tokens_of run_x) (tokens_of run_y) left_y t r p (λ m. long_x t (r ++ left_y) m q) (s ∷ more),
      none_equal X (tokens_of run_x) (tokens_of run_y) left_y t r p (λ m. long_x t (r ++ left_y) m q),
    )
    x_behind h (later t r p q) = absurd (let k : length left_y ≡ suc (length (r ++ left_x)) = ap length q in let l = length-append r left_x in omega arith)

    or_x : IsLongest Y run_x left_x × AreNoWord Y (tokens_of run_x) → IsLongest OrFamily run_x left_x × AreNoWord OrFamily (tokens_of run_x)
    or_x k = (
      λ t us more h d w b g z. elim z [ inl x ↦ long_x t us more h d w b g x | inr y ↦ k.0 t us more h d w b g y ],
      λ d w b g z. elim z [ inl x ↦ none_x d w b g x | inr y ↦ k.1 d w b g y ],
    )

    or_y : IsLongest X run_y left_y × AreNoWord X (tokens_of run_y) → IsLongest OrFamily run_y left_y × AreNoWord OrFamily (tokens_of run_y)
    or_y k = (
      λ t us more h d w b g z. elim z [ inl x ↦ k.0 t us more h d w b g x | inr y ↦ long_y t us more h d w b g y ],
      λ d w b g z. elim z [ inl x ↦ k.1 d w b g x | inr y ↦ none_y d w b g y ],
    )

    between : Cut (tokens_of run_x) left_x (tokens_of run_y) left_y
    between = cut (tokens_of run_x) left_x (tokens_of run_y) left_y (sym e_x ∙ e_y)

  abbrev At : List Token → Scope → Input Token Scope Around
  At ts scope = record { tokens = ts; scope = scope; around = around }

  -- Both stop: the later stop is that of the whole.
  both_stop : (ts left_x left_y : List Token) (sc_x sc_y : Scope) → Stopped IsLexeme X ts left_x → Stopped IsLexeme Y ts left_y → (b : Bool) → is_shorter left_x left_y ≡ b →
      IsExact {A = A} IsLexeme around OrFamily ts (Err (offends (if b then At left_x sc_x else At left_y sc_y)))
  both_stop ts left_x left_y sc_x sc_y x y true e =
      let k = or_x ts x.run y.run left_x left_y x.split y.split x.longest x.none y.longest y.none
      (y_behind ts x.run y.run left_x left_y x.split y.split x.longest x.none y.longest y.none (shorter_true left_x left_y e)
      (between ts x.run y.run left_x left_y x.split y.split x.longest x.none y.longest y.none)) in
      refuses x.run x.more left_x x.turns x.value sc_x x.split x.shallow x.lexemes (inl x.is) k.0 k.1
  both_stop ts left_x left_y sc_x sc_y x y false e =
      let k = or_y ts x.run y.run left_x left_y x.split y.split x.longest x.none y.longest y.none
      (x_behind ts x.run y.run left_x left_y x.split y.split x.longest x.none y.longest y.none (shorter_false left_x left_y e)
      (between ts x.run y.run left_x left_y x.split y.split x.longest x.none y.longest y.none)) in
      refuses y.run y.more left_y y.turns y.value sc_y y.split y.shallow y.lexemes (inr y.is) k.0 k.1

  second_at : (ts left_x : List Token) (sc_x : Scope) → Stopped IsLexeme X ts left_x → (o : Outcome Token Scope Around A) → IsExact IsLexeme around Y ts o →
      IsExact IsLexeme around OrFamily ts (behind_stop (At left_x sc_x) o)
  second_at ts left_x sc_x x o (reads run left d a sc e sh y long) = reads run left d a sc e sh (inr y) (longest_y run left d (a, sc) y long)
  second_at ts left_x sc_x x o (is_too_deep run more s level left d a sc e sh k lex y) = is_too_deep run more s level left d a sc e sh k lex (inr y)
  second_at ts left_x sc_x x o (refuses run more left d a sc e sh lex y long none) =
      both_stop ts left_x left sc_x sc x
      (record { run = run; more = more; turns = d; value = a; split = e; shallow = sh; lexemes = lex; is = y; longest = long; none = none }) (is_shorter left_x left) refl

  pub exact_later : (ts : List Token) (o o' : Outcome Token Scope Around A) → IsExact IsLexeme around X ts o → IsExact IsLexeme around Y ts o' →
      IsExact IsLexeme around OrFamily ts (behind_first o o')
  exact_later ts o o' (reads run left d a sc e sh x long) q = reads run left d a sc e sh (inl x) (longest_x run left d (a, sc) x long)
  exact_later ts o o' (is_too_deep run more s level left d a sc e sh k lex x) q = is_too_deep run more s level left d a sc e sh k lex (inl x)
  exact_later ts o o' (refuses run more left d a sc e sh lex x long none) q =
      second_at ts left sc (record { run = run; more = more; turns = d; value = a; split = e; shallow = sh; lexemes = lex; is = x; longest = long; none = none }) o' q

-- ---- One part or the other

module _ {Token Scope Around A : Type 0} (IsLexeme : Token → Type 0) (around : Around) (X Y : Family Token (A × Scope)) where
  swapped : (d : ℕ) (w : List (Leveled Token)) (a : A × Scope) → either (Y d) (X d) w a → either (X d) (Y d) w a
  swapped d w a (inl y) = inr y
  swapped d w a (inr x) = inl x

  swapped_back : (d : ℕ) (w : List (Leveled Token)) (a : A × Scope) → either (X d) (Y d) w a → either (Y d) (X d) w a
  swapped_back d w a (inl x) = inr x
  swapped_back d w a (inr y) = inl y

  -- It does not matter which part is named first.
  exact_swapped : (ts : List Token) (o : Outcome Token Scope Around A) → IsExact IsLexeme around (λ d. either (Y d) (X d)) ts o → IsExact IsLexeme around (λ d. either (X d) (Y d)) ts o
  exact_swapped ts o (reads run left d a sc e sh x long) =
      reads run left d a sc e sh (swapped d run (a, sc) x) (λ t us more h f w b g z. long t us more h f w b g (swapped_back f w b z))
  exact_swapped ts o (refuses run more left d a sc e sh lex x long none) =
      refuses run more left d a sc e sh lex (swapped d (run ++ more) a x) (λ t us more' h f w b g z. long t us more' h f w b g (swapped_back f w b z))
      (λ f w b g z. none f w b g (swapped_back f w b z))
  exact_swapped ts o (is_too_deep run more s level left d a sc e sh k lex x) =
      is_too_deep run more s level left d a sc e sh k lex (swapped d (run ++ (s, level) ∷ more) a x)

module _ {Token Scope Around : Type 0} {terminal_of : Scope → Token → ℕ} {IsLexeme : Token → Type 0} {stage : Stage} {given A : Type 0}
    {X Y : ℕ → Rule Token Scope A} {p q : Reader Token Scope Around A} {first_x first_y : List ℕ} {last_x last_y : A → List ℕ} (is_first : Input Token Scope Around → Bool) (last' : A → List ℕ)
    (rx : IsReadBy terminal_of IsLexeme stage given X p no first_x last_x) (ry : IsReadBy terminal_of IsLexeme stage given Y q no first_y last_y)
    (xy : (d : ℕ) → Covers stage d → (scope : Scope) → NoneBegins (X d scope) (Y d scope)) (yx : (d : ℕ) → Covers stage d → (scope : Scope) → NoneBegins (Y d scope) (X d scope))
    (lasts_x : (a : A) → is_within (last_x a) (last' a) ≡ true) (lasts_y : (a : A) → is_within (last_y a) (last' a) ≡ true) where
  module _ (s : IsWhole stage) (g : given) (around : Around) (scope : Scope) (ts : List Token) where
    abbrev here : Input Token Scope Around
    here = record { tokens = ts; scope = scope; around = around }

    up_x : (d : ℕ) (w : List (Leveled Token)) (a : A × Scope) → X d scope w a → X (suc d) scope w a
    up_x d = (rx.predictive d (covers_all stage s d) scope).grows

    up_y : (d : ℕ) (w : List (Leveled Token)) (a : A × Scope) → Y d scope w a → Y (suc d) scope w a
    up_y d = (ry.predictive d (covers_all stage s d) scope).grows

    exact_by : (b : Bool) →
        IsExact IsLexeme around (λ d. either (X d scope) (Y d scope)) ts (if b then behind_first (p here) (q here) else behind_first (q here) (p here))
    exact_by true =
        exact_later IsLexeme around (λ d. X d scope) (λ d. Y d scope) up_x up_y (λ d. xy d (covers_all stage s d) scope) (λ d. yx d (covers_all stage s d) scope) ts (p here) (q here)
        (rx.exact s g around scope ts) (ry.exact s g around scope ts)
    exact_by false =
        exact_swapped IsLexeme around (λ d. X d scope) (λ d. Y d scope) ts (behind_first (q here) (p here))
        (exact_later IsLexeme around (λ d. Y d scope) (λ d. X d scope) up_y up_x (λ d. yx d (covers_all stage s d) scope) (λ d. xy d (covers_all stage s d) scope) ts (q here) (p here)
        (ry.exact s g around scope ts) (rx.exact s g around scope ts))

  pub read_later : IsReadBy terminal_of IsLexeme stage given (λ d. X d or Y d) (either_way is_first p q) no (first_x ++ first_y) last'
  read_later =
      read_apart rx ry xy yx last' lasts_x lasts_y (either_way is_first p q)
      (λ s g around scope ts. exact_by s g around scope ts (is_first (record { tokens = ts; scope = scope; around = around })))
