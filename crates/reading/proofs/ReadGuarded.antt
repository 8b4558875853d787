-- A token and what follows it, or else another part: the token need not be one that a text can have
-- in each scope, for it is asked for only where it stands.

use Rattle.std.proofs.Common.{◌≡◌, inl, inr, ℕ, suc, ◌<◌, Bool, true, false, if◌then◌else◌, List, [], ◌∷◌, ◌++◌, Err, refl}
use Rattle.reading.specs.Terminals.{has, is_within, are_disjoint}
use Rattle.reading.specs.Rules.{Rule, ◌>>=◌, ◌or◌, one}
use Rattle.reading.specs.Readers.{Reader, Input, begins, branch, take, and_then, expect, offends}
use Rattle.reading.specs.Exact.{IsExact}
use Rattle.reading.proofs.Sets.{never, within, within_left, within_right, in_union, disjoint}
use Rattle.reading.proofs.Words.{ready_in, same_word, word_of}
use Rattle.reading.proofs.Predictive.{IsPredictive, predictive_one}
use Rattle.reading.proofs.PredictiveThen.{predictive_then}
use Rattle.reading.proofs.PredictiveEither.{predictive_either}
use Rattle.reading.proofs.ExactThen.{exact_then}
use Rattle.reading.proofs.ExactEither.{exact_left, exact_right}
use Rattle.reading.proofs.ReadBy.{Stage, Covers, IsWhole, covers_all, Nullable, is_null, IsReadBy}
use Rattle.reading.proofs.ReadOne.{HasRoom, taken, one_guard}
use Rattle.reading.proofs.ReadThen.{goes_on, goes_on_at}
use Rattle.reading.proofs.ReadEither.{ready_token}

module _ {Token Scope Around : Type 0} {terminal_of : Scope → Token → ℕ} {IsLexeme : Token → Type 0} {stage : Stage} {given A B : Type 0}
    (set : List ℕ) (view : Token → B) {level room : ℕ} {f : ℕ → B → Rule Token Scope A} {p : B → Reader Token Scope Around A} {null_f : B → Nullable}
    {first_f : B → List ℕ} {last_f : A → List ℕ} {Y : ℕ → Rule Token Scope A} {q : Reader Token Scope Around A} {null_y : Nullable} {first_y : List ℕ}
    {last_y : A → List ℕ} (last' : A → List ℕ) (fits : HasRoom stage level room)
    (rf : (b : B) → IsReadBy terminal_of IsLexeme stage (0 < room) (λ d. f d b) (p b) (null_f b) (first_f b) last_f)
    (ry : IsReadBy terminal_of IsLexeme stage given Y q null_y first_y last_y) (against : are_disjoint first_y set ≡ true) where
  abbrev X : ℕ → Rule Token Scope A
  X d = one terminal_of set view level >>= f d

  abbrev In : Scope → Token → Bool
  In scope t = has set (terminal_of scope t)

  abbrev Last : A × Scope → Token → Bool
  Last end t = has (last_f end.0) (terminal_of end.1 t)

  x_predictive : (d : ℕ) → Covers stage d → (scope : Scope) → IsPredictive (X d scope) (X (suc d) scope) false (In scope) Last
  x_predictive d h scope =
      predictive_then (one terminal_of set view level scope) (one terminal_of set view level scope) (λ z. f d z.0 z.1) (λ z. f (suc d) z.0 z.1) false (In scope) (λ z t. false)
      (λ z. is_null (null_f z.0)) (λ z t. has (first_f z.0) (terminal_of z.1 t)) Last (predictive_one terminal_of set view level scope)
      (λ z. (rf z.0).predictive d h z.1) (λ z t e g. never e) false (In scope) Last (λ z e g. e) (λ t e. e)
      (λ z x t g. never ((predictive_one terminal_of set view level scope).nullable z x)) (λ z t e. e) (λ z end x t e. never e)

  module _ (s : IsWhole stage) (g : given) (around : Around) (scope : Scope) where
    abbrev At : List Token → Input Token Scope Around
    At ts = record { tokens = ts; scope = scope; around = around }

    x_taken : (t : Token) (ts : List Token) → In scope t ≡ true → IsExact IsLexeme around (λ d. X d scope) (t ∷ ts) (and_then (take view room (At (t ∷ ts))) p)
    x_taken t ts h =
        exact_then IsLexeme around (λ d. one terminal_of set view level scope) (λ d z. f d z.0 z.1) false (In scope) (λ z t. false)
        (λ z. is_null (null_f z.0)) (λ z t. has (first_f z.0) (terminal_of z.1 t)) Last (λ d. predictive_one terminal_of set view level scope)
        (λ d z. (rf z.0).predictive d (covers_all stage s d) z.1) (λ z t e g. never e) (λ z. word_of ((rf z.0).some z.1)) p (t ∷ ts) (take view room (At (t ∷ ts)))
        (taken terminal_of set view level IsLexeme stage room fits s around scope room refl t ts h)
        (λ run left d z e x sh. (rf z.0).exact s (one_guard fits s scope run z x sh) around z.1 left)

    chosen : (t : Token) (ts : List Token) (b : Bool) → In scope t ≡ b → b ≡ true →
        IsExact IsLexeme around (λ d. X d scope) (t ∷ ts) (and_then (if b then take view room (At (t ∷ ts)) else Err (offends (At (t ∷ ts)))) p)
    chosen t ts true h e = x_taken t ts h
    chosen t ts false h e = never e

    x_exact : (t : Token) (ts : List Token) → In scope t ≡ true → IsExact IsLexeme around (λ d. X d scope) (t ∷ ts) (and_then (expect terminal_of set view room (At (t ∷ ts))) p)
    unfolding expect
    x_exact t ts h = chosen t ts (In scope t) refl h

    exact_at : (ts : List Token) (b : Bool) → begins (In scope) ts ≡ b →
        IsExact IsLexeme around (λ d. (X d or Y d) scope) ts (if b then and_then (expect terminal_of set view room (At ts)) p else q (At ts))
    exact_at [] true h = never h
    exact_at (t ∷ ts) true h =
        exact_left IsLexeme around (λ d. X d scope) (λ d. Y d scope) (is_null null_y) (In scope) (λ t. has first_y (terminal_of scope t)) Last
        (λ end t. has (last_y end.0) (terminal_of end.1 t)) (λ d. x_predictive d (covers_all stage s d) scope) (λ d. ry.predictive d (covers_all stage s d) scope)
        (In scope) (λ t. disjoint first_y set against (terminal_of scope t)) t ts h (λ e. ready_token f scope t h (λ b. (rf b).some scope))
        (and_then (expect terminal_of set view room (At (t ∷ ts))) p) (x_exact t ts h)
    exact_at ts false h =
        exact_right IsLexeme around (λ d. X d scope) (λ d. Y d scope) (is_null null_y) (In scope) (λ t. has first_y (terminal_of scope t)) Last
        (λ end t. has (last_y end.0) (terminal_of end.1 t)) (λ d. x_predictive d (covers_all stage s d) scope) (λ d. ry.predictive d (covers_all stage s d) scope)
        (In scope) (λ t e. e) ts h (q (At ts)) (ry.exact s g around scope ts)

  -- Where the second part is empty, the token goes on behind it.
  pub read_guarded : ((a : A) → is_within (last_f a) (last' a) ≡ true) → ((a : A) → is_within (last_y a) (last' a) ≡ true) →
      ((d : ℕ) (scope : Scope) (end : A × Scope) → Y d scope [] end → goes_on null_y set (last' end.0) ≡ true) →
      IsReadBy terminal_of IsLexeme stage given (λ d. (one terminal_of set view level >>= f d) or Y d)
      (branch terminal_of set (λ input. and_then (expect terminal_of set view room input) p) q) null_y (set ++ first_y) last'
  read_guarded lasts_f lasts_y nulls = record {
    predictive = λ d h scope. predictive_either (X d scope) (X (suc d) scope) (Y d scope) (Y (suc d) scope) (is_null null_y) (In scope) (λ t. has first_y (terminal_of scope t))
        Last (λ end t. has (last_y end.0) (terminal_of end.1 t)) (x_predictive d h scope) (ry.predictive d h scope)
        (λ t e g. disjoint first_y set against (terminal_of scope t) g e) (λ t. has (set ++ first_y) (terminal_of scope t)) (λ end t. has (last' end.0) (terminal_of end.1 t))
        (λ t. within set (set ++ first_y) (within_left set first_y) (terminal_of scope t)) (λ t. within first_y (set ++ first_y) (within_right set first_y) (terminal_of scope t))
        (λ end t. within (last_f end.0) (last' end.0) (lasts_f end.0) (terminal_of end.1 t)) (λ end t. within (last_y end.0) (last' end.0) (lasts_y end.0) (terminal_of end.1 t))
        (λ end y t e. goes_on_at terminal_of null_y set (last' end.0) scope end.1 ((ry.predictive d h scope).nullable end y) (ry.keeps d h scope end y) (nulls d scope end y) t e);
    keeps = λ d h scope end x. elim x [ inl y ↦ never ((x_predictive d h scope).nullable end y) | inr y ↦ ry.keeps d h scope end y ];
    some = λ scope. same_word (λ d w a x. inr x) (ry.some scope);
    exact = λ s g around scope ts. exact_at s g around scope ts (begins (In scope) ts) refl;
    ready = λ s g scope t h. elim (in_union set first_y (terminal_of scope t) h) [
      | inl x ↦ ready_in (λ d w a y. inl y) (ready_token f scope t x (λ b. (rf b).some scope))
      | inr y ↦ ready_in (λ d w a z. inr z) (ry.ready s g scope t y)
    ];
    empty = λ s g e scope. let x = ry.empty s g e scope in record { value = x.value; turns = x.turns; is = inr x.is };
  }
