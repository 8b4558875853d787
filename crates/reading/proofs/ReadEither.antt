-- One part or the other, chosen by the next token, is read exactly.

use Rattle.std.proofs.Common.{◌≡◌, inl, inr, ℕ, suc, Bool, true, false, if◌then◌else◌, List, [], ◌∷◌, ◌++◌, refl, sym, ap, subst, arith}
use Rattle.reading.specs.Terminals.{has, is_within, are_disjoint}
use Rattle.reading.specs.Languages.{tokens_of}
use Rattle.reading.specs.Rules.{Rule, ◌>>=◌, ◌or◌, pure, one}
use Rattle.reading.specs.Readers as reader
use Rattle.reading.specs.Readers.{Reader, Input, begins, branch, and_then, expect}
use Rattle.reading.specs.Exact.{IsExact}
use Rattle.reading.proofs.Sets.{never, within, within_itself, within_left, within_right, in_union, disjoint, disjoint_from_part}
use Rattle.reading.proofs.Words.{Some, Ready, ready_in, same_word}
use Rattle.reading.proofs.PredictiveEither.{predictive_either}
use Rattle.reading.proofs.ExactEither.{exact_left, exact_right}
use Rattle.reading.proofs.ReadBy.{Stage, IsWhole, covers_all, Nullable, no, keeping, is_null, IsReadBy, read_pure}
use Rattle.reading.proofs.ReadThen.{goes_on, goes_on_at}

-- A token that may stand there, and some rest.
pub ready_token : {Token Scope A B : Type 0} {terminal_of : Scope → Token → ℕ} {IsLexeme : Token → Type 0} {set : List ℕ} {view : Token → A} {level : ℕ}
    (f : ℕ → A → Rule Token Scope B) (scope : Scope) (t : Token) → has set (terminal_of scope t) ≡ true → ((a : A) → Some IsLexeme (λ d. f d a scope)) →
    Ready (λ d. (one terminal_of set view level >>= f d) scope) t
ready_token {view = view} {level = level} f scope t h some =
    let s = some (view t) in record {
      word = (t, level) ∷ s.word;
      value = s.value;
      turns = s.turns;
      rest = tokens_of s.word;
      begins = refl;
      is = record {
        front = (t, level) ∷ [];
        back = s.word;
        value = (view t, scope);
        split = refl;
        begin = record { token = t; is = refl; fits = h; value = refl };
        rest = s.is s.turns (omega arith);
      };
    }

module _ {Token Scope Around : Type 0} {terminal_of : Scope → Token → ℕ} {IsLexeme : Token → Type 0} {stage : Stage} {given A : Type 0} where
  module _ {X Y : ℕ → Rule Token Scope A} {p q : Reader Token Scope Around A} {null_y : Nullable} {first_x first_y : List ℕ} {last_x last_y : A → List ℕ}
      (last' : A → List ℕ) (rx : IsReadBy terminal_of IsLexeme stage given X p no first_x last_x)
      (ry : IsReadBy terminal_of IsLexeme stage given Y q null_y first_y last_y) (against : are_disjoint first_y first_x ≡ true) where
    abbrev In : Scope → Token → Bool
    In scope t = has first_x (terminal_of scope t)

    exact_at : IsWhole stage → given → (around : Around) (scope : Scope) (ts : List Token) (b : Bool) → begins (In scope) ts ≡ b →
        IsExact IsLexeme around (λ d. (X d or Y d) scope) ts
        (if b then p (record { tokens = ts; scope = scope; around = around }) else q (record { tokens = ts; scope = scope; around = around }))
    exact_at s g around scope [] true h = never h
    exact_at s g around scope (t ∷ ts) true h =
        exact_left IsLexeme around (λ d. X d scope) (λ d. Y d scope) (is_null null_y) (In scope) (λ t. has first_y (terminal_of scope t))
        (λ end t. has (last_x end.0) (terminal_of end.1 t)) (λ end t. has (last_y end.0) (terminal_of end.1 t))
        (λ d. rx.predictive d (covers_all stage s d) scope) (λ d. ry.predictive d (covers_all stage s d) scope) (In scope)
        (λ t. disjoint first_y first_x against (terminal_of scope t)) t ts h (λ e. rx.ready s g scope t h)
        (p (record { tokens = t ∷ ts; scope = scope; around = around })) (rx.exact s g around scope (t ∷ ts))
    exact_at s g around scope ts false h =
        exact_right IsLexeme around (λ d. X d scope) (λ d. Y d scope) (is_null null_y) (In scope) (λ t. has first_y (terminal_of scope t))
        (λ end t. has (last_x end.0) (terminal_of end.1 t)) (λ end t. has (last_y end.0) (terminal_of end.1 t))
        (λ d. rx.predictive d (covers_all stage s d) scope) (λ d. ry.predictive d (covers_all stage s d) scope) (In scope) (λ t e. e) ts h
        (q (record { tokens = ts; scope = scope; around = around })) (ry.exact s g around scope ts)

    ready_either : IsWhole stage → given → (scope : Scope) (t : Token) → has (first_x ++ first_y) (terminal_of scope t) ≡ true → Ready (λ d. (X d or Y d) scope) t
    ready_either s g scope t h = elim (in_union first_x first_y (terminal_of scope t) h) [
      | inl x ↦ ready_in (λ d w a y. inl y) (rx.ready s g scope t x)
      | inr y ↦ ready_in (λ d w a z. inr z) (ry.ready s g scope t y)
    ]

    -- Where the second part is empty, what begins the first goes on behind it.
    pub read_or : ((a : A) → is_within (last_x a) (last' a) ≡ true) → ((a : A) → is_within (last_y a) (last' a) ≡ true) →
        ((d : ℕ) (scope : Scope) (end : A × Scope) → Y d scope [] end → goes_on null_y first_x (last' end.0) ≡ true) →
        IsReadBy terminal_of IsLexeme stage given (λ d. X d or Y d) (branch terminal_of first_x p q) null_y (first_x ++ first_y) last'
    read_or lasts_x lasts_y nulls = record {
      predictive = λ d h scope. predictive_either (X d scope) (X (suc d) scope) (Y d scope) (Y (suc d) scope) (is_null null_y) (In scope) (λ t. has first_y (terminal_of scope t))
          (λ end t. has (last_x end.0) (terminal_of end.1 t)) (λ end t. has (last_y end.0) (terminal_of end.1 t)) (rx.predictive d h scope) (ry.predictive d h scope)
          (λ t e g. disjoint first_y first_x against (terminal_of scope t) g e)
          (λ t. has (first_x ++ first_y) (terminal_of scope t)) (λ end t. has (last' end.0) (terminal_of end.1 t))
          (λ t. within first_x (first_x ++ first_y) (within_left first_x first_y) (terminal_of scope t))
          (λ t. within first_y (first_x ++ first_y) (within_right first_x first_y) (terminal_of scope t))
          (λ end t. within (last_x end.0) (last' end.0) (lasts_x end.0) (terminal_of end.1 t))
          (λ end t. within (last_y end.0) (last' end.0) (lasts_y end.0) (terminal_of end.1 t))
          (λ end y t e. goes_on_at terminal_of null_y first_x (last' end.0) scope end.1 ((ry.predictive d h scope).nullable end y) (ry.keeps d h scope end y) (nulls d scope end y) t e);
      keeps = λ d h scope end x. elim x [ inl y ↦ never ((rx.predictive d h scope).nullable end y) | inr y ↦ ry.keeps d h scope end y ];
      some = λ scope. same_word (λ d w a x. inl x) (rx.some scope);
      exact = λ s g around scope ts. exact_at s g around scope ts (begins (In scope) ts) refl;
      ready = ready_either;
      empty = λ s g e scope. let x = ry.empty s g e scope in record { value = x.value; turns = x.turns; is = inr x.is };
    }

  -- Neither part is nullable, and their follow-last sets are the same.
  pub read_either : {X Y : ℕ → Rule Token Scope A} {p q : Reader Token Scope Around A} {first_x first_y : List ℕ} {last : A → List ℕ} →
      IsReadBy terminal_of IsLexeme stage given X p no first_x last → IsReadBy terminal_of IsLexeme stage given Y q no first_y last → are_disjoint first_y first_x ≡ true →
      IsReadBy terminal_of IsLexeme stage given (λ d. X d or Y d) (branch terminal_of first_x p q) no (first_x ++ first_y) last
  read_either {last = last} rx ry against = read_or last rx ry against (λ a. within_itself (last a)) (λ a. within_itself (last a)) (λ d scope end y. refl)

  -- The first part is chosen where the next token is of a set that may have more than what begins it.
  module _ {X Y : ℕ → Rule Token Scope A} {p q : Reader Token Scope Around A} {first_x first_y : List ℕ} {last : A → List ℕ} (set : List ℕ)
      (rx : IsReadBy terminal_of IsLexeme stage given X p no first_x last) (ry : IsReadBy terminal_of IsLexeme stage given Y q no first_y last)
      (fits : is_within first_x set ≡ true) (against : are_disjoint first_y set ≡ true) where
    chosen_at : IsWhole stage → given → (around : Around) (scope : Scope) (ts : List Token) (b : Bool) → begins (λ t. has set (terminal_of scope t)) ts ≡ b →
        IsExact IsLexeme around (λ d. (X d or Y d) scope) ts
        (if b then p (record { tokens = ts; scope = scope; around = around }) else q (record { tokens = ts; scope = scope; around = around }))
    chosen_at s g around scope [] true h = never h
    chosen_at s g around scope (t ∷ ts) true h =
        exact_left IsLexeme around (λ d. X d scope) (λ d. Y d scope) false (λ t. has first_x (terminal_of scope t)) (λ t. has first_y (terminal_of scope t))
        (λ end t. has (last end.0) (terminal_of end.1 t)) (λ end t. has (last end.0) (terminal_of end.1 t))
        (λ d. rx.predictive d (covers_all stage s d) scope) (λ d. ry.predictive d (covers_all stage s d) scope) (λ t. has set (terminal_of scope t))
        (λ t. disjoint first_y set against (terminal_of scope t)) t ts h (λ e. never e)
        (p (record { tokens = t ∷ ts; scope = scope; around = around })) (rx.exact s g around scope (t ∷ ts))
    chosen_at s g around scope ts false h =
        exact_right IsLexeme around (λ d. X d scope) (λ d. Y d scope) false (λ t. has first_x (terminal_of scope t)) (λ t. has first_y (terminal_of scope t))
        (λ end t. has (last end.0) (terminal_of end.1 t)) (λ end t. has (last end.0) (terminal_of end.1 t))
        (λ d. rx.predictive d (covers_all stage s d) scope) (λ d. ry.predictive d (covers_all stage s d) scope) (λ t. has set (terminal_of scope t))
        (λ t. within first_x set fits (terminal_of scope t)) ts h
        (q (record { tokens = ts; scope = scope; around = around })) (ry.exact s g around scope ts)

    pub read_chosen : IsReadBy terminal_of IsLexeme stage given (λ d. X d or Y d) (branch terminal_of set p q) no (first_x ++ first_y) last
    read_chosen =
        let r = read_either rx ry (disjoint_from_part first_y first_x set fits against) in record {
          predictive = r.predictive;
          keeps = r.keeps;
          some = r.some;
          exact = λ s g around scope ts. chosen_at s g around scope ts (begins (λ t. has set (terminal_of scope t)) ts) refl;
          ready = r.ready;
          empty = r.empty;
        }

  -- A part that is not nullable, or nothing.
  pub read_optional : {X : ℕ → Rule Token Scope A} {p : Reader Token Scope Around A} {first : List ℕ} {last : A → List ℕ} (last' : A → List ℕ) (a : A) →
      IsReadBy terminal_of IsLexeme stage given X p no first last → ((a : A) → is_within (last a) (last' a) ≡ true) → is_within first (last' a) ≡ true →
      IsReadBy terminal_of IsLexeme stage given (λ d. X d or pure a) (branch terminal_of first p (reader.pure a)) keeping (first ++ []) last'
  read_optional {first = first} last' a r lasts goes =
      read_or last' r (read_pure a) refl lasts (λ b. refl) (λ d scope end y. subst (λ z. is_within first (last' z) ≡ true) (sym (ap (λ (z : _). z.0) y.same)) goes)
