-- Parts behind which the scope changes, where what may go on is the same in each scope.

use Rattle.std.proofs.Common.{◌≡◌, inl, inr, ℕ, Bool, true, List, [], ◌∷◌, refl, sym, ◌∙◌, subst}
use Rattle.reading.specs.Terminals.{has, is_within, are_disjoint}
use Rattle.reading.specs.Rules.{Rule, ◌>>=◌, changes}
use Rattle.reading.specs.Readers as reader
use Rattle.reading.specs.Readers.{Reader, and_then}
use Rattle.reading.proofs.Sets.{never, within, within_itself}
use Rattle.reading.proofs.ReadBy.{Stage, Nullable, no, keeping, changing, is_null, IsReadBy, read_changes}
use Rattle.reading.proofs.ReadThen.{read_both}

-- In each scope the same tokens have a terminal of the set.
abbrev pub IsFixed : {Token Scope : Type 0} (terminal_of : Scope → Token → ℕ) → List ℕ → Type 0
IsFixed {Token} {Scope} terminal_of set = (scope scope' : Scope) (t : Token) → has set (terminal_of scope t) ≡ has set (terminal_of scope' t)

-- What goes on behind a part goes on behind an empty rest too, which may change the scope.
abbrev pub goes_behind : Nullable → List ℕ → List ℕ → Bool
goes_behind no last last' = true
goes_behind keeping last last' = is_within last last'
goes_behind changing last last' = is_within last last'

behind : (null : Nullable) (last last' : List ℕ) → is_null null ≡ true → goes_behind null last last' ≡ true → is_within last last' ≡ true
behind no last last' e g = never e
behind keeping last last' e g = g
behind changing last last' e g = g

module _ {Token Scope Around : Type 0} {terminal_of : Scope → Token → ℕ} {IsLexeme : Token → Type 0} {stage : Stage} where
  -- The first part is not nullable, and what goes on behind it is the same in each scope.
  pub read_then_fixed : {given A B : Type 0} {X : ℕ → Rule Token Scope A} {p : Reader Token Scope Around A} {first : List ℕ} {last : A → List ℕ}
      {f : ℕ → A → Rule Token Scope B} {q : A → Reader Token Scope Around B} {null_f : A → Nullable} {first_f : A → List ℕ} {last_f : B → List ℕ}
      (last' : B → List ℕ) → IsReadBy terminal_of IsLexeme stage given X p no first last →
      ((a : A) → IsReadBy terminal_of IsLexeme stage given (λ d. f d a) (q a) (null_f a) (first_f a) last_f) →
      ((a : A) → IsFixed terminal_of (last a)) →
      ((a : A) → are_disjoint (last a) (first_f a) ≡ true) → ((b : B) → is_within (last_f b) (last' b) ≡ true) →
      ((a : A) (b : B) → goes_behind (null_f a) (last a) (last' b) ≡ true) →
      IsReadBy terminal_of IsLexeme stage given (λ d. X d >>= f d) (λ input. and_then (p input) q) no first last'
  read_then_fixed {first = first} {last = last} {null_f = null_f} last' r rf fixed apart lasts nulls =
      read_both no first last' r rf (λ s g d scope run end x sh. g) apart (λ a. tt) (within_itself first)
      (λ d h scope end x t m. never ((r.predictive d h scope).nullable end x)) lasts
      (λ d h scope a end x t m. within (last a) (last' end.0) (behind (null_f a) (last a) (last' end.0) (((rf a).predictive d h scope).nullable end x) (nulls a end.0))
      (terminal_of end.1 t) (sym (fixed a scope end.1 t) ∙ m))
      (λ s g scope t h. inl h) (λ s g e. never e)

  -- A part, and then the scope changes.
  pub read_changing : {given A B : Type 0} {X : ℕ → Rule Token Scope A} {p : Reader Token Scope Around A} {first : List ℕ} {last : A → List ℕ}
      (change : A → Scope → Scope) (g : A → B) (last' : B → List ℕ) → IsReadBy terminal_of IsLexeme stage given X p no first last →
      ((a : A) → IsFixed terminal_of (last a)) → ((a : A) → is_within (last a) (last' (g a)) ≡ true) →
      IsReadBy terminal_of IsLexeme stage given (λ d. X d >>= λ a. changes (change a) (g a)) (λ input. and_then (p input) (λ a. reader.changes (change a) (g a))) no first last'
  read_changing {first = first} {last = last} change g last' r fixed lasts =
      read_both no first last' r (λ a. read_changes (change a) (g a)) (λ s h d scope run end x sh. h) (λ a. none (last a)) (λ a. tt) (within_itself first)
      (λ d h scope end x t m. never ((r.predictive d h scope).nullable end x)) (λ b. refl)
      (λ d h scope a end x t m. within (last a) (last' end.0) (subst (λ z. is_within (last a) (last' z.0) ≡ true) (sym x.same) (lasts a))
      (terminal_of end.1 t) (sym (fixed a scope end.1 t) ∙ m))
      (λ s g scope t h. inl h) (λ s g e. never e)
    where
      none : (set : List ℕ) → are_disjoint set [] ≡ true
      none [] = refl
      none (n ∷ set) = none set

  -- The scope changes to one with the same terminals, and then a part that is not nullable.
  pub read_behind_change : {given A : Type 0} {R : ℕ → Rule Token Scope A} {q : Reader Token Scope Around A} {first : List ℕ} {last : A → List ℕ}
      (change : Scope → Scope) → ((scope : Scope) (t : Token) → terminal_of (change scope) t ≡ terminal_of scope t) →
      IsReadBy terminal_of IsLexeme stage given R q no first last →
      IsReadBy terminal_of IsLexeme stage given (λ d. changes change (tt {0}) >>= λ u. R d) (λ input. and_then (reader.changes change (tt {0}) input) (λ u. q)) no first last
  read_behind_change {first = first} {last = last} change same r =
      read_both no first last (read_changes change (tt {0})) (λ u. r) (λ s g d scope run end x sh. g) (λ u. refl) (λ u. tt) refl
      (λ d h scope end x t m. subst (λ z. has first z ≡ true) (same scope t) (subst (λ z. has first (terminal_of z.1 t) ≡ true) x.same m))
      (λ b. within_itself (last b)) (λ d h scope a end x t m. never m)
      (λ s g scope t h. let y = r.ready s g (change scope) t (subst (λ z. has first z ≡ true) (sym (same scope t)) h) in
      inr (record {
        word = y.word;
        value = y.value;
        turns = y.turns;
        rest = y.rest;
        begins = y.begins;
        is = record { front = []; back = y.word; value = (tt {0}, change scope); split = refl; begin = record { none = refl; same = refl }; rest = y.is };
      }))
      (λ s g e. never e)
