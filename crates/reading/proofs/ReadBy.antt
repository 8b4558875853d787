-- A rule that a reader reads exactly: what the lemmas on each way to put rules together say.

use Rattle.std.proofs.Common.{◌≡◌, ℕ, suc, ◌<◌, Bool, true, false, List, [], ◌∷◌, refl, sym, ap, ◌∙◌}
use Rattle.reading.specs.Terminals.{has, is_within}
use Rattle.reading.specs.Languages.{tokens_of}
use Rattle.reading.specs.Rules.{Rule, pure, changes}
use Rattle.reading.specs.Readers as reader
use Rattle.reading.specs.Readers.{Reader, Input, and_then}
use Rattle.reading.specs.Exact.{IsExact, reads}
use Rattle.reading.proofs.Sets.{never, within}
use Rattle.reading.proofs.Predictive.{IsPredictive, predictive_empty, predictive_weaker}
use Rattle.reading.proofs.Words.{Some, Ready, Empty}

-- What is known of the rules that a rule names: that they are predictive for fewer turns than so
-- many, or all of it. A knot of rules is tied twice, first by turns and then by levels.
pub data Stage : Type 0 where
  below : ℕ → Stage
  whole : Stage

abbrev pub Covers : Stage → ℕ → Type 0
Covers (below most) turns = turns < most
Covers whole turns = Prim.Unit {0}

abbrev pub IsWhole : Stage → Type 0
IsWhole (below most) = ⊥
IsWhole whole = Prim.Unit {0}

pub covers_all : (stage : Stage) → IsWhole stage → (turns : ℕ) → Covers stage turns
covers_all (below most) h turns = absurd h
covers_all whole h turns = tt

-- Whether a rule is nullable: it is not, or its empty word leaves the scope as it is, or it may
-- change the scope.
pub data Nullable : Type 0 where
  no : Nullable
  keeping : Nullable
  changing : Nullable

abbrev pub is_null : Nullable → Bool
is_null no = false
is_null keeping = true
is_null changing = true

-- The empty word leaves the scope as it is, where it is said to.
abbrev pub Keeps : {Scope : Type 0} → Nullable → Scope → Scope → Type 0
Keeps no scope scope' = Prim.Unit {0}
Keeps keeping scope scope' = scope' ≡ scope
Keeps changing scope scope' = Prim.Unit {0}

-- In each scope the rule is predictive, with a first set of its own and a follow-last set for each
-- value, and has a word. In the whole, and where what is given holds, the reader is exact, a word
-- begins with each token of the first set, and the rule has the empty word if it is nullable.
pub record IsReadBy {Token Scope Around : Type 0} (terminal_of : Scope → Token → ℕ) (IsLexeme : Token → Type 0) (stage : Stage) (given : Type 0)
    {A : Type 0} (X : ℕ → Rule Token Scope A) (p : Reader Token Scope Around A) (null : Nullable) (first : List ℕ) (last : A → List ℕ) : Type 0 where
  pub predictive : (d : ℕ) → Covers stage d → (scope : Scope) →
      IsPredictive (X d scope) (X (suc d) scope) (is_null null) (λ t. has first (terminal_of scope t)) (λ end t. has (last end.0) (terminal_of end.1 t))
  pub keeps : (d : ℕ) → Covers stage d → (scope : Scope) (end : A × Scope) → X d scope [] end → Keeps null scope end.1
  pub some : (scope : Scope) → Some IsLexeme (λ d. X d scope)
  pub exact : IsWhole stage → given → (around : Around) (scope : Scope) (tokens : List Token) →
      IsExact IsLexeme around (λ d. X d scope) tokens (p (record { tokens = tokens; scope = scope; around = around }))
  pub ready : IsWhole stage → given → (scope : Scope) (t : Token) → has first (terminal_of scope t) ≡ true → Ready (λ d. X d scope) t
  pub empty : IsWhole stage → given → is_null null ≡ true → (scope : Scope) → Empty (λ d. X d scope)

module _ {Token Scope Around : Type 0} {terminal_of : Scope → Token → ℕ} {IsLexeme : Token → Type 0} {stage : Stage} where
  -- Nothing is taken.
  pub read_pure : {given A : Type 0} (a : A) → IsReadBy {Around = Around} terminal_of IsLexeme stage given (λ d. pure a) (reader.pure a) keeping [] (λ b. [])
  read_pure a = record {
    predictive = λ d h scope. predictive_empty (a, scope);
    keeps = λ d h scope end x. ap (λ (z : _). z.1) x.same;
    ready = λ s g scope t h. never h;
    empty = λ s g n scope. record { value = (a, scope); turns = 0; is = record { none = refl; same = refl } };
    some = λ scope. record { word = []; value = (a, scope); turns = 0; lexemes = tt; is = λ e h. record { none = refl; same = refl } };
    exact = λ s g around scope ts. reads [] ts 0 a scope refl tt (record { none = refl; same = refl })
        (λ t us more h d w b e x. absurd (let k : [] ≡ t ∷ more = ap tokens_of (sym x.none) ∙ e in cc));
  }

  -- Nothing is taken, and the scope changes.
  pub read_changes : {given A : Type 0} (f : Scope → Scope) (a : A) →
      IsReadBy {Around = Around} terminal_of IsLexeme stage given (λ d. changes f a) (reader.changes f a) changing [] (λ b. [])
  read_changes f a = record {
    predictive = λ d h scope. predictive_empty (a, f scope);
    keeps = λ d h scope end x. tt;
    ready = λ s g scope t h. never h;
    empty = λ s g n scope. record { value = (a, f scope); turns = 0; is = record { none = refl; same = refl } };
    some = λ scope. record { word = []; value = (a, f scope); turns = 0; lexemes = tt; is = λ e h. record { none = refl; same = refl } };
    exact = λ s g around scope ts. reads [] ts 0 a (f scope) refl tt (record { none = refl; same = refl })
        (λ t us more h d w b e x. absurd (let k : [] ≡ t ∷ more = ap tokens_of (sym x.none) ∙ e in cc));
  }

  -- The same with larger follow-last sets, and where more is given.
  pub read_weaker : {given given' A : Type 0} {X : ℕ → Rule Token Scope A} {p : Reader Token Scope Around A} {null : Nullable} {first : List ℕ} {last : A → List ℕ}
      (last' : A → List ℕ) → (given' → given) → ((a : A) → is_within (last a) (last' a) ≡ true) →
      IsReadBy terminal_of IsLexeme stage given X p null first last → IsReadBy terminal_of IsLexeme stage given' X p null first last'
  read_weaker {last = last} last' gives lasts r = record {
    predictive = λ d h scope. predictive_weaker (r.predictive d h scope) (λ w a x. x) (λ e. e) (λ t e. e)
        (λ end t. within (last end.0) (last' end.0) (lasts end.0) (terminal_of end.1 t));
    keeps = r.keeps;
    some = r.some;
    exact = λ s g. r.exact s (gives g);
    ready = λ s g. r.ready s (gives g);
    empty = λ s g. r.empty s (gives g);
  }

  -- The same where more is given.
  pub read_given : {given given' A : Type 0} {X : ℕ → Rule Token Scope A} {p : Reader Token Scope Around A} {null : Nullable} {first : List ℕ} {last : A → List ℕ} →
      (given' → given) → IsReadBy terminal_of IsLexeme stage given X p null first last → IsReadBy terminal_of IsLexeme stage given' X p null first last
  read_given gives r = record {
    predictive = r.predictive;
    keeps = r.keeps;
    some = r.some;
    exact = λ s g. r.exact s (gives g);
    ready = λ s g. r.ready s (gives g);
    empty = λ s g. r.empty s (gives g);
  }
