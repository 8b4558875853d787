-- Rules that hold one another in brackets are read exactly. The knot is tied twice: by turns, for
-- which it is predictive, and by levels.

use Rattle.std.proofs.Common.{◌≡◌, ℕ, zero, suc, ◌+◌, ◌<◌, ◌≤◌, List, [], arith, true}
use Rattle.reading.specs.Terminals.{has}
use Rattle.reading.specs.Languages.{Leveled}
use Rattle.reading.specs.Rules.{Rule}
use Rattle.reading.specs.Readers.{Reader, refuse}
use Rattle.reading.specs.Nesting.{nested, nested_reader}
use Rattle.reading.specs.Exact.{HIGHEST_LEVEL, room_on, IsExact}
use Rattle.reading.proofs.Words.{Some, Ready, Empty}
use Rattle.reading.proofs.Predictive.{IsPredictive, predictive_never}
use Rattle.reading.proofs.ExactEither.{exact_same}
use Rattle.reading.proofs.ReadBy.{Stage, below, whole, Nullable, is_null, Keeps, IsReadBy}
use Rattle.reading.proofs.ReadOne.{HasRoom}

module _ {Token Scope Around Name : Type 0} {Value : Name → Type 0} {terminal_of : Scope → Token → ℕ} {IsLexeme : Token → Type 0}
    (body : (n : Name) → ℕ → ℕ → ((m : Name) → Rule Token Scope (Value m)) → Rule Token Scope (Value n))
    (parse : (n : Name) → ℕ → ((m : Name) → Reader Token Scope Around (Value m)) → Reader Token Scope Around (Value n))
    (null : Name → Nullable) (first : Name → List ℕ) (last : (n : Name) → Value n → List ℕ)
    (some : (n : Name) (level : ℕ) (scope : Scope) → Some IsLexeme (λ d. nested body d level n scope))
    (step : (stage : Stage) (level room : ℕ) → HasRoom stage level room →
    (inner : ℕ → (m : Name) → Rule Token Scope (Value m)) (inner_reader : (m : Name) → Reader Token Scope Around (Value m)) →
    ((m : Name) → IsReadBy terminal_of IsLexeme stage (0 < room) (λ d. inner d m) (inner_reader m) (null m) (first m) (last m)) →
    (n : Name) → IsReadBy terminal_of IsLexeme stage (Prim.Unit {0}) (λ d. body n d level (inner d)) (parse n room inner_reader) (null n) (first n) (last n)) where
  abbrev On : ℕ → Name → ℕ → Type 0
  On most n level = IsReadBy {Around = Around} terminal_of IsLexeme (below most) (0 < 0) (λ d. nested body d level n) refuse (null n) (first n) (last n)

  -- ---- By turns

  no_room : (most level : ℕ) → HasRoom (below most) level 0
  no_room most level = record { is = λ s. absurd s }

  inside : (most : ℕ) → ((n : Name) (level : ℕ) → On most n level) → (n : Name) (level : ℕ) →
      IsReadBy terminal_of IsLexeme (below most) (Prim.Unit {0}) (λ d. body n d level (nested body d (suc level))) (parse n 0 (λ m. refuse)) (null n) (first n) (last n)
  inside most ih n level = step (below most) level 0 (no_room most level) (λ d. nested body d (suc level)) (λ m. refuse) (λ m. ih m (suc level)) n

  predictive_on : (most : ℕ) → ((n : Name) (level : ℕ) → On most n level) → (n : Name) (level d : ℕ) → d < suc most → (scope : Scope) →
      IsPredictive (nested body d level n scope) (nested body (suc d) level n scope) (is_null (null n)) (λ t. has (first n) (terminal_of scope t))
      (λ end t. has (last n end.0) (terminal_of end.1 t))
  unfolding nested
  predictive_on most ih n level zero h scope = predictive_never _ (is_null (null n)) _ _
  predictive_on most ih n level (suc d) h scope = (inside most ih n level).predictive d (omega arith) scope

  keeps_on : (most : ℕ) → ((n : Name) (level : ℕ) → On most n level) → (n : Name) (level d : ℕ) → d < suc most → (scope : Scope) (end : Value n × Scope) →
      nested body d level n scope [] end → Keeps (null n) scope end.1
  unfolding nested
  keeps_on most ih n level zero h scope end x = absurd x
  keeps_on most ih n level (suc d) h scope end x = (inside most ih n level).keeps d (omega arith) scope end x

  on : (most : ℕ) (n : Name) (level : ℕ) → On most n level
  on zero n level = record {
    predictive = λ d h. absurd (omega arith);
    keeps = λ d h. absurd (omega arith);
    some = some n level;
    exact = λ s. absurd s;
    ready = λ s. absurd s;
    empty = λ s. absurd s;
  }
  on (suc most) n level = record {
    predictive = predictive_on most (on most) n level;
    keeps = keeps_on most (on most) n level;
    some = some n level;
    exact = λ s. absurd s;
    ready = λ s. absurd s;
    empty = λ s. absurd s;
  }

  -- ---- By levels

  abbrev Reads : ℕ → ℕ → Type 0
  Reads room level = (n : Name) → IsReadBy terminal_of IsLexeme whole (0 < room) (λ d. nested body d level n) (nested_reader parse room n) (null n) (first n) (last n)

  body_to : (n : Name) (level d : ℕ) (scope : Scope) (w : List (Leveled Token)) (a : Value n × Scope) → body n d level (nested body d (suc level)) scope w a →
      (e : ℕ) × nested body e level n scope w a
  unfolding nested
  body_to n level d scope w a x = (suc d, x)

  body_from : (n : Name) (level d : ℕ) (scope : Scope) (w : List (Leveled Token)) (a : Value n × Scope) → nested body d level n scope w a →
      (e : ℕ) × body n e level (nested body e (suc level)) scope w a
  unfolding nested
  body_from n level zero scope w a x = absurd x
  body_from n level (suc d) scope w a x = (d, x)

  exact_on : (room level : ℕ) → room ≡ room_on level → Reads room (suc level) → (n : Name) (around : Around) (scope : Scope) (ts : List Token) →
      IsExact IsLexeme around (λ d. nested body d level n scope) ts (nested_reader parse (suc room) n (record { tokens = ts; scope = scope; around = around }))
  unfolding nested_reader
  exact_on room level even ih n around scope ts =
      exact_same (λ d. body n d level (nested body d (suc level)) scope) (λ d. nested body d level n scope)
      (λ d w a x. body_to n level d scope w a x) (λ d w a x. body_from n level d scope w a x) ts _
      ((step whole level room (record { is = λ s. even }) (λ d. nested body d (suc level)) (nested_reader parse room) ih n).exact tt tt around scope ts)

  ready_on : (room level : ℕ) → room ≡ room_on level → Reads room (suc level) → (n : Name) (scope : Scope) (t : Token) → has (first n) (terminal_of scope t) ≡ true →
      Ready (λ d. nested body d level n scope) t
  ready_on room level even ih n scope t h =
      let w = (step whole level room (record { is = λ s. even }) (λ d. nested body d (suc level)) (nested_reader parse room) ih n).ready tt tt scope t h in
      let m = body_to n level w.turns scope w.word w.value w.is in record { word = w.word; value = w.value; turns = m.0; rest = w.rest; begins = w.begins; is = m.1 }

  empty_on : (room level : ℕ) → room ≡ room_on level → Reads room (suc level) → (n : Name) → is_null (null n) ≡ true → (scope : Scope) →
      Empty (λ d. nested body d level n scope)
  empty_on room level even ih n h scope =
      let w = (step whole level room (record { is = λ s. even }) (λ d. nested body d (suc level)) (nested_reader parse room) ih n).empty tt tt h scope in
      let m = body_to n level w.turns scope [] w.value w.is in record { value = w.value; turns = m.0; is = m.1 }

  -- The rules in brackets, where there is so much room on their level: none where it is the second
  -- that is too high.
  pub read_nested_at : (room level : ℕ) → level + room ≡ HIGHEST_LEVEL + 2 → Reads room level
  read_nested_at zero level even n = record {
    predictive = λ d h. (on (suc d) n level).predictive d (omega arith);
    keeps = λ d h. (on (suc d) n level).keeps d (omega arith);
    some = some n level;
    exact = λ s g. absurd (omega arith);
    ready = λ s g. absurd (omega arith);
    empty = λ s g. absurd (omega arith);
  }
  read_nested_at (suc room) level even n = record {
    predictive = λ d h. (on (suc d) n level).predictive d (omega arith);
    keeps = λ d h. (on (suc d) n level).keeps d (omega arith);
    some = some n level;
    exact = λ s g. exact_on room level (omega arith) (read_nested_at room (suc level) (omega arith)) n;
    ready = λ s g. ready_on room level (omega arith) (read_nested_at room (suc level) (omega arith)) n;
    empty = λ s g. empty_on room level (omega arith) (read_nested_at room (suc level) (omega arith)) n;
  }

  -- On a level that is not too high, or the first that is, each of the rules is read exactly.
  pub read_nested : {given : Type 0} (level : ℕ) → level ≤ HIGHEST_LEVEL + 1 → (n : Name) →
      IsReadBy terminal_of IsLexeme whole given (λ d. nested body d level n) (nested_reader parse (suc (room_on level)) n) (null n) (first n) (last n)
  read_nested level h n =
      let r = read_nested_at (suc (room_on level)) level (omega arith) n in record {
        predictive = r.predictive;
        keeps = r.keeps;
        some = r.some;
        exact = λ s g. r.exact s (omega arith);
        ready = λ s g. r.ready s (omega arith);
        empty = λ s g. r.empty s (omega arith);
      }
