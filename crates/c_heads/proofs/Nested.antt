-- Rules that hold one another in brackets are read exactly one level deeper than any level. On those
-- that are too high nothing is read, and they are predictive.

use Rattle.std.proofs.Common.{◌≡◌, ℕ, zero, suc, ◌<◌, List, [], refl, arith}
use Rattle.reading.specs.Terminals.{has}
use Rattle.reading.specs.Rules.{Rule}
use Rattle.reading.specs.Readers.{Reader, refuse}
use Rattle.reading.specs.Nesting.{nested, nested_reader}
use Rattle.reading.specs.Exact.{room_on}
use Rattle.reading.proofs.Words.{Some}
use Rattle.reading.proofs.Predictive.{IsPredictive, predictive_never}
use Rattle.reading.proofs.ReadBy.{Stage, below, whole, Nullable, is_null, Keeps, IsReadBy}
use Rattle.reading.proofs.ReadOne.{HasRoom}
use Rattle.reading.proofs.Knot.{read_nested_at}

module _ {Token Scope Around Name : Type 0} {Value : Name → Type 0} {terminal_of : Scope → Token → ℕ} {IsLexeme : Token → Type 0}
    (body : (n : Name) → ℕ → ℕ → ((m : Name) → Rule Token Scope (Value m)) → Rule Token Scope (Value n))
    (parse : (n : Name) → ℕ → ((m : Name) → Reader Token Scope Around (Value m)) → Reader Token Scope Around (Value n))
    (null : Name → Nullable) (first : Name → List ℕ) (last : (n : Name) → Value n → List ℕ)
    (some : (n : Name) (level : ℕ) (scope : Scope) → Some IsLexeme (λ d. nested body d level n scope))
    (step : (stage : Stage) (level room : ℕ) → HasRoom stage level room →
    (inner : ℕ → (m : Name) → Rule Token Scope (Value m)) (inner_reader : (m : Name) → Reader Token Scope Around (Value m)) →
    ((m : Name) → IsReadBy terminal_of IsLexeme stage (0 < room) (λ d. inner d m) (inner_reader m) (null m) (first m) (last m)) →
    (n : Name) → IsReadBy terminal_of IsLexeme stage (Prim.Unit {0}) (λ d. body n d level (inner d)) (parse n room inner_reader) (null n) (first n) (last n)) where
  abbrev On : ℕ → Name → ℕ → Type 0
  On most n level = IsReadBy {Around = Around} terminal_of IsLexeme (below most) (0 < 0) (λ d. nested body d level n) refuse (null n) (first n) (last n)

  no_room : (most level : ℕ) → HasRoom (below most) level 0
  no_room most level = record { is = λ s. absurd s }

  inside : (most : ℕ) → ((n : Name) (level : ℕ) → On most n level) → (n : Name) (level : ℕ) →
      IsReadBy terminal_of IsLexeme (below most) (Prim.Unit {0}) (λ d. body n d level (nested body d (suc level))) (parse n 0 (λ m. refuse)) (null n) (first n) (last n)
  inside most ih n level = step (below most) level 0 (no_room most level) (λ d. nested body d (suc level)) (λ m. refuse) (λ m. ih m (suc level)) n

  predictive_on : (most : ℕ) → ((n : Name) (level : ℕ) → On most n level) → (n : Name) (level d : ℕ) → d < suc most → (scope : Scope) →
      IsPredictive (nested body d level n scope) (nested body (suc d) level n scope) (is_null (null n)) (λ t. has (first n) (terminal_of scope t))
      (λ end t. has (last n end.0) (terminal_of end.1 t))
  unfolding nested
  predictive_on most ih n level zero h scope = predictive_never _ (is_null (null n)) _ _
  predictive_on most ih n level (suc d) h scope = (inside most ih n level).predictive d (omega arith) scope

  keeps_on : (most : ℕ) → ((n : Name) (level : ℕ) → On most n level) → (n : Name) (level d : ℕ) → d < suc most → (scope : Scope) (end : Value n × Scope) →
      nested body d level n scope [] end → Keeps (null n) scope end.1
  unfolding nested
  keeps_on most ih n level zero h scope end x = absurd x
  keeps_on most ih n level (suc d) h scope end x = (inside most ih n level).keeps d (omega arith) scope end x

  on : (most : ℕ) (n : Name) (level : ℕ) → On most n level
  on zero n level = record {
    predictive = λ d h. absurd (omega arith);
    keeps = λ d h. absurd (omega arith);
    some = some n level;
    exact = λ s. absurd s;
    ready = λ s. absurd s;
    empty = λ s. absurd s;
  }
  on (suc most) n level = record {
    predictive = predictive_on most (on most) n level;
    keeps = keeps_on most (on most) n level;
    some = some n level;
    exact = λ s. absurd s;
    ready = λ s. absurd s;
    empty = λ s. absurd s;
  }

  abbrev Inside : ℕ → ℕ → Name → Type 0
  Inside level room n = IsReadBy {Around = Around} terminal_of IsLexeme whole (0 < room) (λ d. nested body d (suc level) n) (nested_reader parse room n) (null n) (first n) (last n)

  -- Where there is no room.
  too_high : (level room : ℕ) → room ≡ 0 → (n : Name) → Inside level room n
  too_high level room e n = record {
    predictive = λ d h. (on (suc d) n (suc level)).predictive d (omega arith);
    keeps = λ d h. (on (suc d) n (suc level)).keeps d (omega arith);
    some = some n (suc level);
    exact = λ s g. absurd (omega (arith, e, g));
    ready = λ s g. absurd (omega (arith, e, g));
    empty = λ s g. absurd (omega (arith, e, g));
  }

  at_room : (level left : ℕ) → room_on level ≡ left → (n : Name) → Inside level (room_on level) n
  at_room level zero e n = too_high level (room_on level) e n
  at_room level (suc left) e n = read_nested_at body parse null first last some step (room_on level) (suc level) (omega (arith, e)) n

  pub read_nested_inside : (level : ℕ) (n : Name) →
      IsReadBy {Around = Around} terminal_of IsLexeme whole (0 < room_on level) (λ d. nested body d (suc level) n) (nested_reader parse (room_on level) n) (null n) (first n) (last n)
  read_nested_inside level n = at_room level (room_on level) refl n
