-- Readers: functions that take tokens from a list, each decided by the terminal of the next one.

use Rattle.std.specs.Prelude.{ℕ, zero, suc, Bool, false, if◌then◌else◌, List, [], ◌∷◌, length}
use Rattle.std.specs.Prelude.{Result, Ok, Err}
use Rattle.reading.specs.declared.turn.Turn.{Turn}
use Rattle.reading.specs.declared.turn.Turn.TheVariants.{Again, Done}
use Rattle.reading.specs.Terminals.{has}

-- The tokens that are left, the scope before the first of them, and what no reader changes.
pub record Input (Token Scope Around : Type 0) : Type 0 where
  pub tokens : List Token
  pub scope : Scope
  pub around : Around

-- Why a reader stops, and the input from the token on that it blames.
pub data Halt (Token Scope Around : Type 0) : Type 0 where
  -- The token is not one of those that may stand there.
  offends : Input Token Scope Around → Halt Token Scope Around
  -- The token may stand there, and its level is too high.
  too_deep : Input Token Scope Around → Halt Token Scope Around

abbrev pub Outcome : Type 0 → Type 0 → Type 0 → Type 0 → Type 0
Outcome Token Scope Around A =
    Result (A × Input Token Scope Around) (Halt Token Scope Around)

abbrev pub Reader : Type 0 → Type 0 → Type 0 → Type 0 → Type 0
Reader Token Scope Around A = Input Token Scope Around → Outcome Token Scope Around A

-- ---- One after the other

abbrev pub pure : {Token Scope Around A : Type 0} → A → Reader Token Scope Around A
pure a = λ input. Ok (a, input)

abbrev pub changes : {Token Scope Around A : Type 0} → (Scope → Scope) → A →
    Reader Token Scope Around A
changes f a = λ input. Ok (a, record input { scope = f input.scope })

abbrev pub refuse : {Token Scope Around A : Type 0} → Reader Token Scope Around A
refuse = λ input. Err (offends input)

abbrev pub and_then : {Token Scope Around A B : Type 0} → Outcome Token Scope Around A →
    (A → Reader Token Scope Around B) → Outcome Token Scope Around B
and_then (Ok end) q = q end.0 end.1
and_then (Err halt) q = Err halt

infixl 10 ◌>>=◌
abbrev pub ◌>>=◌ : {Token Scope Around A B : Type 0} → Reader Token Scope Around A →
    (A → Reader Token Scope Around B) → Reader Token Scope Around B
p >>= q = λ input. and_then (p input) q

-- ---- The next token

-- There is a first one, and it passes the test.
abbrev pub begins : {Token : Type 0} → (Token → Bool) → List Token → Bool
begins test [] = false
begins test (token ∷ tokens) = test token

-- The first of the tokens is taken, where there is room on its level.
abbrev pub take_first : {Token Scope Around A : Type 0} → (Token → A) → ℕ → List Token →
    Reader Token Scope Around A
take_first view room [] = refuse
take_first view zero (token ∷ tokens) = λ input. Err (too_deep input)
take_first view (suc room) (token ∷ tokens) = λ input.
    Ok (view token, record input { tokens = tokens })

abbrev pub take : {Token Scope Around A : Type 0} → (Token → A) → ℕ → Reader Token Scope Around A
take view room = λ input. take_first view room input.tokens input

module _ {Token Scope Around : Type 0} (terminal_of : Scope → Token → ℕ) where
  -- The next token has a terminal of the set.
  abbrev pub is_ahead : List ℕ → Input Token Scope Around → Bool
  is_ahead set input = begins (λ token. has set (terminal_of input.scope token)) input.tokens

  -- The one reader where the next token has a terminal of the set, and else the other.
  abbrev pub branch : {A : Type 0} → List ℕ → Reader Token Scope Around A →
      Reader Token Scope Around A → Reader Token Scope Around A
  branch set p q = λ input. if is_ahead set input then p input else q input

  -- The next token is taken, which is to have a terminal of the set.
  unfoldable pub expect : {A : Type 0} → List ℕ → (Token → A) → ℕ → Reader Token Scope Around A
  expect set view room input =
      if is_ahead set input then take view room input
      else Err (offends input)

  -- At most so many steps, each where the next token has a terminal of the set.
  unfoldable pub go_on : {S : Type 0} → List ℕ → (S → Reader Token Scope Around S) → ℕ → S →
      Reader Token Scope Around S
  go_on set step zero s input = Ok (s, input)
  go_on set step (suc turns) s input =
      if is_ahead set input then and_then (step s input) (go_on set step turns)
      else Ok (s, input)

  -- As many steps as there are.
  unfoldable pub many : {S : Type 0} → List ℕ → (S → Reader Token Scope Around S) → S →
      Reader Token Scope Around S
  many set step s input = go_on set step (length input.tokens) s input

-- ---- Turns

-- What a turn leads to.
abbrev pub after : {Token Scope Around S A : Type 0} → (S → Reader Token Scope Around A) →
    Turn S A → Reader Token Scope Around A
after next (Again s) = next s
after next (Done a) = pure a

-- At most so many turns, the last of which ends.
unfoldable pub turn_on : {Token Scope Around S A : Type 0} →
    (S → Reader Token Scope Around (Turn S A)) → ℕ → S → Reader Token Scope Around A
turn_on turn zero s input = Err (offends input)
turn_on turn (suc turns) s input = and_then (turn s input) (after (turn_on turn turns))

-- Turns up to one that ends. Each takes a token, so that there are no more than tokens.
unfoldable pub repeat : {Token Scope Around S A : Type 0} →
    (S → Reader Token Scope Around (Turn S A)) → S → Reader Token Scope Around A
repeat turn s input = turn_on turn (length input.tokens) s input
