-- Two parts of which the next token does not say which one stands there: the one behind it says so,
-- or one part is what the other leaves.

use Rattle.std.specs.Prelude.{ℕ, ◌≡◌, Bool, false, if◌then◌else◌, List, [], ◌∷◌}
use Rattle.reading.specs.Terminals.{has}
use Rattle.reading.specs.Languages.{tokens_of}
use Rattle.reading.specs.Rules.{Rule}
use Rattle.reading.specs.Readers.{Input, Reader, begins, is_ahead}

-- There is a second one, and it passes the test.
abbrev pub begins_second : {Token : Type 0} → (Token → Bool) → List Token → Bool
begins_second test [] = false
begins_second test (token ∷ tokens) = begins test tokens

module _ {Token Scope : Type 0} (terminal_of : Scope → Token → ℕ) where
  -- The words of a rule that do not begin with a terminal of the set.
  abbrev pub without : {A : Type 0} → List ℕ → Rule Token Scope A → Rule Token Scope A
  without set X = λ scope word end. X scope word end ×
      (begins (λ token. has set (terminal_of scope token)) (tokens_of word) ≡ false)

  -- The token behind the next one has a terminal of the set.
  abbrev pub is_second : {Around : Type 0} → List ℕ → Input Token Scope Around → Bool
  is_second set input =
      begins_second (λ token. has set (terminal_of input.scope token)) input.tokens

  -- Where the next token has a terminal of `shared`, with which both parts begin, the one behind it
  -- decides, which is to be of `seconds` for the first part. Elsewhere the next token decides.
  abbrev pub by_second : {Around A : Type 0} → List ℕ → List ℕ → List ℕ →
      Reader Token Scope Around A → Reader Token Scope Around A → Reader Token Scope Around A
  by_second shared seconds others p q = λ input.
      if is_ahead terminal_of shared input then
      (if is_second seconds input then p input else q input)
      else (if is_ahead terminal_of others input then p input else q input)
