-- When what a reader gives is exact: the longest viable run of tokens, the first offending token,
-- or the first one that is too deep.

use Rattle.std.specs.Prelude.{ℕ, ◌≡◌, ◌<◌, ◌≤◌, ◌+◌, ◌-◌, List, [], ◌∷◌, ◌++◌, Ok, Err}
use Rattle.reading.specs.Languages.{Leveled, Language, tokens_of}
use Rattle.reading.specs.Readers.{Outcome, offends, too_deep}

-- The highest level that a token may have.
abbrev pub HIGHEST_LEVEL : ℕ
HIGHEST_LEVEL = 256

-- Each token of the word has the property.
abbrev pub Each : {Token : Type 0} → (Leveled Token → Type 0) → List (Leveled Token) → Type 0
Each P [] = Prim.Unit {0}
Each P (token ∷ word) = P token × Each P word

-- No token of the word has too high a level.
abbrev pub AreShallow : {Token : Type 0} → List (Leveled Token) → Type 0
AreShallow word = Each (λ token. token.1 ≤ HIGHEST_LEVEL) word

-- A language for each number of turns that its loops and its nesting may take. A word of it is one
-- for some number of turns.
abbrev pub Family : Type 0 → Type 0 → Type 1
Family Token A = ℕ → Language Token A

-- No word has these tokens, on whatever levels.
abbrev pub AreNoWord : {Token A : Type 0} → Family Token A → List Token → Type 0
AreNoWord {Token} {A} X tokens =
    (turns : ℕ) (word : List (Leveled Token)) (a : A) → tokens_of word ≡ tokens → ¬ X turns word a

-- The run is the longest: with the first token that is left it begins no word.
abbrev pub IsLongest : {Token A : Type 0} → Family Token A → List (Leveled Token) → List Token →
    Type 0
IsLongest {Token} X run left = (token : Token) (others more : List Token) →
    left ≡ token ∷ others → AreNoWord X (tokens_of run ++ token ∷ more)

-- The tokens of a completion, which are not read, are such as a text may have.
abbrev pub AreLexemes : {Token : Type 0} → (Token → Type 0) → List (Leveled Token) → Type 0
AreLexemes IsLexeme word = Each (λ token. IsLexeme token.0) word

-- What is read of the tokens is exact. A run of them is taken that is a viable prefix, on levels
-- that are not too high, and `more` completes it.
pub data IsExact {Token Scope Around A : Type 0} (IsLexeme : Token → Type 0) (around : Around)
    (X : Family Token (A × Scope)) (tokens : List Token) :
    Outcome Token Scope Around A → Type 0 where
  -- The longest viable run is a word, and is read.
  reads : (run : List (Leveled Token)) (left : List Token) (turns : ℕ) (a : A) (scope : Scope) →
      tokens ≡ tokens_of run ++ left → AreShallow run → X turns run (a, scope) →
      IsLongest X run left →
      IsExact IsLexeme around X tokens
      (Ok (a, record { tokens = left; scope = scope; around = around }))
  -- The longest viable run is no word: the token behind it offends, or the end of the tokens.
  refuses : (run more : List (Leveled Token)) (left : List Token) (turns : ℕ) (a : A × Scope)
      (scope : Scope) → tokens ≡ tokens_of run ++ left → AreShallow run →
      AreLexemes IsLexeme more → X turns (run ++ more) a → IsLongest X run left →
      AreNoWord X (tokens_of run) →
      IsExact IsLexeme around X tokens
      (Err (offends (record { tokens = left; scope = scope; around = around })))
  -- With the token behind the run it is viable too, and that token is the first that is too deep.
  is_too_deep : (run more : List (Leveled Token)) (token : Token) (level : ℕ) (left : List Token)
      (turns : ℕ) (a : A × Scope) (scope : Scope) → tokens ≡ tokens_of run ++ token ∷ left →
      AreShallow run → HIGHEST_LEVEL < level → AreLexemes IsLexeme more →
      X turns (run ++ (token, level) ∷ more) a →
      IsExact IsLexeme around X tokens
      (Err (too_deep (record { tokens = token ∷ left; scope = scope; around = around })))

-- How many levels are left from this one on: none where a token on it is too deep.
abbrev pub room_on : ℕ → ℕ
room_on level = HIGHEST_LEVEL + 1 - level
