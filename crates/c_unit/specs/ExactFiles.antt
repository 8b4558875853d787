-- What is read of a file is exact: its tree, the first offending token, or the first that is too
-- deep.

use Rattle.std.specs.Prelude.{ℕ, ◌≡◌, ◌<◌, List, [], ◌∷◌, ◌++◌, Ok, Err}
use Rattle.reading.specs.Languages.{Leveled, tokens_of}
use Rattle.reading.specs.Readers.{Outcome, offends, too_deep}
use Rattle.reading.specs.Exact.{HIGHEST_LEVEL, Family, AreShallow, AreLexemes, AreNoWord}
use Rattle.reading.specs.Exact.{IsLongest}

pub data IsExactFile {Token Scope Around A : Type 0} (IsLexeme : Token → Type 0) (around : Around)
    (X : Family Token (A × Scope)) (tokens : List Token) :
    Outcome Token Scope Around A → Type 0 where
  -- The tokens are a word.
  accepts : (word : List (Leveled Token)) (turns : ℕ) (a : A) (scope : Scope) →
      tokens ≡ tokens_of word → AreShallow word → X turns word (a, scope) →
      IsExactFile IsLexeme around X tokens
      (Ok (a, record { tokens = []; scope = scope; around = around }))
  -- The longest viable run is not all of the tokens, and the one behind it offends; or it is all of
  -- them and no word, and the end mark offends.
  refuses : (run more : List (Leveled Token)) (left : List Token) (turns : ℕ) (a : A × Scope)
      (scope : Scope) → tokens ≡ tokens_of run ++ left → AreShallow run →
      AreLexemes IsLexeme more → X turns (run ++ more) a → IsLongest X run left →
      (left ≡ [] → AreNoWord X (tokens_of run)) →
      IsExactFile IsLexeme around X tokens
      (Err (offends (record { tokens = left; scope = scope; around = around })))
  -- With the token behind the run it is viable too, and that token is the first that is too deep.
  is_too_deep : (run more : List (Leveled Token)) (token : Token) (level : ℕ) (left : List Token)
      (turns : ℕ) (a : A × Scope) (scope : Scope) → tokens ≡ tokens_of run ++ token ∷ left →
      AreShallow run → HIGHEST_LEVEL < level → AreLexemes IsLexeme more →
      X turns (run ++ (token, level) ∷ more) a →
      IsExactFile IsLexeme around X tokens
      (Err (too_deep (record { tokens = token ∷ left; scope = scope; around = around })))
