-- Languages: which words a part of a text may have, and what each of them means.

use Rattle.std.specs.Prelude.{ℕ, zero, suc, ◌≡◌, ◌⊎◌, List, [], ◌∷◌, ◌++◌}

-- A token with its nesting level.
abbrev pub Leveled : Type 0 → Type 0
Leveled Token = Token × ℕ

-- The words of a language, each with its value. A word may have several values, and so a language
-- may be ambiguous.
abbrev pub Language : Type 0 → Type 0 → Type 1
Language Token A = List (Leveled Token) → A → Type 0

-- The tokens of a word.
abbrev pub tokens_of : {Token : Type 0} → List (Leveled Token) → List Token
tokens_of [] = []
tokens_of (token ∷ word) = token.0 ∷ tokens_of word

-- The empty word, which has this value.
pub record IsEmpty {Token A : Type 0} (value : A) (word : List (Leveled Token))
    (a : A) : Type 0 where
  pub none : word ≡ []
  pub same : a ≡ value

-- A word of the one language and one of the other behind it, which may depend on the value.
pub record IsThen {Token A B : Type 0} (X : Language Token A) (Y : A → Language Token B)
    (word : List (Leveled Token)) (b : B) : Type 0 where
  pub front : List (Leveled Token)
  pub back : List (Leveled Token)
  pub value : A
  pub split : word ≡ front ++ back
  pub begin : X front value
  pub rest : Y value back b

abbrev pub no_word : {Token A : Type 0} → Language Token A
no_word = λ word a. ⊥

abbrev pub empty_word : {Token A : Type 0} → A → Language Token A
empty_word value = λ word a. IsEmpty value word a

abbrev pub sequence : {Token A B : Type 0} → Language Token A → (A → Language Token B) →
    Language Token B
sequence X Y = λ word b. IsThen X Y word b

abbrev pub either : {Token A : Type 0} → Language Token A → Language Token A → Language Token A
either X Y = λ word a. X word a ⊎ Y word a

-- At most so many steps, each from the value of the one before.
unfoldable pub steps : {Token S : Type 0} → ℕ → (S → Language Token S) → S → Language Token S
steps zero step s = empty_word s
steps (suc count) step s = either (sequence (step s) (steps count step)) (empty_word s)
