-- Words that a family has.

use Rattle.std.proofs.Common.{◌≡◌, ℕ, ◌≤◌, List, [], ◌∷◌, ◌++◌, arith}
use Rattle.reading.specs.Languages.{Leveled, tokens_of}
use Rattle.reading.specs.Exact.{Each, AreLexemes, Family}

-- A word whose tokens a text may have.
pub record Word {Token A : Type 0} (IsLexeme : Token → Type 0) (X : Family Token A) : Type 0 where
  pub word : List (Leveled Token)
  pub value : A
  pub turns : ℕ
  pub lexemes : AreLexemes IsLexeme word
  pub is : X turns word value

-- Such a word, for each large number of turns.
pub record Some {Token A : Type 0} (IsLexeme : Token → Type 0) (X : Family Token A) : Type 0 where
  pub word : List (Leveled Token)
  pub value : A
  pub turns : ℕ
  pub lexemes : AreLexemes IsLexeme word
  pub is : (more : ℕ) → turns ≤ more → X more word value

-- That the empty word is one.
pub record Empty {Token A : Type 0} (X : Family Token A) : Type 0 where
  pub value : A
  pub turns : ℕ
  pub is : X turns [] value

-- A word that begins with the token.
pub record Ready {Token A : Type 0} (X : Family Token A) (token : Token) : Type 0 where
  pub word : List (Leveled Token)
  pub value : A
  pub turns : ℕ
  pub rest : List Token
  pub begins : tokens_of word ≡ token ∷ rest
  pub is : X turns word value

module _ {Token A : Type 0} {IsLexeme : Token → Type 0} {X : Family Token A} where
  pub word_of : Some IsLexeme X → Word IsLexeme X
  word_of s = record { word = s.word; value = s.value; turns = s.turns; lexemes = s.lexemes; is = s.is s.turns (omega arith) }

  pub same_word : {Y : Family Token A} → ((d : ℕ) (w : List (Leveled Token)) (a : A) → X d w a → Y d w a) → Some IsLexeme X → Some IsLexeme Y
  same_word up s = record { word = s.word; value = s.value; turns = s.turns; lexemes = s.lexemes; is = λ e h. up e s.word s.value (s.is e h) }

-- A word that begins with the token is one of a larger family.
pub ready_in : {Token A : Type 0} {X Y : Family Token A} {token : Token} → ((d : ℕ) (w : List (Leveled Token)) (a : A) → X d w a → Y d w a) → Ready X token → Ready Y token
ready_in up r = record { word = r.word; value = r.value; turns = r.turns; rest = r.rest; begins = r.begins; is = up r.turns r.word r.value r.is }

pub each_append : {Token : Type 0} (P : Leveled Token → Type 0) (v w : List (Leveled Token)) → Each P v → Each P w → Each P (v ++ w)
each_append P [] w h k = k
each_append P (s ∷ v) w h k = (h.0, each_append P v w h.1 k)
