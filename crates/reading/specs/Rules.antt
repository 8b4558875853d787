-- Rules of a grammar whose words may declare names: in each scope a language, whose words have a
-- value and the scope behind them.

use Rattle.std.specs.Prelude.{ℕ, zero, suc, ◌≡◌, true, List, [], ◌∷◌}
use Rattle.reading.specs.declared.turn.Turn.{Turn}
use Rattle.reading.specs.declared.turn.Turn.TheVariants.{Again, Done}
use Rattle.reading.specs.Terminals.{has}
use Rattle.reading.specs.Languages.{Leveled, Language, no_word, empty_word, sequence, either, steps}

abbrev pub Rule : Type 0 → Type 0 → Type 0 → Type 1
Rule Token Scope A = Scope → Language Token (A × Scope)

-- The empty word, which has this value and leaves the scope as it is.
abbrev pub pure : {Token Scope A : Type 0} → A → Rule Token Scope A
pure value = λ scope. empty_word (value, scope)

-- The empty word, behind which the scope is another one, as where a name was declared.
abbrev pub changes : {Token Scope A : Type 0} → (Scope → Scope) → A → Rule Token Scope A
changes f value = λ scope. empty_word (value, f scope)

-- One part after the other, in the scope behind it.
infixl 10 ◌>>=◌
abbrev pub ◌>>=◌ : {Token Scope A B : Type 0} → Rule Token Scope A → (A → Rule Token Scope B) →
    Rule Token Scope B
X >>= Y = λ scope. sequence (X scope) (λ end. Y end.0 end.1)

-- One part or the other.
infixr 9 ◌or◌
abbrev pub ◌or◌ : {Token Scope A : Type 0} → Rule Token Scope A → Rule Token Scope A →
    Rule Token Scope A
X or Y = λ scope. either (X scope) (Y scope)

-- One token with a terminal of the set, on the level. What is seen of it is the value.
pub record IsOne {Token Scope A : Type 0} (terminal_of : Scope → Token → ℕ) (set : List ℕ)
    (view : Token → A) (level : ℕ) (scope : Scope) (word : List (Leveled Token))
    (end : A × Scope) : Type 0 where
  pub token : Token
  pub is : word ≡ (token, level) ∷ []
  pub fits : has set (terminal_of scope token) ≡ true
  pub value : end ≡ (view token, scope)

abbrev pub one : {Token Scope A : Type 0} → (Scope → Token → ℕ) → List ℕ → (Token → A) → ℕ →
    Rule Token Scope A
one terminal_of set view level = λ scope word end. IsOne terminal_of set view level scope word end

-- At most so many steps, each from the value of the one before.
abbrev pub many : {Token Scope S : Type 0} → ℕ → (S → Rule Token Scope S) → S → Rule Token Scope S
many turns step s = λ scope. steps turns (λ end. step end.0 end.1) (s, scope)

-- What a turn leads to.
abbrev pub after : {Token Scope S A : Type 0} → (S → Rule Token Scope A) → Turn S A →
    Rule Token Scope A
after next (Again s) = next s
after next (Done a) = pure a

-- At most so many turns, the last of which ends.
unfoldable pub repeat : {Token Scope S A : Type 0} → ℕ → (S → Rule Token Scope (Turn S A)) → S →
    Rule Token Scope A
repeat zero turn s = λ scope. no_word
repeat (suc turns) turn s = turn s >>= after (repeat turns turn)
