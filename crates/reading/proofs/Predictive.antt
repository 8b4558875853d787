-- What a language needs so that one token of lookahead decides (LL(1)): whether it is nullable, its
-- first set, and its follow-last set, which are the tokens with which a longer word goes on behind a
-- shorter one (Krishnaswami and Yallop, "A typed, algebraic approach to parsing", 2019).

use Rattle.std.proofs.Common.{◌≡◌, ℕ, Bool, true, false, List, [], ◌∷◌, ◌++◌, refl, sym, ap, ◌∙◌, subst}
use Rattle.reading.specs.Terminals.{has}
use Rattle.reading.specs.Languages.{Leveled, Language, tokens_of, no_word, empty_word}
use Rattle.reading.specs.Rules.{one}
use Rattle.reading.proofs.Cutting.{head_is}

-- The second language is that of one more turn.
pub record IsPredictive {Token A : Type 0} (X X' : Language Token A) (null : Bool)
    (first : Token → Bool) (last : A → Token → Bool) : Type 0 where
  pub grows : (w : List (Leveled Token)) (a : A) → X w a → X' w a
  pub nullable : (a : A) → X [] a → null ≡ true
  pub begins : (s : Leveled Token) (w : List (Leveled Token)) (a : A) → X (s ∷ w) a → first s.0 ≡ true
  -- The tokens behind a word in a longer one depend on the word's value.
  pub follows : (v w : List (Leveled Token)) (t : Token) (u : List Token) (a b : A) →
      tokens_of w ≡ tokens_of v ++ t ∷ u → X v a → X w b → last a t ≡ true
  pub unambiguous : (v w : List (Leveled Token)) (a b : A) → tokens_of v ≡ tokens_of w →
      X v a → X w b → a ≡ b

pub predictive_empty : {Token A : Type 0} (a : A) →
    IsPredictive {Token = Token} (empty_word a) (empty_word a) true (λ c. false) (λ b c. false)
predictive_empty a = record {
  grows = λ w b x. x;
  nullable = λ b x. refl;
  begins = λ s w b x. absurd (let e : s ∷ w ≡ [] = x.none in cc);
  follows = λ v w t u b c e x y. absurd (let f : [] ≡ t ∷ u =
      ap tokens_of (sym y.none) ∙ e ∙ ap (λ z. tokens_of z ++ t ∷ u) x.none in cc);
  unambiguous = λ v w b c e x y. x.same ∙ sym y.same;
}

pub predictive_never : {Token A : Type 0} (X : Language Token A) (null : Bool)
    (first : Token → Bool) (last : A → Token → Bool) → IsPredictive no_word X null first last
predictive_never X null first last = record {
  grows = λ w b x. absurd x;
  nullable = λ b x. absurd x;
  begins = λ s w b x. absurd x;
  follows = λ v w t u b c e x y. absurd x;
  unambiguous = λ v w b c e x y. absurd x;
}

pub predictive_one : {Token Scope A : Type 0} (terminal_of : Scope → Token → ℕ) (set : List ℕ)
    (view : Token → A) (level : ℕ) (scope : Scope) →
    IsPredictive (one terminal_of set view level scope) (one terminal_of set view level scope) false
    (λ t. has set (terminal_of scope t)) (λ b c. false)
predictive_one {Token} {Scope} {A} terminal_of set view level scope = record {
  grows = λ w b x. x;
  nullable = λ b x. absurd (let e : [] ≡ (x.token, level) ∷ [] = x.is in cc);
  begins = λ s w b x. let e : s ≡ (x.token, level) = (let f : s ∷ w ≡ (x.token, level) ∷ [] = x.is in cc) in
      subst (λ z. has set (terminal_of scope z.0) ≡ true) (sym e) x.fits;
  follows = λ v w t u b c e x y. absurd (let f : y.token ∷ [] ≡ x.token ∷ t ∷ u =
      ap tokens_of (sym y.is) ∙ e ∙ ap (λ z. tokens_of z ++ t ∷ u) x.is in cc);
  unambiguous = λ v w b c e x y. let f : x.token ∷ [] ≡ y.token ∷ [] =
      ap tokens_of (sym x.is) ∙ e ∙ ap tokens_of y.is in
      x.value ∙ ap (λ (t : Token). (view t, scope)) (head_is f) ∙ sym y.value;
}

-- The same with fewer facts.
pub predictive_weaker : {Token A : Type 0} {X X' X'' : Language Token A} {null null' : Bool}
    {first first' : Token → Bool} {last last' : A → Token → Bool} →
    IsPredictive X X' null first last →
    ((w : List (Leveled Token)) (a : A) → X' w a → X'' w a) → (null ≡ true → null' ≡ true) →
    ((t : Token) → first t ≡ true → first' t ≡ true) →
    ((a : A) (t : Token) → last a t ≡ true → last' a t ≡ true) →
    IsPredictive X X'' null' first' last'
predictive_weaker p up nulls firsts lasts = record {
  grows = λ w a x. up w a (p.grows w a x);
  nullable = λ a x. nulls (p.nullable a x);
  begins = λ s w a x. firsts _ (p.begins s w a x);
  follows = λ v w t u a b e x y. lasts a _ (p.follows v w t u a b e x y);
  unambiguous = p.unambiguous;
}

-- The first token of a word is in the first set.
pub head_fits : {Token A : Type 0} {X X' : Language Token A} {null : Bool} {first : Token → Bool}
    {last : A → Token → Bool} → IsPredictive X X' null first last → (w : List (Leveled Token)) (a : A)
    (t : Token) (r : List Token) → tokens_of w ≡ t ∷ r → X w a → first t ≡ true
head_fits p [] a t r e x = absurd (cc)
head_fits {first = first} p (s ∷ w) a t r e x =
    subst (λ z. first z ≡ true) (head_is e) (p.begins s w a x)
