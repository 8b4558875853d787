-- One token is read exactly.

use Rattle.std.proofs.Common.{◌≡◌, ℕ, zero, suc, ◌-◌, ◌<◌, ◌≤◌, Bool, true, false, if◌then◌else◌, List, [], ◌∷◌, Err, refl, sym, ap, ◌∙◌, subst, arith}
use Rattle.reading.specs.Terminals.{has}
use Rattle.reading.specs.Languages.{Leveled, tokens_of}
use Rattle.reading.specs.Rules.{IsOne, one}
use Rattle.reading.specs.Readers.{expect, take_first, offends}
use Rattle.reading.specs.Exact.{HIGHEST_LEVEL, AreShallow, room_on, IsExact, reads, refuses, is_too_deep}
use Rattle.reading.proofs.Sets.{never}
use Rattle.reading.proofs.Cutting.{head_is}
use Rattle.reading.proofs.Predictive.{predictive_one}
use Rattle.reading.proofs.ReadBy.{Stage, IsWhole, IsReadBy, no}

-- A token that a text may have, with a terminal of the set.
pub record Sample {Token Scope : Type 0} (terminal_of : Scope → Token → ℕ) (IsLexeme : Token → Type 0) (set : List ℕ) (scope : Scope) : Type 0 where
  pub token : Token
  pub lexeme : IsLexeme token
  pub fits : has set (terminal_of scope token) ≡ true

-- In the whole there is as much room as levels are left.
pub record HasRoom (stage : Stage) (level room : ℕ) : Type 0 where
  pub is : IsWhole stage → room ≡ room_on level

-- There is one level less where a bracket is open.
pub room_inside : {stage : Stage} {level room : ℕ} → HasRoom stage level room → HasRoom stage (suc level) (room - 1)
room_inside h = record { is = λ s. let e = h.is s in omega arith }

module _ {Token Scope A : Type 0} (terminal_of : Scope → Token → ℕ) (set : List ℕ) (view : Token → A) (level : ℕ) where
  the_one : (scope : Scope) (t : Token) → has set (terminal_of scope t) ≡ true → IsOne terminal_of set view level scope ((t, level) ∷ []) (view t, scope)
  the_one scope t h = record { token = t; is = refl; fits = h; value = refl }

  none_begins : (scope : Scope) (t : Token) (us : List Token) (w : List (Leveled Token)) (b : A × Scope) → has set (terminal_of scope t) ≡ false →
      tokens_of w ≡ t ∷ us → IsOne terminal_of set view level scope w b → ⊥
  none_begins scope t us w b h e x =
      let f : x.token ∷ [] ≡ t ∷ us = ap tokens_of (sym x.is) ∙ e in
      let k : has set (terminal_of scope x.token) ≡ false = subst (λ z. has set (terminal_of scope z) ≡ false) (sym (head_is f)) h in
      never (sym k ∙ x.fits)

  none_empty : (scope : Scope) (w : List (Leveled Token)) (b : A × Scope) → tokens_of w ≡ [] → IsOne terminal_of set view level scope w b → ⊥
  none_empty scope w b e x = absurd (let f : x.token ∷ [] ≡ [] = ap tokens_of (sym x.is) ∙ e in cc)

  module _ {Around : Type 0} (IsLexeme : Token → Type 0) (stage : Stage) (room : ℕ) (fits : HasRoom stage level room) where
    -- A token that may stand there is taken, or is too deep.
    pub taken : IsWhole stage → (around : Around) (scope : Scope) (n : ℕ) → room ≡ n → (t : Token) (ts : List Token) → has set (terminal_of scope t) ≡ true →
        IsExact IsLexeme around (λ d. one terminal_of set view level scope) (t ∷ ts)
        (take_first view n (t ∷ ts) (record { tokens = t ∷ ts; scope = scope; around = around }))
    taken s around scope zero e t ts h =
        is_too_deep [] [] t level ts 0 (view t, scope) scope refl tt (let k = fits.is s in omega arith) tt (the_one scope t h)
    taken s around scope (suc n) e t ts h =
        reads ((t, level) ∷ []) ts 0 (view t) scope refl (let k = fits.is s in (omega arith, tt)) (the_one scope t h)
        (λ s us more k d w b g x. absurd (let f : x.token ∷ [] ≡ t ∷ s ∷ more = ap tokens_of (sym x.is) ∙ g in cc))

    module _ (sample : (scope : Scope) → Sample terminal_of IsLexeme set scope) where
      at_token : IsWhole stage → (around : Around) (scope : Scope) (t : Token) (ts : List Token) (b : Bool) → has set (terminal_of scope t) ≡ b →
          IsExact IsLexeme around (λ d. one terminal_of set view level scope) (t ∷ ts)
          (if b then take_first view room (t ∷ ts) (record { tokens = t ∷ ts; scope = scope; around = around })
          else Err (offends (record { tokens = t ∷ ts; scope = scope; around = around })))
      at_token s around scope t ts true h = taken s around scope room refl t ts h
      at_token s around scope t ts false h =
          let k = sample scope in
          refuses [] ((k.token, level) ∷ []) (t ∷ ts) 0 (view k.token, scope) scope refl tt (k.lexeme, tt) (the_one scope k.token k.fits)
          (λ s us more l d w b g x. let e : t ≡ s = cc in none_begins scope t more w b h (g ∙ ap (λ z. z ∷ more) (sym e)) x)
          (λ d w b g x. none_empty scope w b g x)

      one_exact : IsWhole stage → (around : Around) (scope : Scope) (ts : List Token) →
          IsExact IsLexeme around (λ d. one terminal_of set view level scope) ts
          (expect terminal_of set view room (record { tokens = ts; scope = scope; around = around }))
      unfolding expect
      one_exact s around scope [] =
          let k = sample scope in
          refuses [] ((k.token, level) ∷ []) [] 0 (view k.token, scope) scope refl tt (k.lexeme, tt) (the_one scope k.token k.fits)
          (λ s us more l d w b g x. absurd (cc)) (λ d w b g x. none_empty scope w b g x)
      one_exact s around scope (t ∷ ts) = at_token s around scope t ts (has set (terminal_of scope t)) refl

-- What follows a token may rest on there being room for it.
pub one_guard : {Token Scope A : Type 0} {terminal_of : Scope → Token → ℕ} {set : List ℕ} {view : Token → A} {level room : ℕ} {stage : Stage} →
    HasRoom stage level room → IsWhole stage → (scope : Scope) (run : List (Leveled Token)) (b : A × Scope) →
    IsOne terminal_of set view level scope run b → AreShallow run → 0 < room
one_guard {level = level} fits s scope run b x sh =
    let h : AreShallow ((x.token, level) ∷ []) = subst AreShallow x.is sh in
    let e = fits.is s in let l : level ≤ HIGHEST_LEVEL = h.0 in omega arith

module _ {Token Scope Around A : Type 0} {terminal_of : Scope → Token → ℕ} {IsLexeme : Token → Type 0} {stage : Stage} {set : List ℕ}
    {view : Token → A} {level room : ℕ} (fits : HasRoom stage level room) (sample : (scope : Scope) → Sample terminal_of IsLexeme set scope) where
  pub read_one : {given : Type 0} → IsReadBy {Around = Around} terminal_of IsLexeme stage given (λ d. one terminal_of set view level) (expect terminal_of set view room) no set (λ b. [])
  read_one = record {
    predictive = λ d h scope. predictive_one terminal_of set view level scope;
    keeps = λ d h scope end x. tt;
    some = λ scope. let k = sample scope in record {
      word = (k.token, level) ∷ [];
      value = (view k.token, scope);
      turns = 0;
      lexemes = (k.lexeme, tt);
      is = λ e h. the_one terminal_of set view level scope k.token k.fits;
    };
    exact = λ s g around scope ts. one_exact terminal_of set view level IsLexeme stage room fits sample s around scope ts;
    ready = λ s g scope t h. record {
      word = (t, level) ∷ [];
      value = (view t, scope);
      turns = 0;
      rest = [];
      begins = refl;
      is = the_one terminal_of set view level scope t h;
    };
    empty = λ s g e scope. never e;
  }
