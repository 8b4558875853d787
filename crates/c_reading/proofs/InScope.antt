-- What is read apart from names is read so in each scope.

use Rattle.std.proofs.Common.{◌≡◌, ℕ, zero, suc, Bool, true, false, if◌then◌else◌, List, [], ◌∷◌, Result, Ok, Err, refl, sym, ap, subst}
use Rattle.c_lexer.specs.declared.token.Kind.{Kind}
use Rattle.c_lexer.specs.declared.token.Kind.TheVariants.{Word, Key, Number, Char, Text, Mark, Line, Pragma}
use Rattle.reading.specs.Terminals.{has}
use Rattle.reading.specs.Readers.{Input, Outcome, begins, is_ahead, take, take_first, expect, offends, too_deep}
use Rattle.c_reading.specs.declared.stop.Stop.{Stop}
use Rattle.c_reading.specs.declared.stop.Stop.TheVariants as stop
use Rattle.c_reading.specs.Terminals.{WORD, TYPEDEF_NAME, terminal, word_terminal, terminal_where}
use Rattle.c_reading.specs.Kept.{KeptToken, numbered}
use Rattle.c_reading.specs.Cursors.{Place, Around, input_at, input_of, by_kind, terminal_in}
use Rattle.c_reading.specs.Reads.{Reads}

-- ---- Terminals

either_word : (set : List ℕ) → has set WORD ≡ has set TYPEDEF_NAME → (b : Bool) → has set (word_terminal b) ≡ has set WORD
either_word set e true = sym e
either_word set e false = refl

-- A set that has all words or none is the same in each scope.
pub same_terminals : {Scope : Type 0} (is_typedef : Scope → List ℕ → Bool) (set : List ℕ) → has set WORD ≡ has set TYPEDEF_NAME → (scope : Scope) (token : KeptToken) →
    has set (terminal_in is_typedef scope token) ≡ has set (terminal token.lexeme.kind)
unfolding terminal_in
same_terminals is_typedef set e scope token = of_kind token.lexeme.kind
  where
    of_kind : (kind : Kind) → has set (terminal_where (is_typedef scope) kind token.lexeme.spelling) ≡ has set (terminal kind)
    of_kind Word = either_word set e (is_typedef scope token.lexeme.spelling)
    of_kind (Key number) = refl
    of_kind Number = refl
    of_kind Char = refl
    of_kind Text = refl
    of_kind (Mark number) = refl
    of_kind Line = refl
    of_kind Pragma = refl

-- ---- Steps of readers

same_begins : (test test' : KeptToken → Bool) → ((token : KeptToken) → test' token ≡ test token) → (tokens : List KeptToken) → begins test tokens ≡ begins test' tokens
same_begins test test' same [] = refl
same_begins test test' same (token ∷ tokens) = sym (same token)

module _ {Scope : Type 0} (terminal_of : Scope → KeptToken → ℕ) (set set' : List ℕ) (scope : Scope)
    (same : (token : KeptToken) → has set (terminal_of scope token) ≡ has set' (terminal token.lexeme.kind)) where
  pub ahead_in_scope : (place : Place) → is_ahead by_kind set' (input_of place) ≡ is_ahead terminal_of set (input_at place scope)
  unfolding input_at
  ahead_in_scope place =
      same_begins (λ token. has set' (terminal token.lexeme.kind)) (λ token. has set (terminal_of scope token)) same (numbered place.at place.left)

-- The same input in another scope, and an outcome with it.
abbrev rescope : {Scope : Type 0} → Scope → Input KeptToken (Prim.Unit {0}) Around → Input KeptToken Scope Around
rescope scope input = record { tokens = input.tokens; scope = scope; around = input.around }

abbrev rescoped : {Scope A : Type 0} → Scope → Outcome KeptToken (Prim.Unit {0}) Around A → Outcome KeptToken Scope Around A
rescoped scope (Ok end) = Ok (end.0, rescope scope end.1)
rescoped scope (Err (offends input)) = Err (offends (rescope scope input))
rescoped scope (Err (too_deep input)) = Err (too_deep (rescope scope input))

reads_rescoped : {Scope A : Type 0} (scope : Scope) (outcome : Outcome KeptToken (Prim.Unit {0}) Around A) (result : Result A Stop) (new : Place) →
    Reads outcome result (input_of new) → Reads (rescoped scope outcome) result (input_at new scope)
unfolding input_at
reads_rescoped scope outcome (Ok a) new h = ap (rescoped scope) h
reads_rescoped scope outcome (Err (stop.Offends token)) new h = (rescope scope h.0, ap (rescoped scope) h.1, h.2)
reads_rescoped scope outcome (Err (stop.TooDeep token)) new h = (rescope scope h.0, ap (rescoped scope) h.1, h.2)
reads_rescoped scope outcome (Err stop.Memory) new h = tt

module _ {Scope A : Type 0} (scope : Scope) (view : KeptToken → A) where
  take_first_in_scope : (room : ℕ) (tokens : List KeptToken) (input : Input KeptToken (Prim.Unit {0}) Around) →
      take_first view room tokens (rescope scope input) ≡ rescoped scope (take_first view room tokens input)
  take_first_in_scope room [] input = refl
  take_first_in_scope zero (token ∷ tokens) input = refl
  take_first_in_scope (suc room) (token ∷ tokens) input = refl

  take_in_scope : (room : ℕ) (place : Place) → take view room (input_at place scope) ≡ rescoped scope (take view room (input_of place))
  unfolding input_at
  take_in_scope room place = take_first_in_scope room (numbered place.at place.left) (input_of place)

  -- A token is taken in each scope as where no names are looked up.
  pub reads_take : (room : ℕ) (old new : Place) (result : Result A Stop) → Reads (take view room (input_of old)) result (input_of new) →
      Reads (take view room (input_at old scope)) result (input_at new scope)
  reads_take room old new result h =
      subst (λ o. Reads o result (input_at new scope)) (sym (take_in_scope room old)) (reads_rescoped scope (take view room (input_of old)) result new h)

  refused_in_scope : (place : Place) → ◌≡◌ {A = Outcome KeptToken Scope Around A} (Err (offends (input_at place scope))) (rescoped scope (Err (offends (input_of place))))
  unfolding input_at
  refused_in_scope place = refl

  module _ (terminal_of : Scope → KeptToken → ℕ) (set set' : List ℕ) (same : (token : KeptToken) → has set (terminal_of scope token) ≡ has set' (terminal token.lexeme.kind)) where
    chosen : (room : ℕ) (place : Place) (b : Bool) →
        (if b then take view room (input_at place scope) else Err (offends (input_at place scope)))
        ≡ rescoped scope (if b then take view room (input_of place) else Err (offends (input_of place)))
    chosen room place true = take_in_scope room place
    chosen room place false = refused_in_scope place

    expect_in_scope : (room : ℕ) (place : Place) → expect terminal_of set view room (input_at place scope) ≡ rescoped scope (expect by_kind set' view room (input_of place))
    unfolding expect
    expect_in_scope room place =
        let e = ahead_in_scope terminal_of set set' scope same place in
        subst (λ b. (if b then take view room (input_at place scope) else Err (offends (input_at place scope))) ≡ rescoped scope (expect by_kind set' view room (input_of place))) e
        (chosen room place (is_ahead by_kind set' (input_of place)))

    -- A token of a set is expected in each scope as where no names are looked up.
    pub reads_expect : (room : ℕ) (old new : Place) (result : Result A Stop) → Reads (expect by_kind set' view room (input_of old)) result (input_of new) →
        Reads (expect terminal_of set view room (input_at old scope)) result (input_at new scope)
    reads_expect room old new result h =
        subst (λ o. Reads o result (input_at new scope)) (sym (expect_in_scope room old)) (reads_rescoped scope (expect by_kind set' view room (input_of old)) result new h)
