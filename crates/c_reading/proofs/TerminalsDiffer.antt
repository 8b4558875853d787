-- Kinds are told apart by their terminals.

use Rattle.std.proofs.Common.{◌≡◌, ℕ, Bool, true, false, ◌==◌, ◌||◌, ◌↔◌, IsTrue, List, [], ◌∷◌, Some, None, refl, sym, ap, arith, eqb-true, eq-eqb}
use Rattle.c_lexer.specs.declared.token.Kind.{Kind}
use Rattle.c_lexer.specs.declared.token.Kind.TheVariants.{Word, Key, Number, Char, Text, Mark, Line, Pragma}
use Rattle.c_lexer.specs.Lexemes.{Lexeme}
use Rattle.reading.specs.Readers.{is_ahead}
use Rattle.c_reading.specs.Terminals.{terminal, mark, key}
use Rattle.c_reading.specs.Cursors.{Place, first_kind, input_at, by_kind}

same_key : (a b : ℕ) → key a ≡ key b → Key a ≡ Key b
same_key a b e = let k : a ≡ b = omega arith in ap (λ n. Key n) k

same_mark : (a b : ℕ) → mark a ≡ mark b → Mark a ≡ Mark b
same_mark a b e = let k : a ≡ b = omega arith in ap (λ n. Mark n) k

pub same_kind : (a b : Kind) → terminal a ≡ terminal b → a ≡ b
same_kind Word Word e = refl
same_kind Number Number e = refl
same_kind Char Char e = refl
same_kind Text Text e = refl
same_kind Line Line e = refl
same_kind Pragma Pragma e = refl
same_kind (Key a) (Key b) e = same_key a b e
same_kind (Mark a) (Mark b) e = same_mark a b e
same_kind Word b e = absurd (omega arith)
same_kind a b e = absurd (omega arith)

-- ---- Whether a token of the kind is next

is_same : (a b : Kind) (r : Bool) → (IsTrue r ↔ (b ≡ a)) → (same : Bool) → (terminal a == terminal b) ≡ same → r ≡ (same || false)
is_same a b true h true e = refl
is_same a b false h true e = absurd (let k = h.1 (sym (same_kind a b (eqb-true _ _ e))) in cc)
is_same a b true h false e = absurd (let k = eq-eqb (terminal a) (terminal b) (ap terminal (sym (h.0 refl))) in cc)
is_same a b false h false e = refl

some_kind : (kind : Kind) (left : List Lexeme) → first_kind left ≡ Some kind → (lexeme : Lexeme) × (more : List Lexeme) × (left ≡ lexeme ∷ more) × (lexeme.kind ≡ kind)
some_kind kind [] h = absurd (cc)
some_kind kind (lexeme ∷ more) h = (lexeme, more, refl, cc)

no_kind : (left : List Lexeme) → first_kind left ≡ None → left ≡ []
no_kind [] h = refl
no_kind (lexeme ∷ more) h = absurd (cc)

pub at_kind : {Scope : Type 0} (kind next : Kind) (place : Place) (scope : Scope) (r : Bool) → (IsTrue r ↔ (next ≡ kind)) → first_kind place.left ≡ Some next →
    r ≡ is_ahead by_kind (terminal kind ∷ []) (input_at place scope)
unfolding input_at
at_kind kind next place scope r h e =
    let some = some_kind next place.left e in
    let same = is_same kind next r h (terminal kind == terminal next) refl in
    rw (some.2, some.3) same

pub at_end : {Scope : Type 0} (kind : Kind) (place : Place) (scope : Scope) → first_kind place.left ≡ None → false ≡ is_ahead by_kind (terminal kind ∷ []) (input_at place scope)
unfolding input_at
at_end kind place scope e = let none = no_kind place.left e in rw none refl
