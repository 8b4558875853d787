-- What the code sees of the next token is what readers ask of it.

use Rattle.std.proofs.Common.{◌≡◌, ℕ, ◌+◌, ◌*◌, ◌<◌, Bool, true, false, not, ◌==◌, ◌||◌, IsTrue, ◌↔◌, List, [], ◌∷◌, ◌++◌, Some, None, refl, sym, ap, ◌∙◌, subst, arith, eqb-true}
use Rattle.std.proofs.lemmas.Bool.{ne_eqb}
use Rattle.c_lexer.specs.declared.token.Kind.{Kind}
use Rattle.c_lexer.specs.declared.token.Kind.TheVariants.{Word, Key, Number, Char, Text, Mark, Line, Pragma}
use Rattle.c_lexer.specs.Lexemes.{Lexeme}
use Rattle.c_scopes.specs.Scopes.{OpenScopes, IsTypedefName}
use Rattle.reading.specs.Terminals.{has}
use Rattle.reading.specs.Readers.{begins, is_ahead}
use Rattle.c_reading.specs.Terminals.{WORD, TYPEDEF_NAME, terminal, terminal_where, word_terminal, mark, key}
use Rattle.c_reading.specs.Kept.{KeptToken, numbered}
use Rattle.c_reading.specs.Cursors.{Place, input_at, input_of, by_kind, first_kind, first_spelling, terminal_in}
use Rattle.c_reading.proofs.InScope.{ahead_in_scope, same_terminals}
use Rattle.c_syntax.specs.Scoping.{is_typedef_name, terminal_of}
use Rattle.c_syntax.specs.Sets.{a_name, any_name, a_typedef_name, a_type_word, a_type}
use Rattle.c_syntax.proofs.Typedefs.{is_typedef_name_says}

-- ---- Sets without names

abbrev OfKind : List ℕ → KeptToken → Bool
OfKind set token = has set (terminal token.lexeme.kind)

kind_at : (set : List ℕ) (at : ℕ) (left : List Lexeme) (kind : Kind) → first_kind left ≡ Some kind → has set (terminal kind) ≡ begins (OfKind set) (numbered at left)
kind_at set at [] kind e = absurd (cc)
kind_at set at (lexeme ∷ left) kind e = ap (λ (k : Kind). has set (terminal k)) (let f : kind ≡ lexeme.kind = cc in f)

none_at : (set : List ℕ) (at : ℕ) (left : List Lexeme) → first_kind left ≡ None → false ≡ begins (OfKind set) (numbered at left)
none_at set at [] e = refl
none_at set at (lexeme ∷ left) e = absurd (cc)

module _ (set : List ℕ) (alike : has set WORD ≡ has set TYPEDEF_NAME) (place : Place) (scopes : OpenScopes) where
  -- The next token has this kind.
  pub kind_ahead : (kind : Kind) → first_kind place.left ≡ Some kind → has set (terminal kind) ≡ is_ahead terminal_of set (input_at place scopes)
  unfolding input_at
  kind_ahead kind e = kind_at set place.at place.left kind e ∙ ahead_in_scope terminal_of set set scopes (same_terminals is_typedef_name set alike scopes) place

  -- There is none.
  pub nothing_ahead : first_kind place.left ≡ None → false ≡ is_ahead terminal_of set (input_at place scopes)
  unfolding input_at
  nothing_ahead e = none_at set place.at place.left e ∙ ahead_in_scope terminal_of set set scopes (same_terminals is_typedef_name set alike scopes) place

  -- It is asked apart from names.
  pub same_ahead : is_ahead by_kind set (input_of place) ≡ is_ahead terminal_of set (input_at place scopes)
  same_ahead = ahead_in_scope terminal_of set set scopes (same_terminals is_typedef_name set alike scopes) place

-- A mark is no word, and a keyword is none.
pub no_words : (n : ℕ) → 1 < n → has (n ∷ []) WORD ≡ has (n ∷ []) TYPEDEF_NAME
no_words n h = rw (ne_eqb n WORD (λ e. omega arith), ne_eqb n TYPEDEF_NAME (λ e. omega arith)) refl

pub mark_ahead : (n : ℕ) (place : Place) (scopes : OpenScopes) → is_ahead by_kind (mark n ∷ []) (input_of place) ≡ is_ahead terminal_of (mark n ∷ []) (input_at place scopes)
mark_ahead n place scopes = same_ahead (mark n ∷ []) (no_words (mark n) (omega arith)) place scopes

pub key_ahead : (n : ℕ) (place : Place) (scopes : OpenScopes) → is_ahead by_kind (key n ∷ []) (input_of place) ≡ is_ahead terminal_of (key n ∷ []) (input_at place scopes)
key_ahead n place scopes = same_ahead (key n ∷ []) (no_words (key n) (omega arith)) place scopes

-- ---- Names

no_name : (n : ℕ) → 1 < n → has any_name n ≡ has a_name n
no_name n h = rw (ne_eqb WORD n (λ e. omega arith), ne_eqb TYPEDEF_NAME n (λ e. omega arith)) refl

any_by_kind : (kind : Kind) → has any_name (terminal kind) ≡ has a_name (terminal kind)
any_by_kind Word = refl
any_by_kind (Key n) = no_name (key n) (omega arith)
any_by_kind Number = refl
any_by_kind Char = refl
any_by_kind Text = refl
any_by_kind (Mark n) = no_name (mark n) (omega arith)
any_by_kind Line = refl
any_by_kind Pragma = refl

pub any_name_ahead : (place : Place) (scopes : OpenScopes) → is_ahead by_kind a_name (input_of place) ≡ is_ahead terminal_of any_name (input_at place scopes)
any_name_ahead place scopes =
    ahead_in_scope terminal_of any_name a_name scopes (λ token. same_terminals is_typedef_name any_name refl scopes token ∙ any_by_kind token.lexeme.kind) place

abbrev InScope : List ℕ → OpenScopes → KeptToken → Bool
InScope set scopes token = has set (terminal_of scopes token)

-- Where it is told whether a word is a typedef name, its terminal is known.
word_at : (set : List ℕ) (at : ℕ) (left : List Lexeme) (scopes : OpenScopes) (r : Bool) → (IsTrue r ↔ IsTypedefName scopes (first_spelling left)) →
    true ≡ begins (OfKind a_name) (numbered at left) → has set (word_terminal r) ≡ begins (InScope set scopes) (numbered at left)
unfolding terminal_in
word_at set at [] scopes r h e = absurd (let f : true ≡ false = e in cc)
word_at set at (lexeme ∷ left) scopes r h e = of_kind lexeme.kind e
  where
    told : (b : Bool) → is_typedef_name scopes lexeme.spelling ≡ b → r ≡ b
    told true f = h.1 ((is_typedef_name_says scopes lexeme.spelling).0 f)
    told false f = not_true r (λ g. let k = (is_typedef_name_says scopes lexeme.spelling).1 (h.0 g) in let m : true ≡ false = sym k ∙ f in cc)
      where
        not_true : (b : Bool) → (b ≡ true → ⊥) → b ≡ false
        not_true true k = absurd (k refl)
        not_true false k = refl

    of_kind : (kind : Kind) → true ≡ has a_name (terminal kind) → has set (word_terminal r) ≡ has set (terminal_where (is_typedef_name scopes) kind lexeme.spelling)
    of_kind Word k = ap (λ (b : Bool). has set (word_terminal b)) (told (is_typedef_name scopes lexeme.spelling) refl)
    of_kind (Key n) k = absurd (let f = ne_eqb WORD (key n) (λ e. omega arith) in let m : true ≡ false = k ∙ ap (λ (b : Bool). b || false) f in cc)
    of_kind Number k = absurd (let f : true ≡ false = k in cc)
    of_kind Char k = absurd (let f : true ≡ false = k in cc)
    of_kind Text k = absurd (let f : true ≡ false = k in cc)
    of_kind (Mark n) k = absurd (let f = ne_eqb WORD (mark n) (λ e. omega arith) in let m : true ≡ false = k ∙ ap (λ (b : Bool). b || false) f in cc)
    of_kind Line k = absurd (let f : true ≡ false = k in cc)
    of_kind Pragma k = absurd (let f : true ≡ false = k in cc)

typedef_is : (r : Bool) → has a_typedef_name (word_terminal r) ≡ r
typedef_is true = refl
typedef_is false = refl

name_is : (r : Bool) → has a_name (word_terminal r) ≡ not r
name_is true = refl
name_is false = refl

module _ (place : Place) (scopes : OpenScopes) where
  pub typedef_ahead : (name : List ℕ) (r : Bool) → name ≡ first_spelling place.left → (IsTrue r ↔ IsTypedefName scopes name) → true ≡ is_ahead by_kind a_name (input_of place) →
      r ≡ is_ahead terminal_of a_typedef_name (input_at place scopes)
  unfolding input_at
  typedef_ahead name r e h k =
      sym (typedef_is r) ∙ word_at a_typedef_name place.at place.left scopes r (subst (λ n. IsTrue r ↔ IsTypedefName scopes n) e h) k

  pub name_ahead : (name : List ℕ) (r : Bool) → name ≡ first_spelling place.left → (IsTrue r ↔ IsTypedefName scopes name) → true ≡ is_ahead by_kind a_name (input_of place) →
      not r ≡ is_ahead terminal_of a_name (input_at place scopes)
  unfolding input_at
  name_ahead name r e h k =
      sym (name_is r) ∙ word_at a_name place.at place.left scopes r (subst (λ n. IsTrue r ↔ IsTypedefName scopes n) e h) k

-- No word is next.
other_at : (n at : ℕ) (left : List Lexeme) (scopes : OpenScopes) → n < 2 → false ≡ begins (OfKind a_name) (numbered at left) →
    false ≡ begins (InScope (n ∷ []) scopes) (numbered at left)
unfolding terminal_in
other_at n at [] scopes h e = refl
other_at n at (lexeme ∷ left) scopes h e = of_kind lexeme.kind e
  where
    apart : (m : ℕ) → 1 < m → false ≡ has (n ∷ []) m
    apart m k = sym (ap (λ (b : Bool). b || false) (ne_eqb n m (λ e. omega arith)))

    of_kind : (kind : Kind) → false ≡ has a_name (terminal kind) → false ≡ has (n ∷ []) (terminal_where (is_typedef_name scopes) kind lexeme.spelling)
    of_kind Word k = absurd (let f : false ≡ true = k in cc)
    of_kind (Key m) k = apart (key m) (omega arith)
    of_kind Number k = apart 2 (omega arith)
    of_kind Char k = apart 3 (omega arith)
    of_kind Text k = apart 4 (omega arith)
    of_kind (Mark m) k = apart (mark m) (omega arith)
    of_kind Line k = apart 5 (omega arith)
    of_kind Pragma k = apart 6 (omega arith)

pub no_word_ahead : (n : ℕ) (place : Place) (scopes : OpenScopes) → n < 2 → false ≡ is_ahead by_kind a_name (input_of place) → false ≡ is_ahead terminal_of (n ∷ []) (input_at place scopes)
unfolding input_at
no_word_ahead n place scopes h e = other_at n place.at place.left scopes h e

-- ---- Types

or_union : (a b c d : Bool) → b ≡ (c || d) → (a || b) ≡ ((a || c) || d)
or_union true b c d e = refl
or_union false b c d e = e

has_union : (set other : List ℕ) (n : ℕ) → has (set ++ other) n ≡ (has set n || has other n)
has_union [] other n = refl
has_union (m ∷ set) other n = or_union (m == n) (has (set ++ other) n) (has set n) (has other n) (has_union set other n)

union_at : (set other : List ℕ) (at : ℕ) (left : List Lexeme) (scopes : OpenScopes) →
    begins (InScope (set ++ other) scopes) (numbered at left) ≡ (begins (InScope set scopes) (numbered at left) || begins (InScope other scopes) (numbered at left))
union_at set other at [] scopes = refl
union_at set other at (lexeme ∷ left) scopes = has_union set other (terminal_of scopes (record { number = at; lexeme = lexeme }))

pub type_ahead : (place : Place) (scopes : OpenScopes) → is_ahead terminal_of a_type (input_at place scopes)
    ≡ (is_ahead terminal_of a_typedef_name (input_at place scopes) || is_ahead terminal_of a_type_word (input_at place scopes))
unfolding input_at
type_ahead place scopes = union_at a_typedef_name a_type_word place.at place.left scopes
