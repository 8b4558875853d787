-- What the sets of terminals are of which rules are made: what a token of a set is said to be.

use Rattle.std.proofs.Common.{◌≡◌, ◌⊎◌, inl, inr, ℕ, zero, suc, ◌+◌, ◌*◌, ◌<◌, ◌≤◌, ◌==◌, ◌||◌, Bool, true, false, List, [], ◌∷◌, ◌++◌, Option, Some, map, length, refl, sym, ap, ◌∙◌, subst, arith, eqb-true, eq-eqb}
use Rattle.std.specs.List.{Contains}
use Rattle.c_lexer.specs.declared.token.Kind.{Kind}
use Rattle.c_lexer.specs.declared.token.Kind.TheVariants as k
use Rattle.c_lexer.specs.declared.keyword.TheConstants.{KEY_SIZEOF, KEY_ALIGNOF}
use Rattle.c_lexer.specs.declared.mark.TheConstants.{MARK_PLUS_PLUS, MARK_MINUS_MINUS}
use Rattle.c_scopes.specs.Scopes.{OpenScopes}
use Rattle.c_tree.specs.declared.symbol.Want.{Want}
use Rattle.c_tree.specs.declared.symbol.Want.TheVariants as want
use Rattle.c_tree.specs.declared.symbol.Slot.{Slot}
use Rattle.c_tree.specs.declared.symbol.Slot.TheVariants as slot
use Rattle.c_tree.specs.Fits.{Fits, IsMarkAmong, IsKeyAmong, type_specifiers, binary_operators, assignment_operators, steps, prefix_operators}
use Rattle.reading.specs.Terminals.{has}
use Rattle.reading.proofs.Sets.{never}
use Rattle.c_reading.specs.Kept.{KeptToken}
use Rattle.c_reading.specs.Cursors.{terminal_in}
use Rattle.c_reading.specs.Terminals.{WORD, TYPEDEF_NAME, NUMBER, CHAR, TEXT, mark, key, word_terminal, terminal_where}
use Rattle.c_syntax.specs.Scoping.{is_typedef_name, terminal_of}
use Rattle.c_syntax.specs.Sets.{a_name, any_name, a_typedef_name, a_constant, a_step, a_unary, unary_operators, a_binary, an_assignment, a_basic_type}
use Rattle.expression_trees.specs.Saying.{Said, token, uses, IsKnown, AreSaid}
use Rattle.expression_trees.proofs.Front.{Open, Says}
use Rattle.expression_trees.proofs.Back.{Hears}

-- ---- Sets

or_cases : (a b : Bool) → (a || b) ≡ true → (a ≡ true) ⊎ (b ≡ true)
or_cases true b e = inl refl
or_cases false b e = inr e

pub has_cases : (x n : ℕ) (set : List ℕ) → has (x ∷ set) n ≡ true → (x ≡ n) ⊎ (has set n ≡ true)
has_cases x n set e = of (or_cases (x == n) (has set n) e)
  where
    of : ((x == n) ≡ true) ⊎ (has set n ≡ true) → (x ≡ n) ⊎ (has set n ≡ true)
    of (inl h) = inl (eqb-true x n h)
    of (inr h) = inr h

pub has_only : (x n : ℕ) → has (x ∷ []) n ≡ true → x ≡ n
has_only x n e = of (has_cases x n [] e)
  where
    of : (x ≡ n) ⊎ (has [] n ≡ true) → x ≡ n
    of (inl h) = h
    of (inr h) = never h

pub has_here : (x n : ℕ) (set : List ℕ) → x ≡ n → has (x ∷ set) n ≡ true
has_here x n set e = rw (eq-eqb x n e) refl

pub has_later : (x n : ℕ) (set : List ℕ) → has set n ≡ true → has (x ∷ set) n ≡ true
has_later x n set h = of (x == n)
  where
    of : (b : Bool) → (b || has set n) ≡ true
    of true = refl
    of false = h

pub contains_here : (x : ℕ) (xs : List ℕ) → Contains (x ∷ xs) x
contains_here x xs = (0, omega arith, refl)

pub contains_later : (x y : ℕ) (xs : List ℕ) → Contains xs y → Contains (x ∷ xs) y
contains_later x y xs h = (suc h.0, omega arith, h.2)

pub contains_cases : (x y : ℕ) (xs : List ℕ) → Contains (x ∷ xs) y → (x ≡ y) ⊎ Contains xs y
contains_cases x y xs (zero, h, e) = inl e
contains_cases x y xs (suc n, h, e) = inr (n, omega arith, e)

pub contains_none : (y : ℕ) → Contains [] y → ⊥
contains_none y h = omega arith

module _ (f : ℕ → ℕ) (one : (a b : ℕ) → f a ≡ f b → a ≡ b) where
  in_set : (list : List ℕ) (n : ℕ) → has (map f list) (f n) ≡ true → Contains list n
  in_set [] n e = never e
  in_set (m ∷ list) n e = of (in_set list n) (has_cases (f m) (f n) (map f list) e)
    where
      of : (has (map f list) (f n) ≡ true → Contains list n) → (f m ≡ f n) ⊎ (has (map f list) (f n) ≡ true) → Contains (m ∷ list) n
      of go (inl h) = subst (λ x. Contains (x ∷ list) n) (sym (one m n h)) (contains_here n list)
      of go (inr h) = contains_later m n list (go h)

  of_list : (list : List ℕ) (n : ℕ) → Contains list n → has (map f list) (f n) ≡ true
  of_list [] n h = absurd (contains_none n h)
  of_list (m ∷ list) n h = of (of_list list n) (contains_cases m n list h)
    where
      of : (Contains list n → has (map f list) (f n) ≡ true) → (m ≡ n) ⊎ Contains list n → has (map f (m ∷ list)) (f n) ≡ true
      of go (inl e) = has_here (f m) (f n) (map f list) (ap f e)
      of go (inr c) = has_later (f m) (f n) (map f list) (go c)

  not_in : (list : List ℕ) (t : ℕ) → ((n : ℕ) → f n ≡ t → ⊥) → has (map f list) t ≡ true → ⊥
  not_in [] t h e = never e
  not_in (m ∷ list) t h e = of (not_in list t h) (has_cases (f m) t (map f list) e)
    where
      of : (has (map f list) t ≡ true → ⊥) → (f m ≡ t) ⊎ (has (map f list) t ≡ true) → ⊥
      of go (inl g) = h m g
      of go (inr g) = go g

one_mark : (a b : ℕ) → mark a ≡ mark b → a ≡ b
one_mark a b e = omega arith

one_key : (a b : ℕ) → key a ≡ key b → a ≡ b
one_key a b e = omega arith

word_low : (b : Bool) (n : ℕ) → 2 ≤ n → n ≡ word_terminal b → ⊥
word_low true n h e = omega arith
word_low false n h e = omega arith

pub marks_among : (list : List ℕ) (t : List ℕ → Bool) (kind : Kind) (bytes : List ℕ) → has (map mark list) (terminal_where t kind bytes) ≡ true → IsMarkAmong list kind
marks_among list t (k.Mark n) bytes e = (n, in_set mark one_mark list n e, refl)
marks_among list t k.Word bytes e = absurd (not_in mark one_mark list _ (λ n g. word_low (t bytes) (mark n) (omega arith) g) e)
marks_among list t (k.Key m) bytes e = absurd (not_in mark one_mark list _ (λ n g. omega arith) e)
marks_among list t k.Number bytes e = absurd (not_in mark one_mark list _ (λ n g. omega arith) e)
marks_among list t k.Char bytes e = absurd (not_in mark one_mark list _ (λ n g. omega arith) e)
marks_among list t k.Text bytes e = absurd (not_in mark one_mark list _ (λ n g. omega arith) e)
marks_among list t k.Line bytes e = absurd (not_in mark one_mark list _ (λ n g. omega arith) e)
marks_among list t k.Pragma bytes e = absurd (not_in mark one_mark list _ (λ n g. omega arith) e)

pub keys_among : (list : List ℕ) (t : List ℕ → Bool) (kind : Kind) (bytes : List ℕ) → has (map key list) (terminal_where t kind bytes) ≡ true → IsKeyAmong list kind
keys_among list t (k.Key n) bytes e = (n, in_set key one_key list n e, refl)
keys_among list t k.Word bytes e = absurd (not_in key one_key list _ (λ n g. word_low (t bytes) (key n) (omega arith) g) e)
keys_among list t (k.Mark m) bytes e = absurd (not_in key one_key list _ (λ n g. omega arith) e)
keys_among list t k.Number bytes e = absurd (not_in key one_key list _ (λ n g. omega arith) e)
keys_among list t k.Char bytes e = absurd (not_in key one_key list _ (λ n g. omega arith) e)
keys_among list t k.Text bytes e = absurd (not_in key one_key list _ (λ n g. omega arith) e)
keys_among list t k.Line bytes e = absurd (not_in key one_key list _ (λ n g. omega arith) e)
keys_among list t k.Pragma bytes e = absurd (not_in key one_key list _ (λ n g. omega arith) e)

pub among_marks : (list : List ℕ) (t : List ℕ → Bool) (kind : Kind) (bytes : List ℕ) → IsMarkAmong list kind → has (map mark list) (terminal_where t kind bytes) ≡ true
among_marks list t kind bytes h = subst (λ x. has (map mark list) (terminal_where t x bytes) ≡ true) (sym h.2) (of_list mark one_mark list h.0 h.1)

pub among_keys : (list : List ℕ) (t : List ℕ → Bool) (kind : Kind) (bytes : List ℕ) → IsKeyAmong list kind → has (map key list) (terminal_where t kind bytes) ≡ true
among_keys list t kind bytes h = subst (λ x. has (map key list) (terminal_where t x bytes) ≡ true) (sym h.2) (of_list key one_key list h.0 h.1)

pub one_of : (m n : ℕ) → Contains (m ∷ []) n → n ≡ m
one_of m n h = of (contains_cases m n [] h)
  where
    of : (m ≡ n) ⊎ Contains [] n → n ≡ m
    of (inl e) = sym e
    of (inr c) = absurd (contains_none n c)

pub mark_is : (m : ℕ) (t : List ℕ → Bool) (kind : Kind) (bytes : List ℕ) → has (mark m ∷ []) (terminal_where t kind bytes) ≡ true → kind ≡ k.Mark m
mark_is m t kind bytes e = let h = marks_among (m ∷ []) t kind bytes e in h.2 ∙ ap (λ n. k.Mark n) (one_of m h.0 h.1)

pub key_is : (m : ℕ) (t : List ℕ → Bool) (kind : Kind) (bytes : List ℕ) → has (key m ∷ []) (terminal_where t kind bytes) ≡ true → kind ≡ k.Key m
key_is m t kind bytes e = let h = keys_among (m ∷ []) t kind bytes e in h.2 ∙ ap (λ n. k.Key n) (one_of m h.0 h.1)

is_mark : (m : ℕ) (t : List ℕ → Bool) (kind : Kind) (bytes : List ℕ) → kind ≡ k.Mark m → has (mark m ∷ []) (terminal_where t kind bytes) ≡ true
is_mark m t kind bytes e = among_marks (m ∷ []) t kind bytes (m, contains_here m [], e)

pub is_key : (m : ℕ) (t : List ℕ → Bool) (kind : Kind) (bytes : List ℕ) → kind ≡ k.Key m → has (key m ∷ []) (terminal_where t kind bytes) ≡ true
is_key m t kind bytes e = among_keys (m ∷ []) t kind bytes (m, contains_here m [], e)

-- ---- Words and constants

is_word : (t : List ℕ → Bool) (kind : Kind) (bytes : List ℕ) (n : ℕ) → n ≤ 1 → n ≡ terminal_where t kind bytes → kind ≡ k.Word
is_word t k.Word bytes n h e = refl
is_word t (k.Key m) bytes n h e = absurd (omega arith)
is_word t (k.Mark m) bytes n h e = absurd (omega arith)
is_word t k.Number bytes n h e = absurd (omega arith)
is_word t k.Char bytes n h e = absurd (omega arith)
is_word t k.Text bytes n h e = absurd (omega arith)
is_word t k.Line bytes n h e = absurd (omega arith)
is_word t k.Pragma bytes n h e = absurd (omega arith)

word_is : (b : Bool) → WORD ≡ word_terminal b → b ≡ false
word_is true e = absurd (omega arith)
word_is false e = refl

typedef_is : (b : Bool) → TYPEDEF_NAME ≡ word_terminal b → b ≡ true
typedef_is true e = refl
typedef_is false e = absurd (omega arith)

name_is : (n : ℕ) (t : List ℕ → Bool) (kind : Kind) (bytes : List ℕ) → n ≤ 1 → has (n ∷ []) (terminal_where t kind bytes) ≡ true → (kind ≡ k.Word) × (n ≡ word_terminal (t bytes))
name_is n t kind bytes h e =
    let f = has_only n (terminal_where t kind bytes) e in
    let w = is_word t kind bytes n h f in (w, f ∙ ap (λ x. terminal_where t x bytes) w)

any_is : (t : List ℕ → Bool) (kind : Kind) (bytes : List ℕ) → has any_name (terminal_where t kind bytes) ≡ true → kind ≡ k.Word
any_is t kind bytes e = of (has_cases WORD (terminal_where t kind bytes) (TYPEDEF_NAME ∷ []) e)
  where
    of : (WORD ≡ terminal_where t kind bytes) ⊎ (has (TYPEDEF_NAME ∷ []) (terminal_where t kind bytes) ≡ true) → kind ≡ k.Word
    of (inl h) = is_word t kind bytes WORD (omega arith) h
    of (inr h) = is_word t kind bytes TYPEDEF_NAME (omega arith) (has_only TYPEDEF_NAME (terminal_where t kind bytes) h)

any_word : (b : Bool) → has any_name (word_terminal b) ≡ true
any_word true = refl
any_word false = refl

abbrev IsPlain : Kind → Type 0
IsPlain kind = (kind ≡ k.Number) ⊎ (kind ≡ k.Char)

number_is : (t : List ℕ → Bool) (kind : Kind) (bytes : List ℕ) → NUMBER ≡ terminal_where t kind bytes → kind ≡ k.Number
number_is t k.Number bytes e = refl
number_is t k.Word bytes e = absurd (word_low (t bytes) NUMBER (omega arith) e)
number_is t (k.Key m) bytes e = absurd (omega arith)
number_is t (k.Mark m) bytes e = absurd (omega arith)
number_is t k.Char bytes e = absurd (omega arith)
number_is t k.Text bytes e = absurd (omega arith)
number_is t k.Line bytes e = absurd (omega arith)
number_is t k.Pragma bytes e = absurd (omega arith)

char_is : (t : List ℕ → Bool) (kind : Kind) (bytes : List ℕ) → CHAR ≡ terminal_where t kind bytes → kind ≡ k.Char
char_is t k.Char bytes e = refl
char_is t k.Word bytes e = absurd (word_low (t bytes) CHAR (omega arith) e)
char_is t (k.Key m) bytes e = absurd (omega arith)
char_is t (k.Mark m) bytes e = absurd (omega arith)
char_is t k.Number bytes e = absurd (omega arith)
char_is t k.Text bytes e = absurd (omega arith)
char_is t k.Line bytes e = absurd (omega arith)
char_is t k.Pragma bytes e = absurd (omega arith)

text_is : (t : List ℕ → Bool) (kind : Kind) (bytes : List ℕ) → TEXT ≡ terminal_where t kind bytes → kind ≡ k.Text
text_is t k.Text bytes e = refl
text_is t k.Word bytes e = absurd (word_low (t bytes) TEXT (omega arith) e)
text_is t (k.Key m) bytes e = absurd (omega arith)
text_is t (k.Mark m) bytes e = absurd (omega arith)
text_is t k.Number bytes e = absurd (omega arith)
text_is t k.Char bytes e = absurd (omega arith)
text_is t k.Line bytes e = absurd (omega arith)
text_is t k.Pragma bytes e = absurd (omega arith)

constant_is : (t : List ℕ → Bool) (kind : Kind) (bytes : List ℕ) → has a_constant (terminal_where t kind bytes) ≡ true → Fits (want.Among slot.Literal) kind
constant_is t kind bytes e = of (has_cases NUMBER (terminal_where t kind bytes) (CHAR ∷ []) e)
  where
    of : (NUMBER ≡ terminal_where t kind bytes) ⊎ (has (CHAR ∷ []) (terminal_where t kind bytes) ≡ true) → (kind ≡ k.Number) ⊎ ((kind ≡ k.Char) ⊎ (kind ≡ k.Text))
    of (inl h) = inl (number_is t kind bytes h)
    of (inr h) = inr (inl (char_is t kind bytes (has_only CHAR (terminal_where t kind bytes) h)))

-- ---- What tokens are said to be

module _ (kind_of : ℕ → Option Kind) (bytes_of : ℕ → List ℕ) where
  says_kind : (set : List ℕ) (wanted : Want) → ((t : List ℕ → Bool) (kind : Kind) (bytes : List ℕ) → has set (terminal_where t kind bytes) ≡ true → Fits wanted kind) →
      Says kind_of bytes_of set (λ n. token n wanted)
  unfolding terminal_in
  says_kind set wanted h = record { says = λ scopes end t rest v e known f. (((refl, h (is_typedef_name scopes) t.lexeme.kind t.lexeme.spelling e, known), f.0), f.1) }

  hears_at : (set : List ℕ) (wanted : Want) (n : ℕ) →
      ((scopes : OpenScopes) (t : KeptToken) → n ≡ t.number → IsKnown kind_of bytes_of t → Fits wanted t.lexeme.kind → has set (terminal_of scopes t) ≡ true) →
      (scopes end : OpenScopes) (rest : Said) (ts : List KeptToken) → AreSaid kind_of bytes_of (token n wanted rest) ts scopes end →
      (t : KeptToken) × (others : List KeptToken) × (ts ≡ t ∷ others) × (n ≡ t.number) × (has set (terminal_of scopes t) ≡ true) × AreSaid kind_of bytes_of rest others scopes end
  hears_at set wanted n h scopes end rest [] f = absurd f.0
  hears_at set wanted n h scopes end rest (t ∷ ts) f = (t, ts, refl, f.0.0.0, h scopes t f.0.0.0 f.0.0.2 f.0.0.1, (f.0.1, f.1))

  hears_kind : (set : List ℕ) (wanted : Want) (n : ℕ) → ((t : List ℕ → Bool) (kind : Kind) (bytes : List ℕ) → Fits wanted kind → has set (terminal_where t kind bytes) ≡ true) →
      Hears kind_of bytes_of set n (token n wanted)
  unfolding terminal_in
  hears_kind set wanted n h = record { hears = hears_at set wanted n (λ scopes t e known f. h (is_typedef_name scopes) t.lexeme.kind t.lexeme.spelling f) }

  pub says_mark : (m : ℕ) → Says kind_of bytes_of (mark m ∷ []) (λ n. token n (want.Mark m))
  says_mark m = says_kind (mark m ∷ []) (want.Mark m) (mark_is m)

  pub hears_mark : (m n : ℕ) → Hears kind_of bytes_of (mark m ∷ []) n (token n (want.Mark m))
  hears_mark m n = hears_kind (mark m ∷ []) (want.Mark m) n (is_mark m)

  pub says_key : (m : ℕ) → Says kind_of bytes_of (key m ∷ []) (λ n. token n (want.Key m))
  says_key m = says_kind (key m ∷ []) (want.Key m) (key_is m)

  pub hears_key : (m n : ℕ) → Hears kind_of bytes_of (key m ∷ []) n (token n (want.Key m))
  hears_key m n = hears_kind (key m ∷ []) (want.Key m) n (is_key m)

  pub says_step : Says kind_of bytes_of a_step (λ n. token n (want.Among slot.Step))
  says_step = says_kind a_step (want.Among slot.Step) (marks_among steps)

  pub hears_step : (n : ℕ) → Hears kind_of bytes_of a_step n (token n (want.Among slot.Step))
  hears_step n = hears_kind a_step (want.Among slot.Step) n (among_marks steps)

  -- A unary operator, or `++` or `--`, before an operand.
  unary_is : (t : List ℕ → Bool) (kind : Kind) (bytes : List ℕ) → has a_unary (terminal_where t kind bytes) ≡ true → Fits (want.Among slot.PrefixOp) kind
  unary_is t kind bytes e = let h = marks_among unary_operators t kind bytes e in inl (h.0, contains_later MARK_PLUS_PLUS h.0 (MARK_MINUS_MINUS ∷ unary_operators) (contains_later MARK_MINUS_MINUS h.0 unary_operators h.1), h.2)

  step_is : (t : List ℕ → Bool) (kind : Kind) (bytes : List ℕ) → has a_step (terminal_where t kind bytes) ≡ true → Fits (want.Among slot.PrefixOp) kind
  step_is t kind bytes e = let h = marks_among steps t kind bytes e in inl (h.0, of h.0 (contains_cases MARK_PLUS_PLUS h.0 (MARK_MINUS_MINUS ∷ []) h.1), h.2)
    where
      of : (n : ℕ) → (MARK_PLUS_PLUS ≡ n) ⊎ Contains (MARK_MINUS_MINUS ∷ []) n → Contains prefix_operators n
      of n (inl e) = subst (Contains prefix_operators) e (contains_here MARK_PLUS_PLUS (MARK_MINUS_MINUS ∷ unary_operators))
      of n (inr c) = subst (Contains prefix_operators) (sym (one_of MARK_MINUS_MINUS n c)) (contains_later MARK_PLUS_PLUS MARK_MINUS_MINUS (MARK_MINUS_MINUS ∷ unary_operators) (contains_here MARK_MINUS_MINUS unary_operators))

  pub says_unary : Says kind_of bytes_of a_unary (λ n. token n (want.Among slot.PrefixOp))
  says_unary = says_kind a_unary (want.Among slot.PrefixOp) unary_is

  pub says_prefix_step : Says kind_of bytes_of a_step (λ n. token n (want.Among slot.PrefixOp))
  says_prefix_step = says_kind a_step (want.Among slot.PrefixOp) step_is

  -- The kind of the first token is known.
  pub hears_known : (set : List ℕ) (wanted : Want) (n : ℕ) (kind : Kind) → kind_of n ≡ Some kind → ((t : List ℕ → Bool) (bytes : List ℕ) → has set (terminal_where t kind bytes) ≡ true) →
      Hears kind_of bytes_of set n (token n wanted)
  unfolding terminal_in
  hears_known set wanted n kind e h = record {
    hears = hears_at set wanted n (λ scopes t same known f.
        let k : Some t.lexeme.kind ≡ Some kind = sym known.0 ∙ (ap kind_of (sym same) ∙ e) in
        let is : t.lexeme.kind ≡ kind = cc in
        subst (λ x. has set (terminal_where (is_typedef_name scopes) x t.lexeme.spelling) ≡ true) (sym is) (h (is_typedef_name scopes) t.lexeme.spelling));
  }

  -- What is known of the first token.
  pub record Seen (n : ℕ) (wanted : Want) : Type 0 where
    pub kind : Kind
    pub is : kind_of n ≡ Some kind
    pub fits : Fits wanted kind

  pub seen : (n : ℕ) (wanted : Want) (k : Said) (ts : List KeptToken) (scopes end : OpenScopes) → AreSaid kind_of bytes_of (token n wanted k) ts scopes end → Seen n wanted
  seen n wanted k [] scopes end f = absurd f.0
  seen n wanted k (t ∷ ts) scopes end f = record { kind = t.lexeme.kind; is = ap kind_of f.0.0.0 ∙ f.0.0.2.0; fits = f.0.0.1 }

  pub says_binary : Says kind_of bytes_of a_binary (λ n. token n (want.Among slot.BinaryOp))
  says_binary = says_kind a_binary (want.Among slot.BinaryOp) (marks_among binary_operators)

  pub hears_binary : (n : ℕ) → Hears kind_of bytes_of a_binary n (token n (want.Among slot.BinaryOp))
  hears_binary n = hears_kind a_binary (want.Among slot.BinaryOp) n (among_marks binary_operators)

  pub says_assignment : Says kind_of bytes_of an_assignment (λ n. token n (want.Among slot.AssignOp))
  says_assignment = says_kind an_assignment (want.Among slot.AssignOp) (marks_among assignment_operators)

  pub hears_assignment : (n : ℕ) → Hears kind_of bytes_of an_assignment n (token n (want.Among slot.AssignOp))
  hears_assignment n = hears_kind an_assignment (want.Among slot.AssignOp) n (among_marks assignment_operators)

  pub says_basic : Says kind_of bytes_of a_basic_type (λ n. token n (want.Among slot.Basic))
  says_basic = says_kind a_basic_type (want.Among slot.Basic) (keys_among type_specifiers)

  pub hears_basic : (n : ℕ) → Hears kind_of bytes_of a_basic_type n (token n (want.Among slot.Basic))
  hears_basic n = hears_kind a_basic_type (want.Among slot.Basic) n (among_keys type_specifiers)

  pub says_constant : Says kind_of bytes_of a_constant (λ n. token n (want.Among slot.Literal))
  says_constant = says_kind a_constant (want.Among slot.Literal) constant_is

  pub says_text : Says kind_of bytes_of (TEXT ∷ []) (λ n. token n want.Text)
  says_text = says_kind (TEXT ∷ []) want.Text (λ t kind bytes e. text_is t kind bytes (has_only TEXT (terminal_where t kind bytes) e))

  pub hears_text : (n : ℕ) → Hears kind_of bytes_of (TEXT ∷ []) n (token n want.Text)
  hears_text n = hears_kind (TEXT ∷ []) want.Text n (λ t kind bytes e. subst (λ x. has (TEXT ∷ []) (terminal_where t x bytes) ≡ true) (sym e) refl)

  pub says_any : Says kind_of bytes_of any_name (λ n. token n want.Word)
  says_any = says_kind any_name want.Word any_is

  pub hears_any : (n : ℕ) → Hears kind_of bytes_of any_name n (token n want.Word)
  hears_any n = hears_kind any_name want.Word n (λ t kind bytes e. subst (λ x. has any_name (terminal_where t x bytes) ≡ true) (sym e) (any_word (t bytes)))

  -- ---- Names

  -- A name that is to be a typedef name or none.
  abbrev pub named : Bool → ℕ → Open
  named typedef n rest = uses (bytes_of n) typedef (token n want.Word rest)

  says_named : (b : Bool) (w : ℕ) → w ≤ 1 → ((c : Bool) → w ≡ word_terminal c → c ≡ b) → Says kind_of bytes_of (w ∷ []) (named b)
  unfolding terminal_in
  says_named b w low h = record {
    says = λ scopes end t rest v e known f.
        let n = name_is w (is_typedef_name scopes) t.lexeme.kind t.lexeme.spelling low e in
        (((refl, n.0, known), f.0), (ap (is_typedef_name scopes) known.1 ∙ h _ n.1, f.1));
  }

  hears_named_at : (b : Bool) (n : ℕ) (scopes end : OpenScopes) (rest : Said) (ts : List KeptToken) → AreSaid kind_of bytes_of (named b n rest) ts scopes end →
      (t : KeptToken) × (others : List KeptToken) × (ts ≡ t ∷ others) × (n ≡ t.number) × (has (word_terminal b ∷ []) (terminal_of scopes t) ≡ true) ×
      AreSaid kind_of bytes_of rest others scopes end
  unfolding terminal_in
  hears_named_at b n scopes end rest [] f = absurd f.0
  hears_named_at b n scopes end rest (t ∷ ts) f =
      let same : is_typedef_name scopes t.lexeme.spelling ≡ b = ap (is_typedef_name scopes) (sym f.0.0.2.1 ∙ ap bytes_of (sym f.0.0.0)) ∙ f.1.0 in (
        t,
        ts,
        refl,
        f.0.0.0,
        has_here (word_terminal b) (terminal_where (is_typedef_name scopes) t.lexeme.kind t.lexeme.spelling) []
            (ap word_terminal (sym same) ∙ ap (λ x. terminal_where (is_typedef_name scopes) x t.lexeme.spelling) (sym f.0.0.1)),
        (f.0.1, f.1.1),
      )

  pub says_name : Says kind_of bytes_of a_name (named false)
  says_name = says_named false WORD (omega arith) word_is

  pub hears_name : (n : ℕ) → Hears kind_of bytes_of a_name n (named false n)
  hears_name n = record { hears = hears_named_at false n }

  pub says_typedef : Says kind_of bytes_of a_typedef_name (named true)
  says_typedef = says_named true TYPEDEF_NAME (omega arith) typedef_is

  pub hears_typedef : (n : ℕ) → Hears kind_of bytes_of a_typedef_name n (named true n)
  hears_typedef n = record { hears = hears_named_at true n }
