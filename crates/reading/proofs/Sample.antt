-- A sample: lists of names with commas between them, and of such lists in parentheses. Each name is
-- declared at its place, and may not be one that is declared already.

use Rattle.std.proofs.Common.{◌≡◌, ℕ, zero, suc, ◌+◌, ◌-◌, ◌<◌, ◌≤◌, Bool, true, false, if◌then◌else◌, ◌==◌, ◌||◌, List, [], ◌∷◌, ◌++◌, inl, Ok, Err, refl, eqb-true, arith}
use Rattle.reading.specs.Terminals.{has}
use Rattle.reading.specs.Rules.{Rule, ◌>>=◌, ◌or◌, pure, changes, one, many}
use Rattle.reading.specs.Readers as reader
use Rattle.reading.specs.Readers.{Reader, Input, Outcome, branch, and_then, expect, go_on, offends, too_deep}
use Rattle.reading.specs.Nesting.{nested, nested_reader}
use Rattle.reading.specs.Exact.{room_on, IsExact}
use Rattle.reading.proofs.Sets.{never}
use Rattle.reading.proofs.Words.{Some}
use Rattle.reading.proofs.ReadBy.{Stage, no, IsReadBy, read_pure, read_changes, read_given}
use Rattle.reading.proofs.ReadOne.{Sample, HasRoom, room_inside}
use Rattle.reading.proofs.ReadThen.{read_then, read_token}
use Rattle.reading.proofs.ReadEither.{read_either}
use Rattle.reading.proofs.ReadSteps.{read_many_tokens, stops}
use Rattle.reading.proofs.Knot.{read_nested}

data Symbol : Type 0 where
  open_ : Symbol
  close_ : Symbol
  comma : Symbol
  name : ℕ → Symbol

-- The names that are declared.
abbrev Names : Type 0
Names = List ℕ

abbrev number_of : Symbol → ℕ
number_of (name n) = n
number_of symbol = 0

abbrev OPEN : ℕ
OPEN = 0

abbrev CLOSE : ℕ
CLOSE = 1

abbrev COMMA : ℕ
COMMA = 2

abbrev NEW : ℕ
NEW = 3

abbrev DECLARED : ℕ
DECLARED = 4

terminal_of : Names → Symbol → ℕ
terminal_of names open_ = OPEN
terminal_of names close_ = CLOSE
terminal_of names comma = COMMA
terminal_of names (name n) = if has names n then DECLARED else NEW

-- ---- The grammar

abbrev Part : Type 0 → Type 1
Part A = Rule Symbol Names A

abbrev symbol : ℕ → ℕ → Part ℕ
symbol terminal level = one terminal_of (terminal ∷ []) number_of level

abbrev word : ℕ → List ℕ → Part (List ℕ)
word level read = do
  n ← symbol NEW level
  changes (λ names. n ∷ names) (read ++ n ∷ [])

abbrev group : ℕ → Part (List ℕ) → List ℕ → Part (List ℕ)
group level inner read = do
  l ← symbol OPEN (suc level)
  more ← inner
  r ← symbol CLOSE (suc level)
  pure (read ++ more)

abbrev element : ℕ → Part (List ℕ) → List ℕ → Part (List ℕ)
element level inner read = word level read or group level inner read

abbrev more_elements : ℕ → Part (List ℕ) → List ℕ → Part (List ℕ)
more_elements level inner read = do
  c ← symbol COMMA level
  element level inner read

abbrev elements : Prim.Unit {0} → ℕ → ℕ → (Prim.Unit {0} → Part (List ℕ)) → Part (List ℕ)
elements which turns level inner = do
  first ← element level (inner which) []
  many turns (more_elements level (inner which)) first

-- ---- The readers

abbrev Reads : Type 0 → Type 0 → Type 0
Reads Around A = Reader Symbol Names Around A

module _ {Around : Type 0} where
  abbrev read_symbol : ℕ → ℕ → Reads Around ℕ
  read_symbol terminal room = expect terminal_of (terminal ∷ []) number_of room

  abbrev read_word : ℕ → List ℕ → Reads Around (List ℕ)
  read_word room read input =
      and_then (read_symbol NEW room input) (λ n. reader.changes (λ names. n ∷ names) (read ++ n ∷ []))

  abbrev read_group : ℕ → Reads Around (List ℕ) → List ℕ → Reads Around (List ℕ)
  read_group room inner read input =
      and_then (read_symbol OPEN (room - 1) input) (λ l input. and_then (inner input)
      (λ more input. and_then (read_symbol CLOSE (room - 1) input) (λ r. reader.pure (read ++ more))))

  abbrev read_element : ℕ → Reads Around (List ℕ) → List ℕ → Reads Around (List ℕ)
  read_element room inner read = branch terminal_of (NEW ∷ []) (read_word room read) (read_group room inner read)

  abbrev read_more : ℕ → Reads Around (List ℕ) → List ℕ → Reads Around (List ℕ)
  read_more room inner read input = and_then (read_symbol COMMA room input) (λ c. read_element room inner read)

  abbrev read_elements : Prim.Unit {0} → ℕ → (Prim.Unit {0} → Reads Around (List ℕ)) → Reads Around (List ℕ)
  read_elements which room inner input =
      and_then (read_element room (inner which) [] input) (reader.many terminal_of (COMMA ∷ []) (read_more room (inner which)))

-- ---- Any symbol will do as one of a completion

abbrev Any : Symbol → Type 0
Any symbol = Prim.Unit {0}

abbrev total : Names → ℕ
total [] = 0
total (n ∷ names) = n + total names

-- A number that is above the sum of the declared ones is a new name.
first_or_later : (first : Bool) (m n : ℕ) (names : Names) → (m == n) ≡ first → (has names n ≡ true → n ≤ total names) → (first || has names n) ≡ true → n ≤ m + total names
first_or_later true m n names e h g = let k = eqb-true m n e in omega arith
first_or_later false m n names e h g = let k = h g in omega arith

at_most_sum : (names : Names) (n : ℕ) → has names n ≡ true → n ≤ total names
at_most_sum [] n h = never h
at_most_sum (m ∷ names) n h = first_or_later (m == n) m n names refl (at_most_sum names n) h

abbrev fresh : Names → ℕ
fresh names = suc (total names)

is_new_at : (names : Names) (b : Bool) → has names (fresh names) ≡ b → has (NEW ∷ []) (if b then DECLARED else NEW) ≡ true
is_new_at names true e = let k = at_most_sum names (fresh names) e in absurd (omega arith)
is_new_at names false e = refl

new_name : (names : Names) → Sample terminal_of Any (NEW ∷ []) names
unfolding terminal_of
new_name names = record { token = name (fresh names); lexeme = tt; fits = is_new_at names (has names (fresh names)) refl }

an_open : (names : Names) → Sample terminal_of Any (OPEN ∷ []) names
unfolding terminal_of
an_open names = record { token = open_; lexeme = tt; fits = refl }

a_close : (names : Names) → Sample terminal_of Any (CLOSE ∷ []) names
unfolding terminal_of
a_close names = record { token = close_; lexeme = tt; fits = refl }

a_comma : (names : Names) → Sample terminal_of Any (COMMA ∷ []) names
unfolding terminal_of
a_comma names = record { token = comma; lexeme = tt; fits = refl }

-- ---- Each rule is read exactly

module _ {Around : Type 0} {stage : Stage} {level room : ℕ} (fits : HasRoom stage level room)
    (inner : ℕ → Part (List ℕ)) (read_inner : Reader Symbol Names Around (List ℕ))
    (inner_is_read : IsReadBy terminal_of Any stage (0 < room) inner read_inner no (NEW ∷ OPEN ∷ []) (λ a. COMMA ∷ [])) where
  word_is_read : {given : Type 0} (read : List ℕ) → IsReadBy {Around = Around} terminal_of Any stage given (λ d. word level read) (read_word room read) no (NEW ∷ []) (λ a. [])
  word_is_read read = read_token fits new_name (λ n. read_changes (λ names. n ∷ names) (read ++ n ∷ []))

  group_is_read : {given : Type 0} (read : List ℕ) →
      IsReadBy terminal_of Any stage given (λ d. group level (inner d) read) (read_group room read_inner read) no (OPEN ∷ []) (λ a. [])
  group_is_read read =
      read_token (room_inside fits) an_open (λ l. read_then (λ a. []) (read_given (λ h. omega arith) inner_is_read)
      (λ more. read_token (room_inside fits) a_close (λ r. read_pure (read ++ more))) (λ a. refl) (λ a. refl) (λ a b. refl))

  element_is_read : {given : Type 0} (read : List ℕ) →
      IsReadBy terminal_of Any stage given (λ d. element level (inner d) read) (read_element room read_inner read) no (NEW ∷ OPEN ∷ []) (λ a. [])
  element_is_read read = read_either (word_is_read read) (group_is_read read) refl

elements_are_read : {Around : Type 0} (stage : Stage) (level room : ℕ) → HasRoom stage level room →
    (inner : ℕ → Prim.Unit {0} → Part (List ℕ)) (read_inner : Prim.Unit {0} → Reader Symbol Names Around (List ℕ)) →
    ((m : Prim.Unit {0}) → IsReadBy terminal_of Any stage (0 < room) (λ d. inner d m) (read_inner m) no (NEW ∷ OPEN ∷ []) (λ a. COMMA ∷ [])) →
    (n : Prim.Unit {0}) →
    IsReadBy terminal_of Any stage (Prim.Unit {0}) (λ d. elements n d level (inner d)) (read_elements n room read_inner) no (NEW ∷ OPEN ∷ []) (λ a. COMMA ∷ [])
elements_are_read stage level room fits inner read_inner ri n =
    read_then (λ a. COMMA ∷ []) (element_is_read fits (λ d. inner d n) (read_inner n) (ri n) [])
    (λ first. read_many_tokens number_of [] (COMMA ∷ []) fits a_comma (λ read c. element_is_read fits (λ d. inner d n) (read_inner n) (ri n) read) refl refl refl first)
    (λ a. refl) (λ a. refl) (λ a b. refl)

-- One new name is a list of names.
one_name : (which : Prim.Unit {0}) (more level : ℕ) (names : Names) → 1 ≤ more →
    nested elements more level which names ((name (fresh names), level) ∷ []) (fresh names ∷ [], fresh names ∷ names)
unfolding nested new_name
one_name which zero level names h = absurd (omega arith)
one_name which (suc turns) level names h = record {
  front = (name (fresh names), level) ∷ [];
  back = [];
  value = (fresh names ∷ [], fresh names ∷ names);
  split = refl;
  begin = inl (record {
    front = (name (fresh names), level) ∷ [];
    back = [];
    value = (fresh names, names);
    split = refl;
    begin = record { token = name (fresh names); is = refl; fits = (new_name names).fits; value = refl };
    rest = record { none = refl; same = refl };
  });
  rest = stops turns _ (fresh names ∷ [], fresh names ∷ names);
}

some_names : (which : Prim.Unit {0}) (level : ℕ) (names : Names) → Some Any (λ d. nested elements d level which names)
some_names which level names = record {
  word = (name (fresh names), level) ∷ [];
  value = (fresh names ∷ [], fresh names ∷ names);
  turns = 1;
  lexemes = (tt, tt);
  is = λ more h. one_name which more level names h;
}

-- Lists of names are read exactly, in each scope.
names_are_read : {Around : Type 0} (around : Around) (names : Names) (symbols : List Symbol) →
    IsExact Any around (λ d. nested elements d 0 tt names) symbols
    (nested_reader read_elements (suc (room_on 0)) tt (record { tokens = symbols; scope = names; around = around }))
names_are_read around names symbols =
    (read_nested elements read_elements (λ n. no) (λ n. NEW ∷ OPEN ∷ []) (λ n a. COMMA ∷ []) some_names elements_are_read {given = Prim.Unit {0}} 0 (omega arith) tt).exact
    tt tt around names symbols

-- ---- What is read of some lists

abbrev read : Names → List Symbol → Outcome Symbol Names (Prim.Unit {0}) (List ℕ)
read names symbols = nested_reader read_elements (suc (room_on 0)) tt (record { tokens = symbols; scope = names; around = tt })

-- `a, (b)` is a list, behind which both names are declared. It is the longest: `)` stays.
both_are_read : read [] (name 7 ∷ comma ∷ open_ ∷ name 8 ∷ close_ ∷ close_ ∷ [])
    ≡ Ok (7 ∷ 8 ∷ [], record { tokens = close_ ∷ []; scope = 8 ∷ 7 ∷ []; around = tt })
unfolding nested_reader reader.many go_on expect terminal_of
both_are_read = refl

-- In `a, a` the second name offends, for the first has declared it.
declared_twice : read [] (name 7 ∷ comma ∷ name 7 ∷ [])
    ≡ Err (offends (record { tokens = name 7 ∷ []; scope = 7 ∷ []; around = tt }))
unfolding nested_reader reader.many go_on expect terminal_of
declared_twice = refl

-- In `(a` the end of the tokens offends.
not_closed : read [] (open_ ∷ name 7 ∷ []) ≡ Err (offends (record { tokens = []; scope = 7 ∷ []; around = tt }))
unfolding nested_reader reader.many go_on expect terminal_of
not_closed = refl

opened : ℕ → List Symbol → List Symbol
opened zero symbols = symbols
opened (suc n) symbols = open_ ∷ opened n symbols

-- Of 257 parentheses the last is too deep.
the_last_is_too_deep : read [] (opened 257 []) ≡ Err (too_deep (record { tokens = open_ ∷ []; scope = []; around = tt }))
unfolding nested_reader reader.many go_on expect terminal_of opened
the_last_is_too_deep = refl

-- Behind 256 a `)` offends, for no list is empty.
the_next_offends : read [] (opened 256 (close_ ∷ [])) ≡ Err (offends (record { tokens = close_ ∷ []; scope = []; around = tt }))
unfolding nested_reader reader.many go_on expect terminal_of opened
the_next_offends = refl
