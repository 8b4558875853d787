-- The tables of words, and that of keywords.
use Rattle.std.proofs.Common.{bytes_eq, ◌≡◌, ℕ, ◌==◌, ◌||◌, not, Bool, true, List, refl}
use Rattle.std.specs.List.{Contains, list_all}
use Rattle.std.proofs.lemmas.Bool.{eqb-true}
use Rattle.std.proofs.lemmas.List.Sums.{AllPass-from_list_all}
use Rattle.std.proofs.lemmas.Slice.Eq.{bytes_eq-Decides}
use Rattle.c_lexer.specs.Entries.{numbers_of}
use Rattle.c_lexer.specs.Keywords.{keywords, IsKeyword}
use Rattle.c_lexer.specs.Spelling.{IsName}
use Rattle.c_lexer.proofs.Classes.{is_name, name_is}

-- a test that all rows pass is passed by each
pub row_passes : {A : Type 0} (test : A → Bool) (rows : List A) → list_all test rows ≡ true → (row : A) → Contains rows row → test row ≡ true
row_passes test rows h row c = rw c.2 at (AllPass-from_list_all test rows h c.0 row c.1)

-- each keyword passes the test of a name
all_names : list_all (λ row. is_name row.0) (numbers_of keywords) ≡ true
unfolding keywords
all_names = refl

-- a keyword is a name
pub keyword_name : (text : List ℕ) (number : ℕ) → IsKeyword text number → IsName text
keyword_name text number h = name_is text (row_passes (λ row. is_name row.0) (numbers_of keywords) all_names (text, number) h)

-- whether rows of one word have one number
abbrev pub agree : List (List ℕ × ℕ) → Bool
agree rows = list_all (λ row. list_all (λ other. not (bytes_eq row.0 other.0) || (row.1 == other.1)) rows) rows

-- where they do, a word has one number
pub one_number : (rows : List (List ℕ × ℕ)) → agree rows ≡ true → (text : List ℕ) (k j : ℕ) → Contains rows (text, k) → Contains rows (text, j) → k ≡ j
one_number rows h text k j a b =
    let test = λ (row other : List ℕ × ℕ). not (bytes_eq row.0 other.0) || (row.1 == other.1) in
    let each = row_passes (λ row. list_all (test row) rows) rows h (text, k) a in
    let pair : (not (bytes_eq text text) || (k == j)) ≡ true = row_passes (test (text, k)) rows each (text, j) b in
    let same = (bytes_eq-Decides text text).1 refl in
    eqb-true k j (rw same at pair)

-- the rows of keywords do
keywords_agree : agree (numbers_of keywords) ≡ true
unfolding keywords
keywords_agree = refl

-- a keyword has one number
pub keyword_once : (text : List ℕ) (k j : ℕ) → IsKeyword text k → IsKeyword text j → k ≡ j
keyword_once = one_number (numbers_of keywords) keywords_agree
