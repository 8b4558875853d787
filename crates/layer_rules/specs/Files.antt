-- A source file: its name, its bytes, its kept tokens and their presumed places (C11 6.10.4).
use Rattle.std.specs.Prelude.{ℕ, ◌+◌, ◌==◌, Bool, false, List, [], ◌∷◌, Option, Some, None, map}
use Rattle.std.specs.Prelude.{slice_get, slice_range}
use Rattle.c_lexer.specs.declared.token.Kind.{Kind}
use Rattle.c_lexer.specs.declared.token.Kind.TheVariants as kind
use Rattle.c_lexer.specs.declared.token.Token.{Token}
use Rattle.line_marks.specs.Presumed.{Presumed}

-- A file, as the rules of the graph see it: the tokens are those that are kept for the parser, and
-- the places one for each of them.
pub record File : Type 0 where
  pub name : List ℕ
  pub bytes : List ℕ
  pub tokens : List Token
  pub places : List Presumed

-- The token of this number, if there is one.
abbrev pub token_of : File → Option ℕ → Option Token
token_of file None = None
token_of file (Some number) = slice_get file.tokens number

-- The presumed place of the token of this number, if there is one.
abbrev pub place_of : File → Option ℕ → Option Presumed
place_of file None = None
place_of file (Some number) = slice_get file.places number

-- The line of a place, and 0 where there is none.
abbrev pub line_of : Option Presumed → ℕ
line_of None = 0
line_of (Some place) = place.line

-- The name of the file of a place, and the empty name where there is no place.
abbrev pub filename_of : Option Presumed → List ℕ
filename_of None = []
filename_of (Some place) = place.file

-- The bytes of a token (its spelling, C11 6.4), and no bytes where there is no token.
abbrev pub spelling_in : List ℕ → Option Token → List ℕ
spelling_in bytes None = []
spelling_in bytes (Some token) = slice_range bytes token.start token.end

-- The line of the token of this number.
abbrev pub presumed_line_at : File → Option ℕ → ℕ
presumed_line_at file number = line_of (place_of file number)

-- The name of its file.
abbrev pub presumed_file_at : File → Option ℕ → List ℕ
presumed_file_at file number = filename_of (place_of file number)

-- Its bytes.
abbrev pub spelling_at : File → Option ℕ → List ℕ
spelling_at file number = spelling_in file.bytes (token_of file number)

-- The kind of a token.
abbrev pub kind_in : Option Token → Option Kind
kind_in None = None
kind_in (Some token) = Some token.kind

-- The kind of the token of this number.
abbrev pub kind_at : File → ℕ → Option Kind
kind_at file number = kind_in (token_of file (Some number))

-- The kind is the keyword of the number.
abbrev pub is_key_kind : ℕ → Option Kind → Bool
is_key_kind wanted (Some (kind.Key number)) = number == wanted
is_key_kind wanted other = false

-- The token is the keyword of the number.
abbrev pub is_key : File → ℕ → ℕ → Bool
is_key file token number = is_key_kind number (kind_at file token)

-- The spellings of tokens that follow one another, from the first to the last of these numbers.
abbrev pub spellings_between : File → Option ℕ → Option ℕ → List (List ℕ)
spellings_between file (Some first) (Some last) =
    map (λ token. spelling_in file.bytes (Some token)) (slice_range file.tokens first (last + 1))
spellings_between file first last = []

-- The spelling of each token.
abbrev pub spellings_of : File → List ℕ → List (List ℕ)
spellings_of file tokens = map (λ token. spelling_at file (Some token)) tokens
