-- A source file: its name, its bytes, its kept tokens and their presumed places (C11 6.10.4).
use Rattle.std.specs.Prelude.{ℕ, List, [], Option, Some, None, map, slice_get, slice_range}
use Rattle.std.specs.Option.{unwrap_or}
use Rattle.c_lexer.specs.declared.token.Token.{Token}
use Rattle.line_marks.specs.declared.place.Place.{Place}
use Rattle.line_marks.specs.Kept.{items_at}
use Rattle.line_marks.specs.Presumed.{Presumed}
use Rattle.ast_layer.specs.declared.source.Source.{Source}

-- A file, as the rules of the graph see it: the tokens are those that are kept for the parser, and
-- the places one for each of them.
pub record File : Type 0 where
  pub name : List ℕ
  pub bytes : List ℕ
  pub tokens : List Token
  pub places : List Presumed

-- A file, of its parts.
abbrev pub file : List ℕ → List ℕ → List Token → List Presumed → File
file name bytes tokens places =
    record { name = name; bytes = bytes; tokens = tokens; places = places }

-- The presumed place that a kept one stands for. Its file is that at the position in the list of
-- names, and has the empty name where there is none.
abbrev pub presumed_of : List (List ℕ) → Place → Presumed
presumed_of files place =
    record { file = unwrap_or (slice_get files place.file) []; line = place.line }

-- The file that a source is: its kept tokens, and their presumed places.
abbrev pub file_of : Source → File
file_of source =
    file source.name source.bytes (items_at source.tokens source.kept)
    (map (presumed_of source.places.files) (items_at source.places.places source.kept))

-- The token of this number, if there is one.
abbrev pub token_of : File → Option ℕ → Option Token
token_of file None = None
token_of file (Some number) = slice_get file.tokens number

-- The presumed place of the token of this number, if there is one.
abbrev pub place_of : File → Option ℕ → Option Presumed
place_of file None = None
place_of file (Some number) = slice_get file.places number

-- The line of a place, and 0 where there is none.
abbrev pub line_of : Option Presumed → ℕ
line_of None = 0
line_of (Some place) = place.line

-- The name of the file of a place, and the empty name where there is no place.
abbrev pub filename_of : Option Presumed → List ℕ
filename_of None = []
filename_of (Some place) = place.file

-- The bytes of a token (its spelling, C11 6.4), and no bytes where there is no token.
abbrev pub spelling_in : List ℕ → Option Token → List ℕ
spelling_in bytes None = []
spelling_in bytes (Some token) = slice_range bytes token.start token.end

-- The line of the token of this number.
abbrev pub presumed_line_at : File → Option ℕ → ℕ
presumed_line_at file number = line_of (place_of file number)

-- The name of its file.
abbrev pub presumed_file_at : File → Option ℕ → List ℕ
presumed_file_at file number = filename_of (place_of file number)

-- Its bytes.
abbrev pub spelling_at : File → Option ℕ → List ℕ
spelling_at file number = spelling_in file.bytes (token_of file number)
