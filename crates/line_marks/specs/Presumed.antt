-- The presumed places of the tokens of a file (C11 6.10.4; the form of the markers is ours).

use Rattle.std.specs.Prelude.{ℕ, ◌≡◌, ◌+◌, ◌-◌, List, [], ◌∷◌, ◌++◌, Option, Some, None, slice_get}
use Rattle.std.specs.Option.{option_map_or, unwrap_or}
use Rattle.std.specs.List.{AllZip, Contains, flat_map}
use Rattle.c_lexer.specs.Directives.{IsMarkerOf}
use Rattle.c_lexer.specs.declared.token.Kind.TheVariants.{Line}
use Rattle.c_lexer.specs.declared.token.Token.{Token}
use Rattle.line_marks.specs.declared.place.Place.{Place}

-- What a line marker says: the number of the next line, and the name of its file if it names one.
pub record Said : Type 0 where
  pub line : ℕ
  pub file : Option (List ℕ)

-- What the token says: a line marker what stands in it, and any other nothing.
abbrev pub Says : List ℕ → Token → Option Said → Type 0
Says bytes token None = ¬ (token.kind ≡ Line)
Says bytes token (Some said) =
    (token.kind ≡ Line) × IsMarkerOf bytes token.start token.end said.line said.file

-- From the physical line `from` on the lines are those of the file with this name, and that line is
-- its line `line`.
pub record Presumption : Type 0 where
  pub file : List ℕ
  pub from : ℕ
  pub line : ℕ

-- Before the first marker the lines are those of the file itself.
abbrev pub first_presumption : List ℕ → Presumption
first_presumption name = record { file = name; from = 1; line = 1 }

-- A marker speaks of the line after it. Without a file's name it keeps the presumed file
-- (6.10.4p3).
abbrev pub behind : Presumption → Token → Option Said → Presumption
behind before token None = before
behind before token (Some said) = record {
  file = unwrap_or said.file before.file;
  from = token.line + 1;
  line = said.line;
}

-- The presumed place of a token: the name of its file, and its line.
pub record Presumed : Type 0 where
  pub file : List ℕ
  pub line : ℕ

abbrev pub presumed_at : Presumption → Token → Presumed
presumed_at before token = record {
  file = before.file;
  line = before.line + (token.line - before.from);
}

-- The presumed places of tokens that say this. A marker itself has the place that holds before it.
abbrev pub presumed_places : Presumption → List Token → List (Option Said) → List Presumed
presumed_places before (token ∷ tokens) (said ∷ says) =
    presumed_at before token ∷ presumed_places (behind before token said) tokens says
presumed_places before _ _ = []

-- The name of the file that the token says, if it says one.
abbrev pub name_said : Option Said → List (List ℕ)
name_said None = []
name_said (Some said) = option_map_or (λ name. name ∷ []) said.file []

-- The names of files that tokens say, in their order.
abbrev pub names_said : List (Option Said) → List (List ℕ)
names_said says = flat_map name_said says

-- The list of files is `all` when the names have been added to `files`, each at the end where it is
-- first mentioned.
pub data AddsNames : List (List ℕ) → List (List ℕ) → List (List ℕ) → Type 0 where
  none : {files : List (List ℕ)} → AddsNames files [] files
  known : {files names all : List (List ℕ)} (name : List ℕ) → Contains files name →
      AddsNames files names all → AddsNames files (name ∷ names) all
  new : {files names all : List (List ℕ)} (name : List ℕ) → ¬ Contains files name →
      AddsNames (files ++ name ∷ []) names all → AddsNames files (name ∷ names) all

-- The place stands for the presumed one: its file by the position in the list, its line by its
-- number.
pub record IsPlaceOf (files : List (List ℕ)) (place : Place) (presumed : Presumed) : Type 0 where
  pub file : slice_get files place.file ≡ Some presumed.file
  pub line : place.line ≡ presumed.line

-- The places of a file's tokens, one for each, and the files in the order of their first mention:
-- that with the name first, and then those that markers name.
pub record ArePlacesOf (bytes : List ℕ) (tokens : List Token) (name : List ℕ) (places : List Place)
    (files : List (List ℕ)) : Type 0 where
  pub says : List (Option Said)
  pub said : AllZip (Says bytes) tokens says
  pub files_are : AddsNames [] (name ∷ names_said says) files
  pub places_are : AllZip (IsPlaceOf files) places
      (presumed_places (first_presumption name) tokens says)
