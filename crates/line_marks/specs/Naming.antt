-- What the parts of the walk over the tokens leave.

use Rattle.std.specs.Prelude.{ℕ, ◌≡◌, ◌+◌, ◌≤◌, List, [], ◌∷◌, Some, MatchOption}
use Rattle.std.specs.Prelude.{slice_get}
use Rattle.c_lexer.specs.Directives.{IsMarkerOf, max_line}
use Rattle.c_lexer.specs.declared.token.Token.{Token}
use Rattle.line_marks.specs.declared.file_names.FileNames.{FileNames}
use Rattle.line_marks.specs.declared.place.Presumption.{Presumption}
use Rattle.line_marks.specs.Presumed.{AddsNames, Said, name_said}

-- The list of the names.
abbrev pub names_of : FileNames → List (List ℕ)
names_of files = files.names

-- The name is mentioned, and has this position: it is added at the end if it is new.
pub record Mentions (files more : List (List ℕ)) (name : List ℕ) (position : ℕ) : Type 0 where
  pub added : AddsNames files (name ∷ []) more
  pub stands : slice_get more position ≡ Some name

-- Behind the marker `after` is presumed, where `before` was, and its name is among the names.
pub record IsBehind (bytes : List ℕ) (token : Token) (files more : List (List ℕ))
    (before after : Presumption) : Type 0 where
  pub said : Said
  pub marker : IsMarkerOf bytes token.start token.end said.line said.file
  pub added : AddsNames files (name_said (Some said)) more
  pub file : MatchOption said.file (after.file ≡ before.file)
      (λ name. slice_get more after.file ≡ Some name)
  pub from : after.from ≡ token.line + 1
  pub line : after.line ≡ said.line
  pub small : after.line ≤ max_line
