-- What a word is in the open scopes (C11 6.2.1, 6.7.8).

use Rattle.std.specs.Prelude.{ℕ, Bool, true, false, ◌==◌, ◌&&◌, if◌then◌else◌, List, [], ◌∷◌}
use Rattle.c_scopes.specs.Scopes.{Declared, OpenScopes, declarations_in}
use Rattle.reading.specs.Readers.{Input, Reader}
use Rattle.reading.specs.Rules.{Rule}
use Rattle.c_reading.specs.Kept.{KeptToken}
use Rattle.c_reading.specs.Cursors.{Around, input_at, terminal_in}
use Rattle.c_syntax.specs.declared.source.Source.{Source}

-- The two names have the same bytes.
abbrev pub same_bytes : List ℕ → List ℕ → Bool
same_bytes [] [] = true
same_bytes [] (b ∷ name) = false
same_bytes (a ∷ name) [] = false
same_bytes (a ∷ name) (b ∷ other) = (a == b) && same_bytes name other

-- The first declaration of the name in the list is a typedef.
abbrev pub first_is_typedef : List Declared → List ℕ → Bool
first_is_typedef [] name = false
first_is_typedef (declaration ∷ declarations) name =
    if same_bytes declaration.name name then declaration.typedef
    else first_is_typedef declarations name

-- The last declaration of the name in an open scope is a typedef.
unfoldable pub is_typedef_name : OpenScopes → List ℕ → Bool
is_typedef_name open_scopes name = first_is_typedef (declarations_in open_scopes) name

-- What the grammar tells apart of a kept token, in the open scopes.
abbrev pub terminal_of : OpenScopes → KeptToken → ℕ
terminal_of = terminal_in is_typedef_name

-- Rules and readers of C.
abbrev pub Part : Type 0 → Type 1
Part A = Rule KeptToken OpenScopes A

abbrev pub PartReader : Type 0 → Type 0
PartReader A = Reader KeptToken OpenScopes Around A

-- What is read from: a place, in the open scopes.
abbrev pub input_from : Source → Input KeptToken OpenScopes Around
input_from source = input_at source.cursor source.scopes
