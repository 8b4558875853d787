-- The words of the command line, without the program's own name (ours): `--do dump NAME` alone is a
-- command.
use Rattle.std.specs.Prelude.{ℕ, Bool, false, not, ◌&&◌, ◌==◌, List, [], ◌∷◌, Option, Some, None}
use Rattle.std.specs.Prelude.{codes, nat_eq, if◌then◌else◌}
use Rattle.std.specs.Cmp.Lexicographic.{pointwise}

-- What the words ask for.
pub data Command : Type 0 where
  Dump : (name : List ℕ) → Command

-- The same word.
abbrev pub is_word : List ℕ → List ℕ → Bool
is_word word other = pointwise nat_eq word other

-- A file name is not empty and does not begin with `-`, which is 45.
abbrev pub is_file_name : List ℕ → Bool
is_file_name [] = false
is_file_name (first ∷ rest) = not (first == 45)

-- The words are those of a dump.
abbrev pub is_dump : List ℕ → List ℕ → List ℕ → Bool
is_dump option value name =
    is_word option (codes "--do") && is_word value (codes "dump") && is_file_name name

-- The command that the words give, if they give one.
abbrev pub command : List (List ℕ) → Option Command
command (option ∷ value ∷ name ∷ []) = if is_dump option value name then Some (Dump name) else None
command _ = None

-- The files that a command reads, in the order of reading.
abbrev pub files_of : Option Command → List (List ℕ)
files_of None = []
files_of (Some (Dump name)) = name ∷ []
