-- What a device holds: names with their bytes.
use Rattle.std.specs.Prelude.{ℕ, ◌≡◌, ◌<◌, nat_eq, List, [], ◌∷◌, length, if◌then◌else◌}
use Rattle.std.specs.Prelude.{Option, Some, None}
use Rattle.std.specs.Cmp.Lexicographic.{pointwise}

-- A finite map from names to bytes. The first entry of a name counts.
abbrev pub Held : Type 0
Held = List (List ℕ × List ℕ)

-- The bytes under a name.
abbrev pub file_of : Held → List ℕ → Option (List ℕ)
file_of [] name = None
file_of (file ∷ files) name =
    if pointwise nat_eq file.0 name then Some file.1 else file_of files name

-- What is held is told, and lacks the name.
abbrev pub Lacks : Option Held → List ℕ → Type 0
Lacks None name = ⊥
Lacks (Some held) name = file_of held name ≡ None

-- There is a file, and it has more bytes than the limit.
abbrev pub IsLargerThan : ℕ → Option (List ℕ) → Type 0
IsLargerThan limit None = ⊥
IsLargerThan limit (Some bytes) = limit < length bytes
