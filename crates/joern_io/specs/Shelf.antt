-- Files in memory, of which calls fail by their number.
use Rattle.std.specs.Prelude.{ℕ, ◌≡◌, ◌≤◌, List, [], ◌∷◌, length, drop, slice_get, min}
use Rattle.std.specs.Prelude.{Option, Some, None, option_map, unwrap_or, String, Vec, string_bytes}
use Rattle.joern_io.specs.Held.{Held, file_of}
use Rattle.joern_io.specs.declared.shelf.OpenFile.{OpenFile}

-- What contracts see of a shelf.
pub record ShelfState : Type 0 where
  -- The files, by name.
  pub files : Held
  -- A read gives at most as many bytes.
  pub piece : ℕ
  -- The numbers of the calls that fail.
  pub fails : List ℕ
  -- How many calls of `open` and `read` there were: the next one has the next number.
  pub calls : ℕ
  -- The bytes that are still to be read, where a file is open.
  pub left : Option (List ℕ)
  -- How many of the calls failed by their number.
  pub faults : ℕ

-- Each name stands once.
abbrev pub NamesDiffer : Held → Type 0
NamesDiffer [] = Unit {0}
NamesDiffer (file ∷ files) = (file_of files file.0 ≡ None) × NamesDiffer files

-- What a shelf was made with stays: its files, the length of a piece and the numbers that fail.
abbrev pub KeepsShelf : ShelfState → ShelfState → Type 0
KeepsShelf old new = (new.files ≡ old.files) × (new.piece ≡ old.piece) × (new.fails ≡ old.fails)

-- How many bytes a read gives: as many as a piece, the buffer and what is left allow.
abbrev pub read_length : ShelfState → List ℕ → ℕ
read_length shelf into = min shelf.piece (min (length into) (length (unwrap_or shelf.left [])))

module _ {Z : Type 0} where
  -- A name with its bytes.
  abbrev pub named_bytes : String Z × Vec ℕ Z → List ℕ × List ℕ
  named_bytes file = (string_bytes file.0, file.1.items)

  -- The names with their bytes.
  abbrev pub held_of : List (String Z × Vec ℕ Z) → Held
  held_of [] = []
  held_of (file ∷ files) = named_bytes file ∷ held_of files

  -- The bytes of the file at a position.
  abbrev pub bytes_at : List (String Z × Vec ℕ Z) → ℕ → Option (List ℕ)
  bytes_at files position = option_map (λ file. file.1.items) (slice_get files position)

  -- The bytes that are left of the open file.
  abbrev pub left_at : List (String Z × Vec ℕ Z) → Option OpenFile → Option (List ℕ)
  left_at files None = None
  left_at files (Some open_file) =
      option_map (drop open_file.offset) (bytes_at files open_file.position)

  -- There is such a file, and it was read at most to its end.
  abbrev pub IsWithin : List (String Z × Vec ℕ Z) → Option OpenFile → Type 0
  IsWithin files None = Unit {0}
  IsWithin files (Some open_file) = (bytes : List ℕ)
      × (bytes_at files open_file.position ≡ Some bytes) × (open_file.offset ≤ length bytes)
