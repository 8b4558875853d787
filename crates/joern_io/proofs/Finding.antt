-- A file is looked for by its name, from the front.
use Rattle.std.proofs.Common.{◌≡◌, ℕ, ◌+◌, ◌<◌, List, length, drop, get_or, Some, if◌then◌else◌, nat_eq, String, Vec, string_bytes, add-one, drop-cons, refl}
use Rattle.std.specs.Cmp.Lexicographic.{pointwise}
use Rattle.std.proofs.lemmas.Option.{slice_get_read}
use Rattle.joern_io.specs.Held.{file_of}
use Rattle.joern_io.specs.Shelf.{held_of, bytes_at}

module _ {Z : Type 0} (files : List (String Z × Vec ℕ Z)) (position : ℕ) (file : String Z × Vec ℕ Z)
    (within : position < length files) (is : file ≡ get_or files position file) where
  -- From a position on, the file there is looked at first.
  pub file_of-drop : (name : List ℕ) → file_of (held_of (drop position files)) name
      ≡ (if pointwise nat_eq (string_bytes file.0) name then Some file.1.items else file_of (held_of (drop (position + 1) files)) name)
  file_of-drop name = rw (add-one, drop-cons files position file, ← is) refl

  -- The file that is read at a position has the bytes there.
  pub bytes_at-read : bytes_at files position ≡ Some file.1.items
  bytes_at-read = rw (slice_get_read files (length files) position file refl within is)
