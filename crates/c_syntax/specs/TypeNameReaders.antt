-- Readers of type names (C11 6.7.7): for now a typedef name or keywords, and stars.

use Rattle.std.specs.Prelude.{ℕ, List, [], ◌∷◌, ◌++◌}
use Rattle.c_lexer.specs.declared.mark.TheConstants.{MARK_STAR}
use Rattle.c_tree.specs.declared.tree.TypeName.{TypeName}
use Rattle.c_tree.specs.declared.tree.Spec.{Spec}
use Rattle.c_tree.specs.declared.tree.Spec.TheVariants as spec
use Rattle.c_tree.specs.declared.tree.Pointer.{Pointer}
use Rattle.reading.specs.Readers.{◌>>=◌, pure, many}
use Rattle.c_reading.specs.Terminals.{mark}
use Rattle.c_syntax.specs.Scoping.{PartReader, terminal_of}
use Rattle.c_syntax.specs.Sets.{a_typedef_name, a_basic_type}
use Rattle.c_syntax.specs.Steps.{expect_among, expect_mark, where_among}
use Rattle.c_syntax.specs.Forms.{pointer, type_name_of}

unfoldable pub named : ℕ → PartReader (List Spec)
named room = do
  name ← expect_among a_typedef_name room
  pure (spec.Named name ∷ [])

unfoldable pub one_more_word : ℕ → List Spec → PartReader (List Spec)
one_more_word room words = do
  word ← expect_among a_basic_type room
  pure (words ++ spec.Basic word ∷ [])

unfoldable pub more_words : ℕ → List Spec → PartReader (List Spec)
more_words room = many terminal_of a_basic_type (one_more_word room)

unfoldable pub basic : ℕ → PartReader (List Spec)
basic room = do
  word ← expect_among a_basic_type room
  more_words room (spec.Basic word ∷ [])

unfoldable pub words : ℕ → PartReader (List Spec)
words room = where_among a_typedef_name (named room) (basic room)

unfoldable pub one_more_star : ℕ → List Pointer → PartReader (List Pointer)
one_more_star room pointers = do
  star ← expect_mark MARK_STAR room
  pure (pointers ++ pointer star ∷ [])

unfoldable pub stars : ℕ → PartReader (List Pointer)
stars room = many terminal_of (mark MARK_STAR ∷ []) (one_more_star room) []

unfoldable pub type_name : ℕ → PartReader TypeName
type_name room = do
  specifiers ← words room
  pointers ← stars room
  pure (type_name_of specifiers pointers)
