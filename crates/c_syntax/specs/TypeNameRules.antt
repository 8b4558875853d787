-- Rules of type names (C11 6.7.7): for now a typedef name or keywords, and stars.

use Rattle.std.specs.Prelude.{ℕ, List, [], ◌∷◌, ◌++◌}
use Rattle.c_lexer.specs.declared.mark.TheConstants.{MARK_STAR}
use Rattle.c_tree.specs.declared.tree.TypeName.{TypeName}
use Rattle.c_tree.specs.declared.tree.Spec.{Spec}
use Rattle.c_tree.specs.declared.tree.Spec.TheVariants as spec
use Rattle.c_tree.specs.declared.tree.Pointer.{Pointer}
use Rattle.reading.specs.Rules.{◌>>=◌, ◌or◌, pure, many}
use Rattle.c_syntax.specs.Scoping.{Part}
use Rattle.c_syntax.specs.Sets.{a_typedef_name, a_basic_type}
use Rattle.c_syntax.specs.Steps.{one_among, one_mark}
use Rattle.c_syntax.specs.Forms.{pointer, type_name_of}

module _ (turns : ℕ) where
  unfoldable pub named : ℕ → Part (List Spec)
  named level = do
    name ← one_among a_typedef_name level
    pure (spec.Named name ∷ [])

  unfoldable pub one_more_word : ℕ → List Spec → Part (List Spec)
  one_more_word level words = do
    word ← one_among a_basic_type level
    pure (words ++ spec.Basic word ∷ [])

  unfoldable pub more_words : ℕ → List Spec → Part (List Spec)
  more_words level = many turns (one_more_word level)

  unfoldable pub basic : ℕ → Part (List Spec)
  basic level = do
    word ← one_among a_basic_type level
    more_words level (spec.Basic word ∷ [])

  unfoldable pub words : ℕ → Part (List Spec)
  words level = named level or basic level

  unfoldable pub one_more_star : ℕ → List Pointer → Part (List Pointer)
  one_more_star level pointers = do
    star ← one_mark MARK_STAR level
    pure (pointers ++ pointer star ∷ [])

  unfoldable pub stars : ℕ → Part (List Pointer)
  stars level = many turns (one_more_star level) []

  unfoldable pub type_name : ℕ → Part TypeName
  type_name level = do
    specifiers ← words level
    pointers ← stars level
    pure (type_name_of specifiers pointers)
