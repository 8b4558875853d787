-- Type names are read exactly (C11 6.7.7).

use Rattle.std.proofs.Common.{ℕ, List, [], ◌∷◌, ◌++◌, refl}
use Rattle.c_lexer.specs.declared.token.Kind.TheVariants.{Key, Mark}
use Rattle.c_lexer.specs.declared.keyword.TheConstants.{KEY_INT}
use Rattle.c_lexer.specs.declared.mark.TheConstants.{MARK_STAR}
use Rattle.c_tree.specs.declared.tree.Spec.{Spec}
use Rattle.c_tree.specs.declared.tree.Spec.TheVariants as spec
use Rattle.reading.proofs.ReadBy.{Stage, no, keeping, read_pure}
use Rattle.reading.proofs.ReadOne.{HasRoom}
use Rattle.reading.proofs.ReadThen.{read_then, read_token, read_map}
use Rattle.reading.proofs.ReadSteps.{read_many_tokens}
use Rattle.reading.proofs.ReadGuarded.{read_guarded}
use Rattle.c_reading.specs.Terminals.{mark}
use Rattle.c_reading.specs.Cursors.{number_of}
use Rattle.c_syntax.specs.Sets.{a_typedef_name, a_basic_type}
use Rattle.c_syntax.specs.Forms.{pointer, type_name_of}
use Rattle.c_syntax.specs.TypeNameRules as lang
use Rattle.c_syntax.specs.TypeNameReaders as read
use Rattle.c_syntax.proofs.Readings.{Tokens, IsRead, sample}

-- What goes on behind type specifiers, and behind a type name.
abbrev pub after_type : List ℕ
after_type = mark MARK_STAR ∷ a_basic_type

module _ (tokens : Tokens) {stage : Stage} {level room : ℕ} (fits : HasRoom stage level room) where
  more_words_are_read : {given : Type 0} (words : List Spec) →
      IsRead tokens stage given (λ d. lang.more_words d level words) (read.more_words room words) keeping a_basic_type (λ a. a_basic_type)
  unfolding lang.more_words lang.one_more_word read.more_words read.one_more_word
  more_words_are_read words =
      read_many_tokens number_of [] a_basic_type fits (sample tokens a_basic_type (Key KEY_INT) refl refl refl) (λ s n. read_pure (s ++ spec.Basic n ∷ [])) refl refl refl words

  basic_is_read : {given : Type 0} → IsRead tokens stage given (λ d. lang.basic d level) (read.basic room) no a_basic_type (λ a. a_basic_type)
  unfolding lang.basic read.basic
  basic_is_read = read_token fits (sample tokens a_basic_type (Key KEY_INT) refl refl refl) (λ n. more_words_are_read (spec.Basic n ∷ []))

  words_are_read : {given : Type 0} → IsRead tokens stage given (λ d. lang.words d level) (read.words room) no (a_typedef_name ++ a_basic_type) (λ a. a_basic_type)
  unfolding lang.words lang.named read.words read.named
  words_are_read =
      read_guarded a_typedef_name number_of (λ a. a_basic_type) fits (λ n. read_pure (spec.Named n ∷ [])) basic_is_read refl (λ a. refl) (λ a. refl) (λ d scope end y. refl)

  stars_are_read : {given : Type 0} → IsRead tokens stage given (λ d. lang.stars d level) (read.stars room) keeping (mark MARK_STAR ∷ []) (λ a. mark MARK_STAR ∷ [])
  unfolding lang.stars lang.one_more_star read.stars read.one_more_star
  stars_are_read =
      read_many_tokens number_of [] (mark MARK_STAR ∷ []) fits (sample tokens (mark MARK_STAR ∷ []) (Mark MARK_STAR) refl refl refl) (λ s n. read_pure (s ++ pointer n ∷ []))
      refl refl refl []

  pub type_name_is_read : {given : Type 0} → IsRead tokens stage given (λ d. lang.type_name d level) (read.type_name room) no (a_typedef_name ++ a_basic_type) (λ a. after_type)
  unfolding lang.type_name read.type_name
  type_name_is_read =
      read_then (λ a. after_type) words_are_read (λ words. read_map (type_name_of words) (λ a. mark MARK_STAR ∷ []) stars_are_read (λ a. refl))
      (λ a. refl) (λ a. refl) (λ a b. refl)
