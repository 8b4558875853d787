-- Declarators, parameters and type names are read exactly (C11 6.7.6, 6.7.7), a term a rule.

use Rattle.std.proofs.Common.{◌≡◌, inr, ℕ, suc, ◌-◌, ◌<◌, Bool, true, false, List, [], ◌∷◌, ◌++◌, Option, Some, None, refl, arith}
use Rattle.std.specs.Option.{is_some}
use Rattle.c_lexer.specs.declared.token.Kind.TheVariants.{Word, Key, Mark}
use Rattle.c_lexer.specs.declared.keyword.TheConstants.{KEY_ATOMIC, KEY_CONST, KEY_STATIC}
use Rattle.c_lexer.specs.declared.mark.TheConstants.{MARK_LEFT_BRACKET, MARK_RIGHT_BRACKET, MARK_LEFT_PAREN}
use Rattle.c_lexer.specs.declared.mark.TheConstants.{MARK_RIGHT_PAREN, MARK_COMMA, MARK_ELLIPSIS, MARK_STAR}
use Rattle.c_tree.specs.declared.tree.Spec.{Spec}
use Rattle.c_tree.specs.declared.tree.Suffix.{Suffix}
use Rattle.c_tree.specs.declared.tree.Suffix.TheVariants as suffix
use Rattle.c_scopes.specs.Scopes.{OpenScopes, entered}
use Rattle.c_scopes.specs.Scopes.{left}
use Rattle.reading.specs.declared.turn.Turn.TheVariants.{Again, Done}
use Rattle.reading.specs.Terminals.{are_disjoint, is_within}
use Rattle.reading.proofs.ReadBy.{Stage, no, keeping, read_pure, read_weaker, read_given}
use Rattle.reading.proofs.ReadOne.{HasRoom, room_inside}
use Rattle.reading.proofs.ReadThen.{read_then, read_token, read_map}
use Rattle.reading.proofs.ReadEither.{read_either, read_optional}
use Rattle.reading.proofs.ReadSteps.{read_many}
use Rattle.reading.proofs.ReadTurns.{Ending, by_turn, read_repeat}
use Rattle.reading.proofs.ReadGuarded.{read_guarded}
use Rattle.c_reading.specs.Terminals.{mark, key}
use Rattle.c_syntax.specs.Sets.{a_name, any_name}
use Rattle.c_specifiers.specs.Words.{word_of}
use Rattle.c_syntax.specs.declared.forms.AssignForm.{AssignForm}
use Rattle.c_syntax.specs.declared.forms.AssignForm.TheVariants.{Whole, Constant, Unstarred, Bare, Behind}
use Rattle.c_specifiers.specs.declared.forms.Place.TheVariants.{Parameter, Nameless}
use Rattle.c_specifiers.specs.declared.forms.Naming.{Naming}
use Rattle.c_specifiers.specs.declared.forms.Naming.TheVariants as naming
use Rattle.c_specifiers.specs.declared.forms.Specified.{Specified}
use Rattle.c_declarators.specs.declared.forms.Qualified.{Qualified}
use Rattle.c_declarators.specs.declared.forms.Pointing.{Pointing}
use Rattle.c_declarators.specs.declared.forms.NamedParam.{NamedParam}
use Rattle.c_declarators.specs.declared.forms.Params.{Params}
use Rattle.c_syntax.specs.Sets.{a_plain_qualifier}
use Rattle.c_specifiers.specs.DeclarationSets.{a_qualifier, begins_specifiers, begins_suffix}
use Rattle.c_specifiers.specs.DeclarationSets.{begins_named, begins_unnamed, begins_either, begins_params}
use Rattle.c_specifiers.specs.DeclarationSteps.{with_name}
use Rattle.c_declarators.specs.DeclaratorForms.{no_qualifiers, with_qualifier, no_pointers, with_pointer, named_of, unnamed_of, group_of}
use Rattle.c_declarators.specs.DeclaratorForms.{size_form, array_of, first_param, with_param, params_to, params_of, named_param, type_name_of}
use Rattle.c_specifiers.specs.Inside.{Inside, InsideReaders}
use Rattle.c_declarators.specs.DeclaratorRules as lang
use Rattle.c_declarators.specs.DeclaratorReaders as read
use Rattle.reading.proofs.ReadChanging.{read_changing, read_behind_change}
use Rattle.c_syntax.specs.Sets.{begins_assign}
use Rattle.c_specifiers.proofs.DeclarationReadings.{Tokens, IsRead, InsideAreRead, sample, fixed, same_entered, nothing, begins_group}
use Rattle.c_specifiers.proofs.DeclarationReadings.{after_specifiers, after_pointers, after_abstract, after_either, after_param, after_type_name}
use Rattle.c_specifiers.proofs.SpecifiersAreRead.{specifiers_is_read}

-- ---- Sets behind `_Atomic` and elsewhere

abbrev pub begins_size : Bool → List ℕ
begins_size atomic = mark MARK_STAR ∷ mark MARK_RIGHT_BRACKET ∷ begins_assign (size_form atomic)

size_and_bracket : (form : AssignForm) → are_disjoint (begins_assign form) (mark MARK_RIGHT_BRACKET ∷ []) ≡ true
size_and_bracket Whole = refl
size_and_bracket Constant = refl
size_and_bracket Unstarred = refl
size_and_bracket Bare = refl
size_and_bracket (Behind star) = refl

size_and_star : (atomic : Bool) → are_disjoint (begins_assign (size_form atomic)) (mark MARK_STAR ∷ []) ≡ true
size_and_star true = refl
size_and_star false = refl

end_and_star : (atomic : Bool) → are_disjoint (mark MARK_RIGHT_BRACKET ∷ begins_assign (size_form atomic)) (mark MARK_STAR ∷ []) ≡ true
end_and_star true = refl
end_and_star false = refl

size_and_static : (atomic : Bool) → are_disjoint (begins_size atomic) (key KEY_STATIC ∷ []) ≡ true
size_and_static true = refl
size_and_static false = refl

size_and_qualifier : (atomic : Bool) → are_disjoint a_qualifier (key KEY_STATIC ∷ begins_size atomic) ≡ true
size_and_qualifier true = refl
size_and_qualifier false = refl

some_size_and_qualifier : (atomic : Bool) → are_disjoint a_qualifier (mark MARK_STAR ∷ begins_assign (size_form atomic)) ≡ true
some_size_and_qualifier true = refl
some_size_and_qualifier false = refl

named_and_star : (atomic : Bool) → are_disjoint (begins_named atomic) (mark MARK_STAR ∷ []) ≡ true
named_and_star true = refl
named_and_star false = refl

named_and_pointers : (atomic : Bool) → are_disjoint after_pointers (begins_named atomic) ≡ true
named_and_pointers true = refl
named_and_pointers false = refl

unnamed_and_star : (atomic : Bool) → are_disjoint (begins_unnamed atomic) (mark MARK_STAR ∷ []) ≡ true
unnamed_and_star true = refl
unnamed_and_star false = refl

unnamed_and_pointers : (atomic : Bool) → are_disjoint after_pointers (begins_unnamed atomic ++ []) ≡ true
unnamed_and_pointers true = refl
unnamed_and_pointers false = refl

unnamed_goes_on : (atomic : Bool) → is_within (begins_unnamed atomic) after_abstract ≡ true
unnamed_goes_on true = refl
unnamed_goes_on false = refl

abstract_goes_on : (atomic : Bool) → is_within (mark MARK_STAR ∷ begins_unnamed atomic) after_abstract ≡ true
abstract_goes_on true = refl
abstract_goes_on false = refl

unnamed_and_name : (atomic : Bool) → are_disjoint (begins_unnamed atomic) any_name ≡ true
unnamed_and_name true = refl
unnamed_and_name false = refl

either_and_star : (atomic : Bool) → are_disjoint (begins_either atomic) (mark MARK_STAR ∷ []) ≡ true
either_and_star true = refl
either_and_star false = refl

either_and_pointers : (atomic : Bool) → are_disjoint after_pointers (begins_either atomic ++ []) ≡ true
either_and_pointers true = refl
either_and_pointers false = refl

core_goes_on : (atomic : Bool) → is_within (begins_either atomic) after_either ≡ true
core_goes_on true = refl
core_goes_on false = refl

either_goes_on : (atomic : Bool) → is_within (mark MARK_STAR ∷ begins_either atomic) after_either ≡ true
either_goes_on true = refl
either_goes_on false = refl

param_apart_at : (atomic : Bool) (words : List Spec) (typedef : Bool) →
    are_disjoint (after_specifiers Parameter (record { words = words; typedef = typedef; atomic = atomic })) ((mark MARK_STAR ∷ begins_either atomic) ++ []) ≡ true
param_apart_at true words typedef = refl
param_apart_at false words typedef = refl

param_goes_on_at : (atomic : Bool) (words : List Spec) (typedef : Bool) → is_within (after_specifiers Parameter (record { words = words; typedef = typedef; atomic = atomic })) after_param ≡ true
param_goes_on_at true words typedef = refl
param_goes_on_at false words typedef = refl

type_apart_at : (atomic : Bool) (words : List Spec) (typedef : Bool) →
    are_disjoint (after_specifiers Nameless (record { words = words; typedef = typedef; atomic = atomic })) ((mark MARK_STAR ∷ begins_unnamed atomic) ++ []) ≡ true
type_apart_at true words typedef = refl
type_apart_at false words typedef = refl

type_goes_on_at : (atomic : Bool) (words : List Spec) (typedef : Bool) →
    is_within (after_specifiers Nameless (record { words = words; typedef = typedef; atomic = atomic })) after_type_name ≡ true
type_goes_on_at true words typedef = refl
type_goes_on_at false words typedef = refl

-- ---- Qualifiers and pointers

module _ (tokens : Tokens) {stage : Stage} {level room : ℕ} (fits : HasRoom stage level room) where
  pub atomic_qualifier_is_read : {given : Type 0} (qualified : Qualified) → IsRead tokens stage given (λ d. lang.atomic_qualifier d level qualified) (read.atomic_qualifier room qualified) no (key KEY_ATOMIC ∷ []) nothing
  unfolding lang.atomic_qualifier read.atomic_qualifier
  atomic_qualifier_is_read qualified =
      read_token fits (sample tokens (key KEY_ATOMIC ∷ []) (Key KEY_ATOMIC) refl refl refl) (λ k. read_pure (with_qualifier qualified k true))

  pub plain_qualifier_is_read : {given : Type 0} (qualified : Qualified) → IsRead tokens stage given (λ d. lang.plain_qualifier d level qualified) (read.plain_qualifier room qualified) no a_plain_qualifier nothing
  unfolding lang.plain_qualifier read.plain_qualifier
  plain_qualifier_is_read qualified =
      read_token fits (sample tokens a_plain_qualifier (Key KEY_CONST) refl refl refl) (λ k. read_pure (with_qualifier qualified k false))

  pub qualifier_is_read : {given : Type 0} (qualified : Qualified) → IsRead tokens stage given (λ d. lang.qualifier d level qualified) (read.qualifier room qualified) no a_qualifier nothing
  unfolding lang.qualifier read.qualifier
  qualifier_is_read qualified =
      read_either (plain_qualifier_is_read qualified) (atomic_qualifier_is_read qualified) refl

  pub all_qualifiers_is_read : {given : Type 0} (qualified : Qualified) → IsRead tokens stage given (λ d. lang.all_qualifiers d level qualified) (read.all_qualifiers room qualified) keeping a_qualifier (λ a. a_qualifier)
  unfolding lang.all_qualifiers read.all_qualifiers
  all_qualifiers_is_read qualified =
      read_many [] a_qualifier qualifier_is_read refl refl refl qualified

  pub qualifiers_is_read : {given : Type 0} → IsRead tokens stage given (λ d. lang.qualifiers d level) (read.qualifiers room) no a_qualifier (λ a. a_qualifier)
  unfolding lang.qualifiers read.qualifiers
  qualifiers_is_read =
      read_then (λ a. a_qualifier) (qualifier_is_read no_qualifiers) all_qualifiers_is_read (λ a. refl) (λ b. refl) (λ a b. refl)

  pub pointer_is_read : {given : Type 0} (pointing : Pointing) → IsRead tokens stage given (λ d. lang.pointer d level pointing) (read.pointer room pointing) no (mark MARK_STAR ∷ []) (λ a. a_qualifier)
  unfolding lang.pointer read.pointer
  pointer_is_read pointing =
      read_token fits (sample tokens (mark MARK_STAR ∷ []) (Mark MARK_STAR) refl refl refl) (λ s. read_map (with_pointer pointing s) (λ a. a_qualifier) (all_qualifiers_is_read no_qualifiers) (λ a. refl))

  pub all_pointers_is_read : {given : Type 0} (pointing : Pointing) → IsRead tokens stage given (λ d. lang.all_pointers d level pointing) (read.all_pointers room pointing) keeping (mark MARK_STAR ∷ []) (λ a. after_pointers)
  unfolding lang.all_pointers read.all_pointers
  all_pointers_is_read pointing =
      read_many a_qualifier after_pointers pointer_is_read refl refl refl pointing

  pub pointers_is_read : {given : Type 0} → IsRead tokens stage given (λ d. lang.pointers d level) (read.pointers room) no (mark MARK_STAR ∷ []) (λ a. after_pointers)
  unfolding lang.pointers read.pointers
  pointers_is_read =
      read_then (λ a. after_pointers) (pointer_is_read (no_pointers false)) all_pointers_is_read (λ a. refl) (λ b. refl) (λ a b. refl)

module _ (tokens : Tokens) {stage : Stage} {level room : ℕ} (fits : HasRoom stage level room) (inner : ℕ → Inside) (readers : InsideReaders)
    (ri : InsideAreRead tokens stage (0 < room) inner readers) where
  deeper : HasRoom stage (suc level) (room - 1)
  deeper = room_inside fits

  there : 0 < room - 1 → 0 < room
  there h = omega arith

  -- ---- Arrays (6.7.6.2)

  pub array_end_is_read : {given : Type 0} (words : List ℕ) (star : Option ℕ) (left_ : ℕ) → IsRead tokens stage given (λ d. lang.array_end d level (inner d) words star left_) (read.array_end room readers words star left_) no (mark MARK_RIGHT_BRACKET ∷ []) nothing
  unfolding lang.array_end read.array_end
  array_end_is_read words star left_ =
      read_token deeper (sample tokens (mark MARK_RIGHT_BRACKET ∷ []) (Mark MARK_RIGHT_BRACKET) refl refl refl) (λ r. read_pure (array_of words None star left_ r))

  pub array_size_is_read : (form : AssignForm) (words : List ℕ) (left_ : ℕ) → IsRead tokens stage (0 < room - 1) (λ d. lang.array_size d level (inner d) form words left_) (read.array_size room readers form words left_) no (begins_assign form) nothing
  unfolding lang.array_size read.array_size
  array_size_is_read form words left_ =
      read_then nothing (read_given there (ri.assign form))
      (λ s. read_token deeper (sample tokens (mark MARK_RIGHT_BRACKET ∷ []) (Mark MARK_RIGHT_BRACKET) refl refl refl) (λ r. read_pure (array_of words (Some s) None left_ r))) (λ a. refl) (λ b. refl) (λ a b. refl)

  pub star_or_size_is_read : (words : List ℕ) (left_ : ℕ) (star : ℕ) → IsRead tokens stage (0 < room - 1) (λ d. lang.star_or_size d level (inner d) words left_ star) (read.star_or_size room readers words left_ star) no (mark MARK_RIGHT_BRACKET ∷ begins_assign Whole) nothing
  unfolding lang.star_or_size read.star_or_size
  star_or_size_is_read words left_ star =
      read_either (array_end_is_read words (Some star) left_) (array_size_is_read (Behind star) words left_) refl

  pub starred_is_read : {given : Type 0} (words : List ℕ) (left_ : ℕ) → IsRead tokens stage given (λ d. lang.starred d level (inner d) words left_) (read.starred room readers words left_) no (mark MARK_STAR ∷ []) nothing
  unfolding lang.starred read.starred
  starred_is_read words left_ =
      read_token deeper (sample tokens (mark MARK_STAR ∷ []) (Mark MARK_STAR) refl refl refl) (λ s. star_or_size_is_read words left_ s)

  pub starred_size_is_read : {given : Type 0} (words : List ℕ) (left_ : ℕ) → IsRead tokens stage given (λ d. lang.starred_size d level (inner d) words left_) (read.starred_size room readers words left_) no (mark MARK_STAR ∷ []) nothing
  unfolding lang.starred_size read.starred_size
  starred_size_is_read words left_ =
      read_token deeper (sample tokens (mark MARK_STAR ∷ []) (Mark MARK_STAR) refl refl refl) (λ s. array_size_is_read (Behind s) words left_)

  pub some_size_is_read : (atomic : Bool) (words : List ℕ) (left_ : ℕ) → IsRead tokens stage (0 < room - 1) (λ d. lang.some_size d level (inner d) atomic words left_) (read.some_size room readers atomic words left_) no (mark MARK_STAR ∷ begins_assign (size_form atomic)) nothing
  unfolding lang.some_size read.some_size
  some_size_is_read atomic words left_ =
      read_either (starred_size_is_read words left_) (array_size_is_read (size_form atomic) words left_) (size_and_star atomic)

  pub maybe_size_is_read : (atomic : Bool) (words : List ℕ) (left_ : ℕ) → IsRead tokens stage (0 < room - 1) (λ d. lang.maybe_size d level (inner d) atomic words left_) (read.maybe_size room readers atomic words left_) no (mark MARK_RIGHT_BRACKET ∷ begins_assign (size_form atomic)) nothing
  unfolding lang.maybe_size read.maybe_size
  maybe_size_is_read atomic words left_ =
      read_either (array_end_is_read words None left_) (array_size_is_read (size_form atomic) words left_) (size_and_bracket (size_form atomic))

  pub size_or_star_is_read : (atomic : Bool) (words : List ℕ) (left_ : ℕ) → IsRead tokens stage (0 < room - 1) (λ d. lang.size_or_star d level (inner d) atomic words left_) (read.size_or_star room readers atomic words left_) no (begins_size atomic) nothing
  unfolding lang.size_or_star read.size_or_star
  size_or_star_is_read atomic words left_ =
      read_either (starred_is_read words left_) (maybe_size_is_read atomic words left_) (end_and_star atomic)

  pub size_or_nothing_is_read : (atomic : Bool) (words : List ℕ) (left_ : ℕ) → IsRead tokens stage (0 < room - 1) (λ d. lang.size_or_nothing d level (inner d) atomic words left_) (read.size_or_nothing room readers atomic words left_) no (begins_size atomic) nothing
  unfolding lang.size_or_nothing read.size_or_nothing
  size_or_nothing_is_read atomic words left_ =
      read_either (starred_size_is_read words left_) (maybe_size_is_read atomic words left_) (end_and_star atomic)

  size_at_is_read : (named : Bool) (qualified : Qualified) (left_ : ℕ) →
      IsRead tokens stage (0 < room - 1) (λ d. lang.size_at d level (inner d) named qualified left_) (read.size_at room readers named qualified left_) no (begins_size qualified.atomic) nothing
  size_at_is_read true qualified left_ = size_or_star_is_read qualified.atomic qualified.words left_
  size_at_is_read false qualified left_ = size_or_nothing_is_read qualified.atomic qualified.words left_

  pub static_behind_is_read : {given : Type 0} (qualified : Qualified) (left_ : ℕ) → IsRead tokens stage given (λ d. lang.static_behind d level (inner d) qualified left_) (read.static_behind room readers qualified left_) no (key KEY_STATIC ∷ []) nothing
  unfolding lang.static_behind read.static_behind
  static_behind_is_read qualified left_ =
      read_token deeper (sample tokens (key KEY_STATIC ∷ []) (Key KEY_STATIC) refl refl refl) (λ k. some_size_is_read false (qualified.words ++ k ∷ []) left_)

  pub behind_qualifiers_is_read : (named : Bool) (qualified : Qualified) (left_ : ℕ) → IsRead tokens stage (0 < room - 1) (λ d. lang.behind_qualifiers d level (inner d) named qualified left_) (read.behind_qualifiers room readers named qualified left_) no (key KEY_STATIC ∷ begins_size qualified.atomic) nothing
  unfolding lang.behind_qualifiers read.behind_qualifiers
  behind_qualifiers_is_read named qualified left_ =
      read_either (static_behind_is_read qualified left_) (size_at_is_read named qualified left_) (size_and_static qualified.atomic)

  pub qualified_array_is_read : (named : Bool) (left_ : ℕ) → IsRead tokens stage (0 < room - 1) (λ d. lang.qualified_array d level (inner d) named left_) (read.qualified_array room readers named left_) no a_qualifier nothing
  unfolding lang.qualified_array read.qualified_array
  qualified_array_is_read named left_ =
      read_then nothing (qualifiers_is_read tokens deeper) (λ q. behind_qualifiers_is_read named q left_) (λ q. size_and_qualifier q.atomic) (λ b. refl) (λ a b. refl)

  pub static_words_is_read : {given : Type 0} → IsRead tokens stage given (λ d. lang.static_words d level (inner d)) (read.static_words room readers) no (key KEY_STATIC ∷ []) (λ a. a_qualifier)
  unfolding lang.static_words read.static_words
  static_words_is_read =
      read_token deeper (sample tokens (key KEY_STATIC ∷ []) (Key KEY_STATIC) refl refl refl) (λ k. all_qualifiers_is_read tokens deeper (with_qualifier no_qualifiers k false))

  pub static_array_is_read : (left_ : ℕ) → IsRead tokens stage (0 < room - 1) (λ d. lang.static_array d level (inner d) left_) (read.static_array room readers left_) no (key KEY_STATIC ∷ []) nothing
  unfolding lang.static_array read.static_array
  static_array_is_read left_ =
      read_then nothing static_words_is_read (λ q. some_size_is_read q.atomic q.words left_) (λ q. some_size_and_qualifier q.atomic) (λ b. refl) (λ a b. refl)

  pub array_is_read : {given : Type 0} (named : Bool) → IsRead tokens stage given (λ d. lang.array d level (inner d) named) (read.array room readers named) no (mark MARK_LEFT_BRACKET ∷ []) nothing
  unfolding lang.array read.array
  array_is_read named =
      read_token deeper (sample tokens (mark MARK_LEFT_BRACKET ∷ []) (Mark MARK_LEFT_BRACKET) refl refl refl)
      (λ l. read_either (static_array_is_read l) (read_either (qualified_array_is_read named l) (size_or_star_is_read false [] l) refl) refl)

  -- ---- Parameter lists (6.7.6.3)

  pub no_params_is_read : {given : Type 0} (left_ : ℕ) → IsRead tokens stage given (λ d. lang.no_params d level (inner d) left_) (read.no_params room readers left_) no (mark MARK_RIGHT_PAREN ∷ []) nothing
  unfolding lang.no_params read.no_params
  no_params_is_read left_ =
      read_token deeper (sample tokens (mark MARK_RIGHT_PAREN ∷ []) (Mark MARK_RIGHT_PAREN) refl refl refl) (λ r. read_pure (suffix.Params [] None (left_ ∷ r ∷ [])))

  pub last_param_is_read : {given : Type 0} (params : Params) (dots : Option ℕ) → IsRead tokens stage given (λ d. lang.last_param d level (inner d) params dots) (read.last_param room readers params dots) no (mark MARK_RIGHT_PAREN ∷ []) (by_turn after_param nothing)
  unfolding lang.last_param read.last_param
  last_param_is_read params dots =
      read_weaker (by_turn after_param nothing) (λ g. g) (λ a. refl) (read_token deeper (sample tokens (mark MARK_RIGHT_PAREN ∷ []) (Mark MARK_RIGHT_PAREN) refl refl refl) (λ r. read_pure (Done (params_of params dots r))))

  pub dots_is_read : {given : Type 0} (params : Params) → IsRead tokens stage given (λ d. lang.dots d level (inner d) params) (read.dots room readers params) no (mark MARK_ELLIPSIS ∷ []) (by_turn after_param nothing)
  unfolding lang.dots read.dots
  dots_is_read params =
      read_token deeper (sample tokens (mark MARK_ELLIPSIS ∷ []) (Mark MARK_ELLIPSIS) refl refl refl) (λ t. last_param_is_read params (Some t))

  pub next_param_is_read : (params : Params) → IsRead tokens stage (0 < room - 1) (λ d. lang.next_param d level (inner d) params) (read.next_param room readers params) no (begins_specifiers Parameter) (by_turn after_param nothing)
  unfolding lang.next_param read.next_param
  next_param_is_read params =
      read_map (λ p. Again (with_param params p)) (by_turn after_param nothing) (read_given there ri.param) (λ a. refl)

  pub comma_param_is_read : {given : Type 0} (params : Params) → IsRead tokens stage given (λ d. lang.comma_param d level (inner d) params) (read.comma_param room readers params) no (mark MARK_COMMA ∷ []) (by_turn after_param nothing)
  unfolding lang.comma_param read.comma_param
  comma_param_is_read params =
      read_token deeper (sample tokens (mark MARK_COMMA ∷ []) (Mark MARK_COMMA) refl refl refl) (λ c. read_either (dots_is_read (params_to params c)) (next_param_is_read (params_to params c)) refl)

  pub param_turn_is_read : {given : Type 0} (params : Params) → IsRead tokens stage given (λ d. lang.param_turn d level (inner d) params) (read.param_turn room readers params) no (mark MARK_COMMA ∷ mark MARK_RIGHT_PAREN ∷ []) (by_turn after_param nothing)
  unfolding lang.param_turn read.param_turn
  param_turn_is_read params =
      read_either (comma_param_is_read params) (last_param_is_read params None) refl

  param_turn_ends : (params : Params) (scopes : OpenScopes) → Ending tokens.IsToken (λ d. lang.param_turn d level (inner d) params) scopes
  unfolding lang.param_turn lang.last_param
  param_turn_ends params scopes =
      let t = (sample tokens (mark MARK_RIGHT_PAREN ∷ []) (Mark MARK_RIGHT_PAREN) refl refl refl) scopes in record {
        word = (t.token, suc level) ∷ [];
        value = params_of params None t.token.number;
        scope' = scopes;
        turns = 0;
        lexemes = (t.lexeme, tt);
        is = λ n h. inr (record {
          front = (t.token, suc level) ∷ [];
          back = [];
          value = (t.token.number, scopes);
          split = refl;
          begin = record { token = t.token; is = refl; fits = t.fits; value = refl };
          rest = record { none = refl; same = refl };
        });
      }

  pub all_params_is_read : {given : Type 0} (params : Params) → IsRead tokens stage given (λ d. lang.all_params d level (inner d) params) (read.all_params room readers params) no (mark MARK_COMMA ∷ mark MARK_RIGHT_PAREN ∷ []) nothing
  unfolding lang.all_params read.all_params
  all_params_is_read params =
      read_repeat after_param nothing param_turn_is_read refl param_turn_ends params

  pub some_params_is_read : (left_ : ℕ) → IsRead tokens stage (0 < room - 1) (λ d. lang.some_params d level (inner d) left_) (read.some_params room readers left_) no (begins_specifiers Parameter) nothing
  unfolding lang.some_params read.some_params
  some_params_is_read left_ =
      read_then nothing (read_given there ri.param) (λ p. all_params_is_read (first_param p left_)) (λ a. refl) (λ b. refl) (λ a b. refl)

  pub params_inside_is_read : (left_ : ℕ) → IsRead tokens stage (0 < room - 1) (λ d. lang.params_inside d level (inner d) left_) (read.params_inside room readers left_) no begins_params nothing
  unfolding lang.params_inside read.params_inside
  params_inside_is_read left_ =
      read_either (no_params_is_read left_) (some_params_is_read left_) refl

  pub open_params_is_read : (left_ : ℕ) → IsRead tokens stage (0 < room - 1) (λ d. lang.open_params d level (inner d) left_) (read.open_params room readers left_) no begins_params nothing
  unfolding lang.open_params read.open_params
  open_params_is_read left_ =
      read_behind_change entered same_entered (params_inside_is_read left_)

  pub params_is_read : (left_ : ℕ) → IsRead tokens stage (0 < room - 1) (λ d. lang.params d level (inner d) left_) (read.params room readers left_) no begins_params nothing
  unfolding lang.params read.params
  params_is_read left_ =
      read_changing (λ (s : Suffix). left) (λ (s : Suffix). s) nothing (open_params_is_read left_) (λ a. fixed [] refl) (λ a. refl)

  pub params_suffix_is_read : {given : Type 0} → IsRead tokens stage given (λ d. lang.params_suffix d level (inner d)) (read.params_suffix room readers) no (mark MARK_LEFT_PAREN ∷ []) nothing
  unfolding lang.params_suffix read.params_suffix
  params_suffix_is_read =
      read_token deeper (sample tokens (mark MARK_LEFT_PAREN ∷ []) (Mark MARK_LEFT_PAREN) refl refl refl) (λ l. params_is_read l)

  -- ---- Suffixes

  pub one_suffix_is_read : {given : Type 0} (named : Bool) → IsRead tokens stage given (λ d. lang.one_suffix d level (inner d) named) (read.one_suffix room readers named) no begins_suffix nothing
  unfolding lang.one_suffix read.one_suffix
  one_suffix_is_read named =
      read_either (array_is_read named) params_suffix_is_read refl

  pub more_suffixes_is_read : {given : Type 0} (named : Bool) (suffixes : List Suffix) → IsRead tokens stage given (λ d. lang.more_suffixes d level (inner d) named suffixes) (read.more_suffixes room readers named suffixes) no begins_suffix nothing
  unfolding lang.more_suffixes read.more_suffixes
  more_suffixes_is_read named suffixes =
      read_map (λ s. suffixes ++ s ∷ []) nothing (one_suffix_is_read named) (λ a. refl)

  pub all_suffixes_is_read : {given : Type 0} (named : Bool) (suffixes : List Suffix) → IsRead tokens stage given (λ d. lang.all_suffixes d level (inner d) named suffixes) (read.all_suffixes room readers named suffixes) keeping begins_suffix (λ a. begins_suffix)
  unfolding lang.all_suffixes read.all_suffixes
  all_suffixes_is_read named suffixes =
      read_many [] begins_suffix (more_suffixes_is_read named) refl refl refl suffixes

  -- ---- Behind pointers

  name_is_read : {given : Type 0} (pointing : Pointing) →
      IsRead tokens stage given (λ d. lang.name d level (inner d) any_name pointing) (read.name room readers any_name pointing) no any_name (λ a. begins_suffix)
  unfolding lang.name read.name
  name_is_read pointing = read_token fits (sample tokens any_name Word refl refl refl) (λ w. read_map (named_of pointing w) (λ a. begins_suffix) (all_suffixes_is_read true []) (λ a. refl))

  pub group_is_read : (naming_ : Naming) (pointing : Pointing) (left_ : ℕ) → IsRead tokens stage (0 < room - 1) (λ d. lang.group d level (inner d) naming_ pointing left_) (read.group room readers naming_ pointing left_) no (begins_group naming_) (λ a. begins_suffix)
  unfolding lang.group read.group
  group_is_read naming_ pointing left_ =
      read_then (λ a. begins_suffix) (read_given there (ri.group naming_))
      (λ i. read_token deeper (sample tokens (mark MARK_RIGHT_PAREN ∷ []) (Mark MARK_RIGHT_PAREN) refl refl refl) (λ r. read_map (group_of pointing left_ i r) (λ a. begins_suffix) (all_suffixes_is_read (is_some i.name) []) (λ a. refl))) (λ a. refl) (λ b. refl) (λ a b. refl)

  pub named_group_is_read : {given : Type 0} (pointing : Pointing) → IsRead tokens stage given (λ d. lang.named_group d level (inner d) pointing) (read.named_group room readers pointing) no (mark MARK_LEFT_PAREN ∷ []) (λ a. begins_suffix)
  unfolding lang.named_group read.named_group
  named_group_is_read pointing =
      read_token deeper (sample tokens (mark MARK_LEFT_PAREN ∷ []) (Mark MARK_LEFT_PAREN) refl refl refl) (λ l. group_is_read naming.Named pointing l)

  named_core_at_is_read : {given : Type 0} (atomic : Bool) (pointing : Pointing) →
      IsRead tokens stage given (λ d. lang.named_core_at d level (inner d) atomic pointing) (read.named_core_at room readers atomic pointing) no (begins_named atomic) (λ a. begins_suffix)
  named_core_at_is_read true pointing = name_is_read pointing
  named_core_at_is_read false pointing = read_either (name_is_read pointing) (named_group_is_read pointing) refl

  pub named_core_is_read : {given : Type 0} (pointing : Pointing) → IsRead tokens stage given (λ d. lang.named_core d level (inner d) pointing) (read.named_core room readers pointing) no (begins_named pointing.atomic) (λ a. begins_suffix)
  unfolding lang.named_core read.named_core
  named_core_is_read pointing =
      named_core_at_is_read pointing.atomic pointing

  pub array_core_is_read : {given : Type 0} (pointing : Pointing) → IsRead tokens stage given (λ d. lang.array_core d level (inner d) pointing) (read.array_core room readers pointing) no (mark MARK_LEFT_BRACKET ∷ []) (λ a. begins_suffix)
  unfolding lang.array_core read.array_core
  array_core_is_read pointing =
      read_then (λ a. begins_suffix) (array_is_read false) (λ f. read_map (unnamed_of pointing) (λ a. begins_suffix) (all_suffixes_is_read false (f ∷ [])) (λ a. refl)) (λ a. refl) (λ b. refl) (λ a b. refl)

  pub params_core_is_read : (pointing : Pointing) (left_ : ℕ) → IsRead tokens stage (0 < room - 1) (λ d. lang.params_core d level (inner d) pointing left_) (read.params_core room readers pointing left_) no begins_params (λ a. begins_suffix)
  unfolding lang.params_core read.params_core
  params_core_is_read pointing left_ =
      read_then (λ a. begins_suffix) (params_is_read left_) (λ f. read_map (unnamed_of pointing) (λ a. begins_suffix) (all_suffixes_is_read false (f ∷ [])) (λ a. refl)) (λ a. refl) (λ b. refl) (λ a b. refl)

  module _ (naming_ : Naming) (apart : are_disjoint (begins_group naming_) begins_params ≡ true) where
    pub paren_core_is_read : {given : Type 0} (pointing : Pointing) → IsRead tokens stage given (λ d. lang.paren_core d level (inner d) naming_ pointing) (read.paren_core room readers naming_ pointing) no (mark MARK_LEFT_PAREN ∷ []) (λ a. begins_suffix)
    unfolding lang.paren_core read.paren_core
    paren_core_is_read pointing =
        read_token deeper (sample tokens (mark MARK_LEFT_PAREN ∷ []) (Mark MARK_LEFT_PAREN) refl refl refl) (λ l. read_either (params_core_is_read pointing l) (group_is_read naming_ pointing l) apart)

    unnamed_core_at_is_read : {given : Type 0} (atomic : Bool) (pointing : Pointing) →
        IsRead tokens stage given (λ d. lang.unnamed_core_at d level (inner d) naming_ atomic pointing) (read.unnamed_core_at room readers naming_ atomic pointing) no
        (begins_unnamed atomic) (λ a. begins_suffix)
    unnamed_core_at_is_read true pointing = array_core_is_read pointing
    unnamed_core_at_is_read false pointing = read_either (paren_core_is_read pointing) (array_core_is_read pointing) refl

    pub unnamed_core_is_read : {given : Type 0} (pointing : Pointing) → IsRead tokens stage given (λ d. lang.unnamed_core d level (inner d) naming_ pointing) (read.unnamed_core room readers naming_ pointing) no (begins_unnamed pointing.atomic) (λ a. begins_suffix)
    unfolding lang.unnamed_core read.unnamed_core
    unnamed_core_is_read pointing =
        unnamed_core_at_is_read pointing.atomic pointing

  -- ---- Declarators with a name

  pub pointed_name_is_read : {given : Type 0} → IsRead tokens stage given (λ d. lang.pointed_name d level (inner d)) (read.pointed_name room readers) no (mark MARK_STAR ∷ []) (λ a. begins_suffix)
  unfolding lang.pointed_name read.pointed_name
  pointed_name_is_read =
      read_then (λ a. begins_suffix) (pointers_is_read tokens fits) named_core_is_read (λ p. named_and_pointers p.atomic) (λ b. refl) (λ a b. refl)

  pub declarator_is_read : {given : Type 0} (atomic : Bool) → IsRead tokens stage given (λ d. lang.declarator d level (inner d) atomic) (read.declarator room readers atomic) no (mark MARK_STAR ∷ begins_named atomic) (λ a. begins_suffix)
  unfolding lang.declarator read.declarator
  declarator_is_read atomic =
      read_either pointed_name_is_read (named_core_is_read (no_pointers atomic)) (named_and_star atomic)

  -- ---- Declarators without one

  abstract_core_is_read : {given : Type 0} (pointing : Pointing) →
      IsRead tokens stage given (λ d. lang.unnamed_core d level (inner d) naming.Abstract pointing) (read.unnamed_core room readers naming.Abstract pointing) no
      (begins_unnamed pointing.atomic) (λ a. after_abstract)
  abstract_core_is_read pointing = read_weaker (λ a. after_abstract) (λ g. g) (λ a. refl) (unnamed_core_is_read naming.Abstract refl pointing)

  pub pointed_abstract_is_read : {given : Type 0} → IsRead tokens stage given (λ d. lang.pointed_abstract d level (inner d)) (read.pointed_abstract room readers) no (mark MARK_STAR ∷ []) (λ a. after_abstract)
  unfolding lang.pointed_abstract read.pointed_abstract
  pointed_abstract_is_read =
      read_then (λ a. after_abstract) (pointers_is_read tokens fits)
      (λ p. read_optional (λ a. after_abstract) (unnamed_of p []) (abstract_core_is_read p) (λ a. refl) (unnamed_goes_on p.atomic)) (λ p. unnamed_and_pointers p.atomic) (λ b. refl) (λ a b. refl)

  pub some_abstract_is_read : {given : Type 0} (atomic : Bool) → IsRead tokens stage given (λ d. lang.some_abstract d level (inner d) atomic) (read.some_abstract room readers atomic) no (mark MARK_STAR ∷ begins_unnamed atomic) (λ a. after_abstract)
  unfolding lang.some_abstract read.some_abstract
  some_abstract_is_read atomic =
      read_either pointed_abstract_is_read (abstract_core_is_read (no_pointers atomic)) (unnamed_and_star atomic)

  pub abstract_declarator_is_read : {given : Type 0} (atomic : Bool) → IsRead tokens stage given (λ d. lang.abstract_declarator d level (inner d) atomic) (read.abstract_declarator room readers atomic) keeping ((mark MARK_STAR ∷ begins_unnamed atomic) ++ []) (λ a. after_abstract)
  unfolding lang.abstract_declarator read.abstract_declarator
  abstract_declarator_is_read atomic =
      read_optional (λ a. after_abstract) (unnamed_of (no_pointers atomic) []) (some_abstract_is_read atomic) (λ a. refl) (abstract_goes_on atomic)

  -- ---- Declarators with a name or without

  either_unnamed_is_read : {given : Type 0} (pointing : Pointing) →
      IsRead tokens stage given (λ d. lang.unnamed_core d level (inner d) naming.Either pointing) (read.unnamed_core room readers naming.Either pointing) no
      (begins_unnamed pointing.atomic) (λ a. begins_suffix)
  either_unnamed_is_read pointing = unnamed_core_is_read naming.Either refl pointing

  pub either_core_is_read : {given : Type 0} (pointing : Pointing) → IsRead tokens stage given (λ d. lang.either_core d level (inner d) pointing) (read.either_core room readers pointing) no (begins_either pointing.atomic) (λ a. after_either)
  unfolding lang.either_core read.either_core
  either_core_is_read pointing =
      read_weaker (λ a. after_either) (λ g. g) (λ a. refl) (read_either (name_is_read pointing) (either_unnamed_is_read pointing) (unnamed_and_name pointing.atomic))

  pub pointed_either_is_read : {given : Type 0} → IsRead tokens stage given (λ d. lang.pointed_either d level (inner d)) (read.pointed_either room readers) no (mark MARK_STAR ∷ []) (λ a. after_either)
  unfolding lang.pointed_either read.pointed_either
  pointed_either_is_read =
      read_then (λ a. after_either) (pointers_is_read tokens fits)
      (λ p. read_optional (λ a. after_either) (unnamed_of p []) (either_core_is_read p) (λ a. refl) (core_goes_on p.atomic)) (λ p. either_and_pointers p.atomic) (λ b. refl) (λ a b. refl)

  pub some_either_is_read : {given : Type 0} (atomic : Bool) → IsRead tokens stage given (λ d. lang.some_either d level (inner d) atomic) (read.some_either room readers atomic) no (mark MARK_STAR ∷ begins_either atomic) (λ a. after_either)
  unfolding lang.some_either read.some_either
  some_either_is_read atomic =
      read_either pointed_either_is_read (either_core_is_read (no_pointers atomic)) (either_and_star atomic)

  pub either_is_read : {given : Type 0} (atomic : Bool) → IsRead tokens stage given (λ d. lang.either d level (inner d) atomic) (read.either room readers atomic) keeping ((mark MARK_STAR ∷ begins_either atomic) ++ []) (λ a. after_either)
  unfolding lang.either read.either
  either_is_read atomic =
      read_optional (λ a. after_either) (unnamed_of (no_pointers atomic) []) (some_either_is_read atomic) (λ a. refl) (either_goes_on atomic)

  grouped_either_is_read : {given : Type 0} → IsRead tokens stage given (λ d. lang.grouped_either d level (inner d)) (read.grouped_either room readers) no (begins_group naming.Either) (λ a. after_either)
  unfolding lang.grouped_either read.grouped_either lang.name read.name
  grouped_either_is_read =
      read_either pointed_either_is_read
      (read_guarded a_name word_of (λ a. after_either) fits (λ w. read_map (named_of (no_pointers false) w) (λ a. begins_suffix) (all_suffixes_is_read true []) (λ a. refl))
      (either_unnamed_is_read (no_pointers false)) refl (λ a. refl) (λ a. refl) (λ d scope end y. refl)) refl

  -- ---- In parentheses

  pub grouped_is_read : {given : Type 0} (naming_ : Naming) →
      IsRead tokens stage given (λ d. lang.grouped d level (inner d) naming_) (read.grouped room readers naming_) no (begins_group naming_) (λ a. after_either)
  grouped_is_read naming.Named = read_weaker (λ a. after_either) (λ g. g) (λ a. refl) (declarator_is_read false)
  grouped_is_read naming.Abstract = read_weaker (λ a. after_either) (λ g. g) (λ a. refl) (some_abstract_is_read false)
  grouped_is_read naming.Either = grouped_either_is_read

  -- ---- Parameters and type names

  param_apart : (s : Specified) → are_disjoint (after_specifiers Parameter s) ((mark MARK_STAR ∷ begins_either s.atomic) ++ []) ≡ true
  param_apart s = param_apart_at s.atomic s.words s.typedef

  type_apart : (s : Specified) → are_disjoint (after_specifiers Nameless s) ((mark MARK_STAR ∷ begins_unnamed s.atomic) ++ []) ≡ true
  type_apart s = type_apart_at s.atomic s.words s.typedef

  pub undeclared_param_is_read : {given : Type 0} → IsRead tokens stage given (λ d. lang.undeclared_param d level (inner d)) (read.undeclared_param room readers) no (begins_specifiers Parameter) (λ a. after_param)
  unfolding lang.undeclared_param read.undeclared_param
  undeclared_param_is_read =
      read_then (λ a. after_param) (specifiers_is_read tokens fits inner readers ri Parameter)
      (λ s. read_map (named_param s) (λ a. after_param) (either_is_read s.atomic) (λ a. refl)) param_apart (λ b. refl) (λ s b. param_goes_on_at s.atomic s.words s.typedef)

  pub param_is_read : {given : Type 0} → IsRead tokens stage given (λ d. lang.param d level (inner d)) (read.param room readers) no (begins_specifiers Parameter) (λ a. after_param)
  unfolding lang.param read.param
  param_is_read =
      read_changing (λ (n : NamedParam). with_name n.name false) (λ (n : NamedParam). n.param) (λ a. after_param) undeclared_param_is_read (λ a. fixed after_param refl) (λ a. refl)

  pub type_name_is_read : {given : Type 0} → IsRead tokens stage given (λ d. lang.type_name d level (inner d)) (read.type_name room readers) no (begins_specifiers Nameless) (λ a. after_type_name)
  unfolding lang.type_name read.type_name
  type_name_is_read =
      read_then (λ a. after_type_name) (specifiers_is_read tokens fits inner readers ri Nameless)
      (λ s. read_map (type_name_of s) (λ a. after_type_name) (abstract_declarator_is_read s.atomic) (λ a. refl)) type_apart (λ b. refl) (λ s b. type_goes_on_at s.atomic s.words s.typedef)
