-- Heads of function definitions are read exactly (C11 6.9.1), a term a rule.

use Rattle.std.proofs.Common.{◌≡◌, ℕ, suc, ◌-◌, ◌<◌, Bool, true, false, List, [], ◌∷◌, ◌++◌, refl, sym, subst, arith}
use Rattle.c_lexer.specs.declared.token.Kind.TheVariants.{Word, Mark}
use Rattle.c_lexer.specs.declared.mark.TheConstants.{MARK_LEFT_PAREN, MARK_RIGHT_PAREN, MARK_STAR}
use Rattle.c_tree.specs.declared.tree.Spec.{Spec}
use Rattle.c_tree.specs.declared.tree.Suffix.{Suffix}
use Rattle.c_scopes.specs.Scopes.{entered}
use Rattle.reading.specs.Terminals.{are_disjoint}
use Rattle.reading.specs.Exact.{room_on}
use Rattle.reading.proofs.ReadBy.{Stage, below, whole, Nullable, no, keeping, read_given}
use Rattle.reading.proofs.ReadOne.{HasRoom, room_inside}
use Rattle.reading.proofs.ReadThen.{read_then, read_token, read_map}
use Rattle.reading.proofs.ReadEither.{read_either, read_optional}
use Rattle.reading.proofs.ReadChanging.{read_changing}
use Rattle.c_reading.specs.Terminals.{mark}
use Rattle.c_syntax.specs.Scoping.{Part, PartReader}
use Rattle.c_syntax.specs.Sets.{any_name}
use Rattle.c_specifiers.specs.Words.{NamedToken}
use Rattle.c_specifiers.specs.Inside.{Inside, InsideReaders}
use Rattle.c_specifiers.specs.DeclarationSets.{begins_specifiers, begins_suffix, begins_named, begins_params}
use Rattle.c_specifiers.specs.DeclarationSteps.{with_name}
use Rattle.c_specifiers.specs.declared.forms.Named.{Named}
use Rattle.c_specifiers.specs.declared.forms.Naming.TheVariants as naming
use Rattle.c_specifiers.specs.declared.forms.Place.TheVariants.{Definition}
use Rattle.c_specifiers.specs.declared.forms.Specified.{Specified}
use Rattle.c_specifiers.proofs.DeclarationReadings.{Tokens, IsRead, InsideAreRead, sample, fixed, nothing, paren, begins_group, after_specifiers, after_pointers}
use Rattle.c_specifiers.proofs.SpecifiersAreRead.{specifiers_is_read}
use Rattle.c_declarators.specs.declared.forms.Pointing.{Pointing}
use Rattle.c_declarators.specs.DeclaratorForms.{no_pointers, named_of, group_of}
use Rattle.c_declarators.proofs.DeclaratorsAreRead.{pointers_is_read, open_params_is_read, all_suffixes_is_read}
use Rattle.c_heads.specs.declared.forms.Enclosed.{Enclosed}
use Rattle.c_heads.specs.declared.forms.Enclosed.TheVariants.{Bare, Function}
use Rattle.c_heads.specs.declared.forms.NamedHead.{NamedHead}
use Rattle.c_heads.specs.HeadForms.{bare_name, bare_group, named_head}
use Rattle.c_heads.specs.HeadRules as lang
use Rattle.c_heads.specs.HeadReaders as read
use Rattle.c_heads.proofs.Nested.{read_nested_inside}
use Rattle.c_heads.proofs.SomeEnclosed.{some_enclosed}

-- ---- Sets behind `_Atomic` and elsewhere

named_and_star : (atomic : Bool) → are_disjoint (begins_named atomic) (mark MARK_STAR ∷ []) ≡ true
named_and_star true = refl
named_and_star false = refl

named_and_pointers : (atomic : Bool) → are_disjoint after_pointers (begins_named atomic) ≡ true
named_and_pointers true = refl
named_and_pointers false = refl

head_apart_at : (atomic : Bool) (words : List Spec) (typedef : Bool) →
    are_disjoint (after_specifiers Definition (record { words = words; typedef = typedef; atomic = atomic })) (mark MARK_STAR ∷ begins_named atomic) ≡ true
head_apart_at true words typedef = refl
head_apart_at false words typedef = refl

head_apart : (s : Specified) → are_disjoint (after_specifiers Definition s) (mark MARK_STAR ∷ begins_named s.atomic) ≡ true
head_apart s = head_apart_at s.atomic s.words s.typedef

-- ---- Behind parentheses

-- Behind a name the function's own parameters are still to come.
abbrev null_around : Enclosed → Nullable
null_around (Bare inside) = no
null_around (Function inside) = keeping

abbrev first_around : Enclosed → List ℕ
first_around (Bare inside) = paren
first_around (Function inside) = begins_suffix

abbrev first_enclosed_around : Enclosed → List ℕ
first_enclosed_around (Bare inside) = paren ++ []
first_enclosed_around (Function inside) = begins_suffix

abbrev begins_enclosed : List ℕ
begins_enclosed = begins_group naming.Named

module _ (tokens : Tokens) {stage : Stage} {level room : ℕ} (fits : HasRoom stage level room) (inner : ℕ → Inside) (readers : InsideReaders)
    (ri : InsideAreRead tokens stage (0 < room) inner readers) where
  deeper : HasRoom stage (suc level) (room - 1)
  deeper = room_inside fits

  -- ---- The function's own parameters

  own_list_is_read : (left_ : ℕ) → IsRead tokens stage (0 < room - 1) (λ d. lang.own_list d level (inner d) left_) (read.own_list room readers left_) no begins_params nothing
  unfolding lang.own_list read.own_list
  own_list_is_read left_ =
      read_changing (λ (s : Suffix). entered) (λ (s : Suffix). s) nothing (open_params_is_read tokens fits inner readers ri left_) (λ a. fixed [] refl) (λ a. refl)

  own_params_is_read : {given : Type 0} → IsRead tokens stage given (λ d. lang.own_params d level (inner d)) (read.own_params room readers) no paren nothing
  unfolding lang.own_params read.own_params
  own_params_is_read = read_token deeper (sample tokens (mark MARK_LEFT_PAREN ∷ []) (Mark MARK_LEFT_PAREN) refl refl refl) (λ l. own_list_is_read l)

  pub own_suffixes_is_read : {given : Type 0} → IsRead tokens stage given (λ d. lang.own_suffixes d level (inner d)) (read.own_suffixes room readers) no paren (λ a. begins_suffix)
  unfolding lang.own_suffixes read.own_suffixes
  own_suffixes_is_read =
      read_then (λ a. begins_suffix) own_params_is_read (λ f. all_suffixes_is_read tokens fits inner readers ri true (f ∷ [])) (λ a. refl) (λ b. refl) (λ a b. refl)

  function_behind_is_read : {given : Type 0} (pointing : Pointing) (word : NamedToken) →
      IsRead tokens stage given (λ d. lang.function_behind d level (inner d) pointing word) (read.function_behind room readers pointing word) no paren (λ a. begins_suffix)
  unfolding lang.function_behind read.function_behind
  function_behind_is_read pointing word = read_map (named_of pointing word) (λ a. begins_suffix) own_suffixes_is_read (λ a. refl)

  pub function_name_is_read : {given : Type 0} (pointing : Pointing) →
      IsRead tokens stage given (λ d. lang.function_name d level (inner d) pointing) (read.function_name room readers pointing) no any_name (λ a. begins_suffix)
  unfolding lang.function_name read.function_name
  function_name_is_read pointing = read_token fits (sample tokens any_name Word refl refl refl) (λ w. function_behind_is_read pointing w)

  -- ---- Behind parentheses

  around_bare_is_read : {given : Type 0} (pointing : Pointing) (left_ : ℕ) (inside : Named) (right_ : ℕ) →
      IsRead tokens stage given (λ d. lang.around_bare d level (inner d) pointing left_ inside right_) (read.around_bare room readers pointing left_ inside right_) no paren (λ a. begins_suffix)
  unfolding lang.around_bare read.around_bare
  around_bare_is_read pointing left_ inside right_ = read_map (group_of pointing left_ inside right_) (λ a. begins_suffix) own_suffixes_is_read (λ a. refl)

  around_function_is_read : {given : Type 0} (pointing : Pointing) (left_ : ℕ) (inside : Named) (right_ : ℕ) →
      IsRead tokens stage given (λ d. lang.around_function d level (inner d) pointing left_ inside right_) (read.around_function room readers pointing left_ inside right_) keeping begins_suffix
      (λ a. begins_suffix)
  unfolding lang.around_function read.around_function
  around_function_is_read pointing left_ inside right_ =
      read_map (group_of pointing left_ inside right_) (λ a. begins_suffix) (all_suffixes_is_read tokens fits inner readers ri true []) (λ a. refl)

  around_is_read : {given : Type 0} (pointing : Pointing) (left_ : ℕ) (inside : Enclosed) (right_ : ℕ) →
      IsRead tokens stage given (λ d. lang.around d level (inner d) pointing left_ inside right_) (read.around room readers pointing left_ inside right_) (null_around inside)
      (first_around inside) (λ a. begins_suffix)
  around_is_read pointing left_ (Bare inside) right_ = around_bare_is_read pointing left_ inside right_
  around_is_read pointing left_ (Function inside) right_ = around_function_is_read pointing left_ inside right_

  -- ---- The same in parentheses

  enclosed_function_is_read : {given : Type 0} (word : NamedToken) →
      IsRead tokens stage given (λ d. lang.enclosed_function d level (inner d) word) (read.enclosed_function room readers word) no paren (λ a. begins_suffix)
  unfolding lang.enclosed_function read.enclosed_function
  enclosed_function_is_read word = read_map (λ n. Function n) (λ a. begins_suffix) (function_behind_is_read (no_pointers false) word) (λ a. refl)

  enclosed_behind_is_read : {given : Type 0} (word : NamedToken) →
      IsRead tokens stage given (λ d. lang.enclosed_behind d level (inner d) word) (read.enclosed_behind room readers word) keeping (paren ++ []) (λ a. begins_suffix)
  unfolding lang.enclosed_behind read.enclosed_behind
  enclosed_behind_is_read word = read_optional (λ a. begins_suffix) (Bare (bare_name word)) (enclosed_function_is_read word) (λ a. refl) refl

  enclosed_name_is_read : {given : Type 0} →
      IsRead tokens stage given (λ d. lang.enclosed_name d level (inner d)) (read.enclosed_name room readers) no any_name (λ a. begins_suffix)
  unfolding lang.enclosed_name read.enclosed_name
  enclosed_name_is_read = read_token fits (sample tokens any_name Word refl refl refl) (λ w. enclosed_behind_is_read w)

  function_around_bare_is_read : {given : Type 0} (left_ : ℕ) (inside : Named) (right_ : ℕ) →
      IsRead tokens stage given (λ d. lang.function_around_bare d level (inner d) left_ inside right_) (read.function_around_bare room readers left_ inside right_) no paren (λ a. begins_suffix)
  unfolding lang.function_around_bare read.function_around_bare
  function_around_bare_is_read left_ inside right_ = read_map (λ n. Function n) (λ a. begins_suffix) (around_bare_is_read (no_pointers false) left_ inside right_) (λ a. refl)

  enclosed_around_is_read : {given : Type 0} (left_ : ℕ) (inside : Enclosed) (right_ : ℕ) →
      IsRead tokens stage given (λ d. lang.enclosed_around d level (inner d) left_ inside right_) (read.enclosed_around room readers left_ inside right_) keeping (first_enclosed_around inside)
      (λ a. begins_suffix)
  unfolding lang.enclosed_around_bare read.enclosed_around_bare lang.enclosed_around_function read.enclosed_around_function
  enclosed_around_is_read left_ (Bare inside) right_ =
      read_optional (λ a. begins_suffix) (Bare (bare_group left_ inside right_)) (function_around_bare_is_read left_ inside right_) (λ a. refl) refl
  enclosed_around_is_read left_ (Function inside) right_ =
      read_map (λ n. Function n) (λ a. begins_suffix) (around_function_is_read (no_pointers false) left_ inside right_) (λ a. refl)

  module _ (enclosed : ℕ → Part Enclosed) (enclosed_reader : PartReader Enclosed) (re : IsRead tokens stage (0 < room) enclosed enclosed_reader no begins_enclosed (λ a. begins_suffix)) where
    there : 0 < room - 1 → 0 < room
    there h = omega arith

    -- ---- Declarators of functions

    function_group_is_read : {given : Type 0} (pointing : Pointing) →
        IsRead tokens stage given (λ d. lang.function_group d level (inner d) (enclosed d) pointing) (read.function_group room readers enclosed_reader pointing) no paren (λ a. begins_suffix)
    unfolding lang.function_group read.function_group
    function_group_is_read pointing =
        read_token deeper (sample tokens (mark MARK_LEFT_PAREN ∷ []) (Mark MARK_LEFT_PAREN) refl refl refl)
        (λ l. read_then (λ a. begins_suffix) (read_given there re)
        (λ i. read_token deeper (sample tokens (mark MARK_RIGHT_PAREN ∷ []) (Mark MARK_RIGHT_PAREN) refl refl refl) (λ r. around_is_read pointing l i r)) (λ a. refl) (λ b. refl) (λ a b. refl))

    function_core_at_is_read : {given : Type 0} (atomic : Bool) (pointing : Pointing) →
        IsRead tokens stage given (λ d. lang.function_core_at d level (inner d) (enclosed d) atomic pointing) (read.function_core_at room readers enclosed_reader atomic pointing) no
        (begins_named atomic) (λ a. begins_suffix)
    function_core_at_is_read true pointing = function_name_is_read pointing
    function_core_at_is_read false pointing = read_either (function_name_is_read pointing) (function_group_is_read pointing) refl

    function_core_is_read : {given : Type 0} (pointing : Pointing) →
        IsRead tokens stage given (λ d. lang.function_core d level (inner d) (enclosed d) pointing) (read.function_core room readers enclosed_reader pointing) no
        (begins_named pointing.atomic) (λ a. begins_suffix)
    unfolding lang.function_core read.function_core
    function_core_is_read pointing = function_core_at_is_read pointing.atomic pointing

    pointed_function_is_read : {given : Type 0} →
        IsRead tokens stage given (λ d. lang.pointed_function d level (inner d) (enclosed d)) (read.pointed_function room readers enclosed_reader) no (mark MARK_STAR ∷ []) (λ a. begins_suffix)
    unfolding lang.pointed_function read.pointed_function
    pointed_function_is_read =
        read_then (λ a. begins_suffix) (pointers_is_read tokens fits) function_core_is_read (λ p. named_and_pointers p.atomic) (λ b. refl) (λ a b. refl)

    pub function_declarator_is_read : {given : Type 0} (atomic : Bool) →
        IsRead tokens stage given (λ d. lang.function_declarator d level (inner d) (enclosed d) atomic) (read.function_declarator room readers enclosed_reader atomic) no
        (mark MARK_STAR ∷ begins_named atomic) (λ a. begins_suffix)
    unfolding lang.function_declarator read.function_declarator
    function_declarator_is_read atomic = read_either pointed_function_is_read (function_core_is_read (no_pointers atomic)) (named_and_star atomic)

    -- ---- In parentheses

    enclosed_pointed_is_read : {given : Type 0} →
        IsRead tokens stage given (λ d. lang.enclosed_pointed d level (inner d) (enclosed d)) (read.enclosed_pointed room readers enclosed_reader) no (mark MARK_STAR ∷ []) (λ a. begins_suffix)
    unfolding lang.enclosed_pointed read.enclosed_pointed
    enclosed_pointed_is_read = read_map (λ n. Function n) (λ a. begins_suffix) pointed_function_is_read (λ a. refl)

    enclosed_group_is_read : {given : Type 0} →
        IsRead tokens stage given (λ d. lang.enclosed_group d level (inner d) (enclosed d)) (read.enclosed_group room readers enclosed_reader) no paren (λ a. begins_suffix)
    unfolding lang.enclosed_group read.enclosed_group
    enclosed_group_is_read =
        read_token deeper (sample tokens (mark MARK_LEFT_PAREN ∷ []) (Mark MARK_LEFT_PAREN) refl refl refl)
        (λ l. read_then (λ a. begins_suffix) (read_given there re)
        (λ i. read_token deeper (sample tokens (mark MARK_RIGHT_PAREN ∷ []) (Mark MARK_RIGHT_PAREN) refl refl refl) (λ r. enclosed_around_is_read l i r)) (λ a. refl) (λ b. refl) (λ a b. refl))

    enclosed_declarator_is_read : {given : Type 0} →
        IsRead tokens stage given (λ d. lang.enclosed_declarator d level (inner d) (enclosed d)) (read.enclosed_declarator room readers enclosed_reader) no begins_enclosed (λ a. begins_suffix)
    unfolding lang.enclosed_declarator read.enclosed_declarator
    enclosed_declarator_is_read = read_either enclosed_pointed_is_read (read_either enclosed_name_is_read enclosed_group_is_read refl) refl

    -- ---- Heads

    undeclared_head_is_read : {given : Type 0} →
        IsRead tokens stage given (λ d. lang.undeclared_head d level (inner d) (enclosed d)) (read.undeclared_head room readers enclosed_reader) no (begins_specifiers Definition) (λ a. begins_suffix)
    unfolding lang.undeclared_head read.undeclared_head
    undeclared_head_is_read =
        read_then (λ a. begins_suffix) (specifiers_is_read tokens fits inner readers ri Definition)
        (λ s. read_map (named_head s) (λ a. begins_suffix) (function_declarator_is_read s.atomic) (λ a. refl)) head_apart (λ b. refl) (λ s b. refl)

    head_at_is_read : {given : Type 0} →
        IsRead tokens stage given (λ d. lang.head_at d level (inner d) (enclosed d)) (read.head_at room readers enclosed_reader) no (begins_specifiers Definition) (λ a. begins_suffix)
    unfolding lang.head_at read.head_at
    head_at_is_read =
        read_changing (λ (n : NamedHead). with_name n.name false) (λ (n : NamedHead). n.head) (λ a. begins_suffix) undeclared_head_is_read (λ a. fixed begins_suffix refl) (λ a. refl)

-- ---- The knot

module _ (tokens : Tokens) where
  -- What is read exactly is predictive for any number of turns.
  below_whole : {given given' A : Type 0} {X : ℕ → Part A} {p : PartReader A} {null : Nullable} {first : List ℕ} {last : A → List ℕ} (most : ℕ) (q : PartReader A) →
      IsRead tokens whole given X p null first last → IsRead tokens (below most) given' X q null first last
  below_whole most q r = record {
    predictive = λ d h. r.predictive d tt;
    keeps = λ d h. r.keeps d tt;
    some = r.some;
    exact = λ s. absurd s;
    ready = λ s. absurd s;
    empty = λ s. absurd s;
  }

  inside_below : {given given' : Type 0} {inner : ℕ → Inside} {readers : InsideReaders} (most : ℕ) (others : InsideReaders) →
      InsideAreRead tokens whole given inner readers → InsideAreRead tokens (below most) given' inner others
  inside_below most others ri = record {
    assign = λ form. below_whole most (others.assign form) (ri.assign form);
    type_name = below_whole most others.type_name ri.type_name;
    param = below_whole most others.param ri.param;
    member = below_whole most others.member ri.member;
    group = λ n. below_whole most (others.group n) (ri.group n);
    item = below_whole most others.item ri.item;
  }

  module _ (insides : ℕ → ℕ → Inside) (readers : ℕ → InsideReaders)
      (ri : (level : ℕ) → InsideAreRead tokens whole (0 < room_on level) (λ d. insides d level) (readers (room_on level))) where
    inside_at : (stage : Stage) (level room : ℕ) → HasRoom stage level room → InsideAreRead tokens stage (0 < room) (λ d. insides d level) (readers room)
    inside_at (below most) level room fits = inside_below most (readers room) (ri level)
    inside_at whole level room fits = subst (λ r. InsideAreRead tokens whole (0 < r) (λ d. insides d level) (readers r)) (sym (fits.is tt)) (ri level)

    body_is_read : (stage : Stage) (level room : ℕ) → HasRoom stage level room → (inner : ℕ → Prim.Unit {0} → Part Enclosed) (inner_reader : Prim.Unit {0} → PartReader Enclosed) →
        ((m : Prim.Unit {0}) → IsRead tokens stage (0 < room) (λ d. inner d m) (inner_reader m) no begins_enclosed (λ a. begins_suffix)) →
        (n : Prim.Unit {0}) → IsRead tokens stage (Prim.Unit {0}) (λ d. lang.enclosed_body insides n d level (inner d)) (read.enclosed_body readers n room inner_reader) no begins_enclosed (λ a. begins_suffix)
    unfolding lang.enclosed_body read.enclosed_body
    body_is_read stage level room fits inner inner_reader re n =
        enclosed_declarator_is_read tokens fits (λ d. insides d level) (readers room) (inside_at stage level room fits) (λ d. inner d n) (inner_reader n) (re n)

    pub enclosed_is_read : (level : ℕ) →
        IsRead tokens whole (0 < room_on level) (λ d. lang.enclosed_in insides d (suc level)) (read.enclosed_in readers (room_on level)) no begins_enclosed (λ a. begins_suffix)
    enclosed_is_read level =
        read_nested_inside (lang.enclosed_body insides) (read.enclosed_body readers) (λ n. no) (λ n. begins_enclosed) (λ n a. begins_suffix)
        (λ n at scopes. some_enclosed tokens insides at scopes) body_is_read level tt

    pub head_is_read : {given : Type 0} (level : ℕ) →
        IsRead tokens whole given (λ d. lang.head insides d level) (read.head readers (room_on level)) no (begins_specifiers Definition) (λ a. begins_suffix)
    unfolding lang.head read.head
    head_is_read level =
        head_at_is_read tokens (record { is = λ s. refl }) (λ d. insides d level) (readers (room_on level)) (ri level)
        (λ d. lang.enclosed_in insides d (suc level)) (read.enclosed_in readers (room_on level)) (enclosed_is_read level)
