-- Readers of the head of a function definition (C11 6.9.1).

use Rattle.std.specs.Prelude.{ℕ, ◌-◌, Bool, true, false, List, [], ◌∷◌}
use Rattle.c_lexer.specs.declared.mark.TheConstants.{MARK_LEFT_PAREN, MARK_RIGHT_PAREN, MARK_STAR}
use Rattle.c_scopes.specs.Scopes.{entered}
use Rattle.c_tree.specs.declared.tree.Suffix.{Suffix}
use Rattle.reading.specs.Readers.{◌>>=◌, pure, changes}
use Rattle.reading.specs.Nesting.{nested_reader}
use Rattle.c_syntax.specs.Scoping.{PartReader}
use Rattle.c_syntax.specs.Steps.{expect_mark, where_among, where_mark}
use Rattle.c_syntax.specs.Sets.{any_name}
use Rattle.c_specifiers.specs.Words.{NamedToken}
use Rattle.c_specifiers.specs.Inside.{InsideReaders}
use Rattle.c_specifiers.specs.DeclarationSteps.{expect_word, declare}
use Rattle.c_specifiers.specs.SpecifierReaders.{specifiers}
use Rattle.c_specifiers.specs.declared.forms.Named.{Named}
use Rattle.c_specifiers.specs.declared.forms.Place.TheVariants.{Definition}
use Rattle.c_declarators.specs.declared.forms.Pointing.{Pointing}
use Rattle.c_declarators.specs.DeclaratorForms.{no_pointers, named_of, group_of}
use Rattle.c_declarators.specs.DeclaratorReaders.{pointers, open_params, all_suffixes}
use Rattle.c_heads.specs.declared.forms.Enclosed.{Enclosed}
use Rattle.c_heads.specs.declared.forms.Enclosed.TheVariants.{Bare, Function}
use Rattle.c_heads.specs.declared.forms.NamedHead.{NamedHead}
use Rattle.c_heads.specs.declared.forms.Head.{Head}
use Rattle.c_heads.specs.HeadForms.{bare_name, bare_group, named_head}

module _ (room : ℕ) (inner : InsideReaders) where
  -- ---- The function's own parameters

  unfoldable pub own_list : ℕ → PartReader Suffix
  own_list left = do
    list ← open_params room inner left
    changes entered list

  unfoldable pub own_params : PartReader Suffix
  own_params = do
    left ← expect_mark MARK_LEFT_PAREN (room - 1)
    own_list left

  unfoldable pub own_suffixes : PartReader (List Suffix)
  own_suffixes = do
    first ← own_params
    all_suffixes room inner true (first ∷ [])

  unfoldable pub function_behind : Pointing → NamedToken → PartReader Named
  function_behind pointing word = do
    suffixes ← own_suffixes
    pure (named_of pointing word suffixes)

  unfoldable pub function_name : Pointing → PartReader Named
  function_name pointing = do
    word ← expect_word any_name room
    function_behind pointing word

  -- ---- Behind parentheses

  unfoldable pub around_bare : Pointing → ℕ → Named → ℕ → PartReader Named
  around_bare pointing left inside right = do
    suffixes ← own_suffixes
    pure (group_of pointing left inside right suffixes)

  unfoldable pub around_function : Pointing → ℕ → Named → ℕ → PartReader Named
  around_function pointing left inside right = do
    suffixes ← all_suffixes room inner true []
    pure (group_of pointing left inside right suffixes)

  abbrev pub around : Pointing → ℕ → Enclosed → ℕ → PartReader Named
  around pointing left (Bare inside) right = around_bare pointing left inside right
  around pointing left (Function inside) right = around_function pointing left inside right

  -- ---- The same in parentheses, where a name may be alone

  unfoldable pub enclosed_function : NamedToken → PartReader Enclosed
  enclosed_function word = do
    named ← function_behind (no_pointers false) word
    pure (Function named)

  unfoldable pub enclosed_behind : NamedToken → PartReader Enclosed
  enclosed_behind word =
      where_mark MARK_LEFT_PAREN (enclosed_function word) (pure (Bare (bare_name word)))

  unfoldable pub enclosed_name : PartReader Enclosed
  enclosed_name = do
    word ← expect_word any_name room
    enclosed_behind word

  unfoldable pub function_around_bare : ℕ → Named → ℕ → PartReader Enclosed
  function_around_bare left inside right = do
    named ← around_bare (no_pointers false) left inside right
    pure (Function named)

  unfoldable pub enclosed_around_bare : ℕ → Named → ℕ → PartReader Enclosed
  enclosed_around_bare left inside right =
      where_mark MARK_LEFT_PAREN (function_around_bare left inside right)
      (pure (Bare (bare_group left inside right)))

  unfoldable pub enclosed_around_function : ℕ → Named → ℕ → PartReader Enclosed
  enclosed_around_function left inside right = do
    named ← around_function (no_pointers false) left inside right
    pure (Function named)

  abbrev pub enclosed_around : ℕ → Enclosed → ℕ → PartReader Enclosed
  enclosed_around left (Bare inside) right = enclosed_around_bare left inside right
  enclosed_around left (Function inside) right = enclosed_around_function left inside right

module _ (room : ℕ) (inner : InsideReaders) (enclosed : PartReader Enclosed) where
  -- ---- Declarators of functions

  unfoldable pub function_group : Pointing → PartReader Named
  function_group pointing = do
    left ← expect_mark MARK_LEFT_PAREN (room - 1)
    inside ← enclosed
    right ← expect_mark MARK_RIGHT_PAREN (room - 1)
    around room inner pointing left inside right

  abbrev pub function_core_at : Bool → Pointing → PartReader Named
  function_core_at true pointing = function_name room inner pointing
  function_core_at false pointing =
      where_among any_name (function_name room inner pointing) (function_group pointing)

  unfoldable pub function_core : Pointing → PartReader Named
  function_core pointing = function_core_at pointing.atomic pointing

  unfoldable pub pointed_function : PartReader Named
  pointed_function = do
    pointing ← pointers room
    function_core pointing

  unfoldable pub function_declarator : Bool → PartReader Named
  function_declarator atomic =
      where_mark MARK_STAR pointed_function (function_core (no_pointers atomic))

  -- ---- In parentheses

  unfoldable pub enclosed_pointed : PartReader Enclosed
  enclosed_pointed = do
    named ← pointed_function
    pure (Function named)

  unfoldable pub enclosed_group : PartReader Enclosed
  enclosed_group = do
    left ← expect_mark MARK_LEFT_PAREN (room - 1)
    inside ← enclosed
    right ← expect_mark MARK_RIGHT_PAREN (room - 1)
    enclosed_around room inner left inside right

  unfoldable pub enclosed_declarator : PartReader Enclosed
  enclosed_declarator =
      where_mark MARK_STAR enclosed_pointed
      (where_among any_name (enclosed_name room inner) enclosed_group)

  -- ---- Heads

  unfoldable pub undeclared_head : PartReader NamedHead
  undeclared_head = do
    specified ← specifiers room inner Definition
    declared ← function_declarator specified.atomic
    pure (named_head specified declared)

  unfoldable pub head_at : PartReader Head
  head_at = do
    named ← undeclared_head
    declare named.name false named.head

-- What is read in brackets, by the levels that are left, is given.
module _ (readers : ℕ → InsideReaders) where
  unfoldable pub enclosed_body : Prim.Unit {0} → ℕ → (Prim.Unit {0} → PartReader Enclosed) →
      PartReader Enclosed
  enclosed_body which room enclosed =
      enclosed_declarator room (readers room) (enclosed which)

  abbrev pub enclosed_in : ℕ → PartReader Enclosed
  enclosed_in room = nested_reader enclosed_body room tt

  unfoldable pub head : ℕ → PartReader Head
  head room = head_at room (readers room) (enclosed_in room)
