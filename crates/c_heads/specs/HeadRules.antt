-- Rules of the head of a function definition (C11 6.9.1): what stands before its body. The first
-- thing that is applied to the name is the function's own parameter list (p2), whatever stands in
-- parentheses.

use Rattle.std.specs.Prelude.{ℕ, suc, Bool, true, false, List, [], ◌∷◌}
use Rattle.c_lexer.specs.declared.mark.TheConstants.{MARK_LEFT_PAREN, MARK_RIGHT_PAREN}
use Rattle.c_scopes.specs.Scopes.{entered}
use Rattle.c_tree.specs.declared.tree.Suffix.{Suffix}
use Rattle.reading.specs.Rules.{◌>>=◌, ◌or◌, pure, changes}
use Rattle.reading.specs.Nesting.{nested}
use Rattle.c_syntax.specs.Scoping.{Part}
use Rattle.c_syntax.specs.Steps.{one_mark}
use Rattle.c_syntax.specs.Sets.{any_name}
use Rattle.c_specifiers.specs.Words.{NamedToken}
use Rattle.c_specifiers.specs.Inside.{Inside}
use Rattle.c_specifiers.specs.DeclarationSteps.{one_word, declaring}
use Rattle.c_specifiers.specs.SpecifierRules.{specifiers}
use Rattle.c_specifiers.specs.declared.forms.Named.{Named}
use Rattle.c_specifiers.specs.declared.forms.Place.TheVariants.{Definition}
use Rattle.c_declarators.specs.declared.forms.Pointing.{Pointing}
use Rattle.c_declarators.specs.DeclaratorForms.{no_pointers, named_of, group_of}
use Rattle.c_declarators.specs.DeclaratorRules.{pointers, open_params, all_suffixes}
use Rattle.c_heads.specs.declared.forms.Enclosed.{Enclosed}
use Rattle.c_heads.specs.declared.forms.Enclosed.TheVariants.{Bare, Function}
use Rattle.c_heads.specs.declared.forms.NamedHead.{NamedHead}
use Rattle.c_heads.specs.declared.forms.Head.{Head}
use Rattle.c_heads.specs.HeadForms.{bare_name, bare_group, named_head}

module _ (turns level : ℕ) (inner : Inside) where
  -- ---- The function's own parameters

  -- Behind `(`. The scope of the list stays open, and in it one begins for what the rest of the
  -- declarator declares (6.2.1p4).
  unfoldable pub own_list : ℕ → Part Suffix
  own_list left = do
    list ← open_params turns level inner left
    changes entered list

  unfoldable pub own_params : Part Suffix
  own_params = do
    left ← one_mark MARK_LEFT_PAREN (suc level)
    own_list left

  -- They, and what is applied behind them.
  unfoldable pub own_suffixes : Part (List Suffix)
  own_suffixes = do
    first ← own_params
    all_suffixes turns level inner true (first ∷ [])

  unfoldable pub function_behind : Pointing → NamedToken → Part Named
  function_behind pointing word = do
    suffixes ← own_suffixes
    pure (named_of pointing word suffixes)

  unfoldable pub function_name : Pointing → Part Named
  function_name pointing = do
    word ← one_word any_name level
    function_behind pointing word

  -- ---- Behind parentheses

  -- In them stands a name alone.
  unfoldable pub around_bare : Pointing → ℕ → Named → ℕ → Part Named
  around_bare pointing left inside right = do
    suffixes ← own_suffixes
    pure (group_of pointing left inside right suffixes)

  -- In them stands a function, with its parameters.
  unfoldable pub around_function : Pointing → ℕ → Named → ℕ → Part Named
  around_function pointing left inside right = do
    suffixes ← all_suffixes turns level inner true []
    pure (group_of pointing left inside right suffixes)

  abbrev pub around : Pointing → ℕ → Enclosed → ℕ → Part Named
  around pointing left (Bare inside) right = around_bare pointing left inside right
  around pointing left (Function inside) right = around_function pointing left inside right

  -- ---- The same in parentheses, where a name may be alone

  unfoldable pub enclosed_function : NamedToken → Part Enclosed
  enclosed_function word = do
    named ← function_behind (no_pointers false) word
    pure (Function named)

  unfoldable pub enclosed_behind : NamedToken → Part Enclosed
  enclosed_behind word = enclosed_function word or pure (Bare (bare_name word))

  unfoldable pub enclosed_name : Part Enclosed
  enclosed_name = do
    word ← one_word any_name level
    enclosed_behind word

  unfoldable pub function_around_bare : ℕ → Named → ℕ → Part Enclosed
  function_around_bare left inside right = do
    named ← around_bare (no_pointers false) left inside right
    pure (Function named)

  unfoldable pub enclosed_around_bare : ℕ → Named → ℕ → Part Enclosed
  enclosed_around_bare left inside right =
      function_around_bare left inside right or pure (Bare (bare_group left inside right))

  unfoldable pub enclosed_around_function : ℕ → Named → ℕ → Part Enclosed
  enclosed_around_function left inside right = do
    named ← around_function (no_pointers false) left inside right
    pure (Function named)

  abbrev pub enclosed_around : ℕ → Enclosed → ℕ → Part Enclosed
  enclosed_around left (Bare inside) right = enclosed_around_bare left inside right
  enclosed_around left (Function inside) right = enclosed_around_function left inside right

module _ (turns level : ℕ) (inner : Inside) (enclosed : Part Enclosed) where
  -- ---- Declarators of functions

  unfoldable pub function_group : Pointing → Part Named
  function_group pointing = do
    left ← one_mark MARK_LEFT_PAREN (suc level)
    inside ← enclosed
    right ← one_mark MARK_RIGHT_PAREN (suc level)
    around turns level inner pointing left inside right

  -- Behind `_Atomic` no `(` stands (6.7.2.4p4).
  abbrev pub function_core_at : Bool → Pointing → Part Named
  function_core_at true pointing = function_name turns level inner pointing
  function_core_at false pointing =
      function_name turns level inner pointing or function_group pointing

  unfoldable pub function_core : Pointing → Part Named
  function_core pointing = function_core_at pointing.atomic pointing

  unfoldable pub pointed_function : Part Named
  pointed_function = do
    pointing ← pointers turns level
    function_core pointing

  -- Behind `_Atomic` or not.
  unfoldable pub function_declarator : Bool → Part Named
  function_declarator atomic = pointed_function or function_core (no_pointers atomic)

  -- ---- In parentheses

  unfoldable pub enclosed_pointed : Part Enclosed
  enclosed_pointed = do
    named ← pointed_function
    pure (Function named)

  unfoldable pub enclosed_group : Part Enclosed
  enclosed_group = do
    left ← one_mark MARK_LEFT_PAREN (suc level)
    inside ← enclosed
    right ← one_mark MARK_RIGHT_PAREN (suc level)
    enclosed_around turns level inner left inside right

  -- A declarator of a function, or a name in parentheses or not.
  unfoldable pub enclosed_declarator : Part Enclosed
  enclosed_declarator =
      enclosed_pointed or enclosed_name turns level inner or enclosed_group

  -- ---- Heads

  unfoldable pub undeclared_head : Part NamedHead
  undeclared_head = do
    specified ← specifiers turns level inner Definition
    declared ← function_declarator specified.atomic
    pure (named_head specified declared)

  -- The name is declared behind the declarator (6.2.1p7).
  unfoldable pub head_at : Part Head
  head_at = do
    named ← undeclared_head
    declaring named.name false named.head

-- What rules of so many turns on a level hold in brackets is given.
module _ (insides : ℕ → ℕ → Inside) where
  unfoldable pub enclosed_body : Prim.Unit {0} → ℕ → ℕ → (Prim.Unit {0} → Part Enclosed) →
      Part Enclosed
  enclosed_body which turns level enclosed =
      enclosed_declarator turns level (insides turns level) (enclosed which)

  -- What stands in parentheses of such a declarator, one level deeper.
  abbrev pub enclosed_in : ℕ → ℕ → Part Enclosed
  enclosed_in turns level = nested enclosed_body turns level tt

  -- The specifiers and the declarator of a function definition. Two scopes are left open: that of
  -- the function's own parameters, and in it one of what the rest of the declarator declares, the
  -- name of the function last.
  unfoldable pub head : ℕ → ℕ → Part Head
  head turns level = head_at turns level (insides turns level) (enclosed_in turns (suc level))
