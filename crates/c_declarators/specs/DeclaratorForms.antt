-- The parts of which the trees of declarators are made (C11 6.7.6, 6.7.7).

use Rattle.std.specs.Prelude.{ℕ, Bool, true, false, List, [], ◌∷◌, ◌++◌, Option, Some, None}
use Rattle.c_tree.specs.declared.tree.Assign.{Assign}
use Rattle.c_tree.specs.declared.tree.TypeName.{TypeName, roll-TypeName}
use Rattle.c_tree.specs.declared.tree.Declarator.{Declarator, roll-Declarator}
use Rattle.c_tree.specs.declared.tree.Pointer.{Pointer}
use Rattle.c_tree.specs.declared.tree.Core.{Core}
use Rattle.c_tree.specs.declared.tree.Core.TheVariants as core
use Rattle.c_tree.specs.declared.tree.Suffix.{Suffix}
use Rattle.c_tree.specs.declared.tree.Suffix.TheVariants as suffix
use Rattle.c_tree.specs.declared.tree.Param.{Param, roll-Param}
use Rattle.c_tree.specs.Forms.{sole}
use Rattle.c_specifiers.specs.Words.{NamedToken}
use Rattle.c_syntax.specs.declared.forms.AssignForm.{AssignForm}
use Rattle.c_syntax.specs.declared.forms.AssignForm.TheVariants.{Unstarred, Bare}
use Rattle.c_specifiers.specs.declared.forms.Specified.{Specified}
use Rattle.c_specifiers.specs.SpecifierForms.{specs_of}
use Rattle.c_declarators.specs.declared.forms.Qualified.{Qualified}
use Rattle.c_declarators.specs.declared.forms.Pointing.{Pointing}
use Rattle.c_specifiers.specs.declared.forms.Named.{Named}
use Rattle.c_declarators.specs.declared.forms.NamedParam.{NamedParam}
use Rattle.c_declarators.specs.declared.forms.Params.{Params}

-- ---- Declarators (6.7.6)

abbrev pub no_qualifiers : Qualified
no_qualifiers = record { words = []; atomic = false }

abbrev pub with_qualifier : Qualified → ℕ → Bool → Qualified
with_qualifier qualified key atomic =
    record { words = qualified.words ++ key ∷ []; atomic = atomic }

-- No pointers, behind `_Atomic` or not.
abbrev pub no_pointers : Bool → Pointing
no_pointers atomic = record { pointers = []; atomic = atomic }

abbrev pub with_pointer : Pointing → ℕ → Qualified → Pointing
with_pointer pointing star qualified = record {
  pointers = pointing.pointers ++ record { star = star; qualifiers = qualified.words } ∷ [];
  atomic = qualified.atomic;
}

abbrev pub declarator_of : List Pointer → Core → List Suffix → Declarator
declarator_of pointers core suffixes = roll-Declarator
    (record { pointers = pointers; core = core; suffixes = suffixes; width = None; marks = [] })

abbrev pub declared_of : Pointing → Core → List Suffix → Option NamedToken → Named
declared_of pointing core suffixes name =
    record { declarator = declarator_of pointing.pointers core suffixes; name = name }

abbrev pub named_of : Pointing → NamedToken → List Suffix → Named
named_of pointing word suffixes = record {
  declarator = declarator_of pointing.pointers (core.Name word.token) suffixes;
  name = Some word;
}

abbrev pub unnamed_of : Pointing → List Suffix → Named
unnamed_of pointing suffixes =
    record { declarator = declarator_of pointing.pointers core.Empty suffixes; name = None }

abbrev pub group_of : Pointing → ℕ → Named → ℕ → List Suffix → Named
group_of pointing left inside right suffixes = record {
  declarator = declarator_of pointing.pointers
      (core.Group inside.declarator (left ∷ right ∷ [])) suffixes;
  name = inside.name;
}

-- The size of an array, where another rule reads those that begin with `*`. Behind `_Atomic` it
-- does not begin with `(`.
abbrev pub size_form : Bool → AssignForm
size_form true = Bare
size_form false = Unstarred

abbrev pub array_of : List ℕ → Option Assign → Option ℕ → ℕ → ℕ → Suffix
array_of words None star left right = suffix.Array words None star (left ∷ right ∷ [])
array_of words (Some size) star left right =
    suffix.Array words (Some (sole size)) star (left ∷ right ∷ [])

abbrev pub first_param : Param → ℕ → Params
first_param param left = record { list = param ∷ []; marks = left ∷ [] }

abbrev pub with_param : Params → Param → Params
with_param params param = record { list = params.list ++ param ∷ []; marks = params.marks }

abbrev pub params_to : Params → ℕ → Params
params_to params mark = record { list = params.list; marks = params.marks ++ mark ∷ [] }

abbrev pub params_of : Params → Option ℕ → ℕ → Suffix
params_of params dots right = suffix.Params params.list dots (params.marks ++ right ∷ [])

abbrev pub named_param : Specified → Named → NamedParam
named_param specified declared = record {
  param = roll-Param
      (record { specs = specs_of specified; declarator = declared.declarator });
  name = declared.name;
}

-- ---- Type names (6.7.7)

abbrev pub type_name_of : Specified → Named → TypeName
type_name_of specified declared = roll-TypeName
    (record { specs = specs_of specified; declarator = declared.declarator })
