-- The parts of which the trees of specifiers are made (C11 6.7.1 to 6.7.5).

use Rattle.std.specs.Prelude.{ℕ, true, false, List, [], ◌∷◌, ◌++◌, Option, Some, None}
use Rattle.c_tree.specs.declared.tree.Assign.{Assign}
use Rattle.c_tree.specs.declared.tree.Specs.{Specs}
use Rattle.c_tree.specs.declared.tree.Spec.{Spec}
use Rattle.c_tree.specs.declared.tree.Spec.TheVariants as spec
use Rattle.c_tree.specs.declared.tree.Enumerator.{Enumerator, roll-Enumerator}
use Rattle.c_tree.specs.declared.tree.Declaration.{Declaration}
use Rattle.c_tree.specs.Forms.{sole}
use Rattle.c_specifiers.specs.Words.{NamedToken}
use Rattle.c_specifiers.specs.declared.forms.Specified.{Specified}
use Rattle.c_specifiers.specs.declared.forms.NamedEnumerator.{NamedEnumerator}
use Rattle.c_specifiers.specs.declared.forms.Members.{Members}
use Rattle.c_specifiers.specs.declared.forms.Enumerators.{Enumerators}

-- ---- Specifiers (6.7.1 to 6.7.5)

abbrev pub no_specifiers : Specified
no_specifiers = record { words = []; typedef = false; atomic = false }

abbrev pub with_spec : Specified → Spec → Specified
with_spec specified word =
    record { words = specified.words ++ word ∷ []; typedef = specified.typedef; atomic = false }

abbrev pub with_typedef : Specified → ℕ → Specified
with_typedef specified key =
    record { words = specified.words ++ spec.Storage key ∷ []; typedef = true; atomic = false }

-- `_Atomic` as a qualifier.
abbrev pub with_atomic : Specified → ℕ → Specified
with_atomic specified key = record {
  words = specified.words ++ spec.Qualifier key ∷ [];
  typedef = specified.typedef;
  atomic = true;
}

abbrev pub specs_of : Specified → Specs
specs_of specified = record { words = specified.words }

abbrev pub first_member : Declaration → ℕ → Members
first_member member left = record { list = member ∷ []; marks = left ∷ [] }

abbrev pub with_member : Members → Declaration → Members
with_member members member =
    record { list = members.list ++ member ∷ []; marks = members.marks }

abbrev pub members_to : Members → ℕ → Members
members_to members right = record { list = members.list; marks = members.marks ++ right ∷ [] }

abbrev pub named_enumerator : NamedToken → Option Assign → List ℕ → NamedEnumerator
named_enumerator word None marks = record {
  enumerator = roll-Enumerator (record { name = word.token; value = None; marks = marks });
  name = word;
}
named_enumerator word (Some value) marks = record {
  enumerator =
      roll-Enumerator (record { name = word.token; value = Some (sole value); marks = marks });
  name = word;
}

abbrev pub first_enumerator : Enumerator → ℕ → Enumerators
first_enumerator enumerator left = record { list = enumerator ∷ []; marks = left ∷ [] }

abbrev pub with_enumerator : Enumerators → Enumerator → Enumerators
with_enumerator enumerators enumerator =
    record { list = enumerators.list ++ enumerator ∷ []; marks = enumerators.marks }

abbrev pub enumerators_to : Enumerators → ℕ → Enumerators
enumerators_to enumerators mark =
    record { list = enumerators.list; marks = enumerators.marks ++ mark ∷ [] }
