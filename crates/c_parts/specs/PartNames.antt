-- The parts of a C file that stand in brackets of one another (C11 6.5, 6.7).

use Rattle.c_tree.specs.declared.tree.Assign.{Assign}
use Rattle.c_tree.specs.declared.tree.TypeName.{TypeName}
use Rattle.c_tree.specs.declared.tree.Param.{Param}
use Rattle.c_tree.specs.declared.tree.Declaration.{Declaration}
use Rattle.c_tree.specs.declared.tree.InitItem.{InitItem}
use Rattle.c_syntax.specs.declared.forms.AssignForm.{AssignForm}
use Rattle.c_syntax.specs.declared.forms.AssignForm.TheVariants.{Whole}
use Rattle.c_syntax.specs.Scoping.{Part, PartReader}
use Rattle.c_syntax.specs.Inner.{Inner, InnerReaders}
use Rattle.c_specifiers.specs.declared.forms.Naming.{Naming}
use Rattle.c_specifiers.specs.declared.forms.Named.{Named}
use Rattle.c_specifiers.specs.Inside.{Inside, InsideReaders}

pub data PartName : Type 0 where
  -- An assignment expression of the form (6.5.16).
  assigns : AssignForm → PartName
  type_names : PartName
  -- A parameter, whose name is declared (6.7.6.3).
  params : PartName
  -- A declaration of members (6.7.2.1).
  members : PartName
  -- A declarator that is not empty (6.7.6).
  groups : Naming → PartName
  -- An item of an initialiser list (6.7.9).
  items : PartName

-- What is read of each.
abbrev pub Value : PartName → Type 0
Value (assigns form) = Assign
Value type_names = TypeName
Value params = Param
Value members = Declaration
Value (groups naming) = Named
Value items = InitItem

-- What expressions and declarations hold in brackets, by the names.
abbrev pub inner_of : ((n : PartName) → Part (Value n)) → Inner
inner_of parts =
    record { assign = parts (assigns Whole); type_name = parts type_names; item = parts items }

abbrev pub inside_of : ((n : PartName) → Part (Value n)) → Inside
inside_of parts = record {
  assign = λ form. parts (assigns form);
  type_name = parts type_names;
  param = parts params;
  member = parts members;
  group = λ naming. parts (groups naming);
  item = parts items;
}

-- The readers.
abbrev pub inner_readers_of : ((n : PartName) → PartReader (Value n)) → InnerReaders
inner_readers_of parts =
    record { assign = parts (assigns Whole); type_name = parts type_names; item = parts items }

abbrev pub inside_readers_of : ((n : PartName) → PartReader (Value n)) → InsideReaders
inside_readers_of parts = record {
  assign = λ form. parts (assigns form);
  type_name = parts type_names;
  param = parts params;
  member = parts members;
  group = λ naming. parts (groups naming);
  item = parts items;
}
