-- What a rule holds in brackets, one level deeper: the rules of it, and their readers.

use Rattle.c_tree.specs.declared.tree.Assign.{Assign}
use Rattle.c_tree.specs.declared.tree.TypeName.{TypeName}
use Rattle.c_tree.specs.declared.tree.Param.{Param}
use Rattle.c_tree.specs.declared.tree.Declaration.{Declaration}
use Rattle.c_tree.specs.declared.tree.InitItem.{InitItem}
use Rattle.c_syntax.specs.Scoping.{Part, PartReader}
use Rattle.c_syntax.specs.declared.forms.AssignForm.{AssignForm}
use Rattle.c_specifiers.specs.declared.forms.Naming.{Naming}
use Rattle.c_specifiers.specs.declared.forms.Named.{Named}

pub record Inside : Type 1 where
  -- An assignment expression of the form (6.5.16).
  pub assign : AssignForm → Part Assign
  pub type_name : Part TypeName
  -- A parameter, whose name is declared (6.7.6.3).
  pub param : Part Param
  -- A declaration of members (6.7.2.1).
  pub member : Part Declaration
  -- A declarator that is not empty (6.7.6).
  pub group : Naming → Part Named
  -- An item of an initialiser list (6.7.9).
  pub item : Part InitItem

pub record InsideReaders : Type 0 where
  pub assign : AssignForm → PartReader Assign
  pub type_name : PartReader TypeName
  pub param : PartReader Param
  pub member : PartReader Declaration
  pub group : Naming → PartReader Named
  pub item : PartReader InitItem
