-- What expressions hold in brackets, one level deeper: the rules of it, and their readers.

use Rattle.c_tree.specs.declared.tree.Assign.{Assign}
use Rattle.c_tree.specs.declared.tree.TypeName.{TypeName}
use Rattle.c_tree.specs.declared.tree.InitItem.{InitItem}
use Rattle.c_syntax.specs.Scoping.{Part, PartReader}

pub record Inner : Type 1 where
  -- An assignment expression (6.5.16).
  pub assign : Part Assign
  pub type_name : Part TypeName
  -- An item of an initialiser list (6.7.9).
  pub item : Part InitItem

pub record InnerReaders : Type 0 where
  pub assign : PartReader Assign
  pub type_name : PartReader TypeName
  pub item : PartReader InitItem
