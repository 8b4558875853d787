-- How many marks a form has, and what is asked of the parts of a tree that lead back to it (C11 6.5
-- to 6.9). A well-formed tree has exactly the marks of its form.

use Rattle.std.specs.Prelude.{ℕ, zero, suc, ◌+◌, ◌≡◌, ◌<◌, ◌⊎◌, Bool, List, [], ◌∷◌, length}
use Rattle.c_tree.specs.declared.tree.Assign.{Assign}
use Rattle.c_tree.specs.declared.tree.TypeName.{TypeName}
use Rattle.c_tree.specs.declared.tree.InitItem.{InitItem}
use Rattle.c_tree.specs.declared.tree.Declarator.{Declarator}
use Rattle.c_tree.specs.declared.tree.Declaration.{Declaration}

-- ---- How many marks

-- There are so many marks.
abbrev pub HasMarks : ℕ → List ℕ → Type 0
HasMarks count marks = length marks ≡ count

-- Two brackets, and a comma between two parts.
abbrev pub bracketed : ℕ → ℕ
bracketed zero = 2
bracketed (suc others) = 2 + others

-- A comma between two parts, and a `;`.
abbrev pub ended : ℕ → ℕ
ended zero = 1
ended (suc others) = 1 + others

-- Two braces, a comma between two of some parts, and perhaps a comma after the last.
pub record HasBraces (parts : ℕ) (marks : List ℕ) : Type 0 where
  pub some : 0 < parts
  pub count : HasMarks (1 + parts) marks ⊎ HasMarks (2 + parts) marks

-- One mark where there are parts, and none where there are none.
abbrev pub HasOneFor : {A : Type 0} → List A → List ℕ → Type 0
HasOneFor [] marks = HasMarks 0 marks
HasOneFor (part ∷ parts) marks = HasMarks 1 marks

-- ---- The parts that lead back

-- What is asked of each part that leads back. A declarator is asked as one that has a name, or as
-- one that has none.
pub record Inner : Type 1 where
  pub IsAssign : Assign → Type 0
  pub IsTypeName : TypeName → Type 0
  pub IsItem : InitItem → Type 0
  pub IsDeclarator : Bool → Declarator → Type 0
  pub IsMember : Declaration → Type 0
