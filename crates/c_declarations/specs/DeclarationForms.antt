-- The parts of which the trees of initialisers and declarations are made (C11 6.7, 6.7.9).

use Rattle.std.specs.Prelude.{ℕ, List, [], ◌∷◌, ◌++◌, Some, None}
use Rattle.c_tree.specs.declared.tree.Assign.{Assign}
use Rattle.c_tree.specs.declared.tree.Declarator.{Declarator, roll-Declarator, out-Declarator}
use Rattle.c_tree.specs.declared.tree.Init.{Init}
use Rattle.c_tree.specs.declared.tree.InitItem.{InitItem, roll-InitItem}
use Rattle.c_tree.specs.declared.tree.Designator.{Designator}
use Rattle.c_tree.specs.declared.tree.InitDeclarator.{InitDeclarator, roll-InitDeclarator}
use Rattle.c_tree.specs.declared.tree.Declaration.{Declaration}
use Rattle.c_tree.specs.declared.tree.Declaration.TheVariants as declaration
use Rattle.c_tree.specs.Forms.{sole}
use Rattle.c_specifiers.specs.declared.forms.Specified.{Specified}
use Rattle.c_specifiers.specs.SpecifierForms.{specs_of}
use Rattle.c_declarations.specs.declared.forms.Items.{Items}
use Rattle.c_declarations.specs.declared.forms.Declarators.{Declarators}

-- ---- Initialisers (6.7.9)

abbrev pub first_item : InitItem → List ℕ → Items
first_item item marks = record { list = item ∷ []; marks = marks }

abbrev pub with_item : Items → InitItem → Items
with_item items item = record { list = items.list ++ item ∷ []; marks = items.marks }

abbrev pub items_to : Items → ℕ → Items
items_to items mark = record { list = items.list; marks = items.marks ++ mark ∷ [] }

abbrev pub item_of : List Designator → Init → List ℕ → InitItem
item_of designators value marks =
    roll-InitItem (record { designators = designators; init = value; marks = marks })

-- ---- Declarations (6.7)

-- A declarator of a bit-field (6.7.2.1).
abbrev pub with_width : Declarator → ℕ → Assign → Declarator
with_width declarator colon width = roll-Declarator (record {
  pointers = (out-Declarator declarator).pointers;
  core = (out-Declarator declarator).core;
  suffixes = (out-Declarator declarator).suffixes;
  width = Some (sole width);
  marks = colon ∷ [];
})

abbrev pub undefined : Declarator → InitDeclarator
undefined declarator =
    roll-InitDeclarator (record { declarator = declarator; init = None; marks = [] })

abbrev pub defined : Declarator → Init → ℕ → InitDeclarator
defined declarator value equals =
    roll-InitDeclarator (record { declarator = declarator; init = Some value; marks = equals ∷ [] })

abbrev pub no_declarators : Declarators
no_declarators = record { list = []; marks = [] }

abbrev pub with_declarator : Declarators → InitDeclarator → Declarators
with_declarator declarators one =
    record { list = declarators.list ++ one ∷ []; marks = declarators.marks }

abbrev pub declarators_to : Declarators → ℕ → Declarators
declarators_to declarators mark =
    record { list = declarators.list; marks = declarators.marks ++ mark ∷ [] }

abbrev pub names_of : Specified → Declarators → Declaration
names_of specified declarators =
    declaration.Names (specs_of specified) declarators.list declarators.marks
