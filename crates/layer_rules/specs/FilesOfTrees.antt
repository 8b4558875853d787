-- What the tree of a file has in the graph, and the forest of the file (C11 6.9).
use Rattle.std.specs.Prelude.{ℕ, Bool, List, [], ◌∷◌, ◌++◌, Option, Some, None, map, slice_get}
use Rattle.std.specs.Prelude.{if◌then◌else◌}
use Rattle.std.specs.List.{list_any}
use Rattle.std.specs.Str.{bytes_eq}
use Rattle.graph_forest.specs.Forest.{Forest}
use Rattle.c_tree.specs.declared.tree.Unit.{Unit}
use Rattle.c_tree.specs.declared.tree.Block.{Block}
use Rattle.c_tree.specs.declared.tree.Item.{Item}
use Rattle.c_tree.specs.declared.tree.Item.TheVariants as item
use Rattle.layer_rules.specs.Files.{File, spelling_at, spellings_of}
use Rattle.layer_rules.specs.Nodes.{type_text}
use Rattle.layer_rules.specs.Statements.{WithBody}
use Rattle.layer_rules.specs.Functions.{Parameter, Defined, External, Defines, HasDeclared}
use Rattle.layer_rules.specs.Functions.{global_forest}
use Rattle.layer_rules.specs.TypeTexts.{Spellings}
use Rattle.layer_rules.specs.Meanings.{Signature, Meaning}
use Rattle.layer_rules.specs.Declarations.{some_name}
use Rattle.layer_rules.specs.TermsOfTrees.{meaning_of_declaration, meaning_of_specs}
use Rattle.layer_rules.specs.TermsOfTrees.{meaning_of_declarator}
use Rattle.layer_rules.specs.StatementsOfTrees.{body_items}

-- ---- Linkage (6.2.2)

-- The bytes of the names that an item declares with `static` at file scope: functions, and ours,
-- objects and typedefs too.
abbrev pub static_names : File → Item → List (List ℕ)
static_names file (item.Define specs declarator body) =
    if (meaning_of_specs file specs).static
    then spellings_of file (some_name (meaning_of_declarator file declarator).name) else []
static_names file (item.Declare declaration) =
    spellings_of file (meaning_of_declaration file declaration).statics

-- The name is among these.
abbrev pub is_name_among : List (List ℕ) → List ℕ → Bool
is_name_among names name = list_any (λ other. bytes_eq name other) names

-- ---- Functions (6.9.1)

-- The parameters that belong to the name of a declarator, and its spellings without their list.
-- Ours: a declarator of no function has no parameters.
abbrev pub signature_of : Meaning → Option Signature → Signature
signature_of declarator None = record { parameters = []; text = declarator.text }
signature_of declarator (Some signature) = signature

abbrev pub defined : File → List (List ℕ) → Meaning → Meaning → Signature → Block → Defined
defined file statics specs declarator signature body = record {
  name = declarator.name;
  internal = is_name_among statics (spelling_at file declarator.name);
  parameters = signature.parameters;
  brace = slice_get body.marks 0;
  items = body_items file body;
  text = type_text (specs.text ++ signature.text);
}

abbrev pub function_of : File → List (List ℕ) → Meaning → Meaning → Block → Defined
function_of file statics specs declarator body =
    defined file statics specs declarator (signature_of declarator declarator.function) body

-- What an item holds, where these names are declared with `static` by it and before it: the bodies
-- of its specifiers and the function, or what it declares.
abbrev pub item_externals : File → List (List ℕ) → Item → List External
item_externals file statics (item.Define specs declarator body) =
    let spec_words = meaning_of_specs file specs in
    map (λ body. HasDeclared (WithBody body)) spec_words.bodies ++
    Defines (function_of file statics spec_words (meaning_of_declarator file declarator)
    body) ∷ []
item_externals file statics (item.Declare declaration) =
    map HasDeclared (meaning_of_declaration file declaration).declared

-- What items hold, where these names were declared with `static` before them.
abbrev pub externals : File → List (List ℕ) → List Item → List External
externals file statics [] = []
externals file statics (first ∷ items) =
    let known = statics ++ static_names file first in
    item_externals file known first ++ externals file known items

-- The forest of a file whose tree is the unit.
unfoldable pub file_forest : File → Unit → Forest
file_forest file unit = global_forest file (externals file [] unit.items)
