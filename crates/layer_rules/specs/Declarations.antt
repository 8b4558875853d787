-- What declarations and initialisers have in the graph (C11 6.7, 6.7.9).
use Rattle.std.specs.Prelude.{ℕ, Bool, true, false, List, [], ◌∷◌, ◌++◌, Option, Some, None}
use Rattle.std.specs.Prelude.{if◌then◌else◌, map, slice_get}
use Rattle.std.specs.List.{flat_map}
use Rattle.c_tree.specs.declared.tree.BaseForm.TheOpen as o
use Rattle.c_tree.specs.Folds.{DeclarationLevel, InitDeclaratorLevel, InitLevel, InitItemLevel}
use Rattle.layer_rules.specs.Nodes.{type_text}
use Rattle.layer_rules.specs.Records.{Members, no_members, Member, members_beside, behind_bodies}
use Rattle.layer_rules.specs.Terms.{Term, Terms, Initialisers, no_terms, Argument}
use Rattle.layer_rules.specs.Statements.{Declared, WithBody, Typedef, Function, Object}
use Rattle.layer_rules.specs.Statements.{Initialised}
use Rattle.layer_rules.specs.TypeTexts.{Spellings}
use Rattle.layer_rules.specs.Meanings.{Signature, Meaning, nothing, meant}

-- ---- Initialisers

-- The terms of parts, one after the other.
abbrev pub terms_of : List Meaning → Terms
terms_of [] = no_terms
terms_of (part ∷ parts) = Argument part.term (terms_of parts)

-- A value, or a list in braces (6.7.9).
abbrev pub init_meaning : InitLevel Meaning → Meaning
init_meaning (o.Init-F.Value expr) = expr
init_meaning (o.Init-F.Items items marks) =
    meant (Initialisers (slice_get marks 0) (terms_of items))

-- An item, without its designators.
abbrev pub init_item_meaning : InitItemLevel Meaning → Meaning
init_item_meaning level = level.init

-- ---- Declarations

abbrev pub some_term : Option Meaning → Option Term
some_term None = None
some_term (Some part) = Some part.term

-- A declarator and its initialiser, if it has one.
abbrev pub init_declarator_meaning : InitDeclaratorLevel Meaning → Meaning
init_declarator_meaning level = record level.declarator { init = some_term level.init }

-- The assignment of an initialiser to the name.
abbrev pub initialised : Option ℕ → Option Term → List Declared
initialised (Some name) (Some value) = Initialised name value ∷ []
initialised name init = []

-- What a declarator declares that is no typedef: a function, or an object with its initialiser.
abbrev pub function_or_object : Option Signature → Meaning → List ℕ → List Declared
function_or_object (Some signature) declarator text = Function declarator.name ∷ []
function_or_object None declarator text =
    Object declarator.name text ∷ initialised declarator.name declarator.init

-- What a declarator behind specifiers declares. The initialiser of a typedef or a function has no
-- node.
abbrev pub declares : Meaning → Meaning → List Declared
declares specs declarator =
    let text = type_text (specs.text ++ declarator.text) in
    if specs.typedef then Typedef declarator.name text ∷ []
    else function_or_object declarator.function declarator text

-- A declarator in a record is a MEMBER (6.7.2.1). An unnamed bit-field has no node.
abbrev pub member : Meaning → Option ℕ → Spellings → Members
member specs None text = no_members
member specs (Some name) text =
    Member name (Some (type_text (specs.text ++ text))) no_members

abbrev pub record_members : Meaning → List Meaning → Members
record_members specs [] = no_members
record_members specs (declarator ∷ declarators) =
    members_beside (member specs declarator.name declarator.text)
    (record_members specs declarators)

abbrev pub some_name : Option ℕ → List ℕ
some_name None = []
some_name (Some name) = name ∷ []

-- The names of declarators.
abbrev pub names_of : List Meaning → List ℕ
names_of declarators = flat_map (λ (part : Meaning). some_name part.name) declarators

-- The bodies of the specifiers, and then what each declarator declares (6.7). A static assertion
-- has no node (6.7.10).
abbrev pub declaration_meaning : DeclarationLevel Meaning → Meaning
declaration_meaning (o.Declaration-F.Names specs list marks) = record nothing {
  first = specs.first;
  declared = map WithBody specs.bodies ++ flat_map (declares specs) list;
  members = behind_bodies specs.bodies (record_members specs list);
  statics = if specs.static then names_of list else [];
}
declaration_meaning (o.Declaration-F.Assert cond text marks) =
    record nothing { first = slice_get marks 0 }
