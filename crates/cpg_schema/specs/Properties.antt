-- The properties of a node (ours), by their keys.
use Rattle.std.specs.Prelude.{ℕ, ◌≡◌, Bool, true, false, not, IsTrue, List, Option, Some, None}
use Rattle.cpg_schema.specs.declared.key.Key.{Key}
use Rattle.cpg_schema.specs.declared.key.Key.TheVariants as key
use Rattle.cpg_schema.specs.Graph.{PlainNode}

-- The value of a property.
pub data Property : Type 0 where
  text : List ℕ → Property
  number : ℕ → Property

-- The key's values are numbers, and not texts.
abbrev pub is_number_key : Key → Bool
is_number_key key.LineNumber = true
is_number_key key.Order = true
is_number_key key.ArgumentIndex = true
is_number_key _ = false

-- The value is a number where the key's values are, and a text where they are not.
abbrev pub HasForm : Key → Property → Type 0
HasForm key (Property.text value) = IsTrue (not (is_number_key key))
HasForm key (Property.number value) = IsTrue (is_number_key key)

-- The text that a node has of this key.
abbrev pub text_of : Key → PlainNode → Option (List ℕ)
text_of key.Name node = node.name
text_of key.Code node = node.code
text_of key.Filename node = node.filename
text_of key.TypeFullName node = node.type_full_name
text_of key.ControlStructureType node = node.control_structure_type
text_of key.Linkage node = node.linkage
text_of _ node = None

-- The number that a node has of this key.
abbrev pub number_of : Key → PlainNode → Option ℕ
number_of key.LineNumber node = node.line_number
number_of key.Order node = node.order
number_of key.ArgumentIndex node = node.argument_index
number_of _ node = None

-- The node has no property of this key.
abbrev pub LacksKey : Key → PlainNode → Type 0
LacksKey key node = (text_of key node ≡ None) × (number_of key node ≡ None)

-- A node with this text of a text's key.
abbrev pub with_text : Key → List ℕ → PlainNode → PlainNode
with_text key.Name value node = record node { name = Some value }
with_text key.Code value node = record node { code = Some value }
with_text key.Filename value node = record node { filename = Some value }
with_text key.TypeFullName value node = record node { type_full_name = Some value }
with_text key.ControlStructureType value node = record node { control_structure_type = Some value }
with_text key.Linkage value node = record node { linkage = Some value }
with_text _ value node = node

-- A node with this number of a number's key.
abbrev pub with_number : Key → ℕ → PlainNode → PlainNode
with_number key.LineNumber value node = record node { line_number = Some value }
with_number key.Order value node = record node { order = Some value }
with_number key.ArgumentIndex value node = record node { argument_index = Some value }
with_number _ value node = node

-- A node with this property, whose value has the form that the key asks for.
abbrev pub with_property : Key → Property → PlainNode → PlainNode
with_property key (Property.text value) node = with_text key value node
with_property key (Property.number value) node = with_number key value node
