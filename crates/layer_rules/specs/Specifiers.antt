-- What specifiers and type names have in the graph (C11 6.7.1 to 6.7.7).
use Rattle.std.specs.Prelude.{ℕ, Bool, false, List, [], ◌∷◌, ◌++◌, Option, Some, None, slice_get}
use Rattle.std.specs.List.{flat_map, list_any}
use Rattle.c_lexer.specs.declared.keyword.TheConstants.{KEY_STATIC, KEY_TYPEDEF, KEY_VOID}
use Rattle.c_tree.specs.declared.tree.BaseForm.TheOpen as o
use Rattle.c_tree.specs.Folds.{SpecLevel, SpecsLevel, EnumeratorLevel, TypeNameLevel}
use Rattle.layer_rules.specs.Files.{File, is_key}
use Rattle.layer_rules.specs.Nodes.{type_text}
use Rattle.layer_rules.specs.Records.{Members, no_members, Member, members_beside, Body}
use Rattle.layer_rules.specs.Terms.{NamedType}
use Rattle.layer_rules.specs.TypeTexts.{spec_text}
use Rattle.layer_rules.specs.Meanings.{Meaning, nothing}

-- What stands in the parts, one after the other.
abbrev pub members_of : List Meaning → Members
members_of [] = no_members
members_of (part ∷ parts) = members_beside part.members (members_of parts)

-- A record or an enumeration, where it has a body.
abbrev pub bodies_of : ℕ → Option ℕ → Option (List Meaning) → List Body
bodies_of key tag None = []
bodies_of key tag (Some parts) =
    record { key = key; tag = tag; inside = members_of parts } ∷ []

-- A specifier that begins with this token.
abbrev pub begins : Option ℕ → Meaning
begins token = record nothing { first = token }

-- What a specifier has but for its type text.
abbrev pub spec_parts : File → SpecLevel Meaning → Meaning
spec_parts file (o.Spec-F.Storage token) = record (begins (Some token)) {
  typedef = is_key file token KEY_TYPEDEF;
  static = is_key file token KEY_STATIC;
}
spec_parts file (o.Spec-F.Function token) = begins (Some token)
spec_parts file (o.Spec-F.Qualifier token) = begins (Some token)
spec_parts file (o.Spec-F.Basic token) =
    record (begins (Some token)) { void = is_key file token KEY_VOID }
spec_parts file (o.Spec-F.Named token) = begins (Some token)
-- A body inside of `_Atomic ( )` or `_Alignas ( )` has no node.
spec_parts file (o.Spec-F.Atomic type_name marks) = begins (slice_get marks 0)
spec_parts file (o.Spec-F.AlignType type_name marks) = begins (slice_get marks 0)
spec_parts file (o.Spec-F.AlignExpr expr marks) = begins (slice_get marks 0)
spec_parts file (o.Spec-F.Record key tag body marks) =
    record (begins (Some key)) { bodies = bodies_of key tag body }
spec_parts file (o.Spec-F.Enumeration key tag body marks) =
    record (begins (Some key)) { bodies = bodies_of key tag body }

-- A specifier.
abbrev pub spec_meaning : File → SpecLevel Meaning → Meaning
spec_meaning file level = record (spec_parts file level) { text = spec_text file level }

-- The first token of a list of specifiers.
abbrev pub first_of : List Meaning → Option ℕ
first_of [] = None
first_of (word ∷ words) = word.first

-- There is one specifier, and it is `void`.
abbrev pub is_void : List Meaning → Bool
is_void (word ∷ []) = word.void
is_void words = false

-- Specifiers.
abbrev pub specs_meaning : SpecsLevel Meaning → Meaning
specs_meaning level = record nothing {
  first = first_of level.words;
  text = flat_map (λ (word : Meaning). word.text) level.words;
  bodies = flat_map (λ (word : Meaning). word.bodies) level.words;
  typedef = list_any (λ (word : Meaning). word.typedef) level.words;
  static = list_any (λ (word : Meaning). word.static) level.words;
  void = is_void level.words;
}

-- An enumerator is a MEMBER without a type text (6.7.2.2).
abbrev pub enumerator_meaning : EnumeratorLevel Meaning → Meaning
enumerator_meaning level = record nothing { members = Member level.name None no_members }

-- A type name (6.7.7).
abbrev pub named_type : Meaning → Meaning → NamedType
named_type specs declarator = record {
  first = specs.first;
  text = type_text (specs.text ++ declarator.text);
  bodies = specs.bodies;
}

abbrev pub type_name_meaning : TypeNameLevel Meaning → Meaning
type_name_meaning level =
    record nothing { type = Some (named_type level.specs level.declarator) }
