-- Which declaration a name means (C11 6.2.1): the one of this name whose scope holds the name and
-- that comes last, and so hides the others (p4).
use Rattle.std.specs.Prelude.{ℕ, ◌&&◌, Bool, not, List, [], ◌∷◌, Option, Some, None, codes, filter}
use Rattle.std.specs.Prelude.{if◌then◌else◌, length, slice_get, take}
use Rattle.std.specs.Option.{is_some, option_and_then}
use Rattle.std.specs.Str.{bytes_eq}
use Rattle.cpg_schema.specs.declared.label.Label.{Label}
use Rattle.cpg_schema.specs.declared.label.Label.TheVariants as label
use Rattle.cpg_schema.specs.Graph.{PlainNode, PlainGraph}
use Rattle.unit_rules.specs.Units.{all_nodes}
use Rattle.ref_rules.specs.Scopes.{holds}

-- A node declares an ordinary identifier. A MEMBER without TYPE_FULL_NAME is an enumerator; a
-- member of a record has a name space of its own (6.2.3).
abbrev pub declares : PlainNode → Bool
declares node = by node.label
  where
    by : Label → Bool
    by label.Local = Bool.true
    by label.MethodParameterIn = Bool.true
    by label.Method = Bool.true
    by label.MethodRef = Bool.true
    by label.Member = not (is_some node.type_full_name)
    by _ = Bool.false

-- What the names of operators begin with.
abbrev pub operator_prefix : List ℕ
operator_prefix = codes "<operator>."

abbrev pub is_operator : List ℕ → Bool
is_operator name = bytes_eq (take (length operator_prefix) name) operator_prefix

-- The name that a node uses: an IDENTIFIER its own, and a CALL that of its callee, unless it is an
-- operator's.
abbrev pub called : Option (List ℕ) → Option (List ℕ)
called None = None
called (Some name) = if is_operator name then None else Some name

abbrev pub used_name : PlainNode → Option (List ℕ)
used_name node = by node.label
  where
    by : Label → Option (List ℕ)
    by label.Identifier = node.name
    by label.Call = called node.name
    by _ = None

abbrev pub used_at : PlainGraph → ℕ → Option (List ℕ)
used_at graph node = option_and_then used_name (slice_get graph.nodes node)

-- The optional name is this one.
abbrev pub is_name : List ℕ → Option (List ℕ) → Bool
is_name name None = Bool.false
is_name name (Some other) = bytes_eq other name

-- The node of this number declares the name.
abbrev pub declares_name : PlainGraph → List ℕ → ℕ → Bool
declares_name graph name node = by (slice_get graph.nodes node)
  where
    by : Option PlainNode → Bool
    by None = Bool.false
    by (Some at) = declares at && is_name name at.name

-- The declarations of a name whose scopes hold a node, rising.
abbrev pub held : PlainGraph → List ℕ → ℕ → List ℕ
held graph name node =
    filter (λ declaration. declares_name graph name declaration && holds graph declaration node)
    (all_nodes graph)

-- The last of some numbers.
abbrev pub last_one : List ℕ → Option ℕ
last_one [] = None
last_one (first ∷ rest) = by (last_one rest)
  where
    by : Option ℕ → Option ℕ
    by None = Some first
    by (Some last) = Some last

-- The declaration that a name means at a node: of those, the one with the greatest number.
abbrev pub meant_by : PlainGraph → ℕ → Option (List ℕ) → Option ℕ
meant_by graph node None = None
meant_by graph node (Some name) = last_one (held graph name node)

abbrev pub meant_at : PlainGraph → ℕ → Option ℕ
meant_at graph node = meant_by graph node (used_at graph node)
