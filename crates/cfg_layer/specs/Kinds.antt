-- What a node is to control flow (C11 6.5, 6.8): by its label, a CALL by its NAME too, a
-- CONTROL_STRUCTURE by its type. The names are those of the Code Property Graph specification 1.1.
use Rattle.std.specs.Prelude.{ℕ, ◌≡◌, ◌⊎◌, List, [], ◌∷◌, Option, Some, None, codes, if◌then◌else◌}
use Rattle.std.specs.Str.{bytes_eq}
use Rattle.cpg_schema.specs.declared.label.Label.{Label}
use Rattle.cpg_schema.specs.declared.label.Label.TheVariants as label
use Rattle.cpg_schema.specs.Graph.{PlainNode}

-- A kind of node. What each is stands at its rule, in `Constructs`.
pub data Kind : Type 0 where
  function : Kind
  primary : Kind
  passed : Kind
  call : Kind
  short_circuit : Kind
  conditional : Kind
  size_of : Kind
  block : Kind
  if_statement : Kind
  while_loop : Kind
  do_loop : Kind
  for_loop : Kind
  switch_statement : Kind
  jump_target : Kind
  goto_jump : Kind
  break_jump : Kind
  continue_jump : Kind
  return_jump : Kind
  unknown : Kind

-- The kind that a table gives to a name, or else this one.
abbrev pub named_kind : List (List ℕ × Kind) → Kind → List ℕ → Kind
named_kind [] kind name = kind
named_kind (row ∷ rows) kind name =
    if bytes_eq row.0 name then row.1 else named_kind rows kind name

abbrev pub kind_of_name : List (List ℕ × Kind) → Kind → Option (List ℕ) → Kind
kind_of_name rows kind None = kind
kind_of_name rows kind (Some name) = named_kind rows kind name

-- The operators that do not evaluate each operand (6.5.3.4, 6.5.13 to 6.5.15). Every other CALL
-- evaluates all.
abbrev pub operators : List (List ℕ × Kind)
operators =
    (codes "<operator>.logicalAnd", short_circuit)
    ∷ (codes "<operator>.logicalOr", short_circuit)
    ∷ (codes "<operator>.conditional", conditional)
    ∷ (codes "<operator>.sizeOf", size_of)
    ∷ (codes "<operator>.alignOf", size_of)
    ∷ []

-- The types of a CONTROL_STRUCTURE (6.8.4 to 6.8.6). Ours: one of no such type has no rule.
abbrev pub statements : List (List ℕ × Kind)
statements =
    (codes "IF", if_statement)
    ∷ (codes "WHILE", while_loop)
    ∷ (codes "DO", do_loop)
    ∷ (codes "FOR", for_loop)
    ∷ (codes "SWITCH", switch_statement)
    ∷ (codes "GOTO", goto_jump)
    ∷ (codes "BREAK", break_jump)
    ∷ (codes "CONTINUE", continue_jump)
    ∷ []

-- The kind of a node.
abbrev pub kind_of : PlainNode → Kind
kind_of node = by node.label
  where
    by : Label → Kind
    by label.Method = function
    by label.Identifier = primary
    by label.Literal = primary
    by label.FieldIdentifier = primary
    by label.Local = passed
    by label.MethodRef = passed
    by label.TypeDecl = passed
    by label.TypeRef = passed
    by label.Call = kind_of_name operators call node.name
    by label.Block = block
    by label.ControlStructure = kind_of_name statements unknown node.control_structure_type
    by label.JumpTarget = jump_target
    by label.Return = return_jump
    by _ = unknown

-- The property of a node that it is of this kind.
abbrev pub HasKind : Kind → PlainNode → Type 0
HasKind kind node = kind_of node ≡ kind

-- A loop (6.8.5).
abbrev pub IsLoopKind : Kind → Type 0
IsLoopKind while_loop = Unit {0}
IsLoopKind do_loop = Unit {0}
IsLoopKind for_loop = Unit {0}
IsLoopKind _ = ⊥

abbrev pub IsLoop : PlainNode → Type 0
IsLoop node = IsLoopKind (kind_of node)

-- A loop or a `switch`: what a `break` leaves (6.8.6.3 p1).
abbrev pub IsLoopOrSwitch : PlainNode → Type 0
IsLoopOrSwitch node = IsLoop node ⊎ HasKind switch_statement node

-- A declaration, a function in a block, the name of a type: control passes it, and what it holds is
-- not walked (ours).
abbrev pub IsPassedOver : PlainNode → Type 0
IsPassedOver node = HasKind passed node ⊎ HasKind function node

-- A label, a `case` or a `default` of this NAME (6.8.1).
abbrev pub IsTargetNamed : List ℕ → PlainNode → Type 0
IsTargetNamed name node = HasKind jump_target node × (node.name ≡ Some name)

-- A `default`; and a `case` or a `default`.
abbrev pub IsDefault : PlainNode → Type 0
IsDefault node = IsTargetNamed (codes "default") node

abbrev pub IsCaseOrDefault : PlainNode → Type 0
IsCaseOrDefault node = IsTargetNamed (codes "case") node ⊎ IsDefault node

-- A `goto` of a label of this NAME (6.8.6.1).
abbrev pub IsGotoOf : List ℕ → PlainNode → Type 0
IsGotoOf name node = HasKind goto_jump node × (node.name ≡ Some name)
