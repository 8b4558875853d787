-- Which nodes control walks in a function (C11 6.5.3.4, 6.6, 6.8), and ours what has a body.
use Rattle.std.specs.Prelude.{ℕ}
use Rattle.cpg_schema.specs.declared.label.Label.TheVariants.{Method, Block}
use Rattle.cpg_schema.specs.Graph.{PlainGraph, PlainNode}
use Rattle.graph_parts.specs.Parts.{HasLabel, IsChild, IsChildOf, IsNodeWith, IsPart}
use Rattle.cfg_layer.specs.Kinds.{HasKind, IsPassedOver, jump_target, size_of}

-- A function with a body: a METHOD with a BLOCK.
pub record HasBody (graph : PlainGraph) (method : ℕ) : Type 0 where
  pub is_method : IsNodeWith graph (HasLabel Method) method
  pub body : ℕ
  pub body_is : IsChildOf graph Block method body

-- An expression that is not evaluated: an operand of `sizeof` or `_Alignof` (6.5.3.4 p2, p3), or
-- the first part of a JUMP_TARGET, which is the constant of a `case` (6.6 p2).
pub data IsUnevaluated (graph : PlainGraph) (parent : ℕ) : ℕ → Type 0 where
  operand : (node : ℕ) → IsNodeWith graph (HasKind size_of) parent →
      IsUnevaluated graph parent node
  constant : (node : ℕ) → IsNodeWith graph (HasKind jump_target) parent →
      IsPart graph 1 parent node → IsUnevaluated graph parent node

-- The node is walked in the function: it is its BLOCK, or a child of a walked node that is
-- evaluated, and not below what is passed over.
pub data IsWalked (graph : PlainGraph) (method : ℕ) : ℕ → Type 0 where
  body : (node : ℕ) → IsChildOf graph Block method node → IsWalked graph method node
  below : (parent node : ℕ) → IsWalked graph method parent → IsChild graph parent node →
      ¬ IsNodeWith graph IsPassedOver parent → ¬ IsUnevaluated graph parent node →
      IsWalked graph method node

-- The walked node has the property.
pub record IsWalkedWith (graph : PlainGraph) (P : PlainNode → Type 0) (method node : ℕ) : Type 0
  where
    pub walked : IsWalked graph method node
    pub is_node : IsNodeWith graph P node
