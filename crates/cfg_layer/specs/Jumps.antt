-- Where jumps lead in a function (C11 6.8.4.2, 6.8.6).
use Rattle.std.specs.Prelude.{ℕ, List}
use Rattle.cpg_schema.specs.Graph.{PlainGraph, PlainNode}
use Rattle.cpg_schema.specs.Shape.{IsAbove}
use Rattle.graph_parts.specs.Finds.{IsLeast}
use Rattle.graph_parts.specs.Parts.{IsNodeWith}
use Rattle.graph_parts.specs.Standing.{IsMethodAbove}
use Rattle.cfg_layer.specs.Kinds.{HasKind, IsCaseOrDefault, IsDefault, IsGotoOf}
use Rattle.cfg_layer.specs.Kinds.{IsLoop, IsLoopOrSwitch}
use Rattle.cfg_layer.specs.Kinds.{IsTargetNamed, break_jump, continue_jump, switch_statement}
use Rattle.cfg_layer.specs.Walked.{IsWalked, IsWalkedWith}

-- The innermost node around this one that has the property: none with it stands between.
pub record IsInnermost (graph : PlainGraph) (P : PlainNode → Type 0) (node around : ℕ) : Type 0
  where
    pub is_above : IsAbove graph.edges around node
    pub is_node : IsNodeWith graph P around
    pub nearest : (between : ℕ) → IsAbove graph.edges around between →
        IsAbove graph.edges between node → ¬ IsNodeWith graph P between

-- A JUMP_TARGET of this NAME in the function.
pub record IsLabelIn (graph : PlainGraph) (method : ℕ) (name : List ℕ) (target : ℕ) : Type 0 where
  pub is_target : IsNodeWith graph (IsTargetNamed name) target
  pub method_is : IsMethodAbove graph target method

-- A `goto` leads to the label of its NAME (6.8.6.1 p2). Ours: where several nodes have it, to the
-- least of them, and nowhere where that one is not walked.
pub record LeadsToLabel (graph : PlainGraph) (method node target : ℕ) : Type 0 where
  pub name : List ℕ
  pub is_goto : IsNodeWith graph (IsGotoOf name) node
  pub label : IsLeast (IsLabelIn graph method name) target
  pub walked : IsWalked graph method target

-- A walked node with the property that belongs to the `switch`: it is the innermost around it
-- (6.8.4.2 p2).
pub record BelongsToSwitch (graph : PlainGraph) (P : PlainNode → Type 0) (method node target : ℕ) :
    Type 0 where
  pub is : IsWalkedWith graph P method target
  pub innermost : IsInnermost graph (HasKind switch_statement) target node

-- A `switch` leads to each `case` of its own and to its `default` (6.8.4.2 p5).
abbrev pub LeadsToCase : PlainGraph → ℕ → ℕ → ℕ → Type 0
LeadsToCase graph method node target = BelongsToSwitch graph IsCaseOrDefault method node target

abbrev pub IsDefaultOf : PlainGraph → ℕ → ℕ → ℕ → Type 0
IsDefaultOf graph method node target = BelongsToSwitch graph IsDefault method node target

-- A `break` leaves the smallest loop or `switch` around it (6.8.6.3 p2).
pub record IsBreakOf (graph : PlainGraph) (method node jump : ℕ) : Type 0 where
  pub is : IsWalkedWith graph (HasKind break_jump) method jump
  pub innermost : IsInnermost graph IsLoopOrSwitch jump node

-- A `continue` ends the body of the smallest loop around it (6.8.6.2 p2).
pub record IsContinueOf (graph : PlainGraph) (method node jump : ℕ) : Type 0 where
  pub is : IsWalkedWith graph (HasKind continue_jump) method jump
  pub innermost : IsInnermost graph IsLoop jump node
