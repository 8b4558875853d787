-- The plan of a function of a graph, and the edges that this gives (ours).
use Rattle.std.specs.Prelude.{ℕ, ◌≡◌, List, [], Some, length, slice_get}
use Rattle.cpg_schema.specs.Graph.{PlainGraph, PlainNode}
use Rattle.cfg_rules.specs.declared.rule.Rule.TheVariants as rule
use Rattle.cfg_rules.specs.Plan.{Construct}
use Rattle.cfg_flow.specs.Edges.{AreFlow}
use Rattle.cfg_layer.specs.Kinds.{kind_of}
use Rattle.cfg_layer.specs.Walked.{IsWalked}
use Rattle.cfg_layer.specs.Constructs.{IsConstructOf, IsFunctionOf}

-- A node that is not walked: no step leads through it.
pub record IsUnwalked (construct : Construct) : Type 0 where
  pub rule_is : construct.rule ≡ rule.Silent
  pub no_parts : construct.parts ≡ []
  pub no_targets : construct.targets ≡ []

-- The plan of the function, by the numbers of nodes: it has the construct of the function, of each
-- node that is walked in it, and nothing at the others.
pub record IsPlanOf (graph : PlainGraph) (method : ℕ) (plan : List Construct) : Type 0 where
  pub count : length plan ≡ length graph.nodes
  pub function : (construct : Construct) → slice_get plan method ≡ Some construct →
      IsFunctionOf graph method construct
  pub walked : (number : ℕ) (node : PlainNode) (construct : Construct) →
      IsWalked graph method number → slice_get graph.nodes number ≡ Some node →
      slice_get plan number ≡ Some construct →
      IsConstructOf graph method number (kind_of node) construct
  pub others : (number : ℕ) (construct : Construct) → ¬ (number ≡ method) →
      ¬ IsWalked graph method number → slice_get plan number ≡ Some construct →
      IsUnwalked construct

-- The edges are those along which control flows in the function, rising, each once: from a to b
-- exactly where a walk of at least one step leads from the mark of a to that of b, with no other
-- mark between.
pub record AreFlowOf (graph : PlainGraph) (method : ℕ) (edges : List (ℕ × ℕ)) : Type 0 where
  pub plan : List Construct
  pub plan_is : IsPlanOf graph method plan
  pub flow : AreFlow plan edges
