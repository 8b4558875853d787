-- What is found of a node is what the definitions compute: its parent, its METHOD, its root.
use Rattle.std.proofs.Common.{◌≡◌, ℕ, ◌<◌, ◌&&◌, Bool, true, false, not, inl, inr, Option, Some, None, length, refl, ap, sym, ◌∙◌, arith}
use Rattle.std.specs.Option.{is_some}
use Rattle.cpg_schema.specs.declared.label.Label.TheVariants.{Call, Method}
use Rattle.cpg_schema.specs.declared.edge_kind.EdgeKind.TheVariants.{Ast}
use Rattle.cpg_schema.specs.Graph.{PlainGraph}
use Rattle.cpg_schema.specs.Fitting.{IsGraph}
use Rattle.cpg_schema.specs.Shape.{IsAbove, child as child_of, descendant, IsShaped}
use Rattle.graph_parts.specs.Finds.{Finds}
use Rattle.graph_parts.specs.Parts.{IsChild}
use Rattle.graph_parts.specs.NodesAbove.{method_at, parent_at, root_at}
use Rattle.graph_parts.specs.Standing.{IsIn, IsMethodAbove, IsRootOf}
use Rattle.graph_parts.proofs.AboveList.{method_at_is, root_at_is}
use Rattle.graph_parts.proofs.Depth.{ends_of, found, missing}
use Rattle.graph_parts.proofs.Parents.{parent_is}
use Rattle.graph_parts.proofs.Tree.{child_at, edge_at, one_nearest, one_root}
use Rattle.unit_rules.specs.Units.{is_global, is_missing, is_unit, label_at}
use Rattle.unit_rules.specs.UnitEdges.{in_method, label_edges, member_edges}

abbrev pub FindsParent : PlainGraph → ℕ → Option ℕ → Type 0
FindsParent graph node at = Finds (λ (parent : ℕ). IsChild graph parent node) at

-- A parent is found exactly where the definition has one.
pub same_missing : (graph : PlainGraph) (node : ℕ) (at : Option ℕ) → FindsParent graph node at → is_missing at ≡ is_missing (parent_at graph node)
same_missing graph node at finds = by at finds (parent_at graph node) refl
  where
    by : (at : Option ℕ) → FindsParent graph node at → (o : Option ℕ) → parent_at graph node ≡ o → is_missing at ≡ is_missing (parent_at graph node)
    by None none None is = sym (ap is_missing is)
    by None none (Some parent) is = let there = found graph.edges node parent is in absurd (none parent (child_at graph there.0 parent node there.1))
    by (Some parent) child None is = absurd (missing graph.edges node is child.position parent (edge_at graph parent node child))
    by (Some parent) child (Some other) is = sym (ap is_missing is)

is_none_missing : (at : Option ℕ) (t : Bool) → is_some at ≡ not t → t ≡ is_missing at
is_none_missing None true is = refl
is_none_missing None false is = cc
is_none_missing (Some node) true is = cc
is_none_missing (Some node) false is = refl

pub unit_without_parent : (graph : PlainGraph) (node : ℕ) (at : Option ℕ) (t : Bool) → FindsParent graph node at → is_some at ≡ not t → is_global graph node ≡ true → t ≡ is_unit graph node
unit_without_parent graph node at t finds is global = is_none_missing at t is ∙ (same_missing graph node at finds ∙ sym (ap (λ (b : Bool). b && is_missing (parent_at graph node)) global))

module _ (graph : PlainGraph) (shaped : IsShaped graph) where
  pub parent_same : (node : ℕ) (at : Option ℕ) → FindsParent graph node at → at ≡ parent_at graph node
  parent_same node at finds = by at finds (parent_at graph node) refl
    where
      by : (at : Option ℕ) → FindsParent graph node at → (o : Option ℕ) → parent_at graph node ≡ o → at ≡ parent_at graph node
      by None none None is = sym is
      by (Some parent) child None is = absurd (missing graph.edges node is child.position parent (edge_at graph parent node child))
      by at finds (Some other) is = let there = found graph.edges node other is in parent_is graph shaped node other at finds (child_at graph there.0 other node there.1) ∙ sym is

  pub root_same : IsGraph graph → (node root : ℕ) → IsRootOf graph node root → root ≡ root_at graph node
  root_same is_graph node root is = one_root graph shaped node root (root_at graph node) is (root_at_is graph shaped is_graph node)

  pub method_same : IsGraph graph → (node : ℕ) (at : Option ℕ) → Finds (IsMethodAbove graph node) at → at ≡ method_at graph node
  method_same is_graph node at finds = by at finds (method_at graph node) refl (method_at_is graph shaped is_graph node)
    where
      by : (at : Option ℕ) → Finds (IsMethodAbove graph node) at → (o : Option ℕ) → method_at graph node ≡ o → Finds (IsMethodAbove graph node) o → at ≡ method_at graph node
      by None none None is other = sym is
      by None none (Some method) is near = absurd (none method near)
      by (Some method) near None is none = absurd (none method near)
      by (Some method) near (Some other) is also = ap (λ (k : ℕ). Some k) (one_nearest graph shaped Method node method other near also) ∙ sym is

-- What stands above a node is a node, and so is its root.
module _ (graph : PlainGraph) (is_graph : IsGraph graph) where
  above_low : (above node : ℕ) → IsAbove graph.edges above node → above < length graph.nodes
  above_low above _ (child_of position node at) = (ends_of graph is_graph Ast above node (child_at graph position above node at)).from_low
  above_low above _ (descendant position parent node up at) = above_low above parent up

  pub root_low : (node root : ℕ) → node < length graph.nodes → IsRootOf graph node root → root < length graph.nodes
  root_low node root low is = by is.holds
    where
      by : IsIn graph root node → root < length graph.nodes
      by (inl same) = omega arith
      by (inr above) = above_low root node above

-- The edges that a CALL adds.
pub call_edges : (graph : PlainGraph) (node : ℕ) (at : Option ℕ) → label_at graph node ≡ Some Call → at ≡ method_at graph node → member_edges graph node ≡ in_method at node
call_edges graph node at label is = ap (label_edges graph node) label ∙ ap (λ (method : Option ℕ). in_method method node) (sym is)
