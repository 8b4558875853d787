-- A climb from a node towards its root: in search of a label, and to the end.
use Rattle.std.proofs.Common.{ℕ, ◌<◌, inl, inr, length, refl, subst}
use Rattle.cpg_schema.specs.declared.label.Label.{Label}
use Rattle.cpg_schema.specs.Graph.{PlainGraph}
use Rattle.cpg_schema.specs.Shape.{IsAbove, IsShaped}
use Rattle.graph_parts.specs.Parts.{IsChild, IsNodeWith, HasLabel}
use Rattle.graph_parts.specs.Standing.{IsIn, IsNearestAbove, IsRootOf}
use Rattle.graph_parts.proofs.Tree.{above_child, above_trans, nearest_down, nearest_up, nearest_here, none_above}

-- What is nearest above the node that the climb has reached is nearest above the one at which it began, and the other way round.
pub record Climbing (graph : PlainGraph) (label : Label) (node below : ℕ) : Type 0 where
  pub inside : below < length graph.nodes
  pub down : (found : ℕ) → IsNearestAbove graph label below found → IsNearestAbove graph label node found
  pub up : (found : ℕ) → IsNearestAbove graph label node found → IsNearestAbove graph label below found

pub climbing_from : (graph : PlainGraph) (label : Label) (node : ℕ) → node < length graph.nodes → Climbing graph label node node
climbing_from graph label node inside = record { inside = inside; down = λ found is. is; up = λ found is. is }

pub climbing_ends : (graph : PlainGraph) (label : Label) (node below : ℕ) → Climbing graph label node below → ((parent : ℕ) → ¬ IsChild graph parent below) →
    (found : ℕ) → ¬ IsNearestAbove graph label node found
climbing_ends graph label node below h top found near = none_above graph below found top (h.up found near).is_above

module _ (graph : PlainGraph) (shaped : IsShaped graph) (label : Label) (node below above : ℕ) (h : Climbing graph label node below) (is : IsChild graph above below) where
  pub climbing_next : ¬ IsNodeWith graph (HasLabel label) above → above < length graph.nodes → Climbing graph label node above
  climbing_next lacks inside = record {
    inside = inside;
    down = λ found near. h.down found (nearest_down graph shaped label above below found is lacks near);
    up = λ found near. nearest_up graph shaped label above below found is lacks (h.up found near);
  }

  pub climbing_finds : IsNodeWith graph (HasLabel label) above → IsNearestAbove graph label node above
  climbing_finds has = h.down above (nearest_here graph shaped label above below is has)

-- The climb has reached a node at or above the one at which it began.
pub record Reaching (graph : PlainGraph) (node root : ℕ) : Type 0 where
  pub inside : root < length graph.nodes
  pub holds : IsIn graph root node

pub reaching_from : (graph : PlainGraph) (node : ℕ) → node < length graph.nodes → Reaching graph node node
reaching_from graph node inside = record { inside = inside; holds = inl refl }

pub reaching_next : (graph : PlainGraph) (node root above : ℕ) → Reaching graph node root → IsChild graph above root → above < length graph.nodes → Reaching graph node above
reaching_next graph node root above h is inside = record { inside = inside; holds = inr (by h.holds) }
  where
    by : IsIn graph root node → IsAbove graph.edges above node
    by (inl same) = subst (λ (k : ℕ). IsAbove graph.edges above k) same (above_child graph above root is)
    by (inr up) = above_trans graph above root node (above_child graph above root is) up

pub reaching_ends : (graph : PlainGraph) (node root : ℕ) → Reaching graph node root → ((parent : ℕ) → ¬ IsChild graph parent root) → IsRootOf graph node root
reaching_ends graph node root h top = record { holds = h.holds; top = top }
