-- The nodes of a unit are nodes of the graph.
use Rattle.std.proofs.Common.{◌≡◌, ℕ, ◌<◌, ◌==◌, List, get_or, length, slice_index, sym, subst, ap, ◌∙◌, arith}
use Rattle.std.specs.List.{All}
use Rattle.std.proofs.lemmas.List.{get_or_read}
use Rattle.std.proofs.lemmas.List.Elements.{All-filter}
use Rattle.cpg_schema.specs.declared.label.Label.{Label}
use Rattle.cpg_schema.specs.Graph.{PlainGraph}
use Rattle.graph_parts.specs.NodesAbove.{is_labelled, root_at}
use Rattle.unit_rules.specs.Units.{all_nodes, labelled, members, units}
use Rattle.unit_rules.proofs.Facts.{low_nodes, unit_low}

module _ (graph : PlainGraph) where
  abbrev IsLow : ℕ → Type 0
  IsLow node = node < length graph.nodes

  pub unit_inside : (items : List ℕ) (k unit : ℕ) → items ≡ units graph → k < length (units graph) → unit ≡ get_or items k unit → unit < length graph.nodes
  unit_inside items k unit is low read =
      let size = ap length is in
      let same : unit ≡ slice_index (units graph) k = get_or_read items k unit (omega arith) read 0 ∙ ap (λ (xs : List ℕ). slice_index xs k) is in
      let inside = unit_low graph k low in
      omega arith

  pub members_low : (unit : ℕ) (xs : List ℕ) → xs ≡ members graph unit → All (λ (node : ℕ). node < length graph.nodes) xs
  members_low unit xs is = subst (All IsLow) (sym is) (All-filter (λ node. root_at graph node == unit) IsLow (all_nodes graph) (low_nodes graph))

  pub labelled_low : (one : Label) (nodes xs : List ℕ) → xs ≡ labelled graph one nodes → All (λ (node : ℕ). node < length graph.nodes) nodes → All (λ (node : ℕ). node < length graph.nodes) xs
  labelled_low one nodes xs is low = subst (All IsLow) (sym is) (All-filter (is_labelled graph one) IsLow nodes low)
