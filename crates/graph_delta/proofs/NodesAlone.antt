-- A delta of nodes alone fits every graph, for tests.
use Rattle.std.proofs.Common.{◌≡◌, List, [], map, length, ◌++◌, sym, subst}
use Rattle.std.specs.List.{All}
use Rattle.std.proofs.lemmas.List.Elements.{All-nil}
use Rattle.cpg_schema.specs.Graph.{PlainGraph}
use Rattle.cpg_schema.specs.Deltas.{PlainDelta, NewEdge, added_edge}
use Rattle.cpg_schema.specs.Fitting.{Fits, IsEdgeAmong, IsOldEnd, IsNewSetting, AreApart}
use Rattle.cpg_schema.proofs.Apart.{apart_none}

pub nodes_alone_fit : (graph : PlainGraph) (delta : PlainDelta) → delta.edges ≡ [] → delta.settings ≡ [] → Fits graph delta
nodes_alone_fit graph delta edges settings = record {
  old_from = subst (All (λ (edge : NewEdge). IsOldEnd (length graph.nodes) edge.from)) (sym edges) (All-nil _);
  old_to = subst (All (λ (edge : NewEdge). IsOldEnd (length graph.nodes) edge.to)) (sym edges) (All-nil _);
  allowed =
      subst (λ (es : List NewEdge). All (IsEdgeAmong (graph.nodes ++ delta.nodes)) (map (added_edge (length graph.nodes)) es)) (sym edges) (All-nil _);
  settings = subst (All (IsNewSetting graph.nodes)) (sym settings) (All-nil _);
  apart = subst AreApart (sym settings) apart_none;
}
