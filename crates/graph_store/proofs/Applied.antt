-- What a graph is after a delta, of what is kept.
use Rattle.std.proofs.Common.{◌≡◌, ℕ, ◌+◌, ◌<◌, ◌≤◌, List, [], ◌∷◌, ◌++◌, Some, length, map, slice_get, ap, sym, subst, ◌∙◌, arith}
use Rattle.std.specs.List.{All}
use Rattle.std.proofs.lemmas.List.{length-append, map-append, length-map}
use Rattle.std.proofs.lemmas.List.Elements.{All-nil, All-weaker, All-append, All-head, All-tail, All-cons}
use Rattle.cpg_schema.specs.Graph.{PlainNode, PlainEdge}
use Rattle.cpg_schema.specs.Deltas.{NewEdge, Setting, applied, with_settings, added_edge}
use Rattle.cpg_schema.specs.Fitting.{Fits, IsGraph, IsNewSetting, IsOldEnd}
use Rattle.cpg_schema.proofs.Among.{applied_is_graph, new_within}
use Rattle.graph_store.specs.declared.names.TheConstants.{NO_NAME}
use Rattle.graph_store.specs.declared.node_row.NodeRow.{NodeRow}
use Rattle.graph_store.specs.declared.edge.Edge.{Edge}
use Rattle.cpg_schema.specs.declared.caps.Caps.{Caps}
use Rattle.graph_store.specs.declared.delta_row.EndRow.{EndRow}
use Rattle.graph_store.specs.declared.delta_row.EndRow.TheVariants as end_row
use Rattle.graph_store.specs.declared.delta_row.NewEdgeRow.{NewEdgeRow}
use Rattle.graph_store.specs.declared.delta_row.SettingRow.{SettingRow}
use Rattle.graph_store.specs.Pool.{Adds, Numbers}
use Rattle.graph_store.specs.Stored.{StoredGraph, plain, plain_edge, IsVariable}
use Rattle.graph_store.specs.Rows.{plain_node, renumbered, HasNames, AreGraphRows}
use Rattle.cpg_schema.specs.Deltas.{IsNewEnd}
use Rattle.graph_store.specs.DeltaRows.{plain_delta, plain_new_edge, plain_setting, plain_end, IsNewEdgeRow, AreDeltaRows}
use Rattle.graph_store.specs.GrownRows.{HasSmallEnds, end_row_number, edge_of_row, rows_with_settings}
use Rattle.graph_store.proofs.Pool.{adds_keep, length_adds}
use Rattle.graph_store.proofs.Keeping.{keeps_nodes, keeps_edges, more_names}
use Rattle.graph_store.proofs.Growing.{new_nodes, new_texts, old_nodes, old_texts, new_edges, new_variables, length-rows_with_settings}

-- the graph that is kept so
abbrev pub kept_graph : List (List ℕ) → List NodeRow → List Edge → Caps → StoredGraph
kept_graph names nodes edges caps = record { nodes = map (plain_node names) nodes; edges = edges; names = names; caps = caps }

more_variable : (m n : ℕ) → m ≤ n → (edge : Edge) → IsVariable m edge → IsVariable n edge
more_variable m n le edge h = record { pooled = (let p = h.pooled in omega arith); unnamed = h.unnamed }

module _ (a b more : List (List ℕ)) (nodes : List NodeRow) (edges : List Edge) (caps : Caps)
    (others : List NodeRow) (additions : List NewEdgeRow) (settings : List SettingRow) (numbers : List ℕ)
    (adds : Adds a b) (few : length b ≤ NO_NAME) (num : Numbers more b numbers)
    (kept : AreGraphRows nodes edges a caps) (delta : AreDeltaRows more others additions settings) where
  -- the nodes and the edges that are kept then
  abbrev pub grown_nodes : List NodeRow
  grown_nodes = rows_with_settings numbers settings nodes ++ map (renumbered numbers) others

  abbrev pub grown_edges : List Edge
  grown_edges = edges ++ map (edge_of_row (length nodes) numbers) additions

  -- the empty name keeps its position
  empty_kept : slice_get b 0 ≡ Some []
  empty_kept = adds_keep a b 0 adds (slice_get_some a kept.empty) ∙ kept.empty
    where
      slice_get_some : (names : List (List ℕ)) → slice_get names 0 ≡ Some [] → 0 < length names
      slice_get_some [] e = absurd (cc)
      slice_get_some (x ∷ xs) e = omega arith

  nodes_after : map (plain_node b) grown_nodes ≡ with_settings (map (plain_setting more) settings) (map (plain_node a) nodes) ++ map (plain_node more) others
  nodes_after =
      map-append (plain_node b) (rows_with_settings numbers settings nodes) (map (renumbered numbers) others) ∙
      (ap (λ (rest : List PlainNode). map (plain_node b) (rows_with_settings numbers settings nodes) ++ rest)
      (new_nodes b more numbers num few delta.few_names others delta.texts) ∙
      ap (λ (front : List PlainNode). front ++ map (plain_node more) others)
      (old_nodes b more numbers num few delta.few_names settings nodes delta.values ∙
      ap (with_settings (map (plain_setting more) settings)) (keeps_nodes a b adds few nodes kept.texts)))

  edges_after : map (plain_edge b) grown_edges ≡ map (plain_edge a) edges ++ map (added_edge (length nodes)) (map (plain_new_edge more) additions)
  edges_after =
      map-append (plain_edge b) edges (map (edge_of_row (length nodes) numbers) additions) ∙
      (ap (λ (rest : List PlainEdge). map (plain_edge b) edges ++ rest)
      (new_edges b more numbers num few delta.few_names (length nodes) empty_kept (length others) additions delta.additions) ∙
      ap (λ (front : List PlainEdge). front ++ map (added_edge (length nodes)) (map (plain_new_edge more) additions))
      (keeps_edges a b adds few edges kept.variables))

  -- it stands for the graph that the delta gives
  pub applied_kept : plain (kept_graph b grown_nodes grown_edges caps) ≡ applied (plain (kept_graph a nodes edges caps)) (plain_delta more others additions settings)
  applied_kept =
      let size = length-map nodes (plain_node a) in
      let e = edges_after ∙ ap (λ (n : ℕ). map (plain_edge a) edges ++ map (added_edge n) (map (plain_new_edge more) additions)) (sym size) in
      let n = nodes_after in
      λ i. record { nodes = n i; edges = e i }

  module _ (fits : Fits (plain (kept_graph a nodes edges caps)) (plain_delta more others additions settings))
      (nodes_fit : length nodes + length others ≤ caps.nodes) (edges_fit : length edges + length additions ≤ caps.edges) where
    -- it is well formed
    grown_is_graph : IsGraph (plain (kept_graph b grown_nodes grown_edges caps))
    grown_is_graph =
        subst IsGraph (sym applied_kept)
        (applied_is_graph (plain (kept_graph a nodes edges caps)) (plain_delta more others additions settings) kept.is_graph fits)

    -- and is well kept
    pub kept_after : AreGraphRows grown_nodes grown_edges b caps
    kept_after =
        let le = length_adds a b adds in
        let front = length-rows_with_settings numbers settings nodes in
        let back = length-map others (renumbered numbers) in
        let sum = length-append (rows_with_settings numbers settings nodes) (map (renumbered numbers) others) in
        let edges_back = length-map additions (edge_of_row (length nodes) numbers) in
        let edges_sum = length-append edges (map (edge_of_row (length nodes) numbers) additions) in
        record {
          few_nodes = omega arith;
          few_edges = omega arith;
          small_nodes = kept.small_nodes;
          few_names = few;
          empty = empty_kept;
          texts = All-append (HasNames (length b)) (rows_with_settings numbers settings nodes) (map (renumbered numbers) others)
              (old_texts b more numbers num few delta.few_names settings nodes delta.values
              (All-weaker (HasNames (length a)) (HasNames (length b)) (λ x. more_names (length a) (length b) x le) nodes kept.texts))
              (new_texts b more numbers num few delta.few_names others delta.texts);
          variables = All-append (IsVariable (length b)) edges (map (edge_of_row (length nodes) numbers) additions)
              (All-weaker (IsVariable (length a)) (IsVariable (length b)) (more_variable (length a) (length b) le) edges kept.variables)
              (new_variables b more numbers num few delta.few_names (length nodes) empty_kept (length others) additions delta.additions);
          is_graph = grown_is_graph;
        }

    number_small : caps.nodes < 4294967296 → (p : EndRow) → IsOldEnd (length nodes) (plain_end p) → IsNewEnd (length others) (plain_end p) → end_row_number (length nodes) p < 4294967296
    number_small small (end_row.Old n) old new = omega arith
    number_small small (end_row.New n) old new = omega arith

    -- the numbers of all ends are small
    pub ends_small : caps.nodes < 4294967296 → All (HasSmallEnds (length nodes)) additions
    ends_small small =
        let size = length-map nodes (plain_node a) in
        by additions delta.additions (subst (λ (n : ℕ). All (λ (edge : NewEdge). IsOldEnd n edge.from) (map (plain_new_edge more) additions)) size fits.old_from)
        (subst (λ (n : ℕ). All (λ (edge : NewEdge). IsOldEnd n edge.to) (map (plain_new_edge more) additions)) size fits.old_to)
      where
        by : (xs : List NewEdgeRow) → All (IsNewEdgeRow (length others) (length more)) xs →
            All (λ (edge : NewEdge). IsOldEnd (length nodes) edge.from) (map (plain_new_edge more) xs) →
            All (λ (edge : NewEdge). IsOldEnd (length nodes) edge.to) (map (plain_new_edge more) xs) →
            All (HasSmallEnds (length nodes)) xs
        by [] all from to = λ k d h. absurd (omega arith)
        by (x ∷ xs) all from to =
            let one = All-head (IsNewEdgeRow (length others) (length more)) x xs all in
            let from_one = All-head (λ (edge : NewEdge). IsOldEnd (length nodes) edge.from) (plain_new_edge more x) (map (plain_new_edge more) xs) from in
            let to_one = All-head (λ (edge : NewEdge). IsOldEnd (length nodes) edge.to) (plain_new_edge more x) (map (plain_new_edge more) xs) to in
            let both : HasSmallEnds (length nodes) x =
            record { from = number_small small x.from from_one one.from; to = number_small small x.to to_one one.to } in
            All-cons (HasSmallEnds (length nodes)) x xs both
            (by xs (All-tail (IsNewEdgeRow (length others) (length more)) x xs all)
            (All-tail (λ (edge : NewEdge). IsOldEnd (length nodes) edge.from) (plain_new_edge more x) (map (plain_new_edge more) xs) from)
            (All-tail (λ (edge : NewEdge). IsOldEnd (length nodes) edge.to) (plain_new_edge more x) (map (plain_new_edge more) xs) to))

-- settings that are new are of nodes that are there
pub set_within : (names : List (List ℕ)) (settings : List SettingRow) (nodes : List PlainNode) (count : ℕ) → length nodes ≡ count →
    All (IsNewSetting nodes) (map (plain_setting names) settings) → All (λ (s : SettingRow). s.node < count) settings
set_within names settings nodes count size new =
    by settings (subst (λ (n : ℕ). All (λ (s : Setting). s.node < n) (map (plain_setting names) settings)) size (new_within nodes (map (plain_setting names) settings) new))
  where
    by : (rows : List SettingRow) → All (λ (s : Setting). s.node < count) (map (plain_setting names) rows) → All (λ (s : SettingRow). s.node < count) rows
    by [] all = All-nil (λ (s : SettingRow). s.node < count)
    by (row ∷ rows) all =
        All-cons (λ (s : SettingRow). s.node < count) row rows
        (All-head (λ (s : Setting). s.node < count) (plain_setting names row) (map (plain_setting names) rows) all)
        (by rows (All-tail (λ (s : Setting). s.node < count) (plain_setting names row) (map (plain_setting names) rows) all))
