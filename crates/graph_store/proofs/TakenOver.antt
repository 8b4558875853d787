-- A graph without nodes takes over the rows of a delta whose edges are all between new nodes.
use Rattle.std.proofs.Common.{◌≡◌, ℕ, ◌<◌, ◌≤◌, inl, inr, Bool, if◌then◌else◌, nat_lt, List, [], ◌∷◌, Some, length, map, slice_get, get_or, refl, ap, sym, subst, ◌∙◌, zero-add, arith}
use Rattle.std.proofs.lemmas.Bool.{lt-ltb, le-ltb}
use Rattle.std.specs.List.{All}
use Rattle.std.proofs.lemmas.List.{length-map}
use Rattle.std.proofs.lemmas.List.Elements.{All-nil, All-cons, All-head, All-tail}
use Rattle.std.proofs.lemmas.Option.{get_or_from_slice_get}
use Rattle.cpg_schema.specs.declared.caps.Caps.{Caps}
use Rattle.cpg_schema.specs.Deltas.{applied, added_edge}
use Rattle.cpg_schema.specs.Fitting.{Fits, IsGraph}
use Rattle.cpg_schema.proofs.Among.{applied_is_graph}
use Rattle.graph_store.specs.declared.names.TheConstants.{NO_NAME}
use Rattle.graph_store.specs.declared.node_row.NodeRow.{NodeRow}
use Rattle.graph_store.specs.declared.edge.Edge.{Edge}
use Rattle.graph_store.specs.declared.delta_row.NewEdgeRow.{NewEdgeRow}
use Rattle.graph_store.specs.declared.delta_row.SettingRow.{SettingRow}
use Rattle.graph_store.specs.Pool.{Adds, BeginsEmpty}
use Rattle.graph_store.specs.Stored.{plain, plain_edge, IsVariable}
use Rattle.graph_store.specs.Rows.{AreGraphRows, IsNameOrNone}
use Rattle.graph_store.specs.DeltaRows.{plain_delta, plain_new_edge, fresh_row, edge_rows, IsNewEdgeRow, AreDeltaRows}
use Rattle.graph_store.specs.GrownRows.{edge_within}
use Rattle.graph_store.proofs.Growing.{text_past}
use Rattle.graph_store.proofs.Applied.{kept_graph}

-- names that are some begin with the empty one
first_empty : (names : List (List ℕ)) → 0 < length names → BeginsEmpty names → slice_get names 0 ≡ Some []
first_empty names some (inl none) = let size = ap length none in absurd (omega arith)
first_empty names some (inr is) = is

-- they are the empty name with more
pub adds_taken : (a names : List (List ℕ)) → length a ≡ 1 → slice_get a 0 ≡ Some [] → 0 < length names → BeginsEmpty names → Adds a names
adds_taken a names one empty some begins = by a names one empty (first_empty names some begins)
  where
    by : (a names : List (List ℕ)) → length a ≡ 1 → slice_get a 0 ≡ Some [] → slice_get names 0 ≡ Some [] → Adds a names
    by [] names one empty first = absurd (cc)
    by (x ∷ []) [] one empty first = absurd (cc)
    by (x ∷ []) (y ∷ ys) one empty first =
        let same : y ≡ x = cc in
        record { more = ys; is = ap (λ (z : List ℕ). z ∷ ys) same }
    by (x ∷ z ∷ zs) names one empty first = absurd (omega arith)

module _ (names : List (List ℕ)) (some : 0 < length names) (begins : BeginsEmpty names) (few : length names ≤ NO_NAME) where
  -- the variable of an edge that is taken over
  taken : ℕ → ℕ
  taken v = if nat_lt v (length names) then v else 0

  taken_low : (v : ℕ) → v < length names → taken v ≡ v
  unfolding taken
  taken_low v low = ap (λ (b : Bool). if b then v else 0) (lt-ltb v (length names) low)

  taken_none : (v : ℕ) → v ≡ NO_NAME → taken v ≡ 0
  unfolding taken
  taken_none v none = ap (λ (b : Bool). if b then v else 0) (le-ltb v (length names) (omega arith))

  name_same : (v : ℕ) → IsNameOrNone (length names) v → get_or names (taken v) [] ≡ get_or names v []
  name_same v (inl low) = ap (λ (n : ℕ). get_or names n []) (taken_low v low)
  name_same v (inr none) =
      ap (λ (n : ℕ). get_or names n []) (taken_none v none)
      ∙ (get_or_from_slice_get names 0 [] [] (first_empty names some begins) ∙ sym (text_past names v (omega arith)))

  pooled : (v : ℕ) → IsNameOrNone (length names) v → taken v < length names
  pooled v (inl low) = let e = taken_low v low in omega arith
  pooled v (inr none) = let e = taken_none v none in omega arith

  edge_same : (count : ℕ) (x : Edge) → IsNewEdgeRow count (length names) (fresh_row x) →
      plain_edge names (edge_within (length names) x) ≡ added_edge 0 (plain_new_edge names (fresh_row x))
  unfolding taken
  edge_same count x h =
      let from = zero-add x.from in
      let to = zero-add x.to in
      let name = name_same x.variable h.variable in
      λ i. record { from = sym from i; kind = x.kind; to = sym to i; variable = name i }

  variable_within : (count : ℕ) (x : Edge) → IsNewEdgeRow count (length names) (fresh_row x) →
      IsVariable (length names) (edge_within (length names) x)
  unfolding taken
  variable_within count x h = record {
    pooled = pooled x.variable h.variable;
    unnamed = elim h.unnamed [ inl is ↦ inl is | inr none ↦ inr (taken_none x.variable none) ];
  }

  edges_same : (count : ℕ) (fresh : List Edge) → All (IsNewEdgeRow count (length names)) (edge_rows fresh []) →
      map (plain_edge names) (map (edge_within (length names)) fresh) ≡ map (added_edge 0) (map (plain_new_edge names) (edge_rows fresh []))
  edges_same count [] all = refl
  edges_same count (x ∷ xs) all =
      let one = edge_same count x (All-head (IsNewEdgeRow count (length names)) (fresh_row x) (edge_rows xs []) all) in
      let rest = edges_same count xs (All-tail (IsNewEdgeRow count (length names)) (fresh_row x) (edge_rows xs []) all) in
      λ i. one i ∷ rest i

  variables_within : (count : ℕ) (fresh : List Edge) → All (IsNewEdgeRow count (length names)) (edge_rows fresh []) →
      All (IsVariable (length names)) (map (edge_within (length names)) fresh)
  variables_within count [] all = All-nil (IsVariable (length names))
  variables_within count (x ∷ xs) all =
      All-cons (IsVariable (length names)) (edge_within (length names) x) (map (edge_within (length names)) xs)
      (variable_within count x (All-head (IsNewEdgeRow count (length names)) (fresh_row x) (edge_rows xs []) all))
      (variables_within count xs (All-tail (IsNewEdgeRow count (length names)) (fresh_row x) (edge_rows xs []) all))

  module _ (a : List (List ℕ)) (caps : Caps) (nodes : List NodeRow) (fresh : List Edge) (delta : AreDeltaRows names nodes (edge_rows fresh []) []) where
    -- the graph is then that which the delta gives
    pub taken_over : plain (kept_graph names nodes (map (edge_within (length names)) fresh) caps) ≡
        applied (plain (kept_graph a [] [] caps)) (plain_delta names nodes (edge_rows fresh []) [])
    taken_over =
        let e = edges_same (length nodes) fresh delta.additions in
        λ i. record (applied (plain (kept_graph a [] [] caps)) (plain_delta names nodes (edge_rows fresh []) [])) { edges = e i }

    -- and is well kept
    pub kept_taken : AreGraphRows [] [] a caps → Fits (plain (kept_graph a [] [] caps)) (plain_delta names nodes (edge_rows fresh []) []) →
        length nodes ≤ caps.nodes → length fresh ≤ caps.edges → AreGraphRows nodes (map (edge_within (length names)) fresh) names caps
    kept_taken kept fits nodes_fit edges_fit =
        let size = length-map fresh (edge_within (length names)) in
        record {
          few_nodes = nodes_fit;
          few_edges = omega arith;
          small_nodes = kept.small_nodes;
          few_names = few;
          empty = first_empty names some begins;
          texts = delta.texts;
          variables = variables_within (length nodes) fresh delta.additions;
          is_graph = subst IsGraph (sym taken_over)
              (applied_is_graph (plain (kept_graph a [] [] caps)) (plain_delta names nodes (edge_rows fresh []) []) kept.is_graph fits);
        }

-- The same of a graph and a delta of which it is known that they are so.
module _ (names : List (List ℕ)) (nodes : List NodeRow) (fresh : List Edge) (a : List (List ℕ)) (caps : Caps) (some : 0 < length names) where
  pub bare_taken_over : (rows : List NodeRow) (edges : List Edge) (others : List NewEdgeRow) (settings : List SettingRow) →
      rows ≡ [] → edges ≡ [] → others ≡ [] → settings ≡ [] → AreDeltaRows names nodes (edge_rows fresh others) settings →
      plain (kept_graph names nodes (map (edge_within (length names)) fresh) caps) ≡
      applied (plain (kept_graph a rows edges caps)) (plain_delta names nodes (edge_rows fresh others) settings)
  bare_taken_over [] [] [] [] r e o s delta = taken_over names some delta.begins delta.few_names a caps nodes fresh delta
  bare_taken_over (x ∷ rows) edges others settings r e o s delta = absurd (cc)
  bare_taken_over [] (x ∷ edges) others settings r e o s delta = absurd (cc)
  bare_taken_over [] [] (x ∷ others) settings r e o s delta = absurd (cc)
  bare_taken_over [] [] [] (x ∷ settings) r e o s delta = absurd (cc)

  pub bare_kept_taken : (rows : List NodeRow) (edges : List Edge) (others : List NewEdgeRow) (settings : List SettingRow) →
      rows ≡ [] → edges ≡ [] → others ≡ [] → settings ≡ [] → AreDeltaRows names nodes (edge_rows fresh others) settings →
      AreGraphRows rows edges a caps → Fits (plain (kept_graph a rows edges caps)) (plain_delta names nodes (edge_rows fresh others) settings) →
      length nodes ≤ caps.nodes → length fresh ≤ caps.edges → AreGraphRows nodes (map (edge_within (length names)) fresh) names caps
  bare_kept_taken [] [] [] [] r e o s delta kept fits n m = kept_taken names some delta.begins delta.few_names a caps nodes fresh delta kept fits n m
  bare_kept_taken (x ∷ rows) edges others settings r e o s delta kept fits n m = absurd (cc)
  bare_kept_taken [] (x ∷ edges) others settings r e o s delta kept fits n m = absurd (cc)
  bare_kept_taken [] [] (x ∷ others) settings r e o s delta kept fits n m = absurd (cc)
  bare_kept_taken [] [] [] (x ∷ settings) r e o s delta kept fits n m = absurd (cc)
