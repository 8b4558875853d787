-- The parts of the pass keep a graph shaped.
use Rattle.std.proofs.Common.{◌≡◌, ℕ, zero, suc, ◌+◌, ◌<◌, ◌≤◌, ◌⊎◌, inl, inr, List, [], ◌∷◌, ◌++◌, Option, Some, None, Ok, length, map, slice_index, refl, ap, sym, subst, ◌∙◌, arith, append-nil, append_assoc}
use Rattle.std.specs.List.{flat_map}
use Rattle.std.proofs.lemmas.List.{length-append, length-map, map-append}
use Rattle.std.proofs.lemmas.List.Elements.{All-map}
use Rattle.cpg_schema.specs.declared.caps.Caps.{Caps}
use Rattle.cpg_schema.specs.declared.edge_kind.EdgeKind.TheVariants.{Ast, ParameterLink, SourceFile}
use Rattle.cpg_schema.specs.declared.end.End.TheVariants.{Old, New}
use Rattle.cpg_schema.specs.Graph.{PlainEdge, PlainGraph}
use Rattle.cpg_schema.specs.Deltas.{applied, added_edge}
use Rattle.cpg_schema.specs.Fitting.{IsGraph}
use Rattle.cpg_schema.specs.Sequence.{seq}
use Rattle.cpg_schema.specs.Shape.{IsAstEdgeAt, IsShaped}
use Rattle.graph_delta.proofs.Sequencing.{seq_steps}
use Rattle.graph_parts.specs.NodesAbove.{parent_at}
use Rattle.graph_parts.proofs.Depth.{ends_of}
use Rattle.graph_parts.proofs.Tree.{child_at}
use Rattle.unit_rules.specs.Units.{members, units}
use Rattle.unit_rules.specs.UnitNodes.{out_node}
use Rattle.unit_rules.specs.UnitEdges.{edge_between, linked, member_edges, out_edges, parameter_edges, top_edges}
use Rattle.unit_rules.specs.UnitDeltas.{parameters, part_delta, unit_delta, unit_parts}
use Rattle.unit_rules.proofs.Hanging.{IsGrowing, IsTop, forest_of, growing_hang, growing_other, growing_others, none_above_top, none_below_bare, shaped_of}
use Rattle.unit_rules.proofs.Facts.{link_other, members_other, parent_low, source_other, unit_low, unit_top, units_rise}

-- A unit of a part that is not there yet, after so many parts.
pub record IsLeft (start : PlainGraph) (part node : ℕ) : Type 0 where
  pub unit : ℕ
  pub later : part ≤ unit + 1
  pub inside : unit < length (units start)
  pub is : node ≡ slice_index (units start) unit

left_low : (start : PlainGraph) (part node : ℕ) → IsLeft start part node → node < length start.nodes
left_low start part node h = subst (λ (k : ℕ). k < length start.nodes) (sym h.is) (unit_low start h.unit h.inside)

left_before : (start : PlainGraph) (part node : ℕ) → IsLeft start (suc part) node → IsLeft start part node
left_before start part node h = let later = h.later in record { unit = h.unit; later = omega arith; inside = h.inside; is = h.is }

-- The graph has grown, what is past its nodes is bare, and the units that are left are tops.
abbrev IsPast : ℕ → ℕ → Type 0
IsPast count node = count ≤ node

pub record IsAfter (start : PlainGraph) (part : ℕ) (graph : PlainGraph) : Type 0 where
  pub grown : length start.nodes ≤ length graph.nodes
  pub growing : IsGrowing graph.edges (IsPast (length graph.nodes)) (IsLeft start part)

at_start : (start : PlainGraph) → IsGraph start → IsShaped start → IsAfter start 0 start
at_start start is_graph shaped = record {
  grown = omega arith;
  growing = record {
    forest = forest_of start shaped;
    bare = λ node past. record {
      top = record { none = λ position parent at. let low = (ends_of start is_graph Ast parent node (child_at start position parent node at)).to_low in omega arith };
      low = λ position child at. let low = (ends_of start is_graph Ast node child (child_at start position node child at)).from_low in omega arith;
    };
    top = λ node left. record { none = subst (λ (k : ℕ). (position parent : ℕ) → ¬ IsAstEdgeAt start.edges position parent k) (sym left.is) (unit_top start left.unit left.inside) };
  };
}

-- More bare nodes and tops than are asked for.
weaker : (edges : List PlainEdge) (Bare Top Bare' Top' : ℕ → Type 0) → ((node : ℕ) → Bare' node → Bare node) → ((node : ℕ) → Top' node → Top node) →
    IsGrowing edges Bare Top → IsGrowing edges Bare' Top'
weaker edges Bare Top Bare' Top' bare top h = record {
  forest = h.forest;
  bare = λ node is. h.bare node (bare node is);
  top = λ node is. h.top node (top node is);
}

-- The edges of the FILE and the NAMESPACE_BLOCK.
module _ (start : PlainGraph) (k : ℕ) (inside : k < length (units start)) (count : ℕ) (low : length start.nodes ≤ count) (edges : List PlainEdge)
    (h : IsGrowing edges (IsPast count) (IsLeft start (suc k))) where
  unit : ℕ
  unit = slice_index (units start) k

  is_left : IsLeft start (suc k) unit
  unfolding unit
  is_left = record { unit = k; later = omega arith; inside = inside; is = refl }

  unit_below : unit < count
  unfolding unit
  unit_below = let below = unit_low start k inside in omega arith

  differs : (node : ℕ) → IsLeft start (suc (suc k)) node → ¬ (unit ≡ node)
  unfolding unit
  differs node left same =
      let later = left.later in
      let rises = units_rise start k left.unit (omega arith) left.inside in
      let is = left.is in
      omega arith

  first : PlainEdge
  first = added_edge count (edge_between (New 1) Ast (Old unit))

  second : PlainEdge
  second = added_edge count (edge_between (New 0) Ast (New 1))

  third : PlainEdge
  third = added_edge count (edge_between (New 1) SourceFile (New 0))

  abbrev Bare-1 : ℕ → Type 0
  Bare-1 node = (node ≡ count + 0) ⊎ (count + 2 ≤ node)

  abbrev Top-1 : ℕ → Type 0
  Top-1 node = (node ≡ count + 1) ⊎ IsLeft start (suc (suc k)) node

  one : IsGrowing (edges ++ first ∷ []) Bare-1 Top-1
  unfolding first
  one =
      growing_hang edges first (IsPast count) (IsLeft start (suc k)) Bare-1 Top-1
      (record {
        top = h.top unit is_left;
        differs = λ same. let below = unit_below in omega arith;
        not_above = none_above_top edges unit (count + 1) (h.bare (count + 1) (omega arith)).top;
      })
      h bare top
    where
      bare : (node : ℕ) → Bare-1 node → IsPast count node × ¬ (count + 1 ≡ node) × ¬ (unit ≡ node)
      bare node (inl is) = (omega arith, λ same. omega arith, λ same. let below = unit_below in omega arith)
      bare node (inr past) = (omega arith, λ same. omega arith, λ same. let below = unit_below in omega arith)

      top : (node : ℕ) → Top-1 node → IsTop edges node × ¬ (unit ≡ node)
      top node (inl is) = ((h.bare node (omega arith)).top, λ same. let below = unit_below in omega arith)
      top node (inr left) = (h.top node (left_before start (suc k) node left), differs node left)

  two : IsGrowing ((edges ++ first ∷ []) ++ second ∷ []) (IsPast (count + 2)) (IsLeft start (suc (suc k)))
  unfolding second
  two =
      growing_hang (edges ++ first ∷ []) second Bare-1 Top-1 (IsPast (count + 2)) (IsLeft start (suc (suc k)))
      (record {
        top = one.top (count + 1) (inl refl);
        differs = λ same. omega arith;
        not_above = none_above_top (edges ++ first ∷ []) (count + 1) (count + 0) (one.bare (count + 0) (inl refl)).top;
      })
      one (λ node past. (inr past, λ same. omega arith, λ same. omega arith))
      (λ node left. (one.top node (inr left), λ same. let below = left_low start (suc (suc k)) node left in omega arith))

  pub growing_top : IsGrowing (edges ++ map (added_edge count) (top_edges (slice_index (units start) k))) (IsPast (count + 2)) (IsLeft start (suc (suc k)))
  unfolding unit first second third
  growing_top =
      subst (λ (es : List PlainEdge). IsGrowing es (IsPast (count + 2)) (IsLeft start (suc (suc k))))
      (append_assoc (edges ++ first ∷ []) (second ∷ []) (third ∷ []) ∙ append_assoc edges (first ∷ []) (second ∷ third ∷ []))
      (growing_other ((edges ++ first ∷ []) ++ second ∷ []) third source_other (IsPast (count + 2)) (IsLeft start (suc (suc k))) two)

-- The edges of the parameters.
module _ (start : PlainGraph) (is_graph : IsGraph start) (part count : ℕ) (low : length start.nodes ≤ count) where
  one_linked : (parameter out : ℕ) (edges : List PlainEdge) (found : Option ℕ) → parent_at start parameter ≡ found → IsGrowing edges (IsPast (count + out)) (IsLeft start part) →
      IsGrowing (edges ++ map (added_edge count) (out_edges parameter out found)) (IsPast (count + (out + 1))) (IsLeft start part)
  one_linked parameter out edges None is h =
      growing_other edges (added_edge count (edge_between (Old parameter) ParameterLink (New out))) link_other (IsPast (count + (out + 1))) (IsLeft start part)
      (weaker edges (IsPast (count + out)) (IsLeft start part) (IsPast (count + (out + 1))) (IsLeft start part) (λ node past. omega arith) (λ node left. left) h)
  one_linked parameter out edges (Some method) is h =
      let hung = added_edge count (edge_between (Old method) Ast (New out)) in
      let link = added_edge count (edge_between (Old parameter) ParameterLink (New out)) in
      let below = parent_low start is_graph parameter method is in
      let bare = h.bare (count + out) (omega arith) in
      subst (λ (es : List PlainEdge). IsGrowing es (IsPast (count + (out + 1))) (IsLeft start part)) (append_assoc edges (hung ∷ []) (link ∷ []))
      (growing_other (edges ++ hung ∷ []) link link_other (IsPast (count + (out + 1))) (IsLeft start part)
      (growing_hang edges hung (IsPast (count + out)) (IsLeft start part) (IsPast (count + (out + 1))) (IsLeft start part)
      (record { top = bare.top; differs = λ same. omega arith; not_above = none_below_bare edges (count + out) method bare }) h
      (λ node past. (omega arith, λ same. omega arith, λ same. omega arith))
      (λ node left. (h.top node left, λ same. let under = left_low start part node left in omega arith))))

  pub growing_linked : (parameters : List ℕ) (out : ℕ) (edges : List PlainEdge) → IsGrowing edges (IsPast (count + out)) (IsLeft start part) →
      IsGrowing (edges ++ map (added_edge count) (linked start out parameters)) (IsPast (count + (out + length parameters))) (IsLeft start part)
  growing_linked [] out edges h =
      subst (λ (es : List PlainEdge). IsGrowing es (IsPast (count + (out + 0))) (IsLeft start part)) (sym (append-nil edges))
      (weaker edges (IsPast (count + out)) (IsLeft start part) (IsPast (count + (out + 0))) (IsLeft start part) (λ node past. omega arith) (λ node left. left) h)
  growing_linked (parameter ∷ rest) out edges h =
      let own = map (added_edge count) (parameter_edges start parameter out) in
      let more = map (added_edge count) (linked start (out + 1) rest) in
      let first = one_linked parameter out edges (parent_at start parameter) refl h in
      let all = growing_linked rest (out + 1) (edges ++ own) first in
      let same : edges ++ map (added_edge count) (parameter_edges start parameter out ++ linked start (out + 1) rest) ≡ (edges ++ own) ++ more =
      ap (λ (es : List PlainEdge). edges ++ es) (map-append (added_edge count) (parameter_edges start parameter out) (linked start (out + 1) rest))
      ∙ sym (append_assoc edges own more) in
      subst (λ (es : List PlainEdge). IsGrowing es (IsPast (count + (out + suc (length rest)))) (IsLeft start part)) (sym same)
      (weaker ((edges ++ own) ++ more) (IsPast (count + (out + 1 + length rest))) (IsLeft start part) (IsPast (count + (out + suc (length rest)))) (IsLeft start part)
      (λ node past. omega arith) (λ node left. left) all)

module _ (start : PlainGraph) (is_graph : IsGraph start) where
  part_step : (part : ℕ) (graph : PlainGraph) → part < unit_parts start → IsAfter start part graph → IsAfter start (suc part) (applied graph (part_delta start part))
  part_step zero graph inside h = record {
    grown = let grown = h.grown in let size = length-append graph.nodes (part_delta start 0).nodes in omega arith;
    growing =
        subst (λ (es : List PlainEdge). IsGrowing es (IsPast (length (graph.nodes ++ (part_delta start 0).nodes))) (IsLeft start 1)) (sym (append-nil graph.edges))
        (weaker graph.edges (IsPast (length graph.nodes)) (IsLeft start 0) (IsPast (length (graph.nodes ++ (part_delta start 0).nodes))) (IsLeft start 1)
        (λ node past. let size = length-append graph.nodes (part_delta start 0).nodes in omega arith) (left_before start 0) h.growing);
  }
  part_step (suc k) graph inside h =
      let count = length graph.nodes in
      let unit = slice_index (units start) k in
      let nodes = members start unit in
      let own = parameters start unit in
      let top = map (added_edge count) (top_edges unit) in
      let others = map (added_edge count) (flat_map (member_edges start) nodes) in
      let links = map (added_edge count) (linked start 2 own) in
      let low = h.grown in
      let one = growing_top start k (omega arith) count low graph.edges h.growing in
      let two = growing_others others (graph.edges ++ top) (IsPast (count + 2)) (IsLeft start (suc (suc k)))
      (All-map (λ (e : PlainEdge). ¬ (e.kind ≡ Ast)) (added_edge count) (flat_map (member_edges start) nodes) (members_other start nodes)) one in
      let all = growing_linked start is_graph (suc (suc k)) count low own 2 ((graph.edges ++ top) ++ others) two in
      let size = length-append graph.nodes (unit_delta start unit).nodes in
      let outs = length-map own (out_node start) in
      let same : graph.edges ++ map (added_edge count) (unit_delta start unit).edges ≡ ((graph.edges ++ top) ++ others) ++ links =
      ap (λ (es : List PlainEdge). graph.edges ++ es)
      (map-append (added_edge count) (top_edges unit) (flat_map (member_edges start) nodes ++ linked start 2 own)
      ∙ ap (λ (es : List PlainEdge). top ++ es) (map-append (added_edge count) (flat_map (member_edges start) nodes) (linked start 2 own)))
      ∙ sym (append_assoc (graph.edges ++ top) others links ∙ append_assoc graph.edges top (others ++ links)) in
      record {
        grown = omega arith;
        growing =
            subst (λ (es : List PlainEdge). IsGrowing es (IsPast (length (graph.nodes ++ (unit_delta start unit).nodes))) (IsLeft start (suc (suc k)))) (sym same)
            (weaker (((graph.edges ++ top) ++ others) ++ links) (IsPast (count + (2 + length own))) (IsLeft start (suc (suc k)))
            (IsPast (length (graph.nodes ++ (unit_delta start unit).nodes))) (IsLeft start (suc (suc k))) (λ node past. omega arith) (λ node left. left) all);
      }

  -- The graph with all parts is shaped.
  pub units_shape : IsShaped start → (caps : Caps) (graph : PlainGraph) → seq caps start (part_delta start) (unit_parts start) ≡ Ok graph → IsShaped graph
  units_shape shaped caps graph is =
      let after = seq_steps caps start (part_delta start) (IsAfter start) (unit_parts start) (at_start start is_graph shaped) part_step (unit_parts start) (omega arith) graph is in
      shaped_of graph.nodes graph.edges after.growing.forest
