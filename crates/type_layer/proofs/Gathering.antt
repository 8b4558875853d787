-- One node more is gathered.
use Rattle.std.proofs.Common.{◌≡◌, ℕ, ◌+◌, ◌<◌, Bool, true, false, List, [], ◌∷◌, ◌++◌, Option, Some, None, flat_map, length, map, refl, ap, sym, subst, ◌∙◌, arith, append-nil}
use Rattle.std.specs.List.{Contains, range_with_len}
use Rattle.std.proofs.lemmas.Grind.{flat_map-append}
use Rattle.std.proofs.lemmas.List.{length-append, length-map, map-append}
use Rattle.std.proofs.lemmas.Option.{get_or_from_slice_get, slice_get_within}
use Rattle.cpg_schema.specs.declared.key.Key.TheVariants.{Name}
use Rattle.cpg_schema.specs.declared.label.Label.TheVariants.{TypeNode}
use Rattle.cpg_schema.specs.declared.edge_kind.EdgeKind.TheVariants.{EvalType}
use Rattle.cpg_schema.specs.declared.end.End.TheVariants.{Old, New}
use Rattle.cpg_schema.specs.Graph.{PlainGraph, PlainNode, bare_node}
use Rattle.cpg_schema.specs.Properties.{Property, with_text}
use Rattle.cpg_schema.specs.Deltas.{NewEdge, PlainDelta, changed_at, set_at}
use Rattle.name_table.specs.Names.{IsNumberOf}
use Rattle.unit_rules.specs.UnitEdges.{edge_between}
use Rattle.type_rules.specs.TypeDeltas.{eval_edges, node_edges, type_node}
use Rattle.type_rules.specs.Types.{position_of, type_at, type_names}
use Rattle.type_rules.proofs.Facts.{among_before, names_before, names_next, names_same, position_before, range_split}
use Rattle.type_rules.proofs.Once.{among, found_at, found_last, none_missing, one_missing, stands_among}
use Rattle.type_layer.specs.declared.types.Types.{Types}
use Rattle.type_layer.specs.Gathered.{AddsType, AreGathered}

-- ---- A TYPE more

changed_last : (nodes : List PlainNode) (node : PlainNode) (change : PlainNode → PlainNode) → changed_at (length nodes) change (nodes ++ node ∷ []) ≡ nodes ++ change node ∷ []
changed_last [] node change = refl
changed_last (first ∷ rest) node change = ap (λ (ns : List PlainNode). first ∷ ns) (changed_last rest node change)

pub type_added : (old middle new : PlainDelta) (position : ℕ) (name : List ℕ) → position ≡ length old.nodes →
    middle ≡ record old { nodes = old.nodes ++ bare_node TypeNode ∷ [] } → new ≡ set_at (New position) Name (Property.text name) middle →
    new ≡ record old { nodes = old.nodes ++ type_node name ∷ [] }
type_added old middle new position name last more set =
    set
    ∙ (ap (set_at (New position) Name (Property.text name)) more
    ∙ (ap (λ (k : ℕ). record old { nodes = changed_at k (with_text Name name) (old.nodes ++ bare_node TypeNode ∷ []) }) last
    ∙ ap (λ (ns : List PlainNode). record old { nodes = ns }) (changed_last old.nodes (bare_node TypeNode) (with_text Name name))))

-- ---- Where the type of a node stands

known_among : (names : List (List ℕ)) (name : List ℕ) (number : ℕ) → IsNumberOf names name number → among names name ≡ true
known_among names name number is = stands_among names number name is.stands

pub known_position : (names : List (List ℕ)) (name : List ℕ) (number : ℕ) → IsNumberOf names name number → number ≡ position_of names name
known_position names name number is = sym (is.one (position_of names name) (found_at names name (known_among names name number is)))

new_among : (names : List (List ℕ)) (name : List ℕ) → ¬ Contains names name → among names name ≡ false
new_among names name none = by (among names name) refl
  where
    by : (t : Bool) → among names name ≡ t → among names name ≡ false
    by true e =
        let at = position_of names name in
        let there = found_at names name e in
        absurd (none (at, slice_get_within names at name there, get_or_from_slice_get names at name name there))
    by false e = e

module _ (graph : PlainGraph) (node : ℕ) where
  edges_next : flat_map (node_edges graph) (range_with_len 0 (node + 1)) ≡ flat_map (node_edges graph) (range_with_len 0 node) ++ node_edges graph node
  edges_next =
      let here : 0 + node ≡ node = omega arith in
      ap (flat_map (node_edges graph)) (range_split 0 node 1 ∙ ap (λ (k : ℕ). range_with_len 0 node ++ k ∷ []) here)
      ∙ (flat_map-append (node_edges graph) (range_with_len 0 node) (node ∷ [])
      ∙ ap (λ (es : List NewEdge). flat_map (node_edges graph) (range_with_len 0 node) ++ es) (append-nil (node_edges graph node)))

  -- A node without a type adds nothing.
  pub gathered_same : (types : Types) → type_at graph node ≡ None → AreGathered graph node types → AreGathered graph (node + 1) types
  gathered_same types none before =
      let edges : flat_map (node_edges graph) (range_with_len 0 (node + 1)) ≡ flat_map (node_edges graph) (range_with_len 0 node) =
      edges_next
      ∙ (ap (λ (o : Option (List ℕ)). flat_map (node_edges graph) (range_with_len 0 node) ++ eval_edges (type_names graph) node o) none
      ∙ append-nil (flat_map (node_edges graph) (range_with_len 0 node))) in
      record {
        names = before.names ∙ sym (names_same graph node none);
        delta = before.delta ∙ ap (λ (es : List NewEdge). record { nodes = map type_node types.names; edges = es; settings = [] }) (sym edges);
      }

  module _ (name : List ℕ) (low : node < length graph.nodes) (is : type_at graph node ≡ Some name) where
    -- The names with that of the node, and its edge to the TYPE of this number.
    gathered_edge : (names : List (List ℕ)) (number : ℕ) (new : PlainDelta) → names ≡ names_before graph (node + 1) → number ≡ position_of names name →
        new ≡ record {
          nodes = map type_node names;
          edges = flat_map (node_edges graph) (range_with_len 0 node) ++ edge_between (Old node) EvalType (New number) ∷ [];
          settings = [];
        } → AreGathered graph (node + 1) (record { names = names; delta = new })
    gathered_edge names number new names_is number_is new_is =
        let among = among_before graph (node + 1) node name (omega arith) is in
        let whole = position_before graph (node + 1) name (omega arith) among in
        let own : number ≡ position_of (type_names graph) name = number_is ∙ (ap (λ (ns : List (List ℕ)). position_of ns name) names_is ∙ sym whole) in
        let edge : edge_between (Old node) EvalType (New number) ∷ [] ≡ node_edges graph node =
        ap (λ (k : ℕ). edge_between (Old node) EvalType (New k) ∷ []) own ∙ sym (ap (eval_edges (type_names graph) node) is) in
        record {
          names = names_is;
          delta =
              new_is
              ∙ ap (λ (es : List NewEdge). record { nodes = map type_node names; edges = es; settings = [] })
              (ap (λ (es : List NewEdge). flat_map (node_edges graph) (range_with_len 0 node) ++ es) edge ∙ sym edges_next);
        }

    with_edge : ℕ → PlainDelta → PlainDelta
    with_edge number delta = record delta { edges = delta.edges ++ edge_between (Old node) EvalType (New number) ∷ [] }

    -- The type has a number already.
    pub gathered_known : (types : Types) (number : ℕ) (new : PlainDelta) → AreGathered graph node types → IsNumberOf types.names name number →
        new ≡ record types.delta { edges = types.delta.edges ++ edge_between (Old node) EvalType (New number) ∷ [] } →
        AreGathered graph (node + 1) (record { names = types.names; delta = new })
    unfolding with_edge
    gathered_known types number new before known new_is =
        let here : among (names_before graph node) name ≡ true = ap (λ (ns : List (List ℕ)). among ns name) (sym before.names) ∙ known_among types.names name number known in
        let next : names_before graph (node + 1) ≡ names_before graph node =
        names_next graph node name is ∙ (ap (λ (ns : List (List ℕ)). names_before graph node ++ ns) (none_missing (names_before graph node) name here) ∙ append-nil (names_before graph node)) in
        gathered_edge types.names number new (before.names ∙ sym next) (known_position types.names name number known) (new_is ∙ ap (with_edge number) before.delta)

    -- The type is new.
    pub gathered_new : (types more : Types) (number : ℕ) (new : PlainDelta) → AreGathered graph node types → ¬ Contains types.names name → AddsType types more name number →
        new ≡ record more.delta { edges = more.delta.edges ++ edge_between (Old node) EvalType (New number) ∷ [] } →
        AreGathered graph (node + 1) (record { names = more.names; delta = new })
    unfolding with_edge
    gathered_new types more number new before none added new_is =
        let fresh = new_among types.names name none in
        let here : among (names_before graph node) name ≡ false = ap (λ (ns : List (List ℕ)). among ns name) (sym before.names) ∙ fresh in
        let next : names_before graph (node + 1) ≡ names_before graph node ++ name ∷ [] =
        names_next graph node name is ∙ ap (λ (ns : List (List ℕ)). names_before graph node ++ ns) (one_missing (names_before graph node) name here) in
        let names : more.names ≡ names_before graph (node + 1) = added.names ∙ (ap (λ (ns : List (List ℕ)). ns ++ name ∷ []) before.names ∙ sym next) in
        let last : number ≡ position_of more.names name =
        added.number_is ∙ (sym (found_last types.names name fresh) ∙ ap (λ (ns : List (List ℕ)). position_of ns name) (sym added.names)) in
        let nodes : map type_node types.names ++ type_node name ∷ [] ≡ map type_node more.names =
        sym (map-append type_node types.names (name ∷ [])) ∙ ap (map type_node) (sym added.names) in
        let delta : more.delta ≡ record { nodes = map type_node more.names; edges = flat_map (node_edges graph) (range_with_len 0 node); settings = [] } =
        added.delta
        ∙ (ap (λ (d : PlainDelta). record d { nodes = d.nodes ++ type_node name ∷ [] }) before.delta
        ∙ ap (λ (ns : List PlainNode). record { nodes = ns; edges = flat_map (node_edges graph) (range_with_len 0 node); settings = [] }) nodes) in
        gathered_edge more.names number new names last (new_is ∙ ap (with_edge number) delta)

-- ---- The TYPE of a number is a new node

pub known_end : (graph : PlainGraph) (node : ℕ) (types : Types) (name : List ℕ) (number : ℕ) → AreGathered graph node types → IsNumberOf types.names name number →
    number < length types.delta.nodes
known_end graph node types name number before known =
    let low = slice_get_within types.names number name known.stands in
    let size = length-map types.names type_node in
    let nodes = ap (λ (d : PlainDelta). length d.nodes) before.delta in
    omega arith

pub new_end : (graph : PlainGraph) (node : ℕ) (types more : Types) (name : List ℕ) (number : ℕ) → AreGathered graph node types → AddsType types more name number →
    number < length more.delta.nodes
new_end graph node types more name number before added =
    let size = length-map types.names type_node in
    let nodes = ap (λ (d : PlainDelta). length d.nodes) before.delta in
    let grown = ap (λ (d : PlainDelta). length d.nodes) added.delta in
    let last = added.number_is in
    let sum = length-append types.delta.nodes (type_node name ∷ []) in
    omega arith

-- ---- What is said of a value holds of an equal one

pub number_as : (old new : Types) (name : List ℕ) (number shown at : ℕ) → new ≡ old → shown ≡ number → at ≡ shown → IsNumberOf old.names name number → IsNumberOf new.names name at
number_as old new name number shown at same is shows known =
    subst (λ (k : ℕ). IsNumberOf new.names name k) (sym (shows ∙ is)) (subst (λ (t : Types). IsNumberOf t.names name number) (sym same) known)

pub added_as : (old more new : Types) (name : List ℕ) (number shown at : ℕ) → new ≡ more → shown ≡ number → at ≡ shown → AddsType old more name number → AddsType old new name at
added_as old more new name number shown at same is shows added =
    subst (λ (k : ℕ). AddsType old new name k) (sym (shows ∙ is)) (subst (λ (t : Types). AddsType old t name number) (sym same) added)
