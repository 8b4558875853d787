-- What the types add fits every graph, and keeps it shaped.
use Rattle.std.proofs.Common.{◌≡◌, ℕ, ◌+◌, List, [], ◌∷◌, ◌++◌, Option, Some, None, Ok, flat_map, length, map, inr, refl, ap, ◌∙◌}
use Rattle.std.specs.List.{All}
use Rattle.std.specs.Option.{option_map}
use Rattle.std.proofs.lemmas.List.Elements.{All-nil, All-cons, All-append, All-map}
use Rattle.std.proofs.lemmas.Option.{slice_get-map, slice_get_within}
use Rattle.cpg_schema.specs.declared.caps.Caps.{Caps}
use Rattle.cpg_schema.specs.declared.edge_kind.EdgeKind.TheVariants.{Ast, EvalType}
use Rattle.cpg_schema.specs.declared.end.End.TheVariants.{Old, New}
use Rattle.cpg_schema.specs.Names.{kind_rank}
use Rattle.cpg_schema.specs.Graph.{PlainNode, PlainGraph}
use Rattle.cpg_schema.specs.Deltas.{NewEdge, added_edge}
use Rattle.cpg_schema.specs.Fitting.{Fits, IsEdgeAmong, IsOldEnd, PartsFit}
use Rattle.cpg_schema.specs.Sequence.{seq}
use Rattle.cpg_schema.specs.Shape.{IsShaped}
use Rattle.cpg_schema.proofs.Among.{get_front}
use Rattle.cpg_schema.proofs.Apart.{apart_none, parts_fit_alone}
use Rattle.graph_delta.proofs.Fitting.{get_behind}
use Rattle.graph_delta.proofs.Shaping.{stays_shaped}
use Rattle.unit_rules.specs.Units.{all_nodes}
use Rattle.unit_rules.specs.UnitEdges.{edge_between}
use Rattle.type_rules.specs.Types.{position_of, type_at, type_names}
use Rattle.type_rules.specs.TypeDeltas.{eval_edges, node_edges, part_delta, type_delta, type_node, type_parts}
use Rattle.type_rules.proofs.Facts.{has_type, type_stands}

eval_other : ¬ (EvalType ≡ Ast)
eval_other same = let ranks = ap kind_rank same in absurd (cc)

module _ (graph : PlainGraph) where
  new : List PlainNode
  new = map type_node (type_names graph)

  -- The edge leads from a node of the graph to one that is added, as the schema allows.
  record IsFit (edge : NewEdge) : Type 0 where
    from : IsOldEnd (length graph.nodes) edge.from
    to : IsOldEnd (length graph.nodes) edge.to
    among : IsEdgeAmong (graph.nodes ++ new) (added_edge (length graph.nodes) edge)
    other : ¬ (edge.kind ≡ Ast)

  edge_fits : (node : ℕ) (name : List ℕ) → type_at graph node ≡ Some name →
      IsFit (edge_between (Old node) EvalType (New (position_of (type_names graph) name)))
  unfolding new
  edge_fits node name is =
      let has = has_type graph node name is in
      let at = position_of (type_names graph) name in
      let there = slice_get-map type_node (type_names graph) at ∙ ap (option_map type_node) (type_stands graph node name is) in
      record {
        from = slice_get_within graph.nodes node has.at has.at_is;
        to = tt;
        among = record {
          from = has.at;
          from_is = get_front graph.nodes new node has.at has.at_is;
          to = type_node name;
          to_is = get_behind graph.nodes new (length graph.nodes + at) at refl ∙ there;
          allowed = has.allowed;
          variable = inr refl;
        };
        other = eval_other;
      }

  node_fits : (node : ℕ) (o : Option (List ℕ)) → type_at graph node ≡ o → All IsFit (eval_edges (type_names graph) node o)
  node_fits node None is = All-nil IsFit
  node_fits node (Some name) is =
      All-cons IsFit (edge_between (Old node) EvalType (New (position_of (type_names graph) name))) [] (edge_fits node name is) (All-nil IsFit)

  all_fit : (nodes : List ℕ) → All IsFit (flat_map (node_edges graph) nodes)
  all_fit [] = All-nil IsFit
  all_fit (node ∷ nodes) = All-append IsFit (node_edges graph node) (flat_map (node_edges graph) nodes) (node_fits node (type_at graph node) refl) (all_fit nodes)

  delta_fits : Fits graph (type_delta graph)
  unfolding new
  delta_fits =
      let edges = flat_map (node_edges graph) (all_nodes graph) in
      let all = all_fit (all_nodes graph) in
      record {
        old_from = λ k d low. (all k d low).from;
        old_to = λ k d low. (all k d low).to;
        allowed = All-map (IsEdgeAmong (graph.nodes ++ new)) (added_edge (length graph.nodes)) edges (λ k d low. (all k d low).among);
        settings = All-nil _;
        apart = apart_none;
      }

  pub types_fit : PartsFit graph (part_delta graph) type_parts
  types_fit = parts_fit_alone graph (part_delta graph) type_parts (λ part low. refl) (λ part low. delta_fits)

  pub types_shape : (caps : Caps) (after : PlainGraph) → IsShaped graph → seq caps graph (part_delta graph) type_parts ≡ Ok after → IsShaped after
  types_shape caps after shaped is =
      stays_shaped caps graph (part_delta graph) type_parts shaped (λ part low. λ k d inside. (all_fit (all_nodes graph) k d inside).other) after is
