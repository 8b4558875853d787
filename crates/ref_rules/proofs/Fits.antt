-- What the names add fits every graph, and keeps it shaped.
use Rattle.std.proofs.Common.{◌≡◌, ℕ, ◌<◌, cond, Bool, true, false, List, [], ◌∷◌, ◌++◌, Option, Some, None, Ok, flat_map, length, slice_get, slice_index, inr, refl, ap}
use Rattle.std.specs.List.{All}
use Rattle.std.specs.Option.{option_map}
use Rattle.std.proofs.lemmas.List.Elements.{All-nil, All-cons, All-append, All-map}
use Rattle.std.proofs.lemmas.Option.{slice_get_within}
use Rattle.cpg_schema.specs.declared.caps.Caps.{Caps}
use Rattle.cpg_schema.specs.declared.edge_kind.EdgeKind.TheVariants.{Ast, Ref}
use Rattle.cpg_schema.specs.declared.end.End.TheVariants.{Old}
use Rattle.cpg_schema.specs.Names.{kind_rank}
use Rattle.cpg_schema.specs.Graph.{PlainNode, PlainGraph}
use Rattle.cpg_schema.specs.Deltas.{NewEdge, added_edge}
use Rattle.cpg_schema.specs.Fitting.{Fits, IsEdgeAmong, IsOldEnd, PartsFit}
use Rattle.cpg_schema.specs.Sequence.{seq}
use Rattle.cpg_schema.specs.Shape.{IsShaped}
use Rattle.cpg_schema.proofs.Among.{get_front}
use Rattle.cpg_schema.proofs.Apart.{apart_none, parts_fit_alone}
use Rattle.graph_delta.proofs.Shaping.{stays_shaped}
use Rattle.unit_rules.specs.Units.{label_at, members}
use Rattle.unit_rules.specs.UnitEdges.{edge_between}
use Rattle.ref_rules.specs.Meanings.{meant_at}
use Rattle.ref_rules.specs.RefDeltas.{edges_to, file_delta, files, may_refer, part_delta, ref_edges, ref_parts}

ref_other : ¬ (Ref ≡ Ast)
ref_other same = let ranks = ap kind_rank same in absurd (cc)

module _ (graph : PlainGraph) where
  -- The edge leads from a node of the graph to another, as the schema allows.
  record IsFit (edge : NewEdge) : Type 0 where
    from : IsOldEnd (length graph.nodes) edge.from
    to : IsOldEnd (length graph.nodes) edge.to
    among : IsEdgeAmong (graph.nodes ++ []) (added_edge (length graph.nodes) edge)
    other : ¬ (edge.kind ≡ Ast)

  ends_fit : (node declaration : ℕ) (from to : Option PlainNode) → slice_get graph.nodes node ≡ from → slice_get graph.nodes declaration ≡ to →
      may_refer (option_map (λ (at : PlainNode). at.label) from) (option_map (λ (at : PlainNode). at.label) to) ≡ true → IsFit (edge_between (Old node) Ref (Old declaration))
  ends_fit node declaration None to from_is to_is may = cc
  ends_fit node declaration (Some from) None from_is to_is may = cc
  ends_fit node declaration (Some from) (Some to) from_is to_is may = record {
    from = slice_get_within graph.nodes node from from_is;
    to = slice_get_within graph.nodes declaration to to_is;
    among = record {
      from = from;
      from_is = get_front graph.nodes [] node from from_is;
      to = to;
      to_is = get_front graph.nodes [] declaration to to_is;
      allowed = may;
      variable = inr refl;
    };
    other = ref_other;
  }

  declaration_fits : (node declaration : ℕ) (t : Bool) → may_refer (label_at graph node) (label_at graph declaration) ≡ t →
      All IsFit (cond t (edge_between (Old node) Ref (Old declaration) ∷ []) [])
  declaration_fits node declaration false may = All-nil IsFit
  declaration_fits node declaration true may =
      All-cons IsFit (edge_between (Old node) Ref (Old declaration)) []
      (ends_fit node declaration (slice_get graph.nodes node) (slice_get graph.nodes declaration) refl refl may) (All-nil IsFit)

  node_fits : (node : ℕ) (meant : Option ℕ) → All IsFit (edges_to graph node meant)
  node_fits node None = All-nil IsFit
  node_fits node (Some declaration) = declaration_fits node declaration (may_refer (label_at graph node) (label_at graph declaration)) refl

  all_fit : (nodes : List ℕ) → All IsFit (flat_map (ref_edges graph) nodes)
  all_fit [] = All-nil IsFit
  all_fit (node ∷ nodes) = All-append IsFit (ref_edges graph node) (flat_map (ref_edges graph) nodes) (node_fits node (meant_at graph node)) (all_fit nodes)

  file_fits : (file : ℕ) → Fits graph (file_delta graph file)
  file_fits file =
      let edges = flat_map (ref_edges graph) (members graph file) in
      let all = all_fit (members graph file) in
      record {
        old_from = λ k d low. (all k d low).from;
        old_to = λ k d low. (all k d low).to;
        allowed = All-map (IsEdgeAmong (graph.nodes ++ [])) (added_edge (length graph.nodes)) edges (λ k d low. (all k d low).among);
        settings = All-nil _;
        apart = apart_none;
      }

  pub refs_fit : PartsFit graph (part_delta graph) (ref_parts graph)
  refs_fit = parts_fit_alone graph (part_delta graph) (ref_parts graph) (λ part low. refl) (λ part low. file_fits (slice_index (files graph) part))

  pub refs_shape : (caps : Caps) (after : PlainGraph) → IsShaped graph → seq caps graph (part_delta graph) (ref_parts graph) ≡ Ok after → IsShaped after
  refs_shape caps after shaped is =
      stays_shaped caps graph (part_delta graph) (ref_parts graph) shaped (λ part low. λ k d inside. (all_fit (members graph (slice_index (files graph) part)) k d inside).other) after is
