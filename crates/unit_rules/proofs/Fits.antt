-- The deltas of the parts fit the graph as it is at the start.
use Rattle.std.proofs.Common.{◌≡◌, ℕ, zero, suc, ◌+◌, ◌<◌, IsTrue, Bool, true, false, if◌then◌else◌, List, [], ◌∷◌, ◌++◌, Option, Some, None, length, map, get_or, slice_get, slice_index, inr, refl, ap, sym, subst, ◌∙◌, arith}
use Rattle.std.specs.Option.{option_map}
use Rattle.std.specs.List.{All, flat_map}
use Rattle.std.proofs.lemmas.Bool.{and_parts}
use Rattle.std.proofs.lemmas.List.Elements.{All-nil, All-cons, All-append, All-map, All-head, All-tail, filter_passes}
use Rattle.std.proofs.lemmas.Option.{slice_get_within, get_or_from_slice_get}
use Rattle.cpg_schema.specs.declared.label.Label.{Label}
use Rattle.cpg_schema.specs.declared.label.Label.TheVariants as label
use Rattle.cpg_schema.specs.declared.edge_kind.EdgeKind.{EdgeKind}
use Rattle.cpg_schema.specs.declared.edge_kind.EdgeKind.TheVariants.{Ast, SourceFile, Contains, ParameterLink}
use Rattle.cpg_schema.specs.declared.end.End.{End}
use Rattle.cpg_schema.specs.declared.end.End.TheVariants.{Old, New}
use Rattle.cpg_schema.specs.Graph.{PlainNode, PlainEdge, PlainGraph}
use Rattle.cpg_schema.specs.Schema.{allows}
use Rattle.cpg_schema.specs.Deltas.{NewEdge, added_edge, end_number}
use Rattle.cpg_schema.specs.Fitting.{Fits, IsEdgeAmong, IsGraph, IsOldEnd, PartsFit}
use Rattle.cpg_schema.specs.Shape.{IsShaped}
use Rattle.cpg_schema.proofs.Among.{get_front}
use Rattle.cpg_schema.proofs.Apart.{apart_none, parts_fit_alone}
use Rattle.graph_delta.proofs.Fitting.{get_behind}
use Rattle.graph_parts.specs.Finds.{Finds}
use Rattle.graph_parts.specs.Parts.{IsChild, IsNodeWith, HasLabel}
use Rattle.graph_parts.specs.Standing.{IsMethodAbove}
use Rattle.graph_parts.specs.NodesAbove.{is_labelled, method_at, parent_at}
use Rattle.graph_parts.proofs.AboveList.{labelled_is, method_at_is}
use Rattle.graph_parts.proofs.Depth.{found}
use Rattle.graph_parts.proofs.Tree.{child_at}
use Rattle.unit_rules.specs.Units.{is_global, is_global_name, is_missing, is_unit, label_at, members, name_at, units}
use Rattle.unit_rules.specs.UnitNodes.{file_node, namespace_node, out_node}
use Rattle.unit_rules.specs.UnitEdges.{edge_between, from_source, has_body, in_file, in_method, label_edges, linked, member_edges, out_edges, parameter_edges, top_edges}
use Rattle.unit_rules.specs.UnitDeltas.{parameters, part_delta, unit_delta, unit_parts}
use Rattle.unit_rules.proofs.Facts.{unit_passes}

-- The node of an end: one of the graph, or a new one.
node_of : PlainGraph → List PlainNode → End → Option PlainNode
node_of graph new (Old node) = slice_get graph.nodes node
node_of graph new (New position) = slice_get new position

-- The schema allows the edge between the nodes of its ends.
record IsFit (graph : PlainGraph) (new : List PlainNode) (edge : NewEdge) : Type 0 where
  from : PlainNode
  from_is : node_of graph new edge.from ≡ Some from
  to : PlainNode
  to_is : node_of graph new edge.to ≡ Some to
  allowed : IsTrue (allows edge.kind from.label to.label)
  bare : edge.variable ≡ []

old_end : (graph : PlainGraph) (new : List PlainNode) (e : End) (node : PlainNode) → node_of graph new e ≡ Some node → IsOldEnd (length graph.nodes) e
unfolding node_of
old_end graph new (Old number) node is = slice_get_within graph.nodes number node is
old_end graph new (New position) node is = tt

numbered_end : (graph : PlainGraph) (new : List PlainNode) (e : End) (node : PlainNode) → node_of graph new e ≡ Some node →
    slice_get (graph.nodes ++ new) (end_number (length graph.nodes) e) ≡ Some node
unfolding node_of
numbered_end graph new (Old number) node is = get_front graph.nodes new number node is
numbered_end graph new (New position) node is = get_behind graph.nodes new (length graph.nodes + position) position refl ∙ is

among : (graph : PlainGraph) (new : List PlainNode) (edge : NewEdge) → IsFit graph new edge → IsEdgeAmong (graph.nodes ++ new) (added_edge (length graph.nodes) edge)
among graph new edge h = record {
  from = h.from;
  from_is = numbered_end graph new edge.from h.from h.from_is;
  to = h.to;
  to_is = numbered_end graph new edge.to h.to h.to_is;
  allowed = h.allowed;
  variable = inr h.bare;
}

fits_from : (graph : PlainGraph) (nodes : List PlainNode) (edges : List NewEdge) → All (IsFit graph nodes) edges → Fits graph (record { nodes = nodes; edges = edges; settings = [] })
fits_from graph nodes edges all = record {
  old_from = λ k d low. let h = all k d low in old_end graph nodes (get_or edges k d).from h.from h.from_is;
  old_to = λ k d low. let h = all k d low in old_end graph nodes (get_or edges k d).to h.to h.to_is;
  allowed =
      All-map (IsEdgeAmong (graph.nodes ++ nodes)) (added_edge (length graph.nodes)) edges
      (λ k d low. among graph nodes (get_or edges k d) (all k d low));
  settings = All-nil _;
  apart = apart_none;
}

-- The ends of an AST edge may be joined by one.
record MayHang (graph : PlainGraph) (parent child : ℕ) : Type 0 where
  from : PlainNode
  from_is : slice_get graph.nodes parent ≡ Some from
  to : PlainNode
  to_is : slice_get graph.nodes child ≡ Some to
  allowed : IsTrue (allows Ast from.label to.label)

may_hang : (graph : PlainGraph) → IsGraph graph → (parent child : ℕ) → IsChild graph parent child → MayHang graph parent child
may_hang graph is_graph parent child h =
    let low = slice_get_within graph.edges h.position h.edge h.edge_is in
    let there = is_graph.edges h.position h.edge low in
    let is = get_or_from_slice_get graph.edges h.position h.edge h.edge h.edge_is in
    let from = ap (λ (e : PlainEdge). e.from) is ∙ h.from_is in
    let to = ap (λ (e : PlainEdge). e.to) is ∙ h.to_is in
    let kind = ap (λ (e : PlainEdge). e.kind) is ∙ h.kind_is in
    record {
      from = there.from;
      from_is = ap (slice_get graph.nodes) (sym from) ∙ there.from_is;
      to = there.to;
      to_is = ap (slice_get graph.nodes) (sym to) ∙ there.to_is;
      allowed = subst (λ (k : EdgeKind). IsTrue (allows k there.from.label there.to.label)) kind there.allowed;
    }

-- What may hold a METHOD_PARAMETER_IN may hold a METHOD_PARAMETER_OUT.
hang_out : (from : Label) → IsTrue (allows Ast from label.MethodParameterIn) → IsTrue (allows Ast from label.MethodParameterOut)
hang_out label.Method t = refl
hang_out _ t = t

module _ (graph : PlainGraph) (shaped : IsShaped graph) (is_graph : IsGraph graph) where
  -- A node of this label.
  labelled_at : (one : Label) (node : ℕ) → label_at graph node ≡ Some one → IsNodeWith graph (HasLabel one) node
  labelled_at one node is = by (slice_get graph.nodes node) refl is
    where
      by : (o : Option PlainNode) → slice_get graph.nodes node ≡ o → option_map (λ (at : PlainNode). at.label) o ≡ Some one → IsNodeWith graph (HasLabel one) node
      by None at is = cc
      by (Some here) at is = record { node = here; node_is = at; has = cc }

  module _ (file namespace : PlainNode) (outs : List PlainNode) (file_is : file.label ≡ label.File) (namespace_is : namespace.label ≡ label.NamespaceBlock) where
    new : List PlainNode
    new = file ∷ namespace ∷ outs

    abbrev Fit : NewEdge → Type 0
    Fit edge = IsFit graph new edge

    from_fit : (one : Label) (node : ℕ) → IsTrue (allows SourceFile one label.File) → IsNodeWith graph (HasLabel one) node → Fit (from_source node)
    unfolding node_of new
    from_fit one node t h = record {
      from = h.node;
      from_is = h.node_is;
      to = file;
      to_is = refl;
      allowed = subst (λ (l : Label). IsTrue (allows SourceFile l file.label)) (sym h.has) (subst (λ (l : Label). IsTrue (allows SourceFile one l)) (sym file_is) t);
      bare = refl;
    }

    in_fit : (one : Label) (node : ℕ) → IsTrue (allows Contains label.File one) → IsNodeWith graph (HasLabel one) node → Fit (in_file node)
    unfolding node_of new
    in_fit one node t h = record {
      from = file;
      from_is = refl;
      to = h.node;
      to_is = h.node_is;
      allowed = subst (λ (l : Label). IsTrue (allows Contains file.label l)) (sym h.has) (subst (λ (l : Label). IsTrue (allows Contains l one)) (sym file_is) t);
      bare = refl;
    }

    top_fit : (unit : ℕ) → IsNodeWith graph (HasLabel label.Method) unit → All Fit (top_edges unit)
    unfolding node_of new
    top_fit unit h =
        let hung : Fit (edge_between (New 1) Ast (Old unit)) = record {
          from = namespace;
          from_is = refl;
          to = h.node;
          to_is = h.node_is;
          allowed = subst (λ (l : Label). IsTrue (allows Ast namespace.label l)) (sym h.has) (subst (λ (l : Label). IsTrue (allows Ast l label.Method)) (sym namespace_is) refl);
          bare = refl;
        } in
        let top : Fit (edge_between (New 0) Ast (New 1)) = record {
          from = file;
          from_is = refl;
          to = namespace;
          to_is = refl;
          allowed = subst (λ (l : Label). IsTrue (allows Ast file.label l)) (sym namespace_is) (subst (λ (l : Label). IsTrue (allows Ast l label.NamespaceBlock)) (sym file_is) refl);
          bare = refl;
        } in
        let source : Fit (edge_between (New 1) SourceFile (New 0)) = record {
          from = namespace;
          from_is = refl;
          to = file;
          to_is = refl;
          allowed = subst (λ (l : Label). IsTrue (allows SourceFile namespace.label l)) (sym file_is) (subst (λ (l : Label). IsTrue (allows SourceFile l label.File)) (sym namespace_is) refl);
          bare = refl;
        } in
        All-cons Fit (edge_between (New 1) Ast (Old unit)) (edge_between (New 0) Ast (New 1) ∷ edge_between (New 1) SourceFile (New 0) ∷ []) hung
        (All-cons Fit (edge_between (New 0) Ast (New 1)) (edge_between (New 1) SourceFile (New 0) ∷ []) top
        (All-cons Fit (edge_between (New 1) SourceFile (New 0)) [] source (All-nil Fit)))

    method_fit : (node : ℕ) (body : Bool) → IsNodeWith graph (HasLabel label.Method) node → All Fit ((if body then from_source node ∷ [] else []) ++ in_file node ∷ [])
    method_fit node true h = All-cons Fit (from_source node) (in_file node ∷ []) (from_fit label.Method node refl h) (All-cons Fit (in_file node) [] (in_fit label.Method node refl h) (All-nil Fit))
    method_fit node false h = All-cons Fit (in_file node) [] (in_fit label.Method node refl h) (All-nil Fit)

    call_fit : (node : ℕ) (method : Option ℕ) → IsNodeWith graph (HasLabel label.Call) node → Finds (IsMethodAbove graph node) method → All Fit (in_method method node)
    unfolding node_of
    call_fit node None h found = All-nil Fit
    call_fit node (Some method) h above =
        let m = above.is_node in
        let fit : Fit (edge_between (Old method) Contains (Old node)) = record {
          from = m.node;
          from_is = m.node_is;
          to = h.node;
          to_is = h.node_is;
          allowed = subst (λ (l : Label). IsTrue (allows Contains l h.node.label)) (sym m.has) (subst (λ (l : Label). IsTrue (allows Contains label.Method l)) (sym h.has) refl);
          bare = refl;
        } in
        All-cons Fit (edge_between (Old method) Contains (Old node)) [] fit (All-nil Fit)

    label_fit : (node : ℕ) (at : Option Label) → label_at graph node ≡ at → All Fit (label_edges graph node at)
    label_fit node (Some label.Method) is = method_fit node (has_body graph node) (labelled_at label.Method node is)
    label_fit node (Some label.TypeDecl) is =
        let h = labelled_at label.TypeDecl node is in
        All-cons Fit (from_source node) (in_file node ∷ []) (from_fit label.TypeDecl node refl h) (All-cons Fit (in_file node) [] (in_fit label.TypeDecl node refl h) (All-nil Fit))
    label_fit node (Some label.Call) is = call_fit node (method_at graph node) (labelled_at label.Call node is) (method_at_is graph shaped is_graph node)
    label_fit node _ is = All-nil Fit

    members_fit : (nodes : List ℕ) → All Fit (flat_map (member_edges graph) nodes)
    members_fit [] = All-nil Fit
    members_fit (node ∷ nodes) = All-append Fit (member_edges graph node) (flat_map (member_edges graph) nodes) (label_fit node (label_at graph node) refl) (members_fit nodes)

    -- The METHOD_PARAMETER_OUTs of these parameters are the new nodes from this one on.
    record AreOuts (parameters : List ℕ) (out : ℕ) : Type 0 where
      each : (k parameter : ℕ) → slice_get parameters k ≡ Some parameter → slice_get new (out + k) ≡ Some (out_node graph parameter)

    one_fit : (parameter out : ℕ) (found : Option ℕ) → parent_at graph parameter ≡ found → IsNodeWith graph (HasLabel label.MethodParameterIn) parameter → slice_get new out ≡ Some (out_node graph parameter) →
        All Fit (out_edges parameter out found)
    unfolding node_of
    one_fit parameter out none is h there = by none is
      where
        link : Fit (edge_between (Old parameter) ParameterLink (New out))
        link = record {
          from = h.node;
          from_is = h.node_is;
          to = out_node graph parameter;
          to_is = there;
          allowed = subst (λ (l : Label). IsTrue (allows ParameterLink l label.MethodParameterOut)) (sym h.has) refl;
          bare = refl;
        }

        by : (o : Option ℕ) → parent_at graph parameter ≡ o → All Fit (out_edges parameter out o)
        by None is = All-cons Fit (edge_between (Old parameter) ParameterLink (New out)) [] link (All-nil Fit)
        by (Some method) is =
            let at = found graph.edges parameter method is in
            let hangs = may_hang graph is_graph method parameter (child_at graph at.0 method parameter at.1) in
            let both : Some hangs.to ≡ Some h.node = sym hangs.to_is ∙ h.node_is in
            let same : hangs.to ≡ h.node = cc in
            let may = subst (λ (l : Label). IsTrue (allows Ast hangs.from.label l)) (ap (λ (n : PlainNode). n.label) same ∙ h.has) hangs.allowed in
            let hung : Fit (edge_between (Old method) Ast (New out)) = record {
              from = hangs.from;
              from_is = hangs.from_is;
              to = out_node graph parameter;
              to_is = there;
              allowed = hang_out hangs.from.label may;
              bare = refl;
            } in
            All-cons Fit (edge_between (Old method) Ast (New out)) (edge_between (Old parameter) ParameterLink (New out) ∷ []) hung
            (All-cons Fit (edge_between (Old parameter) ParameterLink (New out)) [] link (All-nil Fit))

    linked_fit : (parameters : List ℕ) (out : ℕ) → All (λ (parameter : ℕ). is_labelled graph label.MethodParameterIn parameter ≡ true) parameters → AreOuts parameters out →
        All Fit (linked graph out parameters)
    linked_fit [] out all outs = All-nil Fit
    linked_fit (parameter ∷ rest) out all outs =
        let P = λ (p : ℕ). is_labelled graph label.MethodParameterIn p ≡ true in
        let here : slice_get new out ≡ Some (out_node graph parameter) = let e : out + 0 ≡ out = omega arith in ap (slice_get new) (sym e) ∙ outs.each 0 parameter refl in
        let later : AreOuts rest (out + 1) = record { each = λ k p is. let e : out + 1 + k ≡ out + suc k = omega arith in ap (slice_get new) e ∙ outs.each (suc k) p is } in
        All-append Fit (parameter_edges graph parameter out) (linked graph (out + 1) rest)
        (one_fit parameter out (parent_at graph parameter) refl (labelled_is graph label.MethodParameterIn parameter (All-head P parameter rest all)) here)
        (linked_fit rest (out + 1) (All-tail P parameter rest all) later)

  mapped : (parameters : List ℕ) (k parameter : ℕ) → slice_get parameters k ≡ Some parameter → slice_get (map (out_node graph) parameters) k ≡ Some (out_node graph parameter)
  mapped [] k parameter is = cc
  mapped (first ∷ rest) zero parameter is = let same : first ≡ parameter = cc in ap (λ (p : ℕ). Some (out_node graph p)) same
  mapped (first ∷ rest) (suc k) parameter is = mapped rest k parameter is

  unit_fits : (unit : ℕ) → is_unit graph unit ≡ true → Fits graph (unit_delta graph unit)
  unfolding new
  unit_fits unit passes =
      let parts = and_parts (is_global graph unit) (is_missing (parent_at graph unit)) passes in
      let named = and_parts (is_labelled graph label.Method unit) (is_global_name (name_at graph unit)) parts.0 in
      let own = parameters graph unit in
      let nodes = members graph unit in
      let file = file_node graph unit in
      let outs = map (out_node graph) own in
      let all = file ∷ namespace_node ∷ outs in
      let top = top_fit file namespace_node outs refl refl unit (labelled_is graph label.Method unit named.0) in
      let others = members_fit file namespace_node outs refl refl nodes in
      let stand : AreOuts file namespace_node outs refl refl own 2 = record {
        each = λ k parameter is. let e : 2 + k ≡ suc (suc k) = omega arith in ap (slice_get all) e ∙ mapped own k parameter is;
      } in
      let links = linked_fit file namespace_node outs refl refl own 2 (filter_passes (is_labelled graph label.MethodParameterIn) nodes) stand in
      fits_from graph all (top_edges unit ++ (flat_map (member_edges graph) nodes ++ linked graph 2 own))
      (All-append (IsFit graph all) (top_edges unit) (flat_map (member_edges graph) nodes ++ linked graph 2 own) top
      (All-append (IsFit graph all) (flat_map (member_edges graph) nodes) (linked graph 2 own) others links))

  part_fits : (part : ℕ) → part < unit_parts graph → Fits graph (part_delta graph part)
  part_fits zero low = fits_from graph (part_delta graph 0).nodes [] (All-nil _)
  part_fits (suc k) low = unit_fits (slice_index (units graph) k) (unit_passes graph k (omega arith))

  no_settings : (part : ℕ) → (part_delta graph part).settings ≡ []
  no_settings zero = refl
  no_settings (suc k) = refl

  -- The deltas of all parts fit.
  pub units_fit : PartsFit graph (part_delta graph) (unit_parts graph)
  units_fit = parts_fit_alone graph (part_delta graph) (unit_parts graph) (λ part low. no_settings part) part_fits
