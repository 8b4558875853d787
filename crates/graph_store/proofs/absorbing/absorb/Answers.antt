use Rattle.std.proofs.Common.{◌≡◌, ℕ, List, length, map, take, drop, ◌++◌, ap, sym, subst, ◌∙◌, arith}
use Rattle.std.proofs.lemmas.List.{length-map, take_at}
use Rattle.cpg_schema.specs.declared.caps.Caps.{Caps}
use Rattle.cpg_schema.specs.Deltas.{applied}
use Rattle.graph_store.specs.declared.edge.Edge.{Edge}
use Rattle.graph_store.specs.Pool.{Adds}
use Rattle.graph_store.specs.Stored.{StoredGraph, plain}
use Rattle.graph_store.specs.Rows.{AreGraphRows}
use Rattle.graph_store.specs.DeltaRows.{plain_delta, edge_rows}
use Rattle.graph_store.specs.GrownRows.{edge_within}
use Rattle.graph_store.proofs.TakenOver.{bare_taken_over, bare_kept_taken, adds_taken}
use Rattle.graph_store.proofs.absorbing.absorb.Goals as goal

pub invariant_of-graph : goal.invariant_of-graph
invariant_of-graph c =
    let g = c.graph.inside in
    let o = c.delta.inside in
    let bare = c.is_bare.ensures c.if-not-is_bare.false in
    let apart = c.is_apart.ensures c.if-not-is_apart.false in
    let fits = rw (← c.graph.view_is, ← c.delta.view_is) at c.requires in
    let new = c.name_variables.new.edges in
    let caps : g.caps ≡ c.graph-2.inside.caps = ap (λ (graph : StoredGraph). graph.caps) (c.graph.view_is ∙ sym c.graph-2.view_is) in
    let cap_nodes : g.caps.nodes ≡ c.graph-2.inside.caps.nodes = ap (λ (caps : Caps). caps.nodes) caps in
    let cap_edges : g.caps.edges ≡ c.graph-2.inside.caps.edges = ap (λ (caps : Caps). caps.edges) caps in
    let named : new ≡ map (edge_within (length o.names)) o.fresh.items =
    c.name_variables.ensures ∙ ap (λ (n : ℕ). map (edge_within n) c.deref_mut.result.now) c.len-6.ensures.len
    ∙ ap (map (edge_within (length o.names))) c.deref_mut.ensures.value in
    let size : length new ≡ o.fresh.len =
    ap (λ (xs : List Edge). length xs) c.name_variables.ensures ∙ length-map c.deref_mut.result.now (edge_within c.len-6.result) ∙ c.deref_mut.ensures.len in
    let edges : take o.fresh.len (new ++ drop (length new) o.fresh.items) ≡ map (edge_within (length o.names)) o.fresh.items =
    take_at new (drop (length new) o.fresh.items) o.fresh.len size ∙ named in
    subst (λ (caps : Caps). AreGraphRows o.nodes.items (take o.fresh.len (new ++ drop (length new) o.fresh.items)) o.names caps) caps
    (rw edges
    (bare_kept_taken o.names o.nodes.items o.fresh.items g.names g.caps apart.2 g.nodes.items g.edges.items o.edges.items o.settings.items
    (sym c.deref.ensures.value ∙ bare.0) (sym c.deref-2.ensures.value ∙ bare.1)
    (sym c.deref-else-not-is_bare.ensures.value ∙ apart.0) (sym c.deref-else-not-is_bare-2.ensures.value ∙ apart.1)
    c.delta.invariant c.graph.invariant fits (omega arith) (omega arith)))

pub returns-clause-ok : goal.returns-clause-ok
returns-clause-ok c =
    let g = c.graph.inside in
    let o = c.delta.inside in
    let bare = c.is_bare.ensures c.if-not-is_bare.false in
    let apart = c.is_apart.ensures c.if-not-is_apart.false in
    let new = c.name_variables.new.edges in
    let caps : g.caps ≡ c.graph-2.inside.caps = ap (λ (graph : StoredGraph). graph.caps) (c.graph.view_is ∙ sym c.graph-2.view_is) in
    let named : new ≡ map (edge_within (length o.names)) o.fresh.items =
    c.name_variables.ensures ∙ ap (λ (n : ℕ). map (edge_within n) c.deref_mut.result.now) c.len-6.ensures.len
    ∙ ap (map (edge_within (length o.names))) c.deref_mut.ensures.value in
    let size : length new ≡ o.fresh.len =
    ap (λ (xs : List Edge). length xs) c.name_variables.ensures ∙ length-map c.deref_mut.result.now (edge_within c.len-6.result) ∙ c.deref_mut.ensures.len in
    let edges : take o.fresh.len (new ++ drop (length new) o.fresh.items) ≡ map (edge_within (length o.names)) o.fresh.items =
    take_at new (drop (length new) o.fresh.items) o.fresh.len size ∙ named in
    record {
      is =
          rw edges
          (bare_taken_over o.names o.nodes.items o.fresh.items g.names g.caps apart.2 g.nodes.items g.edges.items o.edges.items o.settings.items
          (sym c.deref.ensures.value ∙ bare.0) (sym c.deref-2.ensures.value ∙ bare.1)
          (sym c.deref-else-not-is_bare.ensures.value ∙ apart.0) (sym c.deref-else-not-is_bare-2.ensures.value ∙ apart.1)
          c.delta.invariant ∙
          (ap (λ (graph : StoredGraph). applied (plain graph) (plain_delta o.names o.nodes.items (edge_rows o.fresh.items o.edges.items) o.settings.items)) c.graph.view_is ∙
          ap (applied (plain c.args.graph.now)) c.delta.view_is));
      caps = ap (λ (graph : StoredGraph). graph.caps) c.graph-2.view_is;
      names =
          subst (λ (names : List (List ℕ)). Adds names o.names) (ap (λ (graph : StoredGraph). graph.names) c.graph.view_is)
          (adds_taken g.names o.names bare.2 c.graph.invariant.empty apart.2 c.delta.invariant.begins);
    }
