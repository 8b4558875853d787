use Rattle.std.proofs.Common.{◌≡◌, ◌+◌, ◌<◌, ◌≤◌, ◌++◌, ℕ, List, length, map, drop, ap, subst, ◌∙◌, arith}
use Rattle.std.proofs.lemmas.List.{length-map, take_at}
use Rattle.cpg_schema.specs.Deltas.{applied}
use Rattle.graph_store.specs.declared.node_row.NodeRow.{NodeRow}
use Rattle.graph_store.specs.Pool.{Adds}
use Rattle.graph_store.specs.Stored.{StoredGraph, plain}
use Rattle.graph_store.specs.Rows.{plain_node, renumbered}
use Rattle.graph_store.specs.DeltaRows.{edge_rows, plain_delta}
use Rattle.graph_store.specs.GrownRows.{rows_with_settings, edge_of_row}
use Rattle.graph_store.proofs.Growing.{length-rows_with_settings}
use Rattle.graph_store.proofs.Fresh.{length-edge_rows}
use Rattle.graph_store.proofs.Applied.{applied_kept, kept_after, ends_small, set_within}
use Rattle.graph_store.proofs.applying.apply.Goals as goal

pub set_all-requires : goal.set_all-requires
set_all-requires c =
    let g = c.graph.inside in
    let o = c.delta.inside in
    let fits = rw (← c.graph.view_is, ← c.delta.view_is) at c.requires in
    rw (c.deref.ensures.value, c.deref_mut.ensures.value, c.in_ok-reserve.ensures.items)
    (set_within o.names o.settings.items (map (plain_node g.names) g.nodes.items) (length g.nodes.items) (length-map g.nodes.items (plain_node g.names)) fits.settings)

pub append_edges-requires-clause-small : goal.append_edges-requires-clause-small
append_edges-requires-clause-small c =
    let g = c.graph.inside in
    let o = c.delta.inside in
    let fits = rw (← c.graph.view_is, ← c.delta.view_is) at c.requires in
    let first : c.len-first.result ≡ length g.nodes.items = omega arith in
    let nodes_fit : length g.nodes.items + length o.nodes.items ≤ g.caps.nodes = omega arith in
    let all_edges = length-edge_rows o.fresh.items o.edges.items in
    let edges_fit : length g.edges.items + length (edge_rows o.fresh.items o.edges.items) ≤ g.caps.edges = omega arith in
    let small : g.caps.nodes < 4294967296 = omega arith in
    rw (c.deref-5.ensures.value, c.deref-6.ensures.value, first)
    (ends_small g.names c.add_all.new.self o.names g.nodes.items g.edges.items g.caps o.nodes.items (edge_rows o.fresh.items o.edges.items) o.settings.items c.in_ok-numbers.numbers.items
    c.in_ok-numbers.ensures.adds c.in_ok-numbers.ensures.few c.in_ok-numbers.ensures.numbers c.graph.invariant c.delta.invariant fits nodes_fit edges_fit small)

pub invariant_of-graph-2 : goal.invariant_of-graph-2
invariant_of-graph-2 c =
    let g = c.graph.inside in
    let o = c.delta.inside in
    let numbers = c.in_ok-numbers.numbers.items in
    let fits = rw (← c.graph.view_is, ← c.delta.view_is) at c.requires in
    let first : c.len-first.result ≡ length g.nodes.items = omega arith in
    let nodes_fit : length g.nodes.items + length o.nodes.items ≤ g.caps.nodes = omega arith in
    let all_edges = length-edge_rows o.fresh.items o.edges.items in
    let edges_fit : length g.edges.items + length (edge_rows o.fresh.items o.edges.items) ≤ g.caps.edges = omega arith in
    let set : c.set_all.new.nodes ≡ rows_with_settings numbers o.settings.items g.nodes.items =
    rw (← c.deref.ensures.value, ← c.deref-2.ensures.value, ← c.in_ok-reserve.ensures.items, ← c.deref_mut.ensures.value) c.set_all.ensures in
    let nodes : c.append_nodes.new.nodes.items ≡ c.set_all.new.nodes ++ map (renumbered numbers) o.nodes.items =
    let size : length c.set_all.new.nodes ≡ c.reserve.new.self.len = ap length set ∙ (length-rows_with_settings numbers o.settings.items g.nodes.items ∙ omega arith) in
    rw (← c.deref-3.ensures.value, ← c.deref-4.ensures.value)
    (c.append_nodes.ensures ∙ ap (λ (front : List NodeRow). front ++ map (renumbered c.deref-4.result.now) c.deref-3.result.now)
    (take_at c.set_all.new.nodes (drop (length c.set_all.new.nodes) c.reserve.new.self.items) c.reserve.new.self.len size)) in
    let edges : c.append_edges.new.edges.items ≡ g.edges.items ++ map (edge_of_row (length g.nodes.items) numbers) (edge_rows o.fresh.items o.edges.items) =
    rw (← c.deref-5.ensures.value, ← c.deref-6.ensures.value, ← c.deref-7.ensures.value, ← first, ← c.in_ok-reserve-2.ensures.items) c.append_edges.ensures in
    rw (nodes, set, edges)
    (kept_after g.names c.add_all.new.self o.names g.nodes.items g.edges.items g.caps o.nodes.items (edge_rows o.fresh.items o.edges.items) o.settings.items numbers
    c.in_ok-numbers.ensures.adds c.in_ok-numbers.ensures.few c.in_ok-numbers.ensures.numbers c.graph.invariant c.delta.invariant fits nodes_fit edges_fit)

pub returns-clause-ok : goal.returns-clause-ok
returns-clause-ok c =
    let g = c.graph.inside in
    let o = c.delta.inside in
    let numbers = c.in_ok-numbers.numbers.items in
    let first : c.len-first.result ≡ length g.nodes.items = omega arith in
    let set : c.set_all.new.nodes ≡ rows_with_settings numbers o.settings.items g.nodes.items =
    rw (← c.deref.ensures.value, ← c.deref-2.ensures.value, ← c.in_ok-reserve.ensures.items, ← c.deref_mut.ensures.value) c.set_all.ensures in
    let nodes : c.append_nodes.new.nodes.items ≡ c.set_all.new.nodes ++ map (renumbered numbers) o.nodes.items =
    let size : length c.set_all.new.nodes ≡ c.reserve.new.self.len = ap length set ∙ (length-rows_with_settings numbers o.settings.items g.nodes.items ∙ omega arith) in
    rw (← c.deref-3.ensures.value, ← c.deref-4.ensures.value)
    (c.append_nodes.ensures ∙ ap (λ (front : List NodeRow). front ++ map (renumbered c.deref-4.result.now) c.deref-3.result.now)
    (take_at c.set_all.new.nodes (drop (length c.set_all.new.nodes) c.reserve.new.self.items) c.reserve.new.self.len size)) in
    let edges : c.append_edges.new.edges.items ≡ g.edges.items ++ map (edge_of_row (length g.nodes.items) numbers) (edge_rows o.fresh.items o.edges.items) =
    rw (← c.deref-5.ensures.value, ← c.deref-6.ensures.value, ← c.deref-7.ensures.value, ← first, ← c.in_ok-reserve-2.ensures.items) c.append_edges.ensures in
    record {
      is =
          rw (nodes, set, edges)
          (applied_kept g.names c.add_all.new.self o.names g.nodes.items g.edges.items g.caps o.nodes.items (edge_rows o.fresh.items o.edges.items) o.settings.items numbers
          c.in_ok-numbers.ensures.adds c.in_ok-numbers.ensures.few c.in_ok-numbers.ensures.numbers c.graph.invariant c.delta.invariant ∙
          (ap (λ (graph : StoredGraph). applied (plain graph) (plain_delta o.names o.nodes.items (edge_rows o.fresh.items o.edges.items) o.settings.items)) c.graph.view_is ∙
          ap (applied (plain c.args.graph.now)) c.delta.view_is));
      caps = ap (λ (graph : StoredGraph). graph.caps) c.graph.view_is;
      names =
          subst (λ (names : List (List ℕ)). Adds names c.add_all.new.self) (ap (λ (graph : StoredGraph). graph.names) c.graph.view_is)
          c.in_ok-numbers.ensures.adds;
    }
