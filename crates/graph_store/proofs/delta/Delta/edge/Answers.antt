use Rattle.std.proofs.Common.{◌≡◌, ◌∷◌, ◌++◌, [], ℕ, length, ap, sym, subst, ◌∙◌}
use Rattle.std.proofs.lemmas.List.{length-map}
use Rattle.cpg_schema.specs.Deltas.{PlainDelta, NewEdge}
use Rattle.graph_store.specs.declared.delta_row.NewEdgeRow.{NewEdgeRow}
use Rattle.graph_store.specs.Rows.{plain_node}
use Rattle.cpg_schema.specs.Deltas.{IsNewEnd}
use Rattle.graph_store.specs.DeltaRows.{edge_rows, plain_delta}
use Rattle.graph_store.proofs.Pool.{on_err}
use Rattle.graph_store.proofs.Keeping.{keeps_delta, delta_names, delta_edge}
use Rattle.graph_store.proofs.Setting.{plain_edge_push, addition_fits, plain_new_edge_is}
use Rattle.graph_store.proofs.delta.Delta.edge.Goals as goal

pub invariant_of-self-in_err-add_row : goal.invariant_of-self-in_err-add_row
invariant_of-self-in_err-add_row c =
    let o = c.self.inside in
    let v = c.in_ok-variable.ensures in
    rw c.in_err-add_row.ensures.err (delta_names o.names c.variable_of.new.self o.nodes.items (edge_rows o.fresh.items o.edges.items) o.settings.items v.adds v.few v.begins c.self.invariant)

pub returns-in_err-add_row-clause-err : goal.returns-in_err-add_row-clause-err
returns-in_err-add_row-clause-err c =
    let o = c.self.inside in
    let v = c.in_ok-variable.ensures in
    on_err c.from_residual-in_err-add_row.result
    (rw c.in_err-add_row.ensures.err
    (keeps_delta o.names c.variable_of.new.self v.adds v.few o.nodes.items (edge_rows o.fresh.items o.edges.items) o.settings.items c.self.invariant ∙ c.self.view_is))

pub invariant_of-self-2 : goal.invariant_of-self-2
invariant_of-self-2 c =
    let o = c.self.inside in
    let v = c.in_ok-variable.ensures in
    let edge : NewEdgeRow = record { from = c.of.result; to = c.of-2.result; variable = c.in_ok-variable.variable; kind = c.args.kind } in
    let size : length c.args.self.now.nodes ≡ length o.nodes.items =
    sym (ap (λ (d : PlainDelta). length d.nodes) c.self.view_is) ∙ length-map o.nodes.items (plain_node o.names) in
    let from = subst (λ (n : ℕ). IsNewEnd n c.args.from) size c.requires.from in
    let to = subst (λ (n : ℕ). IsNewEnd n c.args.to) size c.requires.to in
    rw c.in_ok-add_row.ensures.ok
    (delta_edge c.variable_of.new.self o.nodes.items (edge_rows o.fresh.items o.edges.items) o.settings.items edge
    (addition_fits (length o.nodes.items) (length c.variable_of.new.self) edge c.args.from c.args.to c.args.variable.now from to
    c.of.ensures c.of-2.ensures v.number c.requires.variable v.unnamed)
    (delta_names o.names c.variable_of.new.self o.nodes.items (edge_rows o.fresh.items o.edges.items) o.settings.items v.adds v.few v.begins c.self.invariant))

pub returns-clause-ok : goal.returns-clause-ok
returns-clause-ok c =
    let o = c.self.inside in
    let v = c.in_ok-variable.ensures in
    let names = c.variable_of.new.self in
    let edge : NewEdgeRow = record { from = c.of.result; to = c.of-2.result; variable = c.in_ok-variable.variable; kind = c.args.kind } in
    let new : NewEdge = record { from = c.args.from; kind = c.args.kind; to = c.args.to; variable = c.args.variable.now } in
    let said = plain_new_edge_is names edge c.args.from c.args.to c.args.variable.now c.of.ensures c.of-2.ensures v.stored in
    let kept = keeps_delta o.names names v.adds v.few o.nodes.items (edge_rows o.fresh.items o.edges.items) o.settings.items c.self.invariant ∙ c.self.view_is in
    rw c.in_ok-add_row.ensures.ok
    (plain_edge_push names o.nodes.items (edge_rows o.fresh.items o.edges.items) o.settings.items edge ∙
    (ap (λ (e : NewEdge). let d = plain_delta names o.nodes.items (edge_rows o.fresh.items o.edges.items) o.settings.items in record d { edges = d.edges ++ e ∷ [] }) said ∙
    ap (λ (d : PlainDelta). record d { edges = d.edges ++ new ∷ [] }) kept))

pub invariant_of-self : goal.invariant_of-self
invariant_of-self c =
    let o = c.self.inside in
    let v = c.variable_of.ensures in
    delta_names o.names c.variable_of.new.self o.nodes.items (edge_rows o.fresh.items o.edges.items) o.settings.items v.adds v.few v.begins c.self.invariant

pub returns-in_err-variable-clause-err : goal.returns-in_err-variable-clause-err
returns-in_err-variable-clause-err c =
    let o = c.self.inside in
    let v = c.variable_of.ensures in
    on_err c.from_residual.result
    (keeps_delta o.names c.variable_of.new.self v.adds v.few o.nodes.items (edge_rows o.fresh.items o.edges.items) o.settings.items c.self.invariant ∙ c.self.view_is)
