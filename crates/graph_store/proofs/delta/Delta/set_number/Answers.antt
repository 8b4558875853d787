use Rattle.std.proofs.Common.{◌<◌, length, ap, sym, subst, ◌∙◌, arith}
use Rattle.std.proofs.lemmas.List.{length-map}
use Rattle.cpg_schema.specs.declared.end.End.{End}
use Rattle.cpg_schema.specs.declared.end.End.TheVariants.{New}
use Rattle.cpg_schema.specs.Deltas.{PlainDelta}
use Rattle.cpg_schema.specs.Properties.{Property, with_number}
use Rattle.graph_store.specs.Rows.{plain_node, row_with_number}
use Rattle.cpg_schema.specs.Deltas.{IsNewEnd, set_at}
use Rattle.graph_store.specs.DeltaRows.{edge_rows}
use Rattle.graph_store.proofs.Keeping.{plain_node-number, number_has_names}
use Rattle.graph_store.proofs.Setting.{plain_change, delta_change}
use Rattle.graph_store.proofs.delta.Delta.set_number.Goals as goal

pub invariant_of-self : goal.invariant_of-self
invariant_of-self c =
    let o = c.self.inside in
    let size = ap (λ (d : PlainDelta). length d.nodes) c.self.view_is in
    let same = length-map o.nodes.items (plain_node o.names) in
    let there : c.in-New.position < length c.args.self.now.nodes = subst (IsNewEnd (length c.args.self.now.nodes)) c.in-New.is c.requires.end in
    delta_change o.names o.nodes.items (edge_rows o.fresh.items o.edges.items) o.settings.items c.in-New.position c.set_number.new.self c.index_mut.result.now
    (row_with_number c.args.key c.args.value) (omega arith)
    (c.set_number.ensures ∙ ap (row_with_number c.args.key c.args.value) c.index_mut.ensures.value)
    (number_has_names (length o.names) c.args.key c.args.value) c.self.invariant

pub returns-in-New-clause-ok : goal.returns-in-New-clause-ok
returns-in-New-clause-ok c =
    let o = c.self.inside in
    let size = ap (λ (d : PlainDelta). length d.nodes) c.self.view_is in
    let same = length-map o.nodes.items (plain_node o.names) in
    let there : c.in-New.position < length c.args.self.now.nodes = subst (IsNewEnd (length c.args.self.now.nodes)) c.in-New.is c.requires.end in
    plain_change o.names o.nodes.items (edge_rows o.fresh.items o.edges.items) o.settings.items c.in-New.position c.set_number.new.self c.index_mut.result.now
    (row_with_number c.args.key c.args.value) (omega arith)
    (c.set_number.ensures ∙ ap (row_with_number c.args.key c.args.value) c.index_mut.ensures.value)
    (with_number c.args.key c.args.value) (plain_node-number o.names c.args.key c.args.value) ∙
    (ap (set_at (New c.in-New.position) c.args.key (Property.number c.args.value)) c.self.view_is ∙
    ap (λ (e : End). set_at e c.args.key (Property.number c.args.value) c.args.self.now) (sym c.in-New.is))
