use Rattle.std.proofs.Common.{◌<◌, [], ℕ, inl, List, length, ap, sym, subst, ◌∙◌, arith}
use Rattle.std.proofs.lemmas.List.{length-map}
use Rattle.std.proofs.lemmas.Option.{slice_get_within, get_or_from_slice_get}
use Rattle.cpg_schema.specs.declared.end.End.{End}
use Rattle.cpg_schema.specs.declared.end.End.TheVariants.{New, Old}
use Rattle.cpg_schema.specs.Deltas.{PlainDelta}
use Rattle.cpg_schema.specs.Properties.{Property, with_text}
use Rattle.graph_store.specs.declared.delta_row.SettingRow.{SettingRow}
use Rattle.graph_store.specs.declared.delta_row.ValueRow.TheVariants.{Text}
use Rattle.graph_store.specs.Rows.{plain_node, row_with_text}
use Rattle.cpg_schema.specs.Deltas.{IsNewEnd, set_at}
use Rattle.graph_store.specs.DeltaRows.{edge_rows, plain_delta}
use Rattle.graph_store.proofs.Pool.{on_err}
use Rattle.graph_store.proofs.Keeping.{plain_node-text, text_has_names, keeps_delta, delta_names, delta_setting}
use Rattle.graph_store.proofs.Setting.{plain_change, delta_change, plain_setting_push}
use Rattle.graph_store.proofs.delta.Delta.set_text.Goals as goal

pub invariant_of-self-in-New : goal.invariant_of-self-in-New
invariant_of-self-in-New c =
    let o = c.self.inside in
    let v = c.in_ok-number.ensures in
    let names = c.number_behind_empty.new.self in
    let size = ap (λ (d : PlainDelta). length d.nodes) c.self.view_is in
    let same = length-map o.nodes.items (plain_node o.names) in
    let there : c.in-New.position < length c.args.self.now.nodes = subst (IsNewEnd (length c.args.self.now.nodes)) c.in-New.is c.requires.end in
    let low = slice_get_within names c.in_ok-number.number c.args.value.now v.stored in
    delta_change names o.nodes.items (edge_rows o.fresh.items o.edges.items) o.settings.items c.in-New.position c.set_text.new.self c.index_mut.result.now
    (row_with_text c.args.key c.in_ok-number.number) (omega arith)
    (c.set_text.ensures ∙ ap (row_with_text c.args.key c.in_ok-number.number) c.index_mut.ensures.value)
    (λ x. text_has_names (length names) c.args.key c.in_ok-number.number x (inl low))
    (delta_names o.names names o.nodes.items (edge_rows o.fresh.items o.edges.items) o.settings.items v.adds v.few v.begins c.self.invariant)

pub invariant_of-self-in-Continue-branch-2 : goal.invariant_of-self-in-Continue-branch-2
invariant_of-self-in-Continue-branch-2 c =
    let o = c.self.inside in
    let v = c.in_ok-number.ensures in
    let names = c.number_behind_empty.new.self in
    let s : SettingRow = record { node = c.in-Old.node; key = c.args.key; value = Text c.in_ok-number.number } in
    rw c.in_ok-push-in-Old.ensures.items
    (delta_setting names o.nodes.items (edge_rows o.fresh.items o.edges.items) o.settings.items s
    (slice_get_within names c.in_ok-number.number c.args.value.now v.stored)
    (delta_names o.names names o.nodes.items (edge_rows o.fresh.items o.edges.items) o.settings.items v.adds v.few v.begins c.self.invariant))

pub invariant_of-self-in_err-push-in-Old : goal.invariant_of-self-in_err-push-in-Old
invariant_of-self-in_err-push-in-Old c =
    let o = c.self.inside in
    let v = c.in_ok-number.ensures in
    rw c.in_err-push-in-Old.ensures.items (delta_names o.names c.number_behind_empty.new.self o.nodes.items (edge_rows o.fresh.items o.edges.items) o.settings.items v.adds v.few v.begins c.self.invariant)

pub returns-in_err-push-in-Old-clause-err : goal.returns-in_err-push-in-Old-clause-err
returns-in_err-push-in-Old-clause-err c =
    let o = c.self.inside in
    let v = c.in_ok-number.ensures in
    on_err c.from_residual-in_err-push-in-Old.result
    (rw c.in_err-push-in-Old.ensures.items
    (keeps_delta o.names c.number_behind_empty.new.self v.adds v.few o.nodes.items (edge_rows o.fresh.items o.edges.items) o.settings.items c.self.invariant ∙ c.self.view_is))

pub returns-in-New-clause-ok : goal.returns-in-New-clause-ok
returns-in-New-clause-ok c =
    let o = c.self.inside in
    let v = c.in_ok-number.ensures in
    let names = c.number_behind_empty.new.self in
    let size = ap (λ (d : PlainDelta). length d.nodes) c.self.view_is in
    let same = length-map o.nodes.items (plain_node o.names) in
    let there : c.in-New.position < length c.args.self.now.nodes = subst (IsNewEnd (length c.args.self.now.nodes)) c.in-New.is c.requires.end in
    let text = Property.text c.args.value.now in
    let kept = keeps_delta o.names names v.adds v.few o.nodes.items (edge_rows o.fresh.items o.edges.items) o.settings.items c.self.invariant ∙ c.self.view_is in
    plain_change names o.nodes.items (edge_rows o.fresh.items o.edges.items) o.settings.items c.in-New.position c.set_text.new.self c.index_mut.result.now
    (row_with_text c.args.key c.in_ok-number.number) (omega arith)
    (c.set_text.ensures ∙ ap (row_with_text c.args.key c.in_ok-number.number) c.index_mut.ensures.value)
    (with_text c.args.key c.args.value.now) (λ x. plain_node-text names c.args.key c.in_ok-number.number c.args.value.now x v.stored) ∙
    (ap (set_at (New c.in-New.position) c.args.key text) kept ∙
    ap (λ (e : End). set_at e c.args.key text c.args.self.now) (sym c.in-New.is))

pub returns-in_ok-push-in-Old-clause-ok : goal.returns-in_ok-push-in-Old-clause-ok
returns-in_ok-push-in-Old-clause-ok c =
    let o = c.self.inside in
    let v = c.in_ok-number.ensures in
    let names = c.number_behind_empty.new.self in
    let s : SettingRow = record { node = c.in-Old.node; key = c.args.key; value = Text c.in_ok-number.number } in
    let text = Property.text c.args.value.now in
    let said = get_or_from_slice_get names c.in_ok-number.number c.args.value.now [] v.stored in
    let kept = keeps_delta o.names names v.adds v.few o.nodes.items (edge_rows o.fresh.items o.edges.items) o.settings.items c.self.invariant ∙ c.self.view_is in
    rw c.in_ok-push-in-Old.ensures.items
    (plain_setting_push names o.nodes.items (edge_rows o.fresh.items o.edges.items) o.settings.items s ∙
    (ap (λ (t : List ℕ). set_at (Old c.in-Old.node) c.args.key (Property.text t) (plain_delta names o.nodes.items (edge_rows o.fresh.items o.edges.items) o.settings.items)) said ∙
    (ap (set_at (Old c.in-Old.node) c.args.key text) kept ∙
    ap (λ (e : End). set_at e c.args.key text c.args.self.now) (sym c.in-Old.is))))

pub invariant_of-self : goal.invariant_of-self
invariant_of-self c =
    let o = c.self.inside in
    let v = c.number_behind_empty.ensures in
    delta_names o.names c.number_behind_empty.new.self o.nodes.items (edge_rows o.fresh.items o.edges.items) o.settings.items v.adds v.few v.begins c.self.invariant

pub returns-in_err-number-clause-err : goal.returns-in_err-number-clause-err
returns-in_err-number-clause-err c =
    let o = c.self.inside in
    let v = c.number_behind_empty.ensures in
    on_err c.from_residual.result
    (keeps_delta o.names c.number_behind_empty.new.self v.adds v.few o.nodes.items (edge_rows o.fresh.items o.edges.items) o.settings.items c.self.invariant ∙ c.self.view_is)
