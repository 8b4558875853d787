use Rattle.std.proofs.Common.{◌≡◌, ◌+◌, false, List, drop, get_or, slice_set, sym, ap, ◌∙◌}
use Rattle.std.proofs.lemmas.List.{drop_more, length-set}
use Rattle.cpg_schema.specs.declared.label.Label.TheVariants.{MetaData}
use Rattle.cpg_schema.specs.declared.key.Key.TheVariants.{Name}
use Rattle.cpg_schema.specs.Deltas.{changed_at}
use Rattle.graph_store.specs.declared.node_row.NodeRow.{NodeRow}
use Rattle.graph_store.specs.declared.delta_row.ValueRow.TheVariants.{Text}
use Rattle.graph_store.specs.declared.delta_row.SettingRow.{SettingRow}
use Rattle.graph_store.specs.GrownRows.{rows_with_settings, row_with_value}
use Rattle.graph_store.proofs.Changing.{changed_at-set}
use Rattle.graph_store.proofs.applying.set_all.Goals as goal

-- what stands for a node and for a setting past the end
abbrev blank : NodeRow
blank = record {
  label = MetaData;
  has_line_number = false;
  has_order = false;
  has_argument_index = false;
  line_number = 0;
  order = 0;
  argument_index = 0;
  name = 0;
  code = 0;
  filename = 0;
  type_full_name = 0;
  control_structure_type = 0;
  linkage = 0;
}

abbrev no_setting : SettingRow
no_setting = record { node = 0; key = Name; value = Text 0 }

pub loop-setting-preserved : goal.loop-setting-preserved
loop-setting-preserved c =
    let numbers = c.args.numbers.now in
    let settings = c.args.settings.now in
    let i = c.loop-setting.setting-index in
    let nodes = c.loop-setting.nodes in
    let s = get_or settings i no_setting in
    let f = row_with_value numbers s.key s.value in
    let set : c.set_value.new.node ≡ f (get_or nodes s.node blank) = c.set_value.ensures in
    let within = c.requires i no_setting c.loop-setting-test.true in
    let step : changed_at s.node f nodes ≡ slice_set nodes s.node c.set_value.new.node =
    changed_at-set nodes s.node f blank (rw c.loop-setting.invariant.same within) ∙ ap (slice_set nodes s.node) (sym set) in
    record {
      kept =
          ap (rows_with_settings numbers (drop (i + 1) settings)) (sym step) ∙
          (ap (λ (rest : List SettingRow). rows_with_settings numbers rest nodes) (sym (drop_more settings i no_setting c.loop-setting-test.true)) ∙ c.loop-setting.invariant.kept);
      same = length-set nodes s.node c.set_value.new.node ∙ c.loop-setting.invariant.same;
    }
