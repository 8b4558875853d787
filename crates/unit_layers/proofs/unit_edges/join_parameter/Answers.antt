use Rattle.std.proofs.Common.{◌≡◌, ℕ, [], ◌∷◌, Option, Some, None, OnOk, subst, ap, ◌∙◌}
use Rattle.cpg_schema.specs.Deltas.{PlainDelta}
use Rattle.cpg_schema.specs.declared.edge_kind.EdgeKind.TheVariants.{Ast, ParameterLink}
use Rattle.cpg_schema.specs.declared.end.End.TheVariants.{Old, New}
use Rattle.graph_store.specs.Stored.{plain}
use Rattle.unit_rules.specs.UnitEdges.{edge_between, out_edges, parameter_edges}
use Rattle.unit_layers.specs.Adding.{with_edges}
use Rattle.unit_layers.proofs.Places.{parent_same}
use Rattle.unit_layers.proofs.Steps.{edges_more}
use Rattle.unit_layers.proofs.unit_edges.join_parameter.Goals as goal
use Rattle.unit_layers.proofs.unit_edges.join_parameter.Goals.{in-Some+in_ok-join, in_default}

pub returns : goal.returns
returns c =
    let graph = plain c.args.graph.now in
    let delta = c.args.delta.now in
    let link = edge_between (Old c.args.parameter) ParameterLink (New c.args.out) ∷ [] in
    elim c.match-parent_of.branch [
      | in-Some+in_ok-join w ↦
          let same = parent_same graph c.requires.shaped c.args.parameter (Some w.in-Some.method) w.in-Some.ensures.parent in
          let first = edge_between (Old w.in-Some.method) Ast (New c.args.out) ∷ [] in
          let middle : c.match-parent_of.delta ≡ with_edges first delta = w.delta-is ∙ w.in_ok-join.ensures.ok in
          let whole : with_edges link c.match-parent_of.delta ≡ with_edges (parameter_edges graph c.args.parameter c.args.out) delta =
          ap (with_edges link) middle ∙ (edges_more first link delta ∙ ap (λ (o : Option ℕ). with_edges (out_edges c.args.parameter c.args.out o) delta) same) in
          subst (λ (d : PlainDelta). OnOk c.join-2.result (c.join-2.new.delta ≡ d)) whole c.join-2.ensures.ok
      | in_default w ↦
          let same = parent_same graph c.requires.shaped c.args.parameter None w.in_default.ensures.parent in
          let whole : with_edges link c.match-parent_of.delta ≡ with_edges (parameter_edges graph c.args.parameter c.args.out) delta =
          ap (with_edges link) w.delta-is ∙ ap (λ (o : Option ℕ). with_edges (out_edges c.args.parameter c.args.out o) delta) same in
          subst (λ (d : PlainDelta). OnOk c.join-2.result (c.join-2.new.delta ≡ d)) whole c.join-2.ensures.ok
    ]
