use Rattle.std.proofs.Common.{◌≡◌, List, Some, None, OnOk, sym, subst, ap, ◌∙◌}
use Rattle.cpg_schema.specs.declared.label.Label.TheVariants.{Call}
use Rattle.cpg_schema.specs.Deltas.{NewEdge}
use Rattle.graph_store.specs.Stored.{plain}
use Rattle.unit_rules.specs.Units.{label_at}
use Rattle.unit_layers.specs.Adding.{with_edges}
use Rattle.unit_layers.proofs.Places.{call_edges, method_same}
use Rattle.unit_layers.proofs.Steps.{edges_none}
use Rattle.unit_layers.proofs.unit_edges.join_member.Goals as goal

pub returns-in-Some : goal.returns-in-Some
returns-in-Some c =
    let graph = plain c.args.graph.now in
    let found = c.requires.places.methods c.args.node c.method_of.result c.method_of.ensures in
    let same = method_same graph c.requires.shaped c.law_stored.ensures.is_graph c.args.node c.method_of.result found in
    let label : label_at graph c.args.node ≡ Some Call = c.node.ensures ∙ ap (λ l. Some l) c.in-Call.is in
    let edges = call_edges graph c.args.node (Some c.in-Some.method) label (sym c.in-Some.is ∙ same) in
    subst (λ (es : List NewEdge). OnOk c.join-in-Some.result (c.join-in-Some.new.delta ≡ with_edges es c.args.delta.now)) (sym edges) c.join-in-Some.ensures.ok

pub returns-in-None : goal.returns-in-None
returns-in-None c =
    let graph = plain c.args.graph.now in
    let found = c.requires.places.methods c.args.node c.method_of.result c.method_of.ensures in
    let same = method_same graph c.requires.shaped c.law_stored.ensures.is_graph c.args.node c.method_of.result found in
    let label : label_at graph c.args.node ≡ Some Call = c.node.ensures ∙ ap (λ l. Some l) c.in-Call.is in
    let edges = call_edges graph c.args.node None label (sym c.in-None.is ∙ same) in
    edges_none c.args.delta.now ∙ ap (λ (es : List NewEdge). with_edges es c.args.delta.now) (sym edges)
