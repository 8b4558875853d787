use Rattle.std.proofs.Common.{◌<◌, length, slice_get, get_or, ap, sym, ◌∙◌, arith}
use Rattle.std.specs.Option.{option_and_then}
use Rattle.std.proofs.lemmas.List.{length-map}
use Rattle.cpg_schema.specs.Properties.{text_of}
use Rattle.graph_store.specs.Stored.{StoredGraph}
use Rattle.graph_store.specs.Rows.{plain_node, row_text}
use Rattle.graph_store.proofs.Keeping.{text_of-plain_node, map_at}
use Rattle.graph_store.proofs.graph.Graph.text.Goals as goal

pub returns : goal.returns
returns c =
    let names = c.self.inside.names in
    let nodes = c.self.inside.nodes.items in
    let key = c.args.key in
    let id = c.args.id in
    let node = c.index.result.now in
    let size = ap (λ (g : StoredGraph). length g.nodes) c.self.view_is in
    let same = length-map nodes (plain_node names) in
    let within : id < length nodes = omega arith in
    c.text-2.ensures ∙
    (ap (slice_get names) (c.text.ensures ∙ ap (row_text key) c.index.ensures) ∙
    (text_of-plain_node names key (get_or nodes id node) c.self.invariant.few_names ∙
    (ap (option_and_then (text_of key)) (sym (map_at (plain_node names) nodes id node within)) ∙
    ap (λ (g : StoredGraph). option_and_then (text_of key) (slice_get g.nodes id)) c.self.view_is)))
