use Rattle.std.proofs.Common.{get_or, arith}
use Rattle.cpg_schema.specs.declared.edge_kind.EdgeKind.TheVariants.{Ast}
use Rattle.graph_store.specs.Stored.{plain}
use Rattle.edge_index.proofs.Counting.{no_edge}
use Rattle.graph_parts.proofs.Depth.{ends_of}
use Rattle.graph_parts.proofs.Parents.{none_arrives, first_arrives}
use Rattle.graph_parts.proofs.above.parent_of.Goals as goal

pub returns-in-empty-clause-parent : goal.returns-in-empty-clause-parent
returns-in-empty-clause-parent c = none_arrives c.args.graph.now c.args.index.now c.requires.index c.args.node c.into.result.now c.into.ensures (omega arith)

pub returns-in-len1-up-clause-parent : goal.returns-in-len1-up-clause-parent
returns-in-len1-up-clause-parent c = first_arrives c.args.graph.now c.args.index.now c.requires.index c.args.node c.into.result.now c.into.ensures (omega arith)

pub returns-in-len1-up-clause-within : goal.returns-in-len1-up-clause-within
returns-in-len1-up-clause-within c =
    let is = first_arrives c.args.graph.now c.args.index.now c.requires.index c.args.node c.into.result.now c.into.ensures (omega arith) in
    (ends_of (plain c.args.graph.now) c.law_stored.ensures.is_graph Ast (get_or c.into.result.now 0 no_edge).from c.args.node is).from_low
