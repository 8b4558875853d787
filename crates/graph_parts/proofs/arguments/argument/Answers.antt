use Rattle.std.proofs.Common.{ℕ, get_or, sym, subst, ◌∙◌}
use Rattle.cpg_schema.specs.declared.edge_kind.EdgeKind.TheVariants.{Argument}
use Rattle.graph_store.specs.Stored.{plain}
use Rattle.edge_index.proofs.Counting.{no_edge}
use Rattle.graph_parts.specs.Finds.{Finds}
use Rattle.graph_parts.specs.Parts.{IsArgumentWith, IsChild}
use Rattle.graph_parts.proofs.Found.{first_least, lent_is, lent_low, none_least, none_next}
use Rattle.graph_parts.proofs.Parents.{found_same, parent_is, same_found}
use Rattle.graph_parts.proofs.arguments.argument.Goals as goal
use Rattle.graph_parts.proofs.arguments.argument.Goals.{else-has_index-via-then-has_index+else-eq, else-has_index-via-else-has_index}

pub has_index-requires : goal.has_index-requires
has_index-requires c =
    lent_low c.args.graph.now c.args.index.now c.requires.index c.args.call Argument c.out-arguments.result.now c.out-arguments.ensures c.law_stored.ensures.is_graph c.loop-edge.edge-index no_edge c.loop-edge-test.true

pub parent_of-requires-clause-inside : goal.parent_of-requires-clause-inside
parent_of-requires-clause-inside c =
    lent_low c.args.graph.now c.args.index.now c.requires.index c.args.call Argument c.out-arguments.result.now c.out-arguments.ensures c.law_stored.ensures.is_graph c.loop-edge.edge-index no_edge c.loop-edge-test.true

pub returns-then-eq-clause-within : goal.returns-then-eq-clause-within
returns-then-eq-clause-within c =
    lent_low c.args.graph.now c.args.index.now c.requires.index c.args.call Argument c.out-arguments.result.now c.out-arguments.ensures c.law_stored.ensures.is_graph c.loop-edge.edge-index no_edge c.loop-edge-test.true

pub returns-then-eq-clause-argument : goal.returns-then-eq-clause-argument
returns-then-eq-clause-argument c =
    let graph = plain c.args.graph.now in
    let lent = c.out-arguments.result.now in
    let k = c.loop-edge.edge-index in
    let low = c.loop-edge-test.true in
    let found = found_same c.parent_of.result c.args.call (sym c.eq.ensures ∙ c.if-eq.true) in
    first_least c.args.graph.now c.args.index.now c.requires.index c.args.call Argument lent c.out-arguments.ensures (IsArgumentWith graph c.args.i c.args.call)
    (λ n w. w.is_argument) k no_edge low c.loop-edge.invariant
    (record {
      is_child = subst (Finds (λ (parent : ℕ). IsChild graph parent (get_or lent k no_edge).to)) found c.parent_of.ensures.parent;
      is_argument = lent_is c.args.graph.now c.args.index.now c.requires.index c.args.call Argument lent c.out-arguments.ensures k no_edge low;
      is_node = c.has_index.ensures.0 c.if-has_index.true;
    })

pub loop-edge-preserved : goal.loop-edge-preserved
loop-edge-preserved c =
    let graph = plain c.args.graph.now in
    let lent = c.out-arguments.result.now in
    let k = c.loop-edge.edge-index in
    none_next (IsArgumentWith graph c.args.i c.args.call) lent k c.loop-edge.invariant c.loop-edge-test.true
    (λ has.
    elim c.else-has_index.branch [
      | else-has_index-via-then-has_index+else-eq w ↦
          let found = parent_is graph c.requires.shaped (get_or lent k no_edge).to c.args.call w.parent_of.result w.parent_of.ensures.parent has.is_child in
          let same = same_found w.parent_of.result c.args.call found in
          let e = w.eq.ensures in
          let f = w.if-eq.false in
          cc
      | else-has_index-via-else-has_index w ↦ let is = c.has_index.ensures.1 has.is_node in let f = w.if-has_index.false in cc
    ])

pub returns-clause-argument : goal.returns-clause-argument
returns-clause-argument c =
    none_least c.args.graph.now c.args.index.now c.requires.index c.args.call Argument c.out-arguments.result.now c.out-arguments.ensures
    (IsArgumentWith (plain c.args.graph.now) c.args.i c.args.call) (λ n w. w.is_argument) c.loop-edge.edge-index c.loop-edge.invariant c.loop-edge-test.false
