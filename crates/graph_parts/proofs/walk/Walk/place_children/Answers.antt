use Rattle.std.proofs.Common.{◌≡◌, ◌<◌, ℕ, length, get_or, slice_index, sym, subst, ◌∙◌, arith}
use Rattle.std.proofs.lemmas.List.{get_or_default}
use Rattle.cpg_schema.specs.declared.edge_kind.EdgeKind.TheVariants.{Ast}
use Rattle.graph_store.specs.declared.edge.Edge.{Edge}
use Rattle.graph_store.specs.Stored.{plain}
use Rattle.edge_index.proofs.Counting.{no_edge}
use Rattle.graph_parts.specs.declared.places.TheConstants.{NO_NODE}
use Rattle.graph_parts.specs.Parts.{IsChild}
use Rattle.graph_parts.specs.Walking.{IsPlace, IsPlaced}
use Rattle.graph_parts.proofs.Found.{lent_all, lent_is, lent_low}
use Rattle.graph_parts.proofs.Walks.{placing_from, placing_next, real_root, under_method, under_other}
use Rattle.graph_parts.proofs.walk.Walk.place_children.Goals as goal
use Rattle.graph_parts.proofs.walk.Walk.place_children.Goals.{then-has_label, else-has_label}

pub index-root-requires : goal.index-root-requires
index-root-requires c =
    let low = c.requires.walk.within c.args.node c.requires.come in
    let count = c.requires.walk.root_count in
    omega (arith, c.args.self.now.roots.ok.0)

pub has_label-requires : goal.has_label-requires
has_label-requires c = c.requires.walk.within c.args.node c.requires.come

pub index-requires : goal.index-requires
index-requires c =
    let low = c.requires.walk.within c.args.node c.requires.come in
    let count = c.requires.walk.method_count in
    omega (arith, c.args.self.now.methods.ok.0)

pub out-children-requires : goal.out-children-requires
out-children-requires c =
    let low = c.requires.walk.within c.args.node c.requires.come in
    let count = c.requires.index.count in
    omega arith

pub loop-edge-init : goal.loop-edge-init
loop-edge-init c =
    let graph = plain c.args.graph.now in
    let walk = c.args.self.now in
    let node = c.args.node in
    let come = c.requires.come in
    let low = c.requires.walk.within node come in
    let root_count = c.requires.walk.root_count in
    let method_count = c.requires.walk.method_count in
    let few = c.law_stored.ensures.few_nodes in
    let small = c.law_stored.ensures.small_nodes in
    let in_roots : node < length walk.roots.items = omega arith in
    let in_methods : node < length walk.methods.items = omega arith in
    let real : ¬ (node ≡ NO_NODE) = λ is. omega arith in
    let root : c.index-root.result.now ≡ slice_index walk.roots.items node = c.index-root.ensures ∙ get_or_default walk.roots.items node c.index-root.result.now 0 in_roots in
    let place : (child : ℕ) → IsChild graph node child → IsPlace graph child c.if-has_label.method c.index-root.result.now =
    elim c.if-has_label.branch [
      | then-has_label w ↦ λ child is.
          subst (λ (m : ℕ). IsPlace graph child m c.index-root.result.now) (sym w.method-is)
          (under_method graph c.requires.shaped walk c.requires.walk node come c.index-root.result.now root (c.has_label.ensures.0 w.if-has_label.true) real child is)
      | else-has_label w ↦ λ child is.
          let method : c.if-has_label.method ≡ slice_index walk.methods.items node = w.method-is ∙ (w.index.ensures ∙ get_or_default walk.methods.items node w.index.result.now 0 in_methods) in
          under_other graph c.requires.shaped walk c.requires.walk node come c.if-has_label.method c.index-root.result.now method root
          (λ has. let is = c.has_label.ensures.1 has in let not = w.if-has_label.false in cc) child is
    ] in
    placing_from graph walk node c.if-has_label.method c.index-root.result.now c.out-children.result.now c.requires.walk place (real_root graph c.requires.shaped walk c.requires.walk node come c.index-root.result.now root)

pub place-requires-clause-inside : goal.place-requires-clause-inside
place-requires-clause-inside c =
    let low = lent_low c.args.graph.now c.args.index.now c.requires.index c.args.node Ast c.out-children.result.now c.out-children.ensures c.law_stored.ensures.is_graph c.loop-edge.edge-index no_edge c.loop-edge-test.true in
    let count = c.loop-edge.invariant.walk_is.root_count in
    omega arith

pub loop-edge-preserved : goal.loop-edge-preserved
loop-edge-preserved c =
    let graph = plain c.args.graph.now in
    let lent = c.out-children.result.now in
    let k = c.loop-edge.edge-index in
    let low = c.loop-edge-test.true in
    let is = lent_is c.args.graph.now c.args.index.now c.requires.index c.args.node Ast lent c.out-children.ensures k no_edge low in
    let place = c.loop-edge.invariant.place (get_or lent k no_edge).to is in
    placing_next graph c.args.self.now c.loop-edge.self c.place.new.self c.args.node c.if-has_label.method c.index-root.result.now lent k c.loop-edge.invariant
    (c.in_ok-place.ensures.walk graph c.loop-edge.invariant.walk_is place) c.in_ok-place.ensures.goes_on
    (λ d. subst (λ (e : Edge). IsPlaced c.place.new.self e.to) (get_or_default lent k no_edge d low) c.in_ok-place.ensures.placed)

pub returns-clause-children : goal.returns-clause-children
returns-clause-children c = record {
  each = λ child is.
      let found = lent_all c.args.graph.now c.args.index.now c.requires.index c.args.node Ast c.out-children.result.now c.out-children.ensures child is in
      let inside = found.inside in
      let low : found.position < c.loop-edge.edge-index = omega (arith, c.loop-edge-test.false) in
      subst (IsPlaced c.loop-edge.self) (found.far_is no_edge) (c.loop-edge.invariant.each found.position no_edge low);
}
