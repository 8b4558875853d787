use Rattle.c_tree.specs.declared.tree.Binary.{out-Binary}
use Rattle.std.proofs.Common.{◌≡◌, ℕ, ◌+◌, ◌-◌, ◌<◌, Option, List, length, get_or, drop, refl, sym, ap, subst, ◌∙◌, arith}
use Rattle.c_tree.specs.declared.tree.Prefixed.{Prefixed}
use Rattle.cpg_schema.specs.Graph.{PlainNode}
use Rattle.graph_forest.specs.Forest.{leaf}
use Rattle.graph_forest.specs.Nodes.{plain_node}
use Rattle.graph_forest.specs.Planting.{Plants, Enters}
use Rattle.graph_forest.specs.declared.rank.Rank.{Rank}
use Rattle.ast_layer.specs.Source.{File, file_of}
use Rattle.ast_layer.specs.Grouping.{Operand, to_the_left, operand_token}
use Rattle.ast_layer.specs.Nodes.{call_node, operand_node}
use Rattle.ast_layer.specs.Forests.{grouped_forest}
use Rattle.ast_layer.proofs.Chains.{front, Closes, operators_all, operators_step, operators_none, closes_step, closes_none}
use Rattle.ast_layer.proofs.source.Source.plant_binary.Goals as goal

pub loop-left-init : goal.loop-left-init
loop-left-init c =
    let file : File = file_of c.args.self.now in
    let first : Prefixed = (out-Binary c.args.binary.now).first in (
      omega arith,
      λ after closed planted closes.
          subst (λ (l : List (ℕ × Prefixed)). Plants c.args.planter.now closed (grouped_forest file c.args.rank (to_the_left (Operand first) l))) c.items-rest.ensures
          (operators_all c.args.planter.now after closed file c.args.rank first c.items-rest.result.now (length c.items-rest.result.now) refl planted closes),
    )

pub loop-left-preserved : goal.loop-left-preserved
loop-left-preserved c =
    let file : File = file_of c.args.self.now in
    let first : Prefixed = (out-Binary c.args.binary.now).first in
    let rest : List (ℕ × Prefixed) = c.items-rest.result.now in
    let a = c.loop-left.planter in
    let b = c.enter.new.self in
    let rank : Rank = c.loop-left.rank in
    let n : ℕ = c.loop-left.left - 1 in
    let item = c.index-rest-left.result in
    let operator : ℕ = item.0 in
    let below : n < length rest = omega arith in
    let more : n + 1 ≡ c.loop-left.left = omega arith in
    let node : plain_node c.call-call.result ≡ call_node file operator (operand_token first) rank =
    c.call-call.ensures ∙ (ap (λ (token : Option ℕ). call_node file (get_or rest n item).0 token rank) c.token_of-first.ensures
    ∙ ap (λ (x : ℕ × Prefixed). call_node file x.0 (operand_token first) rank) (sym c.index-rest-left.is)) in
    let enters : Enters a b rank.hang (call_node file operator (operand_token first) rank) =
    subst (λ (x : PlainNode). Enters a b rank.hang x) node c.in_ok-enter.ensures in (
      omega arith,
      λ after closed planted closes.
          let left = subst (λ (r : Rank). Plants b after (grouped_forest file r (front first rest n))) c.argument-rank.ensures planted in
          let step = operators_step a b after closed file rank first rest n item below c.index-rest-left.is enters left closes in
          c.loop-left.invariant.1 step.after closed (subst (λ (k : ℕ). Plants a step.after (grouped_forest file rank (front first rest k))) more step.planted)
          (subst (λ (k : ℕ). Closes file (drop k rest) step.after closed) more step.closes),
    )

pub loop-next-init : goal.loop-next-init
loop-next-init c = λ closed closes. closes

pub loop-next-preserved : goal.loop-next-preserved
loop-next-preserved c = λ closed closes.
    let file : File = file_of c.args.self.now in
    let a = c.loop-next.planter in
    let b = c.plant_operand-in-loop-next.new.planter in
    let item = c.next-item.result in
    let planted =
    subst (λ (r : Rank). Plants a b (leaf r.hang (operand_node file item.1 r))) c.argument.ensures c.in_ok-plant_operand-2.ensures in
    c.loop-next.invariant closed
    (closes_step a b c.leave.new.self closed file c.items-rest.result.now c.loop-next.next-index item c.loop-next-test.true c.next-item.is planted c.leave.ensures closes)

pub returns : goal.returns
returns c =
    let file : File = file_of c.args.self.now in
    let first : Prefixed = (out-Binary c.args.binary.now).first in
    let rest : List (ℕ × Prefixed) = c.items-rest.result.now in
    let start = c.plant_operand.new.planter in
    let none : c.loop-left.left ≡ 0 = omega arith in
    let planted = operators_none c.loop-left.planter start file c.loop-left.rank first rest c.loop-left.left none c.in_ok-plant_operand.ensures in
    let closes = c.loop-next.invariant c.loop-next.planter (closes_none c.loop-next.planter file rest c.loop-next.next-index c.loop-next-test.false) in
    c.loop-left.invariant.1 start c.loop-next.planter planted (subst (λ (k : ℕ). Closes file (drop k rest) start c.loop-next.planter) (sym none) closes)
