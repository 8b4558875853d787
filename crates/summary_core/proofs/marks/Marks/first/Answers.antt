use Rattle.std.proofs.Common.{ℕ, ◌≡◌, ◌<◌, ◌≤◌, get_or, length, sym, ◌∙◌, arith, subst}
use Rattle.std.proofs.lemmas.List.{get_or_default}
use Rattle.summary_core.specs.Marking.{IsLeastMarked}
use Rattle.summary_core.proofs.Marking.{first_none, first_some}
use Rattle.summary_core.proofs.marks.Marks.first.Goals as goal

pub returns-then-least-self : goal.returns-then-least-self
returns-then-least-self c =
    let nodes = c.args.self.now.nodes.items in
    let some = c.if-self-eq0.false in
    let inside : 1 < length nodes = omega (arith, c.requires.len, some) in
    let same : c.index-least.result.now ≡ get_or nodes 1 0 = c.index-least.ensures ∙ get_or_default nodes 1 c.index-least.result.now 0 inside in
    let less : get_or nodes 1 0 < c.args.self.now.count = omega (arith, c.if-least-self.true, same) in
    subst (λ (position : ℕ). IsLeastMarked c.args.self.now position) (sym same) (first_some c.args.self.now c.requires less)

pub returns-else-least-self : goal.returns-else-least-self
returns-else-least-self c =
    let nodes = c.args.self.now.nodes.items in
    let some = c.if-self-eq0.false in
    let inside : 1 < length nodes = omega (arith, c.requires.len, some) in
    let same : c.index-least.result.now ≡ get_or nodes 1 0 = c.index-least.ensures ∙ get_or_default nodes 1 c.index-least.result.now 0 inside in
    let more : c.args.self.now.count ≤ get_or nodes 1 0 = omega (arith, c.if-least-self.false, same) in
    first_none c.args.self.now c.requires more
