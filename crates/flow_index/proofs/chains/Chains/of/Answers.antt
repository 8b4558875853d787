use Rattle.std.proofs.Common.{◌≡◌, ◌<◌, [], ℕ, List, Option, None, length, get_or, take, replicate, sym, ap, ◌∙◌, subst, arith}
use Rattle.std.proofs.Math.Seq.{take-length}
use Rattle.std.proofs.lemmas.List.{get_or_default, get_or-replicate}
use Rattle.std.proofs.lemmas.Grind.{common_steps}
use Rattle.flow_index.specs.Positions.{AreChained, IsLastPosition}
use Rattle.flow_index.proofs.Chaining.{chaining_more}
use Rattle.flow_index.proofs.chains.Chains.of.Goals as goal

pub loop-position-init : goal.loop-position-init
loop-position-init c = record {
  count_is = grind (arith, common_steps);
  chained = record {
    below = grind (arith, common_steps);
    links = grind (arith, common_steps);
    heads = λ key inside.
        let items : c.in_ok-last.last.items ≡ replicate c.args.count None = c.in_ok-last.ensures.items_if_clones_equal (λ y is. is) ∙ ap (λ (x : Option ℕ). replicate c.args.count x) c.none.ensures in
        let below : key < c.args.count = let len = c.in_ok-last.ensures.len in omega (arith, inside, c.in_ok-last.last.ok) in
        let none : get_or c.in_ok-last.last.items key None ≡ None = ap (λ (xs : List (Option ℕ)). get_or xs key None) items ∙ get_or-replicate c.args.count key None None below in
        subst (λ (found : Option ℕ). IsLastPosition [] key 0 found) (sym none) (λ position less. absurd (omega (arith, less)));
    steps = grind (arith, common_steps);
  };
}

pub loop-position-preserved : goal.loop-position-preserved
loop-position-preserved c =
    let keys = c.args.keys.items in
    let last = c.loop-position.last.items in
    let same : c.deref-key-items.result.now ≡ keys = c.deref-key-items.ensures.value in
    let within : c.loop-position.position < length keys = omega (arith, c.loop-position-test.true, ap length same) in
    let key : get_or c.deref-key-items.result.now c.loop-position.position 0 ≡ get_or keys c.loop-position.position 0 = ap (λ (ks : List ℕ). get_or ks c.loop-position.position 0) same in
    let small : get_or keys c.loop-position.position 0 < length last = let is = c.requires c.loop-position.position 0 within in let count = c.loop-position.invariant.count_is in omega arith in
    let before : c.index.result.now ≡ get_or last (get_or keys c.loop-position.position 0) None =
    c.index.ensures ∙ (ap (λ (k : ℕ). get_or last k c.index.result.now) key ∙ get_or_default last (get_or keys c.loop-position.position 0) c.index.result.now None small) in
    rw (key, c.in-Some.ensures, c.in_ok-push.ensures.items, before)
    (chaining_more c.args.count keys last c.loop-position.before.items c.loop-position.position c.requires within c.loop-position.invariant)

pub invariant_of-result : goal.invariant_of-result
invariant_of-result c =
    let all : length c.args.keys.items ≡ c.loop-position.position = omega (arith, c.loop-position-test.false, c.loop-position.auto.position-end, ap length c.deref-key-items.ensures.value) in
    subst (λ (ks : List ℕ). AreChained c.loop-position.last.items ks c.loop-position.before.items)
    (ap (λ (n : ℕ). take n c.args.keys.items) (sym all) ∙ take-length c.args.keys.items) c.loop-position.invariant.chained
