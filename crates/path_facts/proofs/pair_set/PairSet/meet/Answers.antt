use Rattle.std.proofs.Common.{ℕ, ◌∷◌, [], ◌++◌, length, true, Option, ap, sym, ◌∙◌, subst}
use Rattle.std.specs.List.{Contains}
use Rattle.std.specs.HashSet as bag
use Rattle.flow_index.specs.Positions.{IsLastPosition}
use Rattle.path_facts.specs.declared.pair_set.PairSet.{PairSet}
use Rattle.path_facts.proofs.Growing.{meets_first, meets_further, meets_known}
use Rattle.path_facts.proofs.Hashing.{pair_eq}
use Rattle.path_facts.proofs.pair_set.PairSet.meet.Goals as goal
use Rattle.path_facts.proofs.pair_set.PairSet.meet.Goals.{in-Some+in_ok-insert, in_default}

pub returns-then-has : goal.returns-then-has
returns-then-has c = meets_known c.args.self.now (c.args.first, c.args.second) c.requires.kept (c.has.ensures.0 c.if-has.true)

pub returns : goal.returns
returns c =
    let set = c.args.self.now in
    let pair : ℕ × ℕ = (c.args.first, c.args.second) in
    let fresh : ¬ Contains set.pairs.items pair = λ has. let on = c.has.ensures.1 has in let off = c.if-has.false in cc in
    elim c.match-last.branch [
      | in-Some+in_ok-insert w ↦
          let last = subst (λ (found : Option ℕ). IsLastPosition set.by_first.keys c.args.first (length set.by_first.keys) found) w.in-Some.is c.last.ensures in
          meets_further set pair c.requires.kept _ fresh
          (c.in_ok-push.ensures.items ∙ ap (λ (s : PairSet). s.pairs.items ++ pair ∷ []) w.self-is) c.requires.below
          (c.push-2.ensures.count ∙ ap (λ (s : PairSet). s.by_first.count) w.self-is)
          (c.in_ok-push-2.ensures.ok ∙ ap (λ (s : PairSet). s.by_first.keys ++ c.args.first ∷ []) w.self-is)
          w.in-Some.position w.index.result.now w.index.ensures last
          (subst (λ (s : PairSet). bag.Updates pair_eq set.passed s.passed w.index.result.now true) (sym w.self-is) w.in_ok-insert.ensures.updates)
      | in_default w ↦
          let none = subst (λ (found : Option ℕ). IsLastPosition set.by_first.keys c.args.first (length set.by_first.keys) found) w.in_default.is c.last.ensures in
          meets_first set pair c.requires.kept _ fresh
          (c.in_ok-push.ensures.items ∙ ap (λ (s : PairSet). s.pairs.items ++ pair ∷ []) w.self-is) c.requires.below
          (c.push-2.ensures.count ∙ ap (λ (s : PairSet). s.by_first.count) w.self-is)
          (c.in_ok-push-2.ensures.ok ∙ ap (λ (s : PairSet). s.by_first.keys ++ c.args.first ∷ []) w.self-is)
          (ap (λ (s : PairSet). s.passed) w.self-is) none
    ]
