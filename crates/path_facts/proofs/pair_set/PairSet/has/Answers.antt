use Rattle.std.proofs.Common.{ℕ, length, Option, ap, ◌∙◌, subst}
use Rattle.std.proofs.lemmas.Bool.{false≢true}
use Rattle.flow_index.specs.Positions.{IsLastPosition}
use Rattle.path_facts.proofs.Growing.{has_none, has_passed}
use Rattle.path_facts.proofs.pair_set.PairSet.has.Goals as goal

pub returns-else-index-second : goal.returns-else-index-second
returns-else-index-second c =
    let set = c.args.self.now in
    let last = subst (λ (found : Option ℕ). IsLastPosition set.by_first.keys c.args.first (length set.by_first.keys) found) c.in-Some.is c.last.ensures in
    has_passed set (c.args.first, c.args.second) c.requires.kept c.in-Some.position c.index.result.now c.contains.result last
    (λ same. c.if-index-second.false (ap (λ (p : ℕ × ℕ). p.1) c.index.ensures ∙ same)) c.contains.ensures

pub returns-in-None : goal.returns-in-None
returns-in-None c =
    let set = c.args.self.now in
    let none = subst (λ (found : Option ℕ). IsLastPosition set.by_first.keys c.args.first (length set.by_first.keys) found) c.in-None.is c.last.ensures in (
      λ is. absurd (false≢true is),
      λ has. absurd (has_none set (c.args.first, c.args.second) c.requires.kept none has),
    )
