use Rattle.std.proofs.Common.{List, ℕ, subst, sym, eqb}
use Rattle.std.specs.List.{Contains}
use Rattle.std.specs.List.Sorted.{IsStrictlyIncreasing}
use Rattle.std.proofs.lemmas.List.Filters.{dedup_is}
use Rattle.std.proofs.lemmas.List.Sorted.{Contains-permutation, IsPermutation-sym}
use Rattle.std.proofs.lemmas.List.Kept.{Contains-dedup_nat, Contains-from_dedup}
use Rattle.std.proofs.lemmas.Map.Keys.{IsStrictlyIncreasing-dedup}
use Rattle.summary_core.proofs.search.put_in_order.Goals as goal

pub returns-clause-rise : goal.returns-clause-rise
returns-clause-rise c =
    let is = dedup_is eqb c.sort_unstable.new.self.items c.dedup.new.self.items c.dedup.ensures.filtered in
    subst IsStrictlyIncreasing (sym is) (IsStrictlyIncreasing-dedup c.sort_unstable.new.self.items c.sort_unstable.ensures.sorted)

pub returns-clause-same : goal.returns-clause-same
returns-clause-same c n =
    let old = c.args.numbers.now.items in
    let sorted = c.sort_unstable.new.self.items in
    let is = dedup_is eqb sorted c.dedup.new.self.items c.dedup.ensures.filtered in (
      λ has. Contains-permutation sorted old n (IsPermutation-sym old sorted c.sort_unstable.ensures.permutation) (Contains-from_dedup eqb sorted n (subst (λ (xs : List ℕ). Contains xs n) is has)),
      λ has. subst (λ (xs : List ℕ). Contains xs n) (sym is) (Contains-dedup_nat sorted n (Contains-permutation old sorted n c.sort_unstable.ensures.permutation has)),
    )
