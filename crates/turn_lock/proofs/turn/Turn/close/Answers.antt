use Rattle.std.proofs.Common.{ap, sym, refl, ◌∙◌, subst}
use Rattle.std.specs.Option.{IsSome}
use Rattle.turn_lock.specs.Entries.{AreAll, AreApart, AreAt}
use Rattle.turn_lock.specs.Views.{own_in, seen_in}
use Rattle.turn_lock.proofs.Entries.{all_apart, extends_as}
use Rattle.turn_lock.proofs.Ends.{IsClosed}
use Rattle.turn_lock.proofs.Seats.{shares_as}
use Rattle.turn_lock.proofs.Steps.{close_ends}
use Rattle.turn_lock.proofs.Views.{some_is}
use Rattle.turn_lock.proofs.turn.Turn.close.Goals as goal

pub unwrap-value-requires : goal.unwrap-value-requires
unwrap-value-requires g c =
    let free = c.requires.free in
    let all = shares_as _ _ _ _ c.requires.turn free.is ∙ c.requires.all_shares in
    let e = close_ends g.T.Kept.name g.T.Kept.history g.T.Kept.may_become _ _ _ _ _ _ free.view _ free.is free.no_ticket all c.close_with-closed.ensures.values.2 c.take.ensures.value in
    subst IsSome (sym e.1) refl

pub returns : goal.returns
returns g c =
    let free = c.requires.free in
    let all = shares_as _ _ _ _ c.requires.turn free.is ∙ c.requires.all_shares in
    let e = close_ends g.T.Kept.name g.T.Kept.history g.T.Kept.may_become _ _ _ _ _ _ free.view _ free.is free.no_ticket all c.close_with-closed.ensures.values.2 c.take.ensures.value in
    let value = c.unwrap-value.result in
    let known = subst (IsClosed g.T.Kept.name g.T.Kept.history g.T.Kept.may_become _ free.view) (some_is _ value (sym e.1 ∙ c.unwrap-value.ensures)) e.2 in
    record {
      named = known.named;
      grown = extends_as _ _ _ _ refl (ap (λ m. seen_in m.0) free.is) known.grown;
      became = known.became;
      positioned = subst (λ m. AreAt (g.T.Kept.history value) (own_in m.0)) (sym free.is) known.own;
      apart = subst (λ m. AreApart (own_in m.0)) (sym free.is) (all_apart free.view.own (g.T.Kept.history value) known.all);
      whole = subst (λ m. AreAll (g.T.Kept.history value) (own_in m.0)) (sym free.is) known.all;
    }
