use Rattle.std.proofs.Common.{arith, ap, sym, refl, ◌∙◌}
use Rattle.turn_lock.specs.Views.{own_in, seen_in}
use Rattle.turn_lock.proofs.Steps.{offers_at, split_ends, splits_at}
use Rattle.turn_lock.proofs.Seats.{shares_as, still_of}
use Rattle.turn_lock.proofs.turn.Turn.split.Goals as goal

pub compare_exchange-requires : goal.compare_exchange-requires
compare_exchange-requires g c =
    let sized = c.args.self.now.sized in
    let free = c.requires.free in
    (c.requires.turn.table, omega (arith, sized.0), offers_at g.T.Kept.name g.T.Kept.history g.T.Kept.may_become _ _ _ _ _ _ _ _ free.view sized.1 free.is refl)

pub split_seat-inner-requires : goal.split_seat-inner-requires
split_seat-inner-requires g c =
    let sized = c.args.self.now.sized in
    let free = c.requires.free in
    let offered = c.compare_exchange.ensures in
    let had = shares_as _ _ _ _ c.requires.turn free.is in
    let view = (offered.2 free.view (ap (λ m. m.0) free.is)).0 in (
      offered.0 ∙ c.requires.turn.table,
      omega (arith, sized.0),
      splits_at g.T.Kept.name g.T.Kept.history g.T.Kept.may_become _ _ _ _ _ free.view (ap (λ m. m.0) view) free.no_ticket free.no_value
          (omega (arith, c.requires.some, c.from-offer.ensures)) (omega (arith, c.requires.few, c.from-offer.ensures, had)),
    )

pub returns : goal.returns
returns g c =
    let free = c.requires.free in
    let offered = c.compare_exchange.ensures in
    let cut = c.split_seat-inner.ensures in
    let ends = split_ends _ _ _ _ free.view _ free.is (offered.2 free.view (ap (λ m. m.0) free.is)).0 cut.2 cut.4 in
    let offer = c.from-offer.ensures in
    let was = sym (ap (λ m. seen_in m.0) free.is) in
    record {
      turn = (
        still_of _ _ _ free.view _ _ _ c.requires.turn free.is ends.0 (cut.0 ∙ offered.0) refl (λ h. omega (arith, h, offer)),
        still_of _ _ _ free.view _ _ _ c.requires.turn free.is ends.1 (cut.3 ∙ offered.0) refl (λ h. offer),
      );
      free = (
        record { view = _; is = ends.0; no_ticket = free.no_ticket; no_value = free.no_value },
        record { view = _; is = ends.1; no_ticket = refl; no_value = refl },
      );
      left = refl;
      shares = refl;
      seen = (ap (λ m. seen_in m.0) ends.0 ∙ was, ap (λ m. seen_in m.0) ends.1 ∙ was);
      own = (ap (λ m. own_in m.0) ends.0 ∙ sym (ap (λ m. own_in m.0) free.is), ap (λ m. own_in m.0) ends.1);
    }
