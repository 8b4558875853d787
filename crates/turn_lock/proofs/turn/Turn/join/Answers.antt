use Rattle.std.proofs.Common.{◌++◌, Some, arith, ap, sym, refl, ◌∙◌}
use Rattle.turn_lock.specs.Entries.{longer}
use Rattle.turn_lock.specs.Steps.{joined}
use Rattle.turn_lock.specs.Views.{own_in, seen_in}
use Rattle.turn_lock.proofs.Entries.{extends_as, longer_extends_both}
use Rattle.turn_lock.proofs.Seats.{shares_as, still_of}
use Rattle.turn_lock.proofs.Steps.{join_ends, joins_at, offers_at}
use Rattle.turn_lock.proofs.turn.Turn.join.Goals as goal

pub join_seat-requires : goal.join_seat-requires
join_seat-requires g c =
    let sized = c.args.self.now.sized in
    let a = c.requires.free.0 in
    let b = c.requires.free.1 in
    (c.requires.turn.0.table, c.requires.turn.1.table, ap (λ m. m.1) b.is, omega (arith, sized.0), joins_at g.T.Kept.name g.T.Kept.history g.T.Kept.may_become _ _ _ _ _ _ a.view b.view (ap (λ m. m.0) a.is) (ap (λ m. m.0) b.is) a.no_ticket a.no_value b.no_ticket b.no_value)

pub compare_exchange-requires : goal.compare_exchange-requires
compare_exchange-requires g c =
    let sized = c.args.self.now.sized in
    let a = c.requires.free.0 in
    let b = c.requires.free.1 in
    let e = join_ends _ _ _ a.view b.view a.is b.is c.join_seat.ensures.2 in
    (c.join_seat.ensures.0 ∙ c.requires.turn.0.table, omega (arith, sized.0), offers_at g.T.Kept.name g.T.Kept.history g.T.Kept.may_become _ _ _ _ _ _ _ _ _ sized.1 e refl)

pub overflow_add-seat : goal.overflow_add-seat
overflow_add-seat g c =
    let a = c.requires.free.0 in
    let b = c.requires.free.1 in
    let e = join_ends _ _ _ a.view b.view a.is b.is c.join_seat.ensures.2 in
    let told = (c.compare_exchange.ensures.2 _ (ap (λ m. m.0) e)).2 in
    omega (arith, told, shares_as _ _ _ _ c.requires.turn.0 a.is, shares_as _ _ _ _ c.requires.turn.1 b.is)

pub returns : goal.returns
returns g c =
    let a = c.requires.free.0 in
    let b = c.requires.free.1 in
    let e = join_ends _ _ _ a.view b.view a.is b.is c.join_seat.ensures.2 in
    let told = c.compare_exchange.ensures.2 _ (ap (λ m. m.0) e) in
    let f = told.0 ∙ ap (λ m. (Some (record (joined a.view b.view) { offer = 0 }), m.1)) e in
    let two = longer_extends_both a.view.seen b.view.seen told.1 in
    let b_shares = shares_as _ _ _ _ c.requires.turn.1 b.is in
    record {
      turn = still_of _ _ _ a.view _ _ _ c.requires.turn.0 a.is f (c.compare_exchange.ensures.0 ∙ c.join_seat.ensures.0) refl (λ h. omega (arith, h, b_shares));
      free = record { view = _; is = f; no_ticket = a.no_ticket; no_value = a.no_value };
      shares = refl;
      seen = ap (λ m. seen_in m.0) f ∙ ap (λ m. longer (seen_in m.0) b.view.seen) (sym a.is) ∙ ap (λ m. longer (seen_in c.args.seat.now.inner.me.0) (seen_in m.0)) (sym b.is);
      grown = (
        extends_as _ _ _ _ (ap (λ m. seen_in m.0) f) (ap (λ m. seen_in m.0) a.is) two.0,
        extends_as _ _ _ _ (ap (λ m. seen_in m.0) f) (ap (λ m. seen_in m.0) b.is) two.1,
      );
      own = ap (λ m. own_in m.0) f ∙ ap (λ m. own_in m.0 ++ b.view.own) (sym a.is) ∙ ap (λ m. own_in c.args.seat.now.inner.me.0 ++ own_in m.0) (sym b.is);
    }
