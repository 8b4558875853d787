use Rattle.std.proofs.Common.{◌∷◌, Some, arith, ap, sym, refl, ◌∙◌, subst}
use Rattle.atomic_table.specs.Table.{rest}
use Rattle.std.specs.Option.{IsSome}
use Rattle.turn_lock.specs.Seats.{HasTaken}
use Rattle.turn_lock.specs.Views.{own_in, seen_in}
use Rattle.turn_lock.proofs.Entries.{extends_as}
use Rattle.turn_lock.proofs.Seats.{first_as, still_of}
use Rattle.turn_lock.proofs.Steps.{draws_at, looks_at, take_ends, take_some}
use Rattle.turn_lock.proofs.turn.Turn.take.Goals as goal

pub fetch_add-ticket-requires : goal.fetch_add-ticket-requires
fetch_add-ticket-requires g c =
    let sized = c.args.self.now.sized in
    let free = c.requires.free in
    (c.requires.turn.table, omega (arith, sized.0), draws_at g.T.Kept.name g.T.Kept.history g.T.Kept.may_become _ _ _ _ _ free.view sized.1 free.is free.no_ticket free.no_value)

pub loop-init : goal.loop-init
loop-init g c =
    let free = c.requires.free in
    let drawn = c.fetch_add-ticket.ensures in
    let mine = drawn.2 free.view (ap (λ m. m.0) free.is) in
    record {
      view = free.view;
      ticket = mine.0;
      found_is = mine.1;
      was = free.is;
      no_value = free.no_value;
      is = mine.2 ∙ ap (λ m. (Some (record free.view { ticket = Some mine.0 }), m.1)) free.is;
      table = drawn.0;
      shares = refl;
    }

pub load-served-requires : goal.load-served-requires
load-served-requires g c =
    let sized = c.args.self.now.sized in
    let w = c.loop.invariant in
    (w.table ∙ c.requires.turn.table, omega (arith, sized.0), looks_at g.T.Kept.name g.T.Kept.history g.T.Kept.may_become _ _ _ _ w.ticket _ w.view sized.1 w.no_value w.is)

pub exchange-requires : goal.exchange-requires
exchange-requires g c =
    let w = c.loop.invariant in
    let took = (c.load-served.ensures.2 (record w.view { ticket = Some w.ticket }) w.ticket (ap (λ m. m.0) w.is) refl).0 (c.if-served-ticket.true ∙ w.found_is) in
    let at = ap (λ m. m.1) took.seat ∙ ap (λ m. (0, Some took.value) ∷ m.1) w.is in
    (c.load-served.ensures.0 ∙ w.table ∙ c.requires.turn.table, (Some took.value, at ∙ ap (λ l. (0, Some took.value) ∷ rest l) (sym at)))

pub unwrap-value-requires : goal.unwrap-value-requires
unwrap-value-requires g c =
    let w = c.loop.invariant in
    let took = (c.load-served.ensures.2 (record w.view { ticket = Some w.ticket }) w.ticket (ap (λ m. m.0) w.is) refl).0 (c.if-served-ticket.true ∙ w.found_is) in
    subst IsSome (take_some g.T.Kept.name g.T.Kept.history g.T.Kept.may_become _ _ w.view w.ticket _ w.is took c.exchange.ensures.2) refl

pub returns-then-served-ticket : goal.returns-then-served-ticket
returns-then-served-ticket g c =
    let w = c.loop.invariant in
    let took = (c.load-served.ensures.2 (record w.view { ticket = Some w.ticket }) w.ticket (ap (λ m. m.0) w.is) refl).0 (c.if-served-ticket.true ∙ w.found_is) in
    let out = c.exchange.ensures in
    let e = take_ends g.T.Kept.name g.T.Kept.history g.T.Kept.may_become _ _ _ w.view w.ticket _ c.unwrap-value.result w.is took out.2 out.3 c.unwrap-value.ensures in
    let first = first_as _ _ w.view _ c.requires.turn w.was in
    record {
      turn = still_of _ _ _ w.view _ _ _ c.requires.turn w.was e.seat (out.0 ∙ c.load-served.ensures.0 ∙ w.table) refl (λ h. h ∙ sym w.shares);
      taken = subst (λ y. HasTaken g.T.Kept.history (record { inner = c.exchange.new.seat; shares = c.loop.seat.shares }) y) (sym c.of-taken.ensures)
          (record { view = _; is = e.seat; ticket = (w.ticket, refl); held = refl; seen = refl });
      value = sym c.of-taken.ensures;
      named = e.named ∙ ap g.T.Kept.name first;
      grown = extends_as _ _ _ _ refl (ap (λ m. seen_in m.0) w.was) e.grown;
      became = subst (λ y. g.T.Kept.may_become y c.unwrap-value.result) first e.became;
      seen = ap (λ m. seen_in m.0) e.seat;
      own = ap (λ m. own_in m.0) e.seat ∙ sym (ap (λ m. own_in m.0) w.was);
      shares = w.shares;
    }

pub loop-preserved : goal.loop-preserved
loop-preserved g c =
    let w = c.loop.invariant in
    let same = (c.load-served.ensures.2 (record w.view { ticket = Some w.ticket }) w.ticket (ap (λ m. m.0) w.is) refl).1 (λ h. c.if-served-ticket.false (h ∙ sym w.found_is)) in
    record {
      view = w.view;
      ticket = w.ticket;
      found_is = w.found_is;
      was = w.was;
      no_value = w.no_value;
      is = same ∙ w.is;
      table = c.load-served.ensures.0 ∙ w.table;
      shares = w.shares;
    }
