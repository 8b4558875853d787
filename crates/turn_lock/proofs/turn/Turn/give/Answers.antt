use Rattle.std.proofs.Common.{◌∷◌, ◌++◌, Some, None, arith, ap, sym, refl, ◌∙◌, subst}
use Rattle.atomic_table.specs.Table.{rest}
use Rattle.turn_lock.specs.Entries.{added, Extends}
use Rattle.turn_lock.specs.Views.{own_in, seen_in}
use Rattle.turn_lock.proofs.Seats.{first_as, still_of}
use Rattle.turn_lock.proofs.Steps.{passes_at}
use Rattle.turn_lock.proofs.turn.Turn.give.Goals as goal

pub exchange-before-requires : goal.exchange-before-requires
exchange-before-requires g c =
    let at = ap (λ m. m.1) c.requires.taken.is in
    (c.requires.turn.table, (None, at ∙ ap (λ l. (0, None) ∷ rest l) (sym at)))

pub fetch_add-served-requires : goal.fetch_add-served-requires
fetch_add-served-requires g c =
    let sized = c.args.self.now.sized in
    let taken = c.requires.taken in
    let put = c.exchange-before.ensures in
    let value = c.args.held.value in
    let old = c.args.held.taken.value in
    let is = put.3 ∙ ap (λ m. (m.0, (0, Some value) ∷ rest m.1)) taken.is in
    let first = first_as _ _ taken.view _ c.requires.turn taken.is in (
      put.0 ∙ c.requires.turn.table,
      omega (arith, sized.0),
      passes_at g.T.Kept.name g.T.Kept.history g.T.Kept.may_become _ _ _ _ taken.ticket.0 _ taken.view old value sized.1 is taken.ticket.1 taken.held
          (c.requires.named ∙ ap g.T.Kept.name (sym first)) (subst (Extends (g.T.Kept.history value)) (sym taken.seen) c.requires.grown)
          (λ so_far. g.met.T.Kept.may_go_on _ old value so_far c.requires.becomes),
    )

pub returns : goal.returns
returns g c =
    let taken = c.requires.taken in
    let put = c.exchange-before.ensures in
    let value = c.args.held.value in
    let is = put.3 ∙ ap (λ m. (m.0, (0, Some value) ∷ rest m.1)) taken.is in
    let passed = c.fetch_add-served.ensures.2 taken.view value (ap (λ m. m.0) is) (ap (λ m. m.1) is) in
    record {
      turn = still_of _ _ _ taken.view _ _ _ c.requires.turn taken.is passed (c.fetch_add-served.ensures.0 ∙ put.0) refl (λ h. h);
      free = record { view = _; is = passed; no_ticket = refl; no_value = refl };
      seen = ap (λ m. seen_in m.0) passed;
      own = ap (λ m. own_in m.0) passed ∙ ap (λ m. own_in m.0 ++ added (seen_in m.0) (g.T.Kept.history value)) (sym taken.is);
      shares = refl;
    }
