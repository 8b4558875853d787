use Rattle.std.proofs.Common.{◌≡◌, ℕ, ◌+◌, ◌<◌, length, drop, Ok, sym, ap, ◌∙◌, arith}
use Rattle.c_reading.specs.Kept.{kept_lexemes}
use Rattle.c_reading.specs.Cursors.{Place, place_of, input_of, number_of}
use Rattle.reading.specs.Readers.{take}
use Rattle.c_reading.proofs.Places.{none_left, some_left, number_ahead_is, take_at_end, take_too_deep, taken}
use Rattle.c_reading.proofs.cursor.Cursor.take.Goals as goal

pub returns-then-self : goal.returns-then-self
returns-then-self c =
    let i = c.self.inside in
    let e = c.if-self.true in
    let none = none_left i.bytes.now i.tokens.now i.kept.now i.at c.self.invariant.2 (omega (arith, e)) in (
      input_of c.args.self.now,
      take_at_end c.args.room c.args.self.now tt (sym (ap (λ (p : Place). p.left) c.self.view_is) ∙ none),
      c.at-number.ensures ∙ number_ahead_is c.args.self.now tt,
    )

pub returns-then-room-eq0 : goal.returns-then-room-eq0
returns-then-room-eq0 c =
    let i = c.self.inside in
    let e = c.if-self.false in
    let within : i.at < length i.kept.now = let n = c.self.invariant.0 in omega (arith, e) in
    let some = some_left i.bytes.now i.tokens.now i.kept.now i.at c.self.invariant.2 within in (
      input_of c.args.self.now,
      take_too_deep c.args.room c.args.self.now tt _ _ c.if-room-eq0.true (sym (ap (λ (p : Place). p.left) c.self.view_is) ∙ some.1),
      c.at-number.ensures ∙ number_ahead_is c.args.self.now tt,
    )

pub returns : goal.returns
returns c =
    let i = c.self.inside in
    let e = c.if-self.false in
    let within : i.at < length i.kept.now = let n = c.self.invariant.0 in omega (arith, e) in
    let some = some_left i.bytes.now i.tokens.now i.kept.now i.at c.self.invariant.2 within in
    let empty = c.if-room-eq0.false in
    let lexemes = kept_lexemes i.bytes.now i.tokens.now i.kept.now in
    let next : Place = record { at = i.at + 1; left = drop (i.at + 1) lexemes; level = i.level } in
    let at : i.at ≡ c.at-number.result = ap (λ (p : Place). p.at) c.self.view_is ∙ sym c.at-number.ensures in
    ap (λ (p : Place). take number_of c.args.room (input_of p)) (sym c.self.view_is) ∙
    (taken c.args.room (place_of lexemes i.at i.level) tt some.0 (drop (i.at + 1) lexemes) (omega (arith, empty)) some.1 ∙
    ap (λ (n : ℕ). Ok (n, input_of next)) at)
