use Rattle.std.proofs.Common.{◌≡◌, ℕ, zero, suc, ◌-◌, ◌<◌, ap, arith}
use Rattle.reading.specs.Readers.{Input}
use Rattle.c_syntax.specs.Scoping.{PartReader, input_from}
use Rattle.c_reading.specs.Kept.{KeptToken}
use Rattle.c_reading.specs.Cursors.{Around}
use Rattle.c_scopes.specs.Scopes.{OpenScopes}
use Rattle.reading.specs.Nesting.{nested_reader}
use Rattle.c_syntax.specs.ExpressionReaders.{whole}
use Rattle.c_syntax.specs.SimplestReaders.{assign, simplest_in}
use Rattle.c_reading.proofs.Places.{number_ahead_is}
use Rattle.std.proofs.Common.{Err, refl}
use Rattle.reading.specs.Readers.{offends}
use Rattle.c_syntax.proofs.simplest.+assign_in.Goals as goal

no_room : (n : ℕ) (i : Input KeptToken OpenScopes Around) → n ≡ 0 → assign n i ≡ Err (offends i)
unfolding assign nested_reader
no_room zero i e = refl
no_room (suc n) i e = absurd (omega (arith, e))

pub returns-then-room-eq0 : goal.returns-then-room-eq0
returns-then-room-eq0 t c =
    let source = c.args.source.now in
    rw c.refusal.ensures (input_from source, no_room c.args.room (input_from source) c.if-room-eq0.true, number_ahead_is source.cursor source.scopes)

opened : (n : ℕ) (i : Input KeptToken OpenScopes Around) → 0 < n → assign n i ≡ whole (n - 1) (simplest_in (n - 1)) i
unfolding assign nested_reader
opened zero i h = absurd (omega arith)
opened (suc n) i h = let e : n ≡ suc n - 1 = omega arith in ap (λ k. whole k (simplest_in k) i) e

pub returns : goal.returns
returns t c = rw (opened c.args.room (input_from c.args.source.now) (omega arith)) c.whole.ensures
