use Rattle.std.proofs.Common.{◌≡◌, ℕ, zero, suc, ◌-◌, ◌<◌, ap, arith, Err, refl}
use Rattle.reading.specs.Readers.{Input, offends}
use Rattle.reading.specs.Nesting.{nested_reader}
use Rattle.c_reading.specs.Kept.{KeptToken}
use Rattle.c_reading.specs.Cursors.{Around}
use Rattle.c_reading.proofs.Places.{number_ahead_is}
use Rattle.c_scopes.specs.Scopes.{OpenScopes}
use Rattle.c_syntax.specs.Scoping.{input_from}
use Rattle.c_stmt.specs.Below.{BelowReaders}
use Rattle.c_stmt.specs.StatementReaders as read
use Rattle.c_stmt.specs.Statements.{Name, items, statements, nested_in, reader_of, readers_of}
use Rattle.c_stmt.proofs.knot.+knot.Goals as goal

no_room : (below : BelowReaders) (name : Name) (n : ℕ) (i : Input KeptToken OpenScopes Around) → n ≡ 0 → nested_in below n name i ≡ Err (offends i)
unfolding nested_reader
no_room below name zero i e = refl
no_room below name (suc n) i e = absurd (omega (arith, e))

opened : (below : BelowReaders) (name : Name) (n : ℕ) (i : Input KeptToken OpenScopes Around) → 0 < n →
    nested_in below n name i ≡ reader_of below name (n - 1) (nested_in below (n - 1)) i
unfolding nested_reader
opened below name zero i h = absurd (omega arith)
opened below name (suc n) i h = let e : n ≡ suc n - 1 = omega arith in ap (λ k. reader_of below name k (nested_in below k) i) e

pub item_in-returns-then-room-eq0 : goal.item_in-returns-then-room-eq0
item_in-returns-then-room-eq0 g t c =
    let source = c.args.source.now in
    rw c.refusal.ensures (input_from source, no_room (g.B.Below.readers c.args.below) items c.args.room (input_from source) c.if-room-eq0.true, number_ahead_is source.cursor source.scopes)

pub item_in-returns : goal.item_in-returns
item_in-returns g t c = rw (opened (g.B.Below.readers c.args.below) items c.args.room (input_from c.args.source.now) (omega arith)) c.item.ensures

pub statement_in-returns-then-room-eq0 : goal.statement_in-returns-then-room-eq0
statement_in-returns-then-room-eq0 g t c =
    let source = c.args.source.now in
    rw c.refusal.ensures (input_from source, no_room (g.B.Below.readers c.args.below) statements c.args.room (input_from source) c.if-room-eq0.true, number_ahead_is source.cursor source.scopes)

pub statement_in-returns : goal.statement_in-returns
statement_in-returns g t c = rw (opened (g.B.Below.readers c.args.below) statements c.args.room (input_from c.args.source.now) (omega arith)) c.statement.ensures
