use Rattle.std.proofs.Common.{◌≡◌, ℕ, zero, suc, ◌-◌, ◌<◌, ap, arith, Err, refl}
use Rattle.reading.specs.Readers.{Input, offends}
use Rattle.reading.specs.Nesting.{nested_reader}
use Rattle.c_reading.specs.Kept.{KeptToken}
use Rattle.c_reading.specs.Cursors.{Around}
use Rattle.c_reading.proofs.Places.{number_ahead_is}
use Rattle.c_scopes.specs.Scopes.{OpenScopes}
use Rattle.c_syntax.specs.Scoping.{input_from}
use Rattle.c_specifiers.specs.Inside.{InsideReaders}
use Rattle.c_heads.specs.HeadReaders as read
use Rattle.c_heads.proofs.declarators.+enclosed.Goals as goal

no_room : (readers : ℕ → InsideReaders) (n : ℕ) (i : Input KeptToken OpenScopes Around) → n ≡ 0 →
    read.enclosed_in readers n i ≡ Err (offends i)
unfolding nested_reader
no_room readers zero i e = refl
no_room readers (suc n) i e = absurd (omega (arith, e))

opened : (readers : ℕ → InsideReaders) (n : ℕ) (i : Input KeptToken OpenScopes Around) → 0 < n →
    read.enclosed_in readers n i ≡
    read.enclosed_declarator (n - 1) (readers (n - 1)) (read.enclosed_in readers (n - 1)) i
unfolding nested_reader read.enclosed_body
opened readers zero i h = absurd (omega arith)
opened readers (suc n) i h =
    let e : n ≡ suc n - 1 = omega arith in
    ap (λ k. read.enclosed_declarator k (readers k) (read.enclosed_in readers k) i) e

pub enclosed_in-returns-then-grammar-eq0 : goal.enclosed_in-returns-then-grammar-eq0
enclosed_in-returns-then-grammar-eq0 g t c =
    let source = c.args.source.now in
    rw c.refusal.ensures (
      input_from source,
      no_room (g.N.Inside.readers c.args.grammar.now.inside)
          c.args.grammar.now.room (input_from source) c.if-grammar-eq0.true,
      number_ahead_is source.cursor source.scopes,
    )

pub enclosed_in-returns : goal.enclosed_in-returns
enclosed_in-returns g t c =
    rw (opened (g.N.Inside.readers c.args.grammar.now.inside) c.args.grammar.now.room
    (input_from c.args.source.now) (omega arith)) c.enclosed_declarator.ensures
