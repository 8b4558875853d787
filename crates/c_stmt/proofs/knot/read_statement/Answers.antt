use Rattle.std.proofs.Common.{◌≡◌, ℕ, suc, refl}
use Rattle.reading.specs.Readers.{Input}
use Rattle.reading.specs.Nesting.{nested_reader}
use Rattle.c_reading.specs.Kept.{KeptToken}
use Rattle.c_reading.specs.Cursors.{Around}
use Rattle.c_scopes.specs.Scopes.{OpenScopes}
use Rattle.c_syntax.specs.Scoping.{input_from}
use Rattle.c_stmt.specs.Below.{BelowReaders}
use Rattle.c_stmt.specs.Statements.{Name, statements, nested_in, reader_of}
use Rattle.c_stmt.proofs.knot.read_statement.Goals as goal

opened : (below : BelowReaders) (name : Name) (n : ℕ) (i : Input KeptToken OpenScopes Around) →
    nested_in below (suc n) name i ≡ reader_of below name n (nested_in below n) i
unfolding nested_reader
opened below name n i = refl

pub returns : goal.returns
returns g c = rw (opened (g.B.Below.readers c.args.below) statements c.args.room (input_from c.args.source.now)) c.statement.ensures
