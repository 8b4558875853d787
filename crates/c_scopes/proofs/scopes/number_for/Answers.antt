-- The name that is added stands after the others.

use Rattle.std.proofs.Common.{◌≡◌, ◌∷◌, [], List, ℕ, sym, Ok, Err, Result, append-nil}
use Rattle.std.specs.Prelude.{IfOk, OnErr}
use Rattle.name_table.specs.Names.{AddsName, Extends}
use Rattle.std.specs.declared.alloc.AllocError.{AllocError}
use Rattle.c_scopes.proofs.scopes.number_for.Goals as goal

extends : (old new : List (List ℕ)) (name : List ℕ) (result : Result ℕ AllocError) →
    IfOk result (λ number. AddsName old new name number) → OnErr result (new ≡ old) →
    Extends old new
extends old new name (Ok number) adds same = (name ∷ [], adds.added)
extends old new name (Err e) adds same = ([], rw same (sym (append-nil old)))

pub returns-clause-extends : goal.returns-clause-extends
returns-clause-extends c =
    extends c.args.names.now c.add.new.self c.args.name.now c.add.result c.add.ensures.ok
    c.add.ensures.err
