-- The number is put where a look-up finds it.

use Rattle.std.proofs.Common.{refl, arith, Result, Ok, Err}
use Rattle.std.proofs.lemmas.Option.{slice_get_within}
use Rattle.std.specs.Prelude.{OnErr}
use Rattle.name_table.proofs.Placing.{IsTable-takes, IsTable-puts, IsTable-same}
use Rattle.name_table.proofs.table.Table.place.Goals as goal

on_err : {T E : Type 0} {P : Type 0} (r : Result T E) → P → OnErr r P
on_err (Ok t) p = tt
on_err (Err e) p = p

pub overflow_add-number : goal.overflow_add-number
overflow_add-number c =
    let few = c.text-name.ensures.few in let inside = c.requires.inside in omega arith

pub index_mut-requires : goal.index_mut-requires
index_mut-requires c =
    let inside = slice_get_within c.args.self.now.slots.items c.in-Some.slot 0
    c.in-Some.ensures.some.free in
    rw c.args.self.now.slots.ok.0 inside

pub returns-in_err-insert-in-None-clause-err : goal.returns-in_err-insert-in-None-clause-err
returns-in_err-insert-in-None-clause-err c =
    on_err c.from_residual-in_err-insert-in-None.result
    (IsTable-same c.args.texts.now c.args.number c.args.self.now
    (record c.args.self.now { others = c.insert.new.self })
    c.requires.table refl refl c.in_err-insert-in-None.ensures.err)

pub returns-in-Some-clause-ok : goal.returns-in-Some-clause-ok
returns-in-Some-clause-ok c =
    let first = c.in-Some.ensures.some in
    IsTable-takes c.args.texts.now c.args.number c.args.self.now
    _ c.text-name.result.now c.in-Some.slot c.requires.table first
    (record { free = first.free; mask = refl; slots = refl; others = refl })
    c.text-name.ensures.text

pub returns-in_ok-insert-in-None-clause-ok : goal.returns-in_ok-insert-in-None-clause-ok
returns-in_ok-insert-in-None-clause-ok c =
    IsTable-puts c.args.texts.now c.args.number c.args.self.now
    (record c.args.self.now { others = c.insert.new.self })
    c.text-name.result.now c.in_ok-to_vec-in-None.field-0 c.requires.table c.in-None.ensures.none
    c.requires.distinct
    (c.in_ok-to_vec-in-None.ensures.items_if_clones_equal (λ x y e. e)) c.text-name.ensures.text
    refl refl c.in_ok-insert-in-None.ensures.entries
