-- What a look-up finds has the name, and where it finds nothing no number has it.

use Rattle.std.proofs.Common.{◌≡◌, ◌≢◌, ◌∙◌, ◌+◌, ℕ, List, sym, arith, Some, None, Option}
use Rattle.std.proofs.Common.{slice_get, false, refl}
use Rattle.std.specs.Prelude.{IfSome, IfNone}
use Rattle.std.specs.Str.{bytes_eq}
use Rattle.std.proofs.lemmas.Option.{same_Some}
use Rattle.std.proofs.lemmas.Slice.Eq.{bytes_eq-Decides}
use Rattle.name_table.proofs.Placing.{read_slot, read_free, passes, absent_at_free}
use Rattle.name_table.proofs.Placing.{absent_at_end}
use Rattle.name_table.proofs.table.Table.number_of.Goals as goal

on_none : {A P : Type 0} (o : Option A) → P → IfNone o P
on_none None p = p
on_none (Some x) p = tt

when_none : {A P : Type 0} (o : Option A) → (o ≡ None → P) → IfNone o P
when_none None p = p refl
when_none (Some x) p = tt

when_some : {A : Type 0} {P : A → Type 0} (o : Option A) → ((x : A) → o ≡ Some x → P x) → IfSome o P
when_some None p = tt
when_some (Some x) p = p x refl

-- a text that the test tells from the name is another one
another : (names : List (List ℕ)) (text name : List ℕ) (number : ℕ) →
    slice_get names number ≡ Some text → false ≡ bytes_eq text name →
    slice_get names number ≢ Some name
another names text name number stands differs named =
    let same = same_Some text name (sym stands ∙ named) in
    let equal = (bytes_eq-Decides text name).1 same in cc

pub returns-in_err-number-clause-none : goal.returns-in_err-number-clause-none
returns-in_err-number-clause-none c =
    let table = c.args.self.now in
    let slot = c.loop-slot.slot in
    let inside = c.loop-slot-test.true in
    let end = c.min-slot-end.ensures in
    let count = c.len.ensures in
    let free = read_free table.slots.items c.len.result slot c.index.result.now
    (c.len.ensures ∙ table.slots.ok.0) (omega arith) c.index.ensures c.in_err-number.ensures in
    on_none c.from_residual.result (absent_at_free c.args.texts.now table c.args.name.now slot
    c.requires (record {
      from = rw (sym c.home-home.ensures.is) c.loop-slot.auto.slot;
      to = rw (sym c.home-home.ensures.is) (omega arith);
    }) free c.loop-slot.invariant.taken c.loop-slot.invariant.absent)

pub text-requires : goal.text-requires
text-requires c =
    let table = c.args.self.now in
    let slot = c.loop-slot.slot in
    let inside = c.loop-slot-test.true in
    let end = c.min-slot-end.ensures in
    let count = c.len.ensures in
    let there = read_slot table.slots.items c.len.result slot c.index.result.now
    c.in_ok-number.number (c.len.ensures ∙ table.slots.ok.0) (omega arith) c.index.ensures
    c.in_ok-number.ensures.0 c.in_ok-number.ensures.1 in
    let below = c.requires.below slot (c.in_ok-number.number + 1) there in omega arith

pub loop-slot-preserved : goal.loop-slot-preserved
loop-slot-preserved c =
    let table = c.args.self.now in
    let slot = c.loop-slot.slot in
    let inside = c.loop-slot-test.true in
    let end = c.min-slot-end.ensures in
    let count = c.len.ensures in
    let there = read_slot table.slots.items c.len.result slot c.index.result.now
    c.in_ok-number.number (c.len.ensures ∙ table.slots.ok.0) (omega arith) c.index.ensures
    c.in_ok-number.ensures.0 c.in_ok-number.ensures.1 in
    let passed = passes c.args.texts.now table c.args.name.now slot c.in_ok-number.number there
    (another c.args.texts.now c.text.result.now c.args.name.now c.in_ok-number.number
    c.text.ensures.text c.if-eq.ensures) c.loop-slot.invariant.taken c.loop-slot.invariant.absent in
    record { home = c.loop-slot.invariant.home; taken = passed.0; absent = passed.1 }

pub returns-clause-number : goal.returns-clause-number
returns-clause-number c = when_some c.copied.result (λ number is.
    (c.requires.found c.args.name.now number
    (sym c.get.ensures.value ∙ sym c.copied.ensures ∙ is)).1)

pub returns-clause-none : goal.returns-clause-none
returns-clause-none c =
    let table = c.args.self.now in
    let past = c.loop-slot-test.false in
    let end = c.min-slot-end.ensures in
    let count = c.len.ensures ∙ table.slots.ok.0 in
    let home = c.home-home.ensures.is in
    when_none c.copied.result (λ is. absent_at_end c.args.texts.now table c.args.name.now
    c.loop-slot.slot c.requires (rw (sym count, sym home) (omega arith))
    (sym c.get.ensures.value ∙ sym c.copied.ensures ∙ is) c.loop-slot.invariant.absent)
