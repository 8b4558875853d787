use Rattle.std.proofs.Common.{◌≡◌, ℕ, zero, suc, ◌-◌, ◌+◌, ◌<◌, ap, sym, ◌∙◌, arith, Err, refl}
use Rattle.reading.specs.Readers.{Input, offends}
use Rattle.reading.specs.Nesting.{nested_reader}
use Rattle.c_reading.specs.Kept.{KeptToken}
use Rattle.c_reading.specs.Cursors.{Around}
use Rattle.c_reading.proofs.Places.{number_ahead_is}
use Rattle.c_scopes.specs.Scopes.{OpenScopes}
use Rattle.c_syntax.specs.Scoping.{input_from}
use Rattle.c_syntax.specs.ExpressionReaders.{formed}
use Rattle.c_syntax.specs.declared.forms.AssignForm.{AssignForm}
use Rattle.c_syntax.specs.declared.forms.AssignForm.TheVariants.{Whole, Constant}
use Rattle.c_declarations.specs.DeclarationReaders.{member}
use Rattle.c_declarations.specs.InitialiserReaders.{item}
use Rattle.c_parts.specs.PartNames.{PartName, assigns, type_names, params, members, groups, items}
use Rattle.c_parts.specs.PartNames.{inner_readers_of, inside_readers_of}
use Rattle.c_parts.specs.PartReaders.{body, part}
use Rattle.c_parts.proofs.knot.+knot.Goals as goal

no_room : (name : PartName) (n : ℕ) (i : Input KeptToken OpenScopes Around) → n ≡ 0 → part n name i ≡ Err (offends i)
unfolding nested_reader
no_room name zero i e = refl
no_room name (suc n) i e = absurd (omega (arith, e))

opened : (name : PartName) (n : ℕ) (i : Input KeptToken OpenScopes Around) → 0 < n →
    part n name i ≡ body name (n - 1) (part (n - 1)) i
unfolding nested_reader
opened name zero i h = absurd (omega arith)
opened name (suc n) i h = let e : n ≡ suc n - 1 = omega arith in ap (λ k. body name k (part k) i) e

-- An assignment expression on the level.
on_level : (form : AssignForm) (n : ℕ) → part (n + 1) (assigns form) ≡ formed n (inner_readers_of (part n)) form
unfolding nested_reader body
on_level form n = let e : n + 1 ≡ suc n = omega arith in ap (λ k. part k (assigns form)) e

opened_member : (n : ℕ) (i : Input KeptToken OpenScopes Around) → 0 < n →
    part n members i ≡ member (n - 1) (inside_readers_of (part (n - 1))) (part (n - 1 + 1) (assigns Constant)) i
unfolding body
opened_member n i h = opened members n i h
    ∙ ap (λ value. member (n - 1) (inside_readers_of (part (n - 1))) value i) (sym (on_level Constant (n - 1)))

opened_item : (n : ℕ) (i : Input KeptToken OpenScopes Around) → 0 < n →
    part n items i ≡ item (n - 1) (inside_readers_of (part (n - 1))) (part (n - 1 + 1) (assigns Whole)) i
unfolding body
opened_item n i h = opened items n i h
    ∙ ap (λ value. item (n - 1) (inside_readers_of (part (n - 1))) value i) (sym (on_level Whole (n - 1)))

pub assign_in-returns-then-room-eq0 : goal.assign_in-returns-then-room-eq0
assign_in-returns-then-room-eq0 t c =
    let source = c.args.source.now in
    rw c.refusal.ensures (input_from source, no_room (assigns c.args.form) c.args.room (input_from source) c.if-room-eq0.true, number_ahead_is source.cursor source.scopes)

pub assign_in-returns : goal.assign_in-returns
unfolding body
assign_in-returns t c = rw (opened (assigns c.args.form) c.args.room (input_from c.args.source.now) (omega arith)) c.formed.ensures

pub type_name_in-returns-then-room-eq0 : goal.type_name_in-returns-then-room-eq0
type_name_in-returns-then-room-eq0 t c =
    let source = c.args.source.now in
    rw c.refusal.ensures (input_from source, no_room type_names c.args.room (input_from source) c.if-room-eq0.true, number_ahead_is source.cursor source.scopes)

pub type_name_in-returns : goal.type_name_in-returns
unfolding body
type_name_in-returns t c = rw (opened type_names c.args.room (input_from c.args.source.now) (omega arith)) c.type_name.ensures

pub param_in-returns-then-room-eq0 : goal.param_in-returns-then-room-eq0
param_in-returns-then-room-eq0 t c =
    let source = c.args.source.now in
    rw c.refusal.ensures (input_from source, no_room params c.args.room (input_from source) c.if-room-eq0.true, number_ahead_is source.cursor source.scopes)

pub param_in-returns : goal.param_in-returns
unfolding body
param_in-returns t c = rw (opened params c.args.room (input_from c.args.source.now) (omega arith)) c.param.ensures

pub member_in-returns-then-room-eq0 : goal.member_in-returns-then-room-eq0
member_in-returns-then-room-eq0 t c =
    let source = c.args.source.now in
    rw c.refusal.ensures (input_from source, no_room members c.args.room (input_from source) c.if-room-eq0.true, number_ahead_is source.cursor source.scopes)

pub member_in-returns : goal.member_in-returns
member_in-returns t c = rw (opened_member c.args.room (input_from c.args.source.now) (omega arith)) c.member.ensures

pub group_in-returns-then-room-eq0 : goal.group_in-returns-then-room-eq0
group_in-returns-then-room-eq0 t c =
    let source = c.args.source.now in
    rw c.refusal.ensures (input_from source, no_room (groups c.args.naming) c.args.room (input_from source) c.if-room-eq0.true, number_ahead_is source.cursor source.scopes)

pub group_in-returns : goal.group_in-returns
unfolding body
group_in-returns t c = rw (opened (groups c.args.naming) c.args.room (input_from c.args.source.now) (omega arith)) c.grouped.ensures

pub item_in-returns-then-room-eq0 : goal.item_in-returns-then-room-eq0
item_in-returns-then-room-eq0 t c =
    let source = c.args.source.now in
    rw c.refusal.ensures (input_from source, no_room items c.args.room (input_from source) c.if-room-eq0.true, number_ahead_is source.cursor source.scopes)

pub item_in-returns : goal.item_in-returns
item_in-returns t c = rw (opened_item c.args.room (input_from c.args.source.now) (omega arith)) c.item.ensures
