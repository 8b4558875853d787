use Rattle.std.proofs.Common.{rules, ◌≡◌, ◌+◌, ◌-◌, Bool, true, false, List, [], ◌∷◌, ◌++◌, sym, ap, ◌∙◌, arith}
use Rattle.std.proofs.lemmas.Grind.{common_steps}
use Rattle.c_tree.specs.declared.tree.Item.{Item}
use Rattle.reading.specs.Readers.{go_on, many, is_ahead}
use Rattle.reading.proofs.Turns.{one_turn, no_turn}
use Rattle.c_syntax.specs.Scoping.{input_from, terminal_of}
use Rattle.c_unit.specs.Beginnings.{is_definition_at}
use Rattle.c_unit.specs.Replays.{replays}
use Rattle.c_unit.specs.Texts.{beginning_of}
use Rattle.c_unit.specs.UnitSets.{begins_external}
use Rattle.c_unit.specs.UnitReaders.{all_items}
use Rattle.c_unit.proofs.Replaying.{one_more}
use Rattle.c_unit.proofs.ItemByItem.{items_on, no_item, next_item, taken_stops, no_turn_is_left}
use Rattle.c_unit.proofs.external.Grammar.all_items.Goals as goal

pub loop-turn-init : goal.loop-turn-init
unfolding all_items many replays
loop-turn-init g c = first_of (search rules, grind (arith, common_steps))

pub external-requires : goal.external-requires
external-requires g c =
    ap (λ (d : List Bool). replays (g.B.Below.readers c.args.self.now.below) (g.B.Heads.heads c.args.self.now.below) c.args.self.now.room d (beginning_of c.args.self.now.text.bytes.now c.args.self.now.text.tokens.now c.args.self.now.text.kept.now)) c.deref.ensures.value
    ∙ c.loop-turn.invariant.replayed

pub loop-turn-preserved : goal.loop-turn-preserved
loop-turn-preserved g c =
    let i = c.loop-turn in
    let taken = c.in_ok-item.field-0 in
    let e = one_turn (λ n. items_on (g.B.Below.readers c.args.self.now.below) (g.B.Heads.heads c.args.self.now.below) c.args.self.now.room (is_definition_at c.args.self.now.text.tokens.now c.args.self.now.text.kept.now) n i.list (input_from i.source))
    _ i._turn c.loop-turn-test.true i.invariant.all in
    let ahead : is_ahead terminal_of begins_external (input_from i.source) ≡ true = cc (c.is_at_external.ensures, c.if-not-is_at_external.false) in
    let pushed : c.push.new.self ≡ i.list ++ taken.item ∷ [] = cc (c.in_ok-push.ensures.ok, c.in_ok-item.item-is) in
    let noted : c.push-in-loop-turn.new.self.items ≡ i.definitions.items ++ taken.definition ∷ [] = cc (c.in_ok-push-2.ensures.items, c.in_ok-item.definition-is) in
    record {
      all = next_item (g.B.Below.readers c.args.self.now.below) (g.B.Heads.heads c.args.self.now.below) c.args.self.now.room (is_definition_at c.args.self.now.text.tokens.now c.args.self.now.text.kept.now) (c.left-turn-end.result - (i._turn + 1)) i.list (input_from i.source) e
          taken.item (input_from taken.source) ahead c.in_ok-item.ensures.reads
          ∙ ap (λ (l : List Item). items_on (g.B.Below.readers c.args.self.now.below) (g.B.Heads.heads c.args.self.now.below) c.args.self.now.room (is_definition_at c.args.self.now.text.tokens.now c.args.self.now.text.kept.now) (c.left-turn-end.result - (i._turn + 1)) l (input_from taken.source)) (sym pushed);
      replayed = ap (λ (d : List Bool). replays (g.B.Below.readers c.args.self.now.below) (g.B.Heads.heads c.args.self.now.below) c.args.self.now.room d (beginning_of c.args.self.now.text.bytes.now c.args.self.now.text.tokens.now c.args.self.now.text.kept.now)) noted
          ∙ one_more (g.B.Below.readers c.args.self.now.below) (g.B.Heads.heads c.args.self.now.below) c.args.self.now.room i.definitions.items taken.definition (beginning_of c.args.self.now.text.bytes.now c.args.self.now.text.tokens.now c.args.self.now.text.kept.now) (input_from i.source) (input_from taken.source) taken.item i.invariant.replayed c.in_ok-item.ensures.picks;
    }

pub returns : goal.returns
returns g c =
    let i = c.loop-turn in
    no_turn (λ n. items_on (g.B.Below.readers c.args.self.now.below) (g.B.Heads.heads c.args.self.now.below) c.args.self.now.room (is_definition_at c.args.self.now.text.tokens.now c.args.self.now.text.kept.now) n i.list (input_from i.source)) _ i._turn c.loop-turn-test.false i.invariant.all
    ∙ no_turn_is_left (g.B.Below.readers c.args.self.now.below) (g.B.Heads.heads c.args.self.now.below) c.args.self.now.room (is_definition_at c.args.self.now.text.tokens.now c.args.self.now.text.kept.now) i.list (input_from i.source)

pub returns-then-not-is_at_external : goal.returns-then-not-is_at_external
returns-then-not-is_at_external g c =
    let i = c.loop-turn in
    let e = one_turn (λ n. items_on (g.B.Below.readers c.args.self.now.below) (g.B.Heads.heads c.args.self.now.below) c.args.self.now.room (is_definition_at c.args.self.now.text.tokens.now c.args.self.now.text.kept.now) n i.list (input_from i.source))
    _ i._turn c.loop-turn-test.true i.invariant.all in
    let none : is_ahead terminal_of begins_external (input_from i.source) ≡ false = cc (c.is_at_external.ensures, c.if-not-is_at_external.true) in
    no_item (g.B.Below.readers c.args.self.now.below) (g.B.Heads.heads c.args.self.now.below) c.args.self.now.room (is_definition_at c.args.self.now.text.tokens.now c.args.self.now.text.kept.now) (c.left-turn-end.result - (i._turn + 1)) i.list (input_from i.source) e none

pub returns-in_err-item : goal.returns-in_err-item
returns-in_err-item g c =
    let i = c.loop-turn in
    let e = one_turn (λ n. items_on (g.B.Below.readers c.args.self.now.below) (g.B.Heads.heads c.args.self.now.below) c.args.self.now.room (is_definition_at c.args.self.now.text.tokens.now c.args.self.now.text.kept.now) n i.list (input_from i.source))
    _ i._turn c.loop-turn-test.true i.invariant.all in
    let ahead : is_ahead terminal_of begins_external (input_from i.source) ≡ true = cc (c.is_at_external.ensures, c.if-not-is_at_external.false) in
    let k = taken_stops (g.B.Below.readers c.args.self.now.below) (g.B.Heads.heads c.args.self.now.below) c.args.self.now.room (is_definition_at c.args.self.now.text.tokens.now c.args.self.now.text.kept.now) (c.left-turn-end.result - (i._turn + 1)) i.list (input_from i.source) e
    c.external.result _ ahead c.external.ensures.reads c.in_err-item.was in
    first_of (search (rules, k), grind (arith, common_steps, k))
