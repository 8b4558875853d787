use Rattle.std.proofs.Common.{rules, ◌<◌, length, sym, ◌∙◌, arith}
use Rattle.std.proofs.lemmas.Grind.{common_steps}
use Rattle.c_reading.proofs.Places.{number_ahead_is}
use Rattle.c_syntax.specs.Scoping.{input_from}
use Rattle.c_unit.specs.Beginnings.{is_definition_at}
use Rattle.c_unit.specs.Texts.{beginning_of}
use Rattle.c_unit.proofs.ItemByItem.{file_ends, file_goes_on, items_stop}
use Rattle.c_unit.proofs.external.Grammar.file.Goals as goal

pub returns-in_err-list : goal.returns-in_err-list
returns-in_err-list g c =
    let k = items_stop (g.B.Below.readers c.args.self.now.below) (g.B.Heads.heads c.args.self.now.below) c.args.self.now.room (is_definition_at c.args.self.now.text.tokens.now c.args.self.now.text.kept.now) (beginning_of c.args.self.now.text.bytes.now c.args.self.now.text.tokens.now c.args.self.now.text.kept.now)
    c.all_items.result _ c.all_items.ensures c.in_err-list.was in
    first_of (search (rules, k), grind (arith, common_steps, k))

pub returns-then-left-eq0 : goal.returns-then-left-eq0
returns-then-left-eq0 g c =
    let taken = c.in_ok-list.field-0 in (
      input_from taken.source,
      file_ends (g.B.Below.readers c.args.self.now.below) (g.B.Heads.heads c.args.self.now.below) c.args.self.now.room (is_definition_at c.args.self.now.text.tokens.now c.args.self.now.text.kept.now) (beginning_of c.args.self.now.text.bytes.now c.args.self.now.text.tokens.now c.args.self.now.text.kept.now)
          taken.list (input_from taken.source) c.in_ok-list.ensures (sym c.left.ensures ∙ c.if-left-eq0.true),
    )

pub returns-else-left-eq0 : goal.returns-else-left-eq0
returns-else-left-eq0 g c =
    let taken = c.in_ok-list.field-0 in
    let more : 0 < length (input_from taken.source).tokens = omega (arith, c.left.ensures, c.if-left-eq0.false) in
    rw c.refusal.ensures (
      input_from taken.source,
      file_goes_on (g.B.Below.readers c.args.self.now.below) (g.B.Heads.heads c.args.self.now.below) c.args.self.now.room (is_definition_at c.args.self.now.text.tokens.now c.args.self.now.text.kept.now) (beginning_of c.args.self.now.text.bytes.now c.args.self.now.text.tokens.now c.args.self.now.text.kept.now)
          taken.list (input_from taken.source) c.in_ok-list.ensures more,
      number_ahead_is taken.source.cursor taken.source.scopes,
    )
