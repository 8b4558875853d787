use Rattle.std.proofs.Common.{◌≡◌, sym, ap, ◌∙◌}
use Rattle.c_reading.proofs.Places.{number_ahead_is}
use Rattle.c_syntax.specs.Scoping.{input_from}
use Rattle.c_unit.specs.Beginnings.{is_definition_at}
use Rattle.c_unit.proofs.ReadTwice.{counts, later_given}
use Rattle.c_unit.proofs.external.Grammar.external.Goals as goal

pub returns-in-Counts : goal.returns-in-Counts
returns-in-Counts g c =
    let chosen = c.is_definition_at-definition.ensures ∙ ap (is_definition_at c.args.self.now.text.tokens.now c.args.self.now.text.kept.now) (c.at-at.ensures ∙ number_ahead_is c.args.source.cursor c.args.source.scopes) in
    let k = counts (g.B.Below.readers c.args.self.now.below) (g.B.Heads.heads c.args.self.now.below) c.args.self.now.room (is_definition_at c.args.self.now.text.tokens.now c.args.self.now.text.kept.now) (input_from c.args.source)
    c.is_definition_at-definition.result chosen c.first.result c.in-Counts.first c.first.ensures.reads c.first.ensures.kept (sym c.in-Counts.ensures) in
    record { reads = k.0; picks = k.1 }

pub returns-in-Offends : goal.returns-in-Offends
returns-in-Offends g c =
    let chosen = c.is_definition_at-definition.ensures ∙ ap (is_definition_at c.args.self.now.text.tokens.now c.args.self.now.text.kept.now) (c.at-at.ensures ∙ number_ahead_is c.args.source.cursor c.args.source.scopes) in
    let k = later_given (g.B.Below.readers c.args.self.now.below) (g.B.Heads.heads c.args.self.now.below) c.args.self.now.room (is_definition_at c.args.self.now.text.tokens.now c.args.self.now.text.kept.now) (input_from c.args.source)
    c.is_definition_at-definition.result chosen _ c.first.result c.again.result c.later.result c.in-Offends.token c.requires c.first.ensures.reads (sym c.in-Offends.ensures)
    c.again.ensures.reads c.again.ensures.kept c.later.ensures in
    record { reads = k.0; picks = k.1 }
