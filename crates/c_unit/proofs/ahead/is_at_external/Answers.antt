use Rattle.std.proofs.Common.{refl, sym, ◌∙◌}
use Rattle.c_syntax.specs.Scoping.{input_from}
use Rattle.c_syntax.proofs.Ahead.{kind_ahead, nothing_ahead}
use Rattle.c_unit.specs.UnitSets.{a_declaration_word}
use Rattle.c_unit.proofs.AheadOfFiles.{external_by_a_type, external_by_a_word}
use Rattle.c_unit.proofs.ahead.is_at_external.Goals as goal

pub returns-then-is_at_type : goal.returns-then-is_at_type
returns-then-is_at_type c = external_by_a_type (input_from c.args.source.now) (sym c.is_at_type.ensures ∙ c.if-is_at_type.true)

pub returns-in-Some : goal.returns-in-Some
returns-in-Some c =
    (c.is_declaration_word.ensures ∙ kind_ahead a_declaration_word refl c.args.source.now.cursor c.args.source.now.scopes c.in-Some.kind (sym c.in-Some.ensures))
    ∙ external_by_a_word (input_from c.args.source.now) (sym c.is_at_type.ensures ∙ c.if-is_at_type.false)

pub returns-in-None : goal.returns-in-None
returns-in-None c =
    nothing_ahead a_declaration_word refl c.args.source.now.cursor c.args.source.now.scopes (sym c.in-None.ensures)
    ∙ external_by_a_word (input_from c.args.source.now) (sym c.is_at_type.ensures ∙ c.if-is_at_type.false)
