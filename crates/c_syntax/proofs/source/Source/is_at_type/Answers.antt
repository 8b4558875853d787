use Rattle.std.proofs.Common.{◌≡◌, Bool, true, ◌||◌, refl, sym, ap, ◌∙◌}
use Rattle.reading.specs.Readers.{is_ahead}
use Rattle.c_syntax.specs.Scoping.{terminal_of, input_from}
use Rattle.c_syntax.specs.Sets.{a_type_word}
use Rattle.c_syntax.proofs.Ahead.{type_ahead, kind_ahead, nothing_ahead}
use Rattle.c_syntax.proofs.source.Source.is_at_type.Goals as goal

pub returns-then-is_at_typedef_name : goal.returns-then-is_at_typedef_name
returns-then-is_at_typedef_name c =
    sym (type_ahead c.args.self.now.cursor c.args.self.now.scopes ∙ ap (λ (b : Bool). b || is_ahead terminal_of a_type_word (input_from c.args.self.now))
    (sym c.is_at_typedef_name.ensures ∙ c.if-is_at_typedef_name.true))

pub returns-in-Some : goal.returns-in-Some
returns-in-Some c =
    (c.begins_type.ensures ∙ kind_ahead a_type_word refl c.args.self.now.cursor c.args.self.now.scopes c.in-Some.kind (sym c.in-Some.ensures))
    ∙ sym (type_ahead c.args.self.now.cursor c.args.self.now.scopes ∙ ap (λ (b : Bool). b || is_ahead terminal_of a_type_word (input_from c.args.self.now))
    (sym c.is_at_typedef_name.ensures ∙ c.if-is_at_typedef_name.false))

pub returns-in-None : goal.returns-in-None
returns-in-None c =
    nothing_ahead a_type_word refl c.args.self.now.cursor c.args.self.now.scopes (sym c.in-None.ensures)
    ∙ sym (type_ahead c.args.self.now.cursor c.args.self.now.scopes ∙ ap (λ (b : Bool). b || is_ahead terminal_of a_type_word (input_from c.args.self.now))
    (sym c.is_at_typedef_name.ensures ∙ c.if-is_at_typedef_name.false))
