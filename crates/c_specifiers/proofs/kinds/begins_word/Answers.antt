use Rattle.std.proofs.Common.{sym, ◌∙◌}
use Rattle.c_reading.specs.Terminals.{terminal}
use Rattle.c_specifiers.proofs.Unions.{word_by_specifier, word_by_modifier, word_by_atomic}
use Rattle.c_specifiers.proofs.kinds.begins_word.Goals as goal

pub returns-then-begins_specifier : goal.returns-then-begins_specifier
returns-then-begins_specifier c = word_by_specifier c.args.place (terminal c.args.kind) (sym c.begins_specifier.ensures ∙ c.if-begins_specifier.true)

pub returns-then-begins_modifier : goal.returns-then-begins_modifier
returns-then-begins_modifier c =
    word_by_modifier c.args.place (terminal c.args.kind) (sym c.begins_specifier.ensures ∙ c.if-begins_specifier.false)
    (sym c.begins_modifier.ensures ∙ c.if-begins_modifier.true)

pub returns : goal.returns
returns c =
    c.is_atomic.ensures ∙ word_by_atomic c.args.place (terminal c.args.kind) (sym c.begins_specifier.ensures ∙ c.if-begins_specifier.false)
    (sym c.begins_modifier.ensures ∙ c.if-begins_modifier.false)
