use Rattle.std.proofs.Common.{◌≡◌, ◌-◌, [], ◌∷◌}
use Rattle.c_reading.specs.Terminals.{TEXT, mark}
use Rattle.c_lexer.specs.declared.mark.TheConstants.{MARK_COMMA, MARK_QUESTION, MARK_STAR}
use Rattle.reading.specs.Readers.{go_on, many}
use Rattle.c_syntax.specs.Scoping.{terminal_of, input_from}
use Rattle.c_syntax.specs.Sets.{a_suffix, a_binary, a_basic_type}
use Rattle.c_syntax.specs.TypeNameReaders.{more_words, one_more_word}
use Rattle.c_syntax.proofs.type_name.more_words.Given as goal

abbrev pub invariant-loop-turn : goal.invariant-loop-turn
invariant-loop-turn l =
    more_words l.room l.fn.words (input_from l.fn.source)
    ≡ go_on terminal_of a_basic_type (one_more_word l.room) (l._turn-end - l._turn) l.words (input_from l.source)
