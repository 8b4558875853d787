use Rattle.std.proofs.Common.{◌≡◌, ◌-◌, [], ◌∷◌}
use Rattle.c_reading.specs.Terminals.{TEXT, mark}
use Rattle.c_lexer.specs.declared.mark.TheConstants.{MARK_COMMA, MARK_QUESTION, MARK_STAR}
use Rattle.reading.specs.Readers.{go_on, many}
use Rattle.c_syntax.specs.Scoping.{terminal_of, input_from}
use Rattle.c_syntax.specs.Sets.{a_suffix, a_binary, a_basic_type}
use Rattle.c_syntax.specs.ExpressionReaders.{all_arms, more_arms}
use Rattle.c_syntax.proofs.grammar.Grammar.all_arms.Given as goal

abbrev pub invariant-loop-turn : goal.invariant-loop-turn
invariant-loop-turn g l =
    all_arms l.self.room (g.N.Inner.readers l.self.inner l.self.room) l.fn.arms (input_from l.fn.source)
    ≡ go_on terminal_of (mark MARK_QUESTION ∷ []) (more_arms l.self.room (g.N.Inner.readers l.self.inner l.self.room)) (l._turn-end - l._turn) l.arms (input_from l.source)
