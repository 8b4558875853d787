use Rattle.std.proofs.Common.{rules, arith, [], ◌∷◌}
use Rattle.reading.specs.Readers.{go_on, many}
use Rattle.c_syntax.specs.Scoping.{terminal_of, input_from}
use Rattle.c_reading.specs.Terminals.{mark}
use Rattle.c_lexer.specs.declared.mark.TheConstants.{MARK_STAR}
use Rattle.c_declarators.specs.DeclaratorReaders.{all_pointers, pointer}
use Rattle.std.proofs.lemmas.Grind.{common_steps}
use Rattle.reading.proofs.Turns.{one_turn, no_turn}
use Rattle.c_declarators.proofs.arrays.all_pointers.Goals as goal

pub loop-turn-init : goal.loop-turn-init
unfolding all_pointers many
loop-turn-init c = first_of (search rules, grind (arith, common_steps))

pub returns-then-not-is_at_mark : goal.returns-then-not-is_at_mark
unfolding go_on
returns-then-not-is_at_mark c =
    let e = one_turn (λ n. go_on terminal_of (mark MARK_STAR ∷ []) (pointer c.args.room) n c.loop-turn.pointing (input_from c.loop-turn.source)) _ c.loop-turn._turn c.loop-turn-test.true c.loop-turn.invariant in
    first_of (search rules, grind (arith, common_steps))

pub returns-in_err-pointing : goal.returns-in_err-pointing
unfolding go_on
returns-in_err-pointing c =
    let e = one_turn (λ n. go_on terminal_of (mark MARK_STAR ∷ []) (pointer c.args.room) n c.loop-turn.pointing (input_from c.loop-turn.source)) _ c.loop-turn._turn c.loop-turn-test.true c.loop-turn.invariant in
    first_of (search rules, grind (arith, common_steps))

pub loop-turn-preserved : goal.loop-turn-preserved
unfolding go_on
loop-turn-preserved c =
    let e = one_turn (λ n. go_on terminal_of (mark MARK_STAR ∷ []) (pointer c.args.room) n c.loop-turn.pointing (input_from c.loop-turn.source)) _ c.loop-turn._turn c.loop-turn-test.true c.loop-turn.invariant in
    first_of (search rules, grind (arith, common_steps))

pub returns : goal.returns
unfolding go_on
returns c =
    let e = no_turn (λ n. go_on terminal_of (mark MARK_STAR ∷ []) (pointer c.args.room) n c.loop-turn.pointing (input_from c.loop-turn.source)) _ c.loop-turn._turn c.loop-turn-test.false c.loop-turn.invariant in
    first_of (search rules, grind (arith, common_steps))
