use Rattle.std.proofs.Common.{ℕ, List, [], get_or, refl, subst}
use Rattle.std.proofs.lemmas.List.{take_all}
use Rattle.c_tree.specs.Jumps.{MissingLabel}
use Rattle.c_tree.specs.Lexemes.{spelling_at}
use Rattle.c_jumps.specs.Names.{Adds, IsMissingName}
use Rattle.c_jumps.proofs.Adding.{adds_none, goto_step, missing_none}
use Rattle.c_jumps.proofs.names.add_missing.Goals as goal

pub loop-token-init : goal.loop-token-init
loop-token-init c =
    let bytes_of = spelling_at c.args.kept.now in
    adds_none (IsMissingName bytes_of MissingLabel [] c.args.labels.now) c.args.faults.now (missing_none bytes_of MissingLabel c.args.labels.now)

pub loop-token-preserved : goal.loop-token-preserved
loop-token-preserved c =
    let tokens = c.args.gotos.now in
    let i = c.loop-token.token-index in
    goto_step (spelling_at c.args.kept.now) MissingLabel tokens i (get_or tokens i 0) c.args.labels.now
    c.args.faults.now c.loop-token.faults c.meet_goto.new.faults c.loop-token-test.true refl c.loop-token.invariant c.in_ok-meet_goto.ensures

pub returns : goal.returns
returns c =
    subst (λ (list : List ℕ). Adds (IsMissingName (spelling_at c.args.kept.now) MissingLabel list c.args.labels.now) c.args.faults.now c.loop-token.faults)
    (take_all c.loop-token.token-index c.args.gotos.now c.loop-token-test.false) c.loop-token.invariant
