use Rattle.std.proofs.Common.{ℕ, List, [], get_or, refl, subst}
use Rattle.std.proofs.lemmas.List.{take_all}
use Rattle.c_tree.specs.Lexemes.{spelling_at}
use Rattle.c_jumps.specs.Faults.{fault_of}
use Rattle.c_jumps.specs.Names.{Adds, AreNamesOf, IsSecondName}
use Rattle.c_jumps.proofs.Adding.{adds_none, name_step, no_names, second_none}
use Rattle.c_jumps.proofs.names.add_seconds.Goals as goal

pub loop-token-init : goal.loop-token-init
loop-token-init c =
    let bytes_of = spelling_at c.args.kept.now in
    let fault = fault_of c.args.fault in
    record {
      names = no_names bytes_of c.new-names.result c.new-names.ensures;
      adds = adds_none (IsSecondName bytes_of fault []) c.args.faults.now (second_none bytes_of fault);
    }

pub loop-token-preserved : goal.loop-token-preserved
loop-token-preserved c =
    let tokens = c.args.tokens.now in
    let i = c.loop-token.token-index in
    let step = name_step (spelling_at c.args.kept.now) (fault_of c.args.fault) tokens i (get_or tokens i 0)
    c.loop-token.names c.meet_name.new.names c.args.faults.now c.loop-token.faults c.meet_name.new.faults
    c.loop-token-test.true refl c.loop-token.invariant.names c.loop-token.invariant.adds c.in_ok-meet_name.ensures in
    record { names = step.0; adds = step.1 }

pub returns-clause-names : goal.returns-clause-names
returns-clause-names c =
    subst (λ (list : List ℕ). AreNamesOf (spelling_at c.args.kept.now) list c.loop-token.names)
    (take_all c.loop-token.token-index c.args.tokens.now c.loop-token-test.false) c.loop-token.invariant.names

pub returns-clause-adds : goal.returns-clause-adds
returns-clause-adds c =
    subst (λ (list : List ℕ). Adds (IsSecondName (spelling_at c.args.kept.now) (fault_of c.args.fault) list) c.args.faults.now c.loop-token.faults)
    (take_all c.loop-token.token-index c.args.tokens.now c.loop-token-test.false) c.loop-token.invariant.adds
