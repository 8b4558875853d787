use Rattle.std.proofs.Common.{take}
use Rattle.c_tree.specs.Lexemes.{spelling_at}
use Rattle.c_jumps.specs.Faults.{fault_of}
use Rattle.c_jumps.specs.Names.{Adds, AreNamesOf, IsSecondName}
use Rattle.c_jumps.proofs.names.add_seconds.Given as goal

-- The names of the tokens so far are known, and the faults of those that stand twice were added.
abbrev pub invariant-loop-token : goal.invariant-loop-token
invariant-loop-token l = record {
  names : AreNamesOf (spelling_at l.kept) (take l.token-index l.tokens) l.names;
  adds : Adds (IsSecondName (spelling_at l.kept) (fault_of l.fault) (take l.token-index l.tokens)) l.fn.faults l.faults;
}
