use Rattle.std.proofs.Common.{take}
use Rattle.c_tree.specs.Jumps.{MissingLabel}
use Rattle.c_tree.specs.Lexemes.{spelling_at}
use Rattle.c_jumps.specs.Names.{Adds, IsMissingName}
use Rattle.c_jumps.proofs.names.add_missing.Given as goal

-- The faults of the names so far were added.
abbrev pub invariant-loop-token : goal.invariant-loop-token
invariant-loop-token l =
    Adds (IsMissingName (spelling_at l.kept) MissingLabel (take l.token-index l.gotos) l.labels) l.fn.faults l.faults
