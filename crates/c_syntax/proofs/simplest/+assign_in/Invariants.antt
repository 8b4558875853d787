use Rattle.c_syntax.proofs.simplest.+assign_in.Given as goal

abbrev pub decreases-assign_in : goal.decreases-assign_in
decreases-assign_in l = l.room
