use Rattle.c_stmt.proofs.knot.+knot.Given as goal

abbrev pub decreases-item_in : goal.decreases-item_in
decreases-item_in g l = l.room

abbrev pub decreases-statement_in : goal.decreases-statement_in
decreases-statement_in g l = l.room
