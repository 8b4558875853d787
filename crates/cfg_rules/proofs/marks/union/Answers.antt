use Rattle.cfg_rules.proofs.Members.{union_is, union_turned}
use Rattle.cfg_rules.proofs.marks.union.Goals.{then-len+in_ok-all, else-len+in_ok-all-2}
use Rattle.cfg_rules.proofs.marks.union.Goals as goal

pub returns : goal.returns
returns c = elim c.if-len.branch [
  | then-len+in_ok-all w ↦ union_turned _ _ _ (union_is _ _ _ (rw w.all-is w.in_ok-all.ensures))
  | else-len+in_ok-all-2 w ↦ union_is _ _ _ (rw w.all-is w.in_ok-all-2.ensures)
]
