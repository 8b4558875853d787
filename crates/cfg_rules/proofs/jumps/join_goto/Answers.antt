use Rattle.cfg_rules.proofs.JoinGoto.{goto_is}
use Rattle.cfg_rules.proofs.jumps.join_goto.Goals as goal

pub returns : goal.returns
returns c = λ plan rule le. goto_is plan _ _ _ _ _ _ _ _ rule le c.entry-here.ensures c.in_ok-stop.ensures c.in_ok-start.ensures c.in_ok-lead.ensures c.nowhere.ensures
