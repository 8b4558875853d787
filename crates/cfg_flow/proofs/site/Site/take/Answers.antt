use Rattle.cfg_flow.proofs.Placing.{part_taken}
use Rattle.cfg_flow.proofs.Siting.{site_part}
use Rattle.cfg_flow.proofs.site.Site.take.Goals as goal

pub returns : goal.returns
returns c = λ plan jumps i plan_is site ready low.
    part_taken plan _ i _ _ _ _ _ plan_is low c.take_part.ensures.count (site_part _ site) c.take_part.ensures.taken ready
