use Rattle.std.proofs.Common.{ℕ, List, subst}
use Rattle.cfg_rules.specs.Sets.{IsLed}
use Rattle.cfg_rules.proofs.joined.enter.Goals as goal

pub returns : goal.returns
returns c = subst (λ (t : List ℕ). IsLed t c.args.here.now c.args.out.now c.lead.new.out) c.as_slice-to.ensures c.in_ok-lead.ensures
