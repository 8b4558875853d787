use Rattle.std.proofs.Common.{[]}
use Rattle.summary_core.proofs.Noting.{list_written}
use Rattle.summary_core.proofs.agenda.empty.Goals as goal

pub returns : goal.returns
returns c = list_written c.args.lists.now.items c.args.position c.clear.new.self [] c.clear.ensures.items
