use Rattle.cfg_rules.proofs.Answering.{if_ok}
use Rattle.cfg_rules.proofs.InOrder.{block_is}
use Rattle.cfg_rules.proofs.statements.join_block.Goals as goal

pub returns : goal.returns
returns c = if_ok c.join_parts.result c.join_parts.ensures (λ next is plan x rule parts. block_is plan x _ _ _ _ rule parts.count (λ chain. is plan x chain parts))
