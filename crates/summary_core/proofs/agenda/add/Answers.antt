use Rattle.std.proofs.Common.{Result, Ok, Err}
use Rattle.std.specs.Prelude.{OnErr}
use Rattle.summary_core.proofs.Noting.{list_kept, list_pushed}
use Rattle.summary_core.proofs.agenda.add.Goals as goal

on_err : {T E : Type 0} {P : Type 0} (r : Result T E) → P → OnErr r P
on_err (Ok t) p = tt
on_err (Err e) p = p

pub returns-clause-ok : goal.returns-clause-ok
returns-clause-ok c = list_pushed c.args.lists.now.items c.args.position c.index_mut.result.now c.push.new.self c.args.asker c.requires c.index_mut.ensures.value c.in_ok-push.ensures.items

pub returns-in_err-push-clause-err : goal.returns-in_err-push-clause-err
returns-in_err-push-clause-err c = on_err c.from_residual.result (list_kept c.args.lists.now.items c.args.position c.index_mut.result.now c.push.new.self c.index_mut.ensures.value c.in_err-push.ensures.items)
