use Rattle.std.proofs.Common.{List, ℕ, ap, sym, subst, ◌∙◌}
use Rattle.std.specs.List.{All, Contains}
use Rattle.std.proofs.lemmas.List.Elements.{All-contains_itself}
use Rattle.summary_core.specs.Table.{Table}
use Rattle.summary_core.proofs.closed.Closed.starts.Goals as goal

pub returns-clause-among : goal.returns-clause-among
returns-clause-among c =
    subst (λ (xs : List ℕ). All (Contains c.args.self.now.starts) xs) (sym (c.items.ensures ∙ ap (λ (t : Table). t.starts) c.self.view_is)) (All-contains_itself c.args.self.now.starts)
