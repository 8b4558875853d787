use Rattle.std.proofs.Common.{◌≡◌, ◌↔◌, ℕ, Some}
use Rattle.graph_forest.specs.declared.hang.Hang.{Hang}
use Rattle.graph_forest.specs.declared.hang.Hang.TheVariants.{Plain, Argument, Condition}
use Rattle.graph_forest.specs.Ranks.{index_of}
use Rattle.graph_forest.proofs.laws.law_argument_index.Goals as goal

by_index : (hang : Hang) (index : ℕ) → (index_of hang ≡ Some index) ↔ (hang ≡ Argument index)
by_index Plain index = (λ is. absurd (cc), λ is. absurd (cc))
by_index (Argument i) index = (λ is. cc, λ is. cc)
by_index Condition index = (λ is. absurd (cc), λ is. absurd (cc))

pub returns : goal.returns
returns c = λ rank index. by_index rank.hang index
