use Rattle.std.proofs.Common.{List, ℕ, subst}
use Rattle.graph_store.specs.Pool.{AreDistinct}
use Rattle.graph_store.proofs.Pool.{distinct_names}
use Rattle.graph_store.proofs.names.Names.law_distinct.Goals as goal

pub returns : goal.returns
returns c =
    subst (λ (names : List (List ℕ)). AreDistinct names) c.self.view_is (distinct_names c.self.inside.set.keys c.as_slice.ensures.unique)
