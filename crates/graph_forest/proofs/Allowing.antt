-- Forests of allowed ones are allowed.
use Rattle.std.proofs.Common.{List, [], ◌∷◌, Option}
use Rattle.std.specs.List.{All}
use Rattle.std.proofs.lemmas.List.Elements.{All-head, All-tail}
use Rattle.cpg_schema.specs.declared.label.Label.{Label}
use Rattle.graph_forest.specs.Forest.{Forest, none, tree, beside, joined, IsAllowedUnder}

pub allowed-beside : (parent : Option Label) (f g : Forest) → IsAllowedUnder parent f → IsAllowedUnder parent g → IsAllowedUnder parent (beside f g)
unfolding beside
allowed-beside parent none g p q = q
allowed-beside parent (tree h n c a) g p q = (p.0, p.1, allowed-beside parent a g p.2 q)

pub allowed-joined : (parent : Option Label) (fs : List Forest) → All (IsAllowedUnder parent) fs → IsAllowedUnder parent (joined fs)
allowed-joined parent [] all = tt
allowed-joined parent (f ∷ fs) all =
    allowed-beside parent f (joined fs) (All-head (IsAllowedUnder parent) f fs all) (allowed-joined parent fs (All-tail (IsAllowedUnder parent) f fs all))

-- For a caller's goal: list this set.
pub ruleset allowing = (allowed-beside)
