-- The rank of a node among the children of its parent (ours).
use Rattle.std.specs.Prelude.{ℕ, ◌+◌, Option, Some, None}
use Rattle.graph_forest.specs.declared.hang.Hang.{Hang}
use Rattle.graph_forest.specs.declared.hang.Hang.TheVariants.{Plain, Argument, Condition}
use Rattle.graph_forest.specs.declared.rank.Rank.{Rank}

-- A child that is neither an argument nor a condition.
abbrev pub child : ℕ → Rank
child order = record { hang = Plain; order = order }

-- A condition.
abbrev pub condition : ℕ → Rank
condition order = record { hang = Condition; order = order }

-- An argument of a call by name: its ARGUMENT_INDEX is its ORDER.
abbrev pub argument : ℕ → Rank
argument order = record { hang = Argument order; order = order }

-- An argument of a call through a pointer: the callee is argument 0 and the first child, and what
-- it takes comes after it.
abbrev pub pointer_argument : ℕ → Rank
pointer_argument index = record { hang = Argument index; order = index + 1 }

-- The ARGUMENT_INDEX of a node that hangs so.
abbrev pub index_of : Hang → Option ℕ
index_of (Argument index) = Some index
index_of _ = None

-- The same, of a rank.
abbrev pub argument_index : Rank → Option ℕ
argument_index rank = index_of rank.hang
