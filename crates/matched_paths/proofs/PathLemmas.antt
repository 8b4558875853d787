-- Paths joined, and with other steps.
use Rattle.std.proofs.Common.{ℕ, List, subst}
use Rattle.std.specs.List.{All, Contains}
use Rattle.matched_paths.specs.Path.{Path, none, step}

-- one path after another
pub path_join : {Step : ℕ → ℕ → Type 0} {a b c : ℕ} → Path Step a b → Path Step b c → Path Step a c
path_join none after = after
path_join (step first rest) after = step first (path_join rest after)

-- one step more
pub path_end : {Step : ℕ → ℕ → Type 0} {a b c : ℕ} → Path Step a b → Step b c → Path Step a c
path_end path last = path_join path (step last none)

-- each step by a path of other steps
pub path_each : {Step Other : ℕ → ℕ → Type 0} → ((a b : ℕ) → Step a b → Path Other a b) → {a b : ℕ} → Path Step a b → Path Other a b
path_each each none = none
path_each each (step first rest) = path_join (each _ _ first) (path_each each rest)

-- each step by another
pub path_map : {Step Other : ℕ → ℕ → Type 0} → ((a b : ℕ) → Step a b → Other a b) → {a b : ℕ} → Path Step a b → Path Other a b
path_map each none = none
path_map each (step first rest) = step (each _ _ first) (path_map each rest)

-- what holds of all holds of what a list contains
pub all_at : {X : Type 0} (P : X → Type 0) (xs : List X) (x : X) → All P xs → Contains xs x → P x
all_at P xs x all has = subst P has.2 (all has.0 x has.1)
