-- Lists with a changed task, prefixes, and what they contain.
use Rattle.std.proofs.Common.{◌≡◌, ℕ, suc, zero, ◌<◌, Bool, true, false, ◌==◌, List, [], ◌∷◌, ◌++◌, map, take, length, get_or, if◌then◌else◌, refl, ap, ◌∙◌, arith, length-take, get_or-take}
use Rattle.std.proofs.lemmas.List.{length-map}
use Rattle.std.specs.List.{All, Contains}
use Rattle.std.specs.List.{AllPairs}
use Rattle.std.proofs.lemmas.Bool.{eqb-true}
use Rattle.std.proofs.lemmas.List.{get_or-map}
use Rattle.std.proofs.lemmas.List.Elements.{All-map, All-weaker, All-append, Contains-get_or}
use Rattle.std.proofs.lemmas.List.Kept.{AllPairs-cons}
use Rattle.summary_core.specs.declared.task.Task.{Task}
use Rattle.summary_core.specs.Board.{goals_of}
use Rattle.summary_core.specs.Events.{changed}

-- what stands in a prefix stands in the list
pub in_take : {X : Type 0} (n : ℕ) (xs : List X) (x : X) → Contains (take n xs) x → Contains xs x
in_take n xs x has =
    let len = length-take n xs in
    let below : has.0 < n = omega (arith, has.1, len) in
    (has.0, omega (arith, has.1, len), rw get_or-take at has.2)

-- what stands before the end of a prefix stands in it
pub in_front : {X : Type 0} (n : ℕ) (xs : List X) (x : X) (position : ℕ) → position < n → position < length xs → get_or xs position x ≡ x → Contains (take n xs) x
in_front n xs x position below within is = let len = length-take n xs in (position, omega arith, rw get_or-take is)

-- a change that keeps the goals keeps the list of goals
pub goals-changed : (goal : ℕ) (change : Task → Task) → ((task : Task) → (change task).goal ≡ task.goal) → (tasks : List Task) → goals_of (changed goal change tasks) ≡ goals_of tasks
goals-changed goal change keeps [] = refl
goals-changed goal change keeps (task ∷ tasks) =
    let rest = goals-changed goal change keeps tasks in
    let first : (if task.goal == goal then change task else task).goal ≡ task.goal =
    elim (task.goal == goal) as (λ b. (if b then change task else task).goal ≡ task.goal) [ true ↦ keeps task | false ↦ refl ] in
    ap (λ x. x ∷ goals_of (changed goal change tasks)) first ∙ ap (λ xs. task.goal ∷ xs) rest

-- what holds of each task, and of the changed ones, holds after the change
pub All-changed : (P Q : Task → Type 0) (goal : ℕ) (change : Task → Task) (tasks : List Task) → ((task : Task) → P task → Q task) → ((task : Task) → task.goal ≡ goal → P task → Q (change task)) →
    All P tasks → All Q (changed goal change tasks)
All-changed P Q goal change tasks same new all =
    All-map Q (λ task. if task.goal == goal then change task else task) tasks (All-weaker P _ each tasks all)
  where
    by : (task : Task) (b : Bool) → (task.goal == goal) ≡ b → P task → Q (if b then change task else task)
    by task true is p = new task (eqb-true task.goal goal is) p
    by task false is p = same task p

    each : (task : Task) → P task → Q (if task.goal == goal then change task else task)
    each task p = by task (task.goal == goal) refl p

-- the image of what stands in a list
pub Contains-map : {X Y : Type 0} (f : X → Y) (xs : List X) (x : X) → Contains xs x → Contains (map f xs) (f x)
Contains-map f xs x has =
    (has.0, rw length-map has.1, get_or-map f xs has.0 x (f x) has.1 ∙ ap f has.2)

-- what stands in an image is the image of what stands in the list
pub Contains-from_map : {X Y : Type 0} (f : X → Y) (xs : List X) (y : Y) → Contains (map f xs) y → (x : X) × Contains xs x × (f x ≡ y)
Contains-from_map f [] y has = absurd (omega (arith, has.1))
Contains-from_map f (x ∷ xs) y (zero, within, is) = (x, (0, omega arith, refl), is)
Contains-from_map f (x ∷ xs) y (suc k, within, is) =
    let rest = Contains-from_map f xs y (k, omega arith, is) in
    (rest.0, (suc rest.1.0, omega (arith, rest.1.1), rest.1.2), rest.2)

-- R holds of each element of either list and each later one, and between the lists
pub AllPairs-append : {X : Type 0} (R : X → X → Type 0) (xs ys : List X) → AllPairs R xs → AllPairs R ys → ((x y : X) → Contains xs x → Contains ys y → R x y) → AllPairs R (xs ++ ys)
AllPairs-append R [] ys front back cross = back
AllPairs-append {X} R (x ∷ xs) ys front back cross =
    AllPairs-cons R x (xs ++ ys)
    (All-append (R x) xs ys (λ k d within. front 0 (suc k) d (omega arith) (omega arith)) (λ k d within. cross x _ (0, omega arith, refl) (Contains-get_or ys k d within)))
    (AllPairs-append R xs ys (λ i j d less within. front (suc i) (suc j) d (omega arith) (omega arith)) back
    (λ a b has. cross a b (suc has.0, omega (arith, has.1), has.2)))
