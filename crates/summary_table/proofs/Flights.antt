-- A goal that was claimed is a goal, and flies; what was published or abandoned leaves a front.
use Rattle.std.proofs.Common.{◌≡◌, ◌∙◌, ℕ, ◌≤◌, ◌==◌, if◌then◌else◌, List, ◌++◌, length, take, map, true, refl, sym, ap, subst, arith, eq-eqb}
use Rattle.std.specs.List.{Contains}
use Rattle.std.proofs.Math.Seq.{take-append_seam, take-length}
use Rattle.matched_paths.specs.declared.flow_graph.FlowGraph.{FlowGraph}
use Rattle.matched_paths.specs.declared.flow_graph.Pair.{Pair}
use Rattle.matched_paths.specs.Edges.{IsGoal}
use Rattle.summary_core.specs.declared.found.Found.{Found}
use Rattle.summary_core.specs.declared.task.Task.{Task}
use Rattle.summary_core.specs.Board.{BoardState}
use Rattle.summary_core.specs.Events.{Abandons, Claims, Flies, Publishes}
use Rattle.summary_core.specs.Searches.{IsFoundOf}
use Rattle.summary_core.specs.Sound.{IsKeptBoard}
use Rattle.summary_core.proofs.Lists.{Contains-map}

pub claimed_goal : (board next : BoardState) (goal : ℕ) → IsKeptBoard board → Claims board goal next → IsGoal board.flow goal
claimed_goal board next goal kept claims =
    let task = claims.claimable.task in
    subst (λ (g : ℕ). IsGoal board.flow g) claims.claimable.of_goal
    ((kept.sound.goals.each task.goal).0 (Contains-map (λ (t : Task). t.goal) board.tasks task claims.claimable.stands)).goal

pub claimed_flies : (board next : BoardState) (goal : ℕ) → Claims board goal next → Flies next goal
claimed_flies board next goal claims =
    let task = claims.claimable.task in
    let change : Task → Task = λ t. if t.goal == goal then record t { flies = true } else t in
    let flown : Task = record task { flies = true } in
    let is : change task ≡ flown = rw (eq-eqb task.goal goal claims.claimable.of_goal) refl in
    let stands : Contains next.tasks flown =
    subst (λ (ts : List Task). Contains ts flown) (sym (ap (λ (b : BoardState). b.tasks) claims.changes)) (subst (λ (t : Task). Contains (map change board.tasks) t) is (Contains-map change board.tasks task claims.claimable.stands)) in
    record { task = flown; stands = stands; of_goal = claims.claimable.of_goal; so = refl }

-- what was found over the whole history was found over its first pairs
pub found_front : (board next : BoardState) (flow : FlowGraph) (mirror : List Pair) (goal : ℕ) (found : Found) → Claims board goal next → board.flow ≡ flow → mirror ≡ board.history → IsFoundOf flow mirror goal found →
    (found.seen ≤ length next.history) × IsFoundOf next.flow (take found.seen next.history) goal found
found_front board next flow mirror goal found claims same whole is =
    let own_flow : flow ≡ next.flow = sym same ∙ sym (ap (λ (b : BoardState). b.flow) claims.changes) in
    let history : mirror ≡ next.history = whole ∙ sym (ap (λ (b : BoardState). b.history) claims.changes) in
    let seen : found.seen ≡ length next.history = is.seen ∙ ap length history in
    let front : mirror ≡ take found.seen next.history = history ∙ (sym (take-length next.history) ∙ ap (λ (n : ℕ). take n next.history) (sym seen)) in
    (omega arith, subst (λ (f : FlowGraph). IsFoundOf f (take found.seen next.history) goal found) own_flow (subst (λ (ps : List Pair). IsFoundOf flow ps goal found) front is))

pub published_front : (board after : BoardState) (mirror : List Pair) (goal : ℕ) (found : Found) → mirror ≡ board.history → Publishes board goal found after → (after.flow ≡ board.flow) × (mirror ≡ take (length mirror) after.history)
published_front board after mirror goal found whole publishes = (
  ap (λ (b : BoardState). b.flow) publishes.changes,
  whole ∙ (sym (take-append_seam board.history publishes.new) ∙ (ap (λ (ps : List Pair). take (length ps) (board.history ++ publishes.new)) (sym whole) ∙ ap (λ (ps : List Pair). take (length mirror) ps) (sym (ap (λ (b : BoardState). b.history) publishes.changes)))),
)

pub abandoned_front : (board after : BoardState) (mirror : List Pair) (goal : ℕ) → mirror ≡ board.history → Abandons board goal after → (after.flow ≡ board.flow) × (mirror ≡ take (length mirror) after.history)
abandoned_front board after mirror goal whole abandons = (
  ap (λ (b : BoardState). b.flow) abandons.changes,
  whole ∙ (sym (take-length board.history) ∙ (ap (λ (ps : List Pair). take (length ps) board.history) (sym whole) ∙ ap (λ (ps : List Pair). take (length mirror) ps) (sym (ap (λ (b : BoardState). b.history) abandons.changes)))),
)
