use Rattle.std.proofs.Common.{rules, ℕ, length, Result, MatchResult, subst, ◌≡◌, ◌<◌, get_or}
use Rattle.std.specs.List.{All}
use Rattle.std.proofs.lemmas.List.Sorted.{answers_always}
use Rattle.summary_core.specs.declared.task.Task.{Task}
use Rattle.summary_core.proofs.Changing.{tasks_rise}
use Rattle.summary_core.proofs.Looking.{task_found}
use Rattle.summary_core.proofs.claims.position_of.Goals as goal

pub returns-in-Ok : goal.returns-in-Ok
returns-in-Ok c =
    let tasks = c.args.tasks.now in
    let facts = c.binary_search_by_key.ensures in
    let by_goal = facts.position (λ task. task.goal) (answers_always _ _ _ (λ f a r g called. search rules)) in
    let found = task_found tasks c.args.goal c.binary_search_by_key.result (tasks_rise tasks c.requires) facts.bound by_goal in
    subst (λ (r : Result ℕ ℕ). MatchResult r (λ position. (position < length tasks) × ((d : Task) → (get_or tasks position d).goal ≡ c.args.goal)) (λ position. All (λ (t : Task). ¬ (t.goal ≡ c.args.goal)) tasks)) c.in-Ok.is found

pub returns-in-Err : goal.returns-in-Err
returns-in-Err c =
    let tasks = c.args.tasks.now in
    let facts = c.binary_search_by_key.ensures in
    let by_goal = facts.position (λ task. task.goal) (answers_always _ _ _ (λ f a r g called. search rules)) in
    let found = task_found tasks c.args.goal c.binary_search_by_key.result (tasks_rise tasks c.requires) facts.bound by_goal in
    subst (λ (r : Result ℕ ℕ). MatchResult r (λ position. (position < length tasks) × ((d : Task) → (get_or tasks position d).goal ≡ c.args.goal)) (λ position. All (λ (t : Task). ¬ (t.goal ≡ c.args.goal)) tasks)) c.in-Err.is found
