-- One task of a list is changed.
use Rattle.std.proofs.Common.{◌≡◌, ◌≢◌, ℕ, zero, suc, ◌<◌, inl, inr, Bool, true, false, ◌==◌, if◌then◌else◌, List, [], ◌∷◌, length, get_or, set, refl, sym, ap, ◌∙◌, arith, eq-eqb}
use Rattle.std.specs.List.{All, AllPairs}
use Rattle.std.specs.List.Sorted.{IsStrictlyIncreasing}
use Rattle.std.proofs.lemmas.Bool.{cases_lt, eqb-true}
use Rattle.std.proofs.lemmas.List.{length-map, get_or-map, get_or_default}
use Rattle.std.proofs.lemmas.List.Elements.{All-head, All-tail}
use Rattle.std.proofs.lemmas.List.Kept.{AllPairs-from_increasing}
use Rattle.summary_core.specs.declared.task.Task.{Task}
use Rattle.summary_core.specs.Board.{BoardState, goals_of}
use Rattle.summary_core.specs.Events.{changed, Flies}

abbrev pub Rise : List Task → Type 0
Rise tasks = AllPairs (λ (a b : Task). a.goal < b.goal) tasks

pub tasks_rise : (tasks : List Task) → IsStrictlyIncreasing (goals_of tasks) → Rise tasks
tasks_rise tasks rise i j d less within =
    let goal : Task → ℕ = λ t. t.goal in
    let below : j < length (goals_of tasks) = omega (arith, within, length-map tasks goal) in
    let front : i < length tasks = omega arith in
    let first = get_or-map goal tasks i d 0 front in
    let later = get_or-map goal tasks j d 0 within in
    let rises = AllPairs-from_increasing (goals_of tasks) rise i j 0 less below in
    omega (arith, rises, first, later)

-- tasks of other goals stay
changed_none : (goal : ℕ) (change : Task → Task) (tasks : List Task) → All (λ t. t.goal ≢ goal) tasks → changed goal change tasks ≡ tasks
changed_none goal change [] others = refl
changed_none goal change (t ∷ ts) others =
    let rest = changed_none goal change ts (All-tail (λ (x : Task). x.goal ≢ goal) t ts others) in
    ap (λ x. x ∷ changed goal change ts) (by (t.goal == goal) refl) ∙ ap (λ xs. t ∷ xs) rest
  where
    by : (b : Bool) → (t.goal == goal) ≡ b → (if t.goal == goal then change t else t) ≡ t
    by true is = absurd (All-head (λ (x : Task). x.goal ≢ goal) t ts others (eqb-true t.goal goal is))
    by false is = rw is refl

-- a write at the goal's position is its change
pub set_changed : (goal : ℕ) (change : Task → Task) (tasks : List Task) (position : ℕ) (task : Task) → Rise tasks → position < length tasks → task ≡ get_or tasks position task → task.goal ≡ goal →
    set tasks position (change task) ≡ changed goal change tasks
set_changed goal change [] position task rise within at of_goal = absurd (omega (arith, within))
set_changed goal change (t ∷ ts) zero task rise within at of_goal =
    let own : t.goal ≡ goal = ap (λ (x : Task). x.goal) (sym at) ∙ of_goal in
    let test : (t.goal == goal) ≡ true = eq-eqb t.goal goal own in
    let rest = changed_none goal change ts (λ k d inside same. let up = rise 0 (suc k) d (omega arith) (omega (arith, inside)) in omega (arith, up, same, own)) in
    let head : change task ≡ (if t.goal == goal then change t else t) = ap change at ∙ rw test refl in
    ap (λ x. x ∷ ts) head ∙ ap (λ xs. (if t.goal == goal then change t else t) ∷ xs) (sym rest)
set_changed goal change (t ∷ ts) (suc position) task rise within at of_goal =
    let inside : position < length ts = omega (arith, within) in
    let up = rise 0 (suc position) task (omega arith) within in
    let later = ap (λ (x : Task). x.goal) at in
    let differs : t.goal ≢ goal = λ same. omega (arith, up, later, of_goal, same) in
    let head : (if t.goal == goal then change t else t) ≡ t = by differs (t.goal == goal) refl in
    ap (λ xs. t ∷ xs) (set_changed goal change ts position task (λ i j d less below. rise (suc i) (suc j) d (omega arith) (omega (arith, below))) inside at of_goal)
    ∙ ap (λ x. x ∷ changed goal change ts) (sym head)
  where
    by : t.goal ≢ goal → (b : Bool) → (t.goal == goal) ≡ b → (if t.goal == goal then change t else t) ≡ t
    by differs true is = absurd (differs (eqb-true t.goal goal is))
    by differs false is = rw is refl

-- a goal has one task
pub one_task : (tasks : List Task) (position k : ℕ) (d : Task) → Rise tasks → position < length tasks → k < length tasks → (get_or tasks position d).goal ≡ (get_or tasks k d).goal → position ≡ k
one_task tasks position k d rise within inside same = elim (cases_lt position k) [
  | inl less ↦ let up = rise position k d less inside in absurd (omega (arith, up, same))
  | inr not_less ↦ elim (cases_lt k position) [
    | inl more ↦ let up = rise k position d more within in absurd (omega (arith, up, same))
    | inr not_more ↦ omega arith
  ]
]

-- the task at the goal's position is the one that flies
pub flight_is : (board : BoardState) (goal position : ℕ) (task : Task) → Rise board.tasks → position < length board.tasks → task ≡ get_or board.tasks position task → task.goal ≡ goal →
    (task.flies ≡ true → Flies board goal) × (Flies board goal → task.flies ≡ true)
flight_is board goal position task rise within at of_goal = (
  λ flies. record { task = task; stands = (position, within, sym at); of_goal = of_goal; so = flies },
  λ is.
      let here : position ≡ is.stands.0 = one_task board.tasks position is.stands.0 task rise within is.stands.1
      (ap (λ (x : Task). x.goal) (sym at) ∙ (of_goal ∙ (sym is.of_goal ∙ ap (λ (x : Task). x.goal) (sym is.stands.2 ∙ get_or_default board.tasks is.stands.0 is.task task is.stands.1)))) in
      let same : task ≡ is.task = at ∙ (ap (λ (i : ℕ). get_or board.tasks i task) here ∙ (get_or_default board.tasks is.stands.0 task is.task is.stands.1 ∙ is.stands.2)) in
      ap (λ (x : Task). x.flies) same ∙ is.so,
)
