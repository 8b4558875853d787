-- A flight ends, and the agenda is kept.
use Rattle.std.proofs.Common.{◌≡◌, ℕ, ◌+◌, ◌<◌, ◌≤◌, inl, inr, Bool, true, false, List, [], ◌++◌, take, length, get_or, set, refl, sym, ap, ◌∙◌, arith, subst, length-append, Option, None, Some, MatchOption}
use Rattle.std.specs.List.{All, Contains}
use Rattle.std.specs.List.Sorted.{IsStrictlyIncreasing}
use Rattle.std.proofs.Math.Seq.{map-set_same}
use Rattle.std.proofs.Math.ListN.{length-set}
use Rattle.std.proofs.lemmas.Bool.{cases_lt}
use Rattle.std.proofs.lemmas.List.{append-nil, get_or-set_same, nil_from_length}
use Rattle.std.proofs.lemmas.List.Elements.{All-weaker, All-contains}
use Rattle.matched_paths.specs.declared.flow_graph.Pair.{Pair}
use Rattle.summary_core.specs.declared.agenda.Agenda.{Agenda}
use Rattle.summary_core.specs.declared.agenda.Asker.{Asker}
use Rattle.summary_core.specs.declared.found.Found.{Found}
use Rattle.summary_core.specs.declared.marks.Marks.{Marks}
use Rattle.summary_core.specs.declared.task.Stamp.{Stamp}
use Rattle.summary_core.specs.declared.task.Task.{Task}
use Rattle.summary_core.specs.Searches.{Asks, IsFoundOf}
use Rattle.summary_core.specs.Board.{BoardState, goals_of, IsClaimable, IsStale}
use Rattle.summary_core.specs.Events.{AddsNew}
use Rattle.summary_core.specs.Sound.{HasSoundStamp, IsSound, IsStampOf}
use Rattle.summary_core.specs.Marking.{Puts}
use Rattle.summary_core.specs.Agenda.{askers_of, IsAsker, IsAt, IsNoted, KeepsAgenda, Notes, Tells, TellsLatest}
use Rattle.summary_core.proofs.Agendas.{at_any, noted_kept, retasked, set_cases, told_kept}
use Rattle.summary_core.proofs.Changing.{tasks_rise}

pub marks_put : (board : BoardState) (agenda : Agenda) (position : ℕ) → KeepsAgenda board agenda → position < length board.tasks → position < agenda.marks.count
marks_put board agenda position keeps within = omega (arith, within, keeps.count)

-- a goal is claimed
pub claim_agenda : (board : BoardState) (agenda : Agenda) (marks : Marks) (at : ℕ) (task : Task) → KeepsAgenda board agenda → IsAt board.tasks at task → IsClaimable board.history task → Puts agenda.marks marks at false →
    KeepsAgenda (record board { tasks = set board.tasks at (record task { flies = true }) }) (record agenda { marks = marks })
claim_agenda board agenda marks at task keeps is claimable puts =
    retasked board agenda marks at task (record task { flies = true }) false keeps is refl puts (λ on. absurd (let no : ⊥ = cc in no), λ free. absurd (let flies = free.free in let no : ⊥ = cc in no)) (λ flies. claimable.dirty)
    (λ stamp position other has fresh is_other asks. keeps.complete position at other task stamp is_other is has fresh asks)

-- a flight is given up
pub abandon_agenda : (board : BoardState) (agenda : Agenda) (marks : Marks) (at : ℕ) (task : Task) → KeepsAgenda board agenda → IsAt board.tasks at task → task.flies ≡ true → Puts agenda.marks marks at true →
    KeepsAgenda (record board { tasks = set board.tasks at (record task { flies = false }) }) (record agenda { marks = marks })
abandon_agenda board agenda marks at task keeps is flies puts =
    retasked board agenda marks at task (record task { flies = false }) true keeps is refl puts (λ on. record { dirty = keeps.flying at task is flies; free = refl }, λ claimable. refl) (λ on. absurd (let no : ⊥ = cc in no))
    (λ stamp position other has fresh is_other asks. keeps.complete position at other task stamp is_other is has fresh asks)

-- what was found is published
module _ (board : BoardState) (agenda noted : Agenda) (goal at : ℕ) (task : Task) (found : Found) (sound : IsSound board) (keeps : KeepsAgenda board agenda) (is : IsAt board.tasks at task) (of_goal : task.goal ≡ goal) (seen : found.seen ≤ length board.history)
    (was_found : IsFoundOf board.flow (take found.seen board.history) goal found) (notes : Notes board.tasks (record { task = at; seen = found.seen }) found.asked agenda noted) where
  pub note_agenda : KeepsAgenda board noted
  note_agenda = noted_kept board agenda noted (record { task = at; seen = found.seen }) found.asked keeps notes
      (λ asked has. record { task = task; at = is; seen = seen; asks = subst (λ (g : ℕ). Asks board.flow (take found.seen board.history) g asked) (sym of_goal) ((was_found.asked asked).0 has) })

  abbrev mine : Stamp
  mine = record { seen = found.seen; asked = found.asked }

  abbrev landed : Task
  landed = record task { stamp = Some mine; flies = false }

  -- what the stamps tell, with the new one among them
  stamps_tell : (position : ℕ) (other : Task) (stamp : Stamp) → IsAt (set board.tasks at landed) position other → other.stamp ≡ Some stamp →
      (stamp.seen ≤ length board.history) × ((asked : ℕ) → Asks board.flow (take stamp.seen board.history) other.goal asked → Contains stamp.asked asked)
  stamps_tell position other stamp is_other has = elim (set_cases board.tasks at task landed is refl position other is_other) [
    | inl own ↦
        let stamps : Some mine ≡ Some stamp = ap (λ (t : Task). t.stamp) (sym own.1) ∙ has in
        let same : mine ≡ stamp = cc in
        let goals : other.goal ≡ goal = ap (λ (t : Task). t.goal) own.1 ∙ of_goal in
        subst (λ (s : Stamp). (s.seen ≤ length board.history) × ((asked : ℕ) → Asks board.flow (take s.seen board.history) other.goal asked → Contains s.asked asked)) same
        (seen, λ asked asks. (was_found.asked asked).1 (subst (λ (g : ℕ). Asks board.flow (take found.seen board.history) g asked) goals asks))
    | inr apart ↦
        let own = All-contains (HasSoundStamp board.flow board.history) board.tasks other sound.stamps (position, apart.1.0, apart.1.1) in
        let tells : IsStampOf board.flow board.history other.goal stamp = subst (λ (o : Option Stamp). MatchOption o (Unit {0}) (λ s. IsStampOf board.flow board.history other.goal s)) has own in
        (tells.seen, λ asked asks. (tells.asked asked).1 asks)
  ]

  module _ (marks : Marks) (stale : Bool) (all : IsNoted board.tasks (record { task = at; seen = found.seen }) found.asked noted)
      (tests : (history : List Pair) → TellsLatest history board.tasks noted.latest.items → (stale ≡ true → IsStale history mine) × (IsStale history mine → stale ≡ true)) (puts : Puts noted.marks marks at stale) where
    land_agenda : KeepsAgenda (record board { tasks = set board.tasks at landed }) (record noted { marks = marks })
    land_agenda =
        let is_stale = tests board.history note_agenda.latest in
        retasked board noted marks at task landed stale note_agenda is refl puts (λ on. record { dirty = is_stale.0 on; free = refl }, λ claimable. is_stale.1 claimable.dirty) (λ on. absurd (let no : ⊥ = cc in no))
        (λ stamp position other has fresh is_other asks.
        let stamps : Some mine ≡ Some stamp = has in
        let same : mine ≡ stamp = cc in
        subst (λ (s : Stamp). Contains (askers_of noted position) (record { task = at; seen = s.seen })) same (all position other is_other (subst (λ (s : Stamp). Contains s.asked other.goal) (sym same) asks)))

    pub publish_agenda : (history : List Pair) (after : Agenda) → AddsNew board.history goal found.outs history → (length history ≤ length board.history → after ≡ record noted { marks = marks }) →
        (length board.history < length history → Tells (set board.tasks at landed) at (length history) (record noted { marks = marks }) after) →
        KeepsAgenda (record board { history = history; tasks = set board.tasks at landed }) after
    publish_agenda history after adds none some =
        let total : length history ≡ length board.history + length adds.new = ap length adds.kept ∙ length-append board.history adds.new in
        elim (cases_lt (length board.history) (length history)) [
          | inl grown ↦
              let goals : goals_of (set board.tasks at landed) ≡ goals_of board.tasks = map-set_same (λ (t : Task). t.goal) board.tasks at landed task (ap (λ (t : Task). t.goal) (sym is.1)) in
              let rise = tasks_rise (set board.tasks at landed) (subst IsStrictlyIncreasing (sym goals) sound.goals.rise) in
              let here : IsAt (set board.tasks at landed) at landed = (omega (arith, is.0, length-set board.tasks at landed), get_or-set_same board.tasks at landed landed is.0) in
              let of_new = All-weaker (λ (pair : Pair). (pair.goal ≡ goal) × Contains found.outs pair.out × ¬ Contains board.history pair) (λ (pair : Pair). pair.goal ≡ task.goal) (λ pair new. new.0 ∙ sym of_goal) adds.new adds.are_new.each in
              let tells = subst (λ (h : List Pair). Tells (set board.tasks at landed) at (length h) (record noted { marks = marks }) after) adds.kept (some grown) in
              subst (λ (h : List Pair). KeepsAgenda (record board { history = h; tasks = set board.tasks at landed }) after) (sym adds.kept)
              (told_kept (record board { tasks = set board.tasks at landed }) (record noted { marks = marks }) at landed adds.new land_agenda here rise of_new (omega (arith, grown, total)) stamps_tell after tells)
          | inr same ↦
              let empty : adds.new ≡ [] = nil_from_length adds.new (omega (arith, same, total)) in
              let still : board.history ≡ history = sym (adds.kept ∙ (ap (λ (xs : List Pair). board.history ++ xs) empty ∙ append-nil board.history)) in
              subst (λ (a : Agenda). KeepsAgenda (record board { history = history; tasks = set board.tasks at landed }) a) (sym (none same))
              (subst (λ (h : List Pair). KeepsAgenda (record board { history = h; tasks = set board.tasks at landed }) (record noted { marks = marks })) still land_agenda)
        ]

no_task : Task
no_task = record { goal = 0; stamp = None; flies = false }

-- what was found is not published, but who asked is noted
pub asked_agenda : (board : BoardState) (agenda noted : Agenda) (goal at : ℕ) (found : Found) → IsSound board → KeepsAgenda board agenda → at < length board.tasks → ((d : Task) → (get_or board.tasks at d).goal ≡ goal) → found.seen ≤ length board.history →
    IsFoundOf board.flow (take found.seen board.history) goal found → Notes board.tasks (record { task = at; seen = found.seen }) found.asked agenda noted → KeepsAgenda board noted
asked_agenda board agenda noted goal at found sound keeps within own seen was_found notes =
    note_agenda board agenda noted goal at (get_or board.tasks at no_task) found sound keeps (at_any board.tasks at no_task within) (own no_task) seen was_found notes

-- who asked is a task
pub askers_within : (board : BoardState) (agenda : Agenda) (at : ℕ) (tasks : List Task) → KeepsAgenda board agenda → at < length board.tasks → length tasks ≡ length board.tasks → All (λ (asker : Asker). asker.task < length tasks) (askers_of agenda at)
askers_within board agenda at tasks keeps within len =
    All-weaker (IsAsker board (get_or board.tasks at no_task).goal) (λ (asker : Asker). asker.task < length tasks) (λ asker is. let below = is.at.0 in omega (arith, below, len)) (askers_of agenda at)
    (keeps.sound at (get_or board.tasks at no_task) (at_any board.tasks at no_task within))
