-- A sound board on which nothing is left to do holds all true pairs of wanted goals.
use Rattle.std.proofs.Common.{◌≡◌, ℕ, ◌<◌, ◌≤◌, ◌⊎◌, inl, inr, List, take, length, get_or, refl, subst, Option, Some, None, MatchOption}
use Rattle.std.specs.List.{All, Contains}
use Rattle.std.proofs.lemmas.Bool.{cases_lt}
use Rattle.std.proofs.lemmas.List.Elements.{All-contains}
use Rattle.matched_paths.specs.declared.flow_graph.FlowGraph.{FlowGraph}
use Rattle.matched_paths.specs.declared.flow_graph.Pair.{Pair}
use Rattle.matched_paths.specs.Path.{none, step}
use Rattle.matched_paths.specs.Folded as f
use Rattle.matched_paths.specs.Folded.{HoldsOutsOf, Leads}
use Rattle.matched_paths.specs.Wanted.{IsWanted, IsWantedPair}
use Rattle.matched_paths.proofs.PathLemmas.{path_end}
use Rattle.matched_paths.proofs.Closing.{held_wanted}
use Rattle.summary_core.specs.declared.task.Stamp.{Stamp}
use Rattle.summary_core.specs.declared.task.Task.{Task}
use Rattle.summary_core.specs.Board.{BoardState, IsStale, IsDirty}
use Rattle.summary_core.specs.Sound.{IsStampOf, HasSoundStamp, IsSound, HoldsWanted}
use Rattle.summary_core.proofs.Lists.{in_front, Contains-from_map}

-- where the stamp is not stale, what is led to at all is led to over the front alone
module _ (flow : FlowGraph) (history : List Pair) (goal : ℕ) (stamp : Stamp) (is : IsStampOf flow history goal stamp) (fresh : ¬ IsStale history stamp) where
  pub from_front : {a b : ℕ} → Leads flow (Contains (take stamp.seen history)) goal a → Leads flow (Contains history) a b → Leads flow (Contains (take stamp.seen history)) goal b
  from_front front none = front
  from_front front (step (f.flat edge) rest) = from_front (path_end front (f.flat edge)) rest
  from_front front (step {a} (f.bridge call goal' out opened has closed) rest) = elim (cases_lt has.0 stamp.seen) [
    | inl below ↦ from_front (path_end front (f.bridge call goal' out opened (in_front stamp.seen history _ has.0 below has.1 has.2) closed)) rest
    | inr later ↦ absurd (fresh (record {
      pair = record { goal = goal'; out = out };
      position = has.0;
      later = later;
      stands = has.1;
      is = has.2;
      asked = (is.asked goal').1 (record { vertex = a; met = front; opens = (call, opened) });
    }))
  ]

clean_stamp : (flow : FlowGraph) (history : List Pair) (goal : ℕ) (stamp : Option Stamp) →
    MatchOption stamp (Unit {0}) (λ s. IsStampOf flow history goal s) → ¬ MatchOption stamp (Unit {0}) (λ s. IsStale history s) →
    (s : Stamp) × IsStampOf flow history goal s × ¬ IsStale history s
clean_stamp flow history goal None sound clean = absurd (clean tt)
clean_stamp flow history goal (Some stamp) sound clean = (stamp, sound, clean)

module _ (board : BoardState) (sound : IsSound board) (clean : All (λ task. ¬ IsDirty board.history task) board.tasks) where
  pub quiet_holds : HoldsOutsOf board.flow (IsWanted board.flow board.starts) board.history
  quiet_holds goal out wanted led_out =
      let task = Contains-from_map (λ (t : Task). t.goal) board.tasks goal ((sound.goals.each goal).1 wanted) in
      let stamp = clean_stamp board.flow board.history task.0.goal task.0.stamp (All-contains (HasSoundStamp board.flow board.history) board.tasks task.0 sound.stamps task.1) (All-contains (λ (t : Task). ¬ IsDirty board.history t) board.tasks task.0 clean task.1) in
      let own = subst (λ (g : ℕ). Leads board.flow (Contains board.history) g out) (Rattle.std.proofs.Common.sym task.2) led_out.leads in
      let met = from_front board.flow board.history task.0.goal stamp.0 stamp.1 stamp.2 none own in
      subst (λ (g : ℕ). Contains board.history (record { goal = g; out = out })) task.2 (stamp.1.outs out (record { is_out = led_out.is_out; leads = met }))

  pub quiet_exact : HoldsWanted board.flow board.starts board.history
  quiet_exact = record {
    exact = λ pair. (All-contains (IsWantedPair board.flow board.starts) board.history pair sound.pairs, held_wanted board.flow board.starts board.history quiet_holds pair);
    once = sound.once;
  }
