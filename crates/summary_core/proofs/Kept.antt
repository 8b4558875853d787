-- Each event keeps a sound board sound.
use Rattle.std.proofs.Common.{◌≡◌, ◌≢◌, ℕ, ◌≤◌, List, [], ◌∷◌, ◌++◌, length, take, sym, ap, ◌∙◌, arith, subst, length-append, Option, Some, None, MatchOption}
use Rattle.std.specs.List.{Contains}
use Rattle.std.proofs.lemmas.List.{take-append-le}
use Rattle.std.proofs.lemmas.List.Elements.{All-append, All-weaker, All-contains, Contains-append_left}
use Rattle.matched_paths.specs.declared.flow_graph.FlowGraph.{FlowGraph}
use Rattle.matched_paths.specs.declared.flow_graph.Pair.{Pair}
use Rattle.matched_paths.specs.Folded as f
use Rattle.matched_paths.specs.Folded.{FoldedStep, Leads, LeadsOut}
use Rattle.matched_paths.specs.Matched.{IsTruePair}
use Rattle.matched_paths.specs.Wanted.{IsWanted, IsWantedPair}
use Rattle.matched_paths.proofs.PathLemmas.{path_map}
use Rattle.matched_paths.proofs.Folding.{unfolded}
use Rattle.summary_core.specs.declared.found.Found.{Found}
use Rattle.summary_core.specs.declared.task.Stamp.{Stamp}
use Rattle.summary_core.specs.declared.task.Task.{Task}
use Rattle.summary_core.specs.Searches.{Asks}
use Rattle.summary_core.specs.Board.{BoardState, IsOpening, IsUntouched}
use Rattle.summary_core.specs.Events.{Flies, Claims, Publishes, Abandons, AreNew, Event, Claim, Publish, Abandon, Makes, Runs}
use Rattle.summary_core.specs.Sound.{EachOnce, IsStampOf, HasSoundStamp, IsSound}
use Rattle.summary_core.proofs.Lists.{in_take, goals-changed, All-changed, Contains-map, AllPairs-append}

-- bridges over other pairs
pub leads_map : (flow : FlowGraph) (P Q : Pair → Type 0) → ((pair : Pair) → P pair → Q pair) → {a b : ℕ} → Leads flow P a b → Leads flow Q a b
leads_map flow P Q same = path_map each
  where
    each : (a b : ℕ) → FoldedStep flow P a b → FoldedStep flow Q a b
    each a b (f.flat edge) = f.flat edge
    each a b (f.bridge call goal out opened so closed) = f.bridge call goal out opened (same _ so) closed

-- what a search over the front finds and asks does not change as the history grows
finds_same : (flow : FlowGraph) (history more : List Pair) (seen goal out : ℕ) → seen ≤ length history →
    LeadsOut flow (Contains (take seen (history ++ more))) goal out → LeadsOut flow (Contains (take seen history)) goal out
finds_same flow history more seen goal out within finds = subst (λ (pairs : List Pair). LeadsOut flow (Contains pairs) goal out) (take-append-le seen history more within) finds

asks_same : (flow : FlowGraph) (history more : List Pair) (seen goal asked : ℕ) → seen ≤ length history →
    Asks flow (take seen (history ++ more)) goal asked → Asks flow (take seen history) goal asked
asks_same flow history more seen goal asked within asks = subst (λ (pairs : List Pair). Asks flow pairs goal asked) (take-append-le seen history more within) asks

asks_more : (flow : FlowGraph) (history more : List Pair) (seen goal asked : ℕ) → seen ≤ length history →
    Asks flow (take seen history) goal asked → Asks flow (take seen (history ++ more)) goal asked
asks_more flow history more seen goal asked within asks = subst (λ (pairs : List Pair). Asks flow pairs goal asked) (sym (take-append-le seen history more within)) asks

pub stamp_more : (flow : FlowGraph) (history more : List Pair) (goal : ℕ) (stamp : Stamp) → IsStampOf flow history goal stamp → IsStampOf flow (history ++ more) goal stamp
stamp_more flow history more goal stamp is = record {
  seen = omega (arith, is.seen, length-append history more);
  asked = λ asked.
      (λ has. asks_more flow history more stamp.seen goal asked is.seen ((is.asked asked).0 has), λ asks. (is.asked asked).1 (asks_same flow history more stamp.seen goal asked is.seen asks));
  asked_rise = is.asked_rise;
  outs = λ out finds. Contains-append_left history more _ (is.outs out (finds_same flow history more stamp.seen goal out is.seen finds));
}

task_more : (flow : FlowGraph) (history more : List Pair) (goal : ℕ) (stamp : Option Stamp) → MatchOption stamp (Unit {0}) (λ s. IsStampOf flow history goal s) → MatchOption stamp (Unit {0}) (λ s. IsStampOf flow (history ++ more) goal s)
task_more flow history more goal None is = tt
task_more flow history more goal (Some stamp) is = stamp_more flow history more goal stamp is

-- new pairs stand once beside the old ones
once_more : (history : List Pair) (goal : ℕ) (outs : List ℕ) (new : List Pair) → EachOnce history → AreNew history goal outs new → EachOnce (history ++ new)
once_more history goal outs new once are =
    AllPairs-append (λ (a b : Pair). a ≢ b) history new once
    (λ i j d less within same. let rises = are.rise i j d less within in let outs_same = ap (λ (p : Pair). p.out) same in omega arith)
    (λ x y front back same. let fresh = (All-contains (λ (pair : Pair). (pair.goal ≡ goal) × Contains outs pair.out × ¬ Contains history pair) new y are.each back).2 in fresh (subst (λ (p : Pair). Contains history p) same front))

pub wanted_flight : (board : BoardState) → IsSound board → (goal : ℕ) → Flies board goal → IsWanted board.flow board.starts goal
wanted_flight board sound goal flies =
    subst (λ (g : ℕ). IsWanted board.flow board.starts g) flies.of_goal
    ((sound.goals.each flies.task.goal).0 (Contains-map (λ (task : Task). task.goal) board.tasks flies.task flies.stands))

-- what was found over the front is a true pair
found_true : (board : BoardState) → IsSound board → (goal seen out : ℕ) → IsWanted board.flow board.starts goal → LeadsOut board.flow (Contains (take seen board.history)) goal out →
    IsWantedPair board.flow board.starts (record { goal = goal; out = out })
found_true board sound goal seen out wanted finds = record {
  matched = record {
    goal = wanted.goal;
    out = finds.is_out;
    matched = unfolded board.flow (leads_map board.flow (Contains (take seen board.history)) (IsTruePair board.flow)
        (λ pair has. (All-contains (IsWantedPair board.flow board.starts) board.history pair sound.pairs (in_take seen board.history pair has)).matched) finds.leads);
  };
  wanted = wanted;
}

pub claim_sound : (board : BoardState) (goal : ℕ) (after : BoardState) → IsSound board → Claims board goal after → IsSound after
claim_sound board goal after sound claims = rw claims.changes (record {
  goals = rw goals-changed sound.goals;
  pairs = sound.pairs;
  once = sound.once;
  stamps = All-changed (HasSoundStamp board.flow board.history) _ goal _ board.tasks (λ task is. is) (λ task of_goal is. is) sound.stamps;
})

pub abandon_sound : (board : BoardState) (goal : ℕ) (after : BoardState) → IsSound board → Abandons board goal after → IsSound after
abandon_sound board goal after sound abandons = rw abandons.changes (record {
  goals = rw goals-changed sound.goals;
  pairs = sound.pairs;
  once = sound.once;
  stamps = All-changed (HasSoundStamp board.flow board.history) _ goal _ board.tasks (λ task is. is) (λ task of_goal is. is) sound.stamps;
})

pub publish_sound : (board : BoardState) (goal : ℕ) (found : Found) (after : BoardState) → IsSound board → Publishes board goal found after → IsSound after
publish_sound board goal found after sound publishes =
    let history = board.history in
    let new = publishes.new in
    let are = publishes.are_new in
    let wanted = wanted_flight board sound goal publishes.flies in
    rw publishes.changes (record {
      goals = rw goals-changed sound.goals;
      pairs = All-append (IsWantedPair board.flow board.starts) history new sound.pairs
          (All-weaker (λ (pair : Pair). (pair.goal ≡ goal) × Contains found.outs pair.out × ¬ Contains history pair) (IsWantedPair board.flow board.starts) (λ pair is.
          subst (λ (g : ℕ). IsWantedPair board.flow board.starts (record { goal = g; out = pair.out })) (sym is.0)
          (found_true board sound goal found.seen pair.out wanted ((publishes.was_found.outs pair.out).0 is.1))) new are.each);
      once = once_more history goal found.outs new sound.once are;
      stamps = All-changed (HasSoundStamp board.flow history) (HasSoundStamp board.flow (history ++ new)) goal _ board.tasks
          (λ task is. task_more board.flow history new task.goal task.stamp is)
          (λ task of_goal is. subst (λ (g : ℕ). IsStampOf board.flow (history ++ new) g (record { seen = found.seen; asked = found.asked })) (sym of_goal) (record {
            seen = omega (arith, publishes.seen, length-append history new);
            asked = λ asked.
                (λ has. asks_more board.flow history new found.seen goal asked publishes.seen ((publishes.was_found.asked asked).0 has), λ asks. (publishes.was_found.asked asked).1 (asks_same board.flow history new found.seen goal asked publishes.seen asks));
            asked_rise = publishes.was_found.asked_rise;
            outs = λ out finds. are.all out ((publishes.was_found.outs out).1 (finds_same board.flow history new found.seen goal out publishes.seen finds));
          })) sound.stamps;
    })

makes_sound : (board : BoardState) (event : Event) (after : BoardState) → IsSound board → Makes board event after → IsSound after
makes_sound board (Claim goal) after sound makes = claim_sound board goal after sound makes
makes_sound board (Publish goal found) after sound makes = publish_sound board goal found after sound makes
makes_sound board (Abandon goal) after sound makes = abandon_sound board goal after sound makes

pub runs_sound : (board : BoardState) (events : List Event) (after : BoardState) → IsSound board → Runs board events after → IsSound after
runs_sound board [] after sound runs = subst IsSound runs sound
runs_sound board (event ∷ events) after sound runs = runs_sound runs.0 events after (makes_sound board event runs.0 sound runs.1) runs.2

no_stamp : (flow : FlowGraph) (history : List Pair) (goal : ℕ) (stamp : Option Stamp) → stamp ≡ None → MatchOption stamp (Unit {0}) (λ s. IsStampOf flow history goal s)
no_stamp flow history goal None is = tt
no_stamp flow history goal (Some stamp) is = cc

pub opening_sound : (flow : FlowGraph) (starts : List ℕ) (board : BoardState) → IsOpening flow starts board → IsSound board
opening_sound flow starts board opening = record {
  goals = rw (opening.same_flow, opening.same_starts) opening.goals;
  pairs = rw opening.no_pairs (λ k d within. absurd (omega arith));
  once = rw opening.no_pairs (λ i j d less within. absurd (omega arith));
  stamps = All-weaker IsUntouched _ (λ (task : Task) is. no_stamp board.flow board.history task.goal task.stamp is.stamp) board.tasks opening.untouched;
}

-- events change neither the flow graph nor the starts
same_makes : (board : BoardState) (event : Event) (after : BoardState) → Makes board event after → (after.flow ≡ board.flow) × (after.starts ≡ board.starts)
same_makes board (Claim goal) after makes = (ap (λ (b : BoardState). b.flow) makes.changes, ap (λ (b : BoardState). b.starts) makes.changes)
same_makes board (Publish goal found) after makes = (ap (λ (b : BoardState). b.flow) makes.changes, ap (λ (b : BoardState). b.starts) makes.changes)
same_makes board (Abandon goal) after makes = (ap (λ (b : BoardState). b.flow) makes.changes, ap (λ (b : BoardState). b.starts) makes.changes)

pub same_runs : (board : BoardState) (events : List Event) (after : BoardState) → Runs board events after → (after.flow ≡ board.flow) × (after.starts ≡ board.starts)
same_runs board [] after runs = (ap (λ (b : BoardState). b.flow) (sym runs), ap (λ (b : BoardState). b.starts) (sym runs))
same_runs board (event ∷ events) after runs =
    let rest = same_runs runs.0 events after runs.2 in
    let first = same_makes board event runs.0 runs.1 in
    (rest.0 ∙ first.0, rest.1 ∙ first.1)
