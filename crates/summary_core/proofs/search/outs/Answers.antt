use Rattle.std.proofs.Common.{◌∷◌, [], ℕ, List, ap, subst, length}
use Rattle.std.specs.List.{Contains}
use Rattle.matched_paths.specs.declared.flow_graph.Crossing.{Crossing}
use Rattle.matched_paths.specs.declared.flow_graph.Pair.{Pair}
use Rattle.flow_index.specs.Ways.{AreSteps, IsReached}
use Rattle.summary_core.specs.Searches.{IsEndOf}
use Rattle.summary_core.proofs.Finding.{out_finds, finds_out, goal_asks, asks_goal}
use Rattle.summary_core.proofs.search.outs.Goals as goal

pub returns : goal.returns
returns c =
    let flow = c.args.flow.now in
    let pairs = c.args.mirror.now in
    let goal_ = c.args.goal.vertex in
    let met = c.in_ok-set.set.met in
    let ways = c.in_ok-ways.ways.items in
    let steps : AreSteps flow pairs ways = subst (λ (ps : List Pair). AreSteps flow ps ways) c.pairs-pairs.ensures c.in_ok-ways.ensures.steps in
    let reached : (vertex : ℕ) → (Contains met vertex → IsReached ways (goal_ ∷ []) vertex) × (IsReached ways (goal_ ∷ []) vertex → Contains met vertex) =
    subst (λ (ws : List (ℕ × ℕ)). (vertex : ℕ) → (Contains met vertex → IsReached ws (goal_ ∷ []) vertex) × (IsReached ws (goal_ ∷ []) vertex → Contains met vertex)) c.deref.ensures.value c.in_ok-set.ensures.reached in
    let outs = subst (λ (cs : List Crossing). (out : ℕ) → (Contains c.in_ok-outs.outs.items out → IsEndOf (λ close. close.from) met cs out) × (IsEndOf (λ close. close.from) met cs out → Contains c.in_ok-outs.outs.items out)) c.items.ensures c.in_ok-outs.ensures.outs in
    let asked = subst (λ (os : List Crossing). (asked : ℕ) → (Contains c.in_ok-asked.asked.items asked → IsEndOf (λ entry. entry.to) met os asked) × (IsEndOf (λ entry. entry.to) met os asked → Contains c.in_ok-asked.asked.items asked)) c.items-2.ensures c.in_ok-asked.ensures.goals in
    rw (c.of.ensures, c.of-2.ensures) (record {
      outs = λ out. (λ has. out_finds flow pairs ways goal_ met steps reached out ((outs out).0 has), λ finds. (outs out).1 (finds_out flow pairs ways goal_ met steps reached out finds));
      outs_rise = c.in_ok-outs.ensures.rise;
      asked = λ a. (λ has. goal_asks flow pairs ways goal_ met steps reached a ((asked a).0 has), λ asks. (asked a).1 (asks_goal flow pairs ways goal_ met steps reached a asks));
      asked_rise = c.in_ok-asked.ensures.rise;
      seen = ap length c.pairs-pairs.ensures;
    })
