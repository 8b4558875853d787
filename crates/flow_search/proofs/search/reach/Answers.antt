use Rattle.std.proofs.Common.{◌≡◌, ◌<◌, ℕ, List, get_or, ap, sym, ◌∙◌, subst}
use Rattle.std.specs.List.{Contains}
use Rattle.std.proofs.lemmas.List.Elements.{All-contains}
use Rattle.matched_paths.specs.declared.flow_graph.Crossing.{Crossing}
use Rattle.matched_paths.specs.declared.flow_graph.FlowGraph.{FlowGraph}
use Rattle.matched_paths.specs.declared.flow_graph.Pair.{Pair}
use Rattle.flow_index.specs.Ways.{AreAmong, AreSteps, IsReached}
use Rattle.flow_search.proofs.Turning.{AreBoth, both_among, turns_flow}
use Rattle.flow_search.proofs.search.reach.Goals as goal

pub reached-requires-clause-ways : goal.reached-requires-clause-ways
reached-requires-clause-ways c =
    let flow = c.flow-flow.result.now in
    let both : AreBoth c.in_ok-out.out.items c.in_ok-steps.steps.items flow.closes =
    subst (λ (xs : List Crossing). AreBoth c.in_ok-out.out.items c.in_ok-steps.steps.items xs) c.items.ensures
    (subst (λ (ss : List (ℕ × ℕ)). AreBoth c.in_ok-out.out.items ss c.items.result.now) c.deref.ensures.value c.in_ok-out.ensures) in
    subst (λ (ws : List (ℕ × ℕ)). AreAmong flow.vertices ws) (sym c.deref-2.ensures.value) (both_among flow.vertices c.in_ok-out.out.items c.in_ok-steps.steps.items flow.closes both c.in_ok-steps.ensures.within flow.within.closes)

pub reached-requires-clause-starts : goal.reached-requires-clause-starts
reached-requires-clause-starts c k d inside =
    let is = c.flow-flow.ensures.closed in
    subst (λ (f : FlowGraph). get_or c.args.starts.now k d < f.vertices) (sym c.flow-flow.ensures.flow)
    (All-contains (λ (s : ℕ). s < c.args.closed.now.flow.vertices) c.args.closed.now.starts _ is.starts (c.requires k d inside))

pub reached-requires-2-clause-ways : goal.reached-requires-2-clause-ways
reached-requires-2-clause-ways c =
    let flow = c.flow-flow.result.now in
    let both : AreBoth c.in_ok-into.into.items c.in_ok-steps.steps.items flow.opens =
    subst (λ (xs : List Crossing). AreBoth c.in_ok-into.into.items c.in_ok-steps.steps.items xs) c.items-2.ensures
    (subst (λ (ss : List (ℕ × ℕ)). AreBoth c.in_ok-into.into.items ss c.items-2.result.now) c.deref-3.ensures.value c.in_ok-into.ensures) in
    subst (λ (ws : List (ℕ × ℕ)). AreAmong flow.vertices ws) (sym c.deref-4.ensures.value) (both_among flow.vertices c.in_ok-into.into.items c.in_ok-steps.steps.items flow.opens both c.in_ok-steps.ensures.within flow.within.opens)

pub returns : goal.returns
returns c vertex =
    let table = c.args.closed.now in
    let flow = table.flow in
    let starts = c.args.starts.now in
    let steps = c.in_ok-steps.steps.items in
    let out = c.in_ok-out.out.items in
    let into = c.in_ok-into.into.items in
    let turns = c.in_ok-turns.turns.met in
    let are : AreSteps flow table.pairs steps =
    subst (λ (f : FlowGraph). AreSteps f table.pairs steps) c.flow-flow.ensures.flow (subst (λ (ps : List Pair). AreSteps c.flow-flow.result.now ps steps) c.pairs.ensures.pairs c.in_ok-steps.ensures.steps) in
    let closes : c.items.result.now ≡ flow.closes = c.items.ensures ∙ ap (λ (f : FlowGraph). f.closes) c.flow-flow.ensures.flow in
    let opens : c.items-2.result.now ≡ flow.opens = c.items-2.ensures ∙ ap (λ (f : FlowGraph). f.opens) c.flow-flow.ensures.flow in
    let both_out : AreBoth out steps flow.closes =
    subst (λ (xs : List Crossing). AreBoth out steps xs) closes (subst (λ (ss : List (ℕ × ℕ)). AreBoth out ss c.items.result.now) c.deref.ensures.value c.in_ok-out.ensures) in
    let both_into : AreBoth into steps flow.opens =
    subst (λ (xs : List Crossing). AreBoth into steps xs) opens (subst (λ (ss : List (ℕ × ℕ)). AreBoth into ss c.items-2.result.now) c.deref-3.ensures.value c.in_ok-into.ensures) in
    let turned : (v : ℕ) → (Contains turns v → IsReached out starts v) × (IsReached out starts v → Contains turns v) =
    subst (λ (ws : List (ℕ × ℕ)). (v : ℕ) → (Contains turns v → IsReached ws starts v) × (IsReached ws starts v → Contains turns v)) c.deref-2.ensures.value c.in_ok-turns.ensures.reached in
    let last : (Contains c.in_ok-set.set.met vertex → IsReached into turns vertex) × (IsReached into turns vertex → Contains c.in_ok-set.set.met vertex) =
    subst (λ (ws : List (ℕ × ℕ)). (Contains c.in_ok-set.set.met vertex → IsReached ws turns vertex) × (IsReached ws turns vertex → Contains c.in_ok-set.set.met vertex)) c.deref-4.ensures.value
    (subst (λ (ts : List ℕ). (Contains c.in_ok-set.set.met vertex → IsReached c.deref-4.result.now ts vertex) × (IsReached c.deref-4.result.now ts vertex → Contains c.in_ok-set.set.met vertex)) c.met.ensures.met (c.in_ok-set.ensures.reached vertex)) in
    let flows = turns_flow table starts steps out into turns c.flow-flow.ensures.closed c.requires are both_out both_into turned vertex in
    (λ has. flows.0 (last.0 has), λ from. last.1 (flows.1 from))
