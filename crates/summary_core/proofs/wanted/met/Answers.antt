use Rattle.std.proofs.Common.{ℕ, List, subst}
use Rattle.std.specs.List.{Contains}
use Rattle.flow_index.specs.Ways.{IsReached}
use Rattle.summary_core.proofs.Wanting.{met_is}
use Rattle.summary_core.proofs.wanted.met.Goals as goal

pub returns : goal.returns
returns c vertex =
    let starts = c.args.starts.now in
    let ways = c.in_ok-ways.ways.items in
    let met = c.in_ok-set.set.met in
    let reached = subst (λ (ws : List (ℕ × ℕ)). (Contains met vertex → IsReached ws starts vertex) × (IsReached ws starts vertex → Contains met vertex)) c.deref.ensures.value (c.in_ok-set.ensures.reached vertex) in
    let is = met_is c.args.flow.now starts ways c.in_ok-ways.ensures.edges vertex in
    (λ has. is.0 (reached.0 has), λ is_met. reached.1 (is.1 is_met))
