-- A search over ways finds what the definitions say.
use Rattle.std.proofs.Common.{ℕ, List, [], ◌∷◌, refl, arith, subst}
use Rattle.std.specs.List.{Contains}
use Rattle.matched_paths.specs.declared.flow_graph.Crossing.{Crossing}
use Rattle.matched_paths.specs.declared.flow_graph.FlowGraph.{FlowGraph}
use Rattle.matched_paths.specs.declared.flow_graph.Pair.{Pair}
use Rattle.matched_paths.specs.Folded.{Leads, LeadsOut}
use Rattle.matched_paths.proofs.PathLemmas.{path_map}
use Rattle.flow_index.specs.Ways.{AreSteps, IsReached}
use Rattle.flow_index.proofs.Marking.{in_one}
use Rattle.summary_core.specs.Searches.{Asks, IsEndOf}

module _ (flow : FlowGraph) (pairs : List Pair) where
  pub met_leads : (ways : List (ℕ × ℕ)) (goal vertex : ℕ) → AreSteps flow pairs ways → IsReached ways (goal ∷ []) vertex → Leads flow (Contains pairs) goal vertex
  met_leads ways goal vertex are reached =
      subst (λ (s : ℕ). Leads flow (Contains pairs) s vertex) (in_one goal reached.start reached.among) (path_map (λ a b way. (are a b).0 way) reached.leads)

  pub leads_met : (ways : List (ℕ × ℕ)) (goal vertex : ℕ) → AreSteps flow pairs ways → Leads flow (Contains pairs) goal vertex → IsReached ways (goal ∷ []) vertex
  leads_met ways goal vertex are leads = record { start = goal; among = (0, omega arith, refl); leads = path_map (λ a b taken. (are a b).1 taken) leads }

  module _ (ways : List (ℕ × ℕ)) (goal : ℕ) (met : List ℕ) (are : AreSteps flow pairs ways) (is : (vertex : ℕ) → (Contains met vertex → IsReached ways (goal ∷ []) vertex) × (IsReached ways (goal ∷ []) vertex → Contains met vertex)) where
    pub out_finds : (out : ℕ) → IsEndOf (λ (close : Crossing). close.from) met flow.closes out → LeadsOut flow (Contains pairs) goal out
    out_finds out end = record {
      is_out = (end.crossing.to, (end.crossing.call, subst (λ (v : ℕ). Contains flow.closes (record { call = end.crossing.call; from = v; to = end.crossing.to })) end.end end.stands));
      leads = subst (λ (v : ℕ). Leads flow (Contains pairs) goal v) end.end (met_leads ways goal _ are ((is end.crossing.from).0 end.among));
    }

    pub finds_out : (out : ℕ) → LeadsOut flow (Contains pairs) goal out → IsEndOf (λ (close : Crossing). close.from) met flow.closes out
    finds_out out finds = record {
      crossing = record { call = finds.is_out.1.0; from = out; to = finds.is_out.0 };
      stands = finds.is_out.1.1;
      among = (is out).1 (leads_met ways goal out are finds.leads);
      end = refl;
    }

    pub goal_asks : (asked : ℕ) → IsEndOf (λ (entry : Crossing). entry.to) met flow.opens asked → Asks flow pairs goal asked
    goal_asks asked end = record {
      vertex = end.crossing.from;
      met = met_leads ways goal _ are ((is end.crossing.from).0 end.among);
      opens = (end.crossing.call, subst (λ (v : ℕ). Contains flow.opens (record { call = end.crossing.call; from = end.crossing.from; to = v })) end.end end.stands);
    }

    pub asks_goal : (asked : ℕ) → Asks flow pairs goal asked → IsEndOf (λ (entry : Crossing). entry.to) met flow.opens asked
    asks_goal asked asks = record {
      crossing = record { call = asks.opens.0; from = asks.vertex; to = asked };
      stands = asks.opens.1;
      among = (is asks.vertex).1 (leads_met ways goal asks.vertex are asks.met);
      end = refl;
    }
