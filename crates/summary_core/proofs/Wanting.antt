-- The wanted goals are gathered.
use Rattle.std.proofs.Common.{◌≡◌, ℕ, ◌+◌, ◌<◌, ◌≤◌, inl, inr, List, [], ◌∷◌, ◌++◌, length, get_or, sym, ap, ◌∙◌, arith, subst, length-append}
use Rattle.std.specs.List.{All, Contains}
use Rattle.std.specs.List.Sorted.{IsStrictlyIncreasing}
use Rattle.std.proofs.lemmas.Bool.{cases_lt}
use Rattle.std.proofs.lemmas.List.{get_or_default, get_or_append_left}
use Rattle.std.proofs.Math.Seq.{get_or-append_seam}
use Rattle.std.proofs.lemmas.List.Elements.{All-nil, All-push, All-append, All-weaker, All-contains, Contains-append_left, Contains-append_right, Contains-append_cases, Contains-get_or}
use Rattle.matched_paths.specs.declared.flow_graph.Crossing.{Crossing}
use Rattle.matched_paths.specs.declared.flow_graph.FlowGraph.{FlowGraph}
use Rattle.matched_paths.specs.Ends.{IsAmong}
use Rattle.matched_paths.specs.Edges.{IsGoal}
use Rattle.matched_paths.proofs.PathLemmas.{path_map}
use Rattle.matched_paths.specs.Wanted as w
use Rattle.matched_paths.specs.Wanted.{HasEdge, IsMet, IsWanted}
use Rattle.matched_paths.specs.Edges.{Crosses}
use Rattle.flow_index.specs.Vertices.{Meets, Vertices}
use Rattle.flow_index.specs.Ways.{AreAmong, IsReached}
use Rattle.flow_index.proofs.Growing.{grows_keeps}
use Rattle.summary_core.specs.Board.{AreWanted}

-- The goals of the first opens were met.
pub record MeetsGoals (flow : FlowGraph) (set : Vertices) (index : ℕ) : Type 0 where
  pub count_is : set.count ≡ flow.vertices
  pub sound : All (IsGoal flow) set.met
  pub all : (k : ℕ) (d : Crossing) → k < index → k < length flow.opens → Contains set.met (get_or flow.opens k d).to

pub goals_none : (flow : FlowGraph) (set : Vertices) → set.count ≡ flow.vertices → set.met ≡ [] → MeetsGoals flow set 0
goals_none flow set counts empty = record {
  count_is = counts;
  sound = subst (λ (xs : List ℕ). All (IsGoal flow) xs) (sym empty) (All-nil (IsGoal flow));
  all = λ k d less within. absurd (omega arith);
}

pub goals_more : (flow : FlowGraph) (set after : Vertices) (index : ℕ) (d : Crossing) → index < length flow.opens → MeetsGoals flow set index → Meets set after (get_or flow.opens index d).to → MeetsGoals flow after (index + 1)
goals_more flow set after index d within is meets =
    let entry = get_or flow.opens index d in
    record {
      count_is = meets.grows.count ∙ is.count_is;
      sound = subst (λ (xs : List ℕ). All (IsGoal flow) xs) (sym meets.grows.kept)
          (All-append (IsGoal flow) set.met meets.grows.more is.sound
          (All-weaker (λ (v : ℕ). v ≡ entry.to) (IsGoal flow) (λ v same. subst (λ (x : ℕ). IsGoal flow x) (sym same) (entry.from, (entry.call, Contains-get_or flow.opens index d within))) meets.grows.more meets.grows.new));
      all = λ k e less inside. elim (cases_lt k index) [
        | inl before ↦ grows_keeps _ set after _ meets.grows (is.all k e before inside)
        | inr not_before ↦
            let here : index ≡ k = omega arith in
            subst (λ (c : Crossing). Contains after.met c.to) (ap (λ (i : ℕ). get_or flow.opens i d) here ∙ get_or_default flow.opens k d e inside) meets.met
      ];
    }

pub goals_end : (flow : FlowGraph) (set : Vertices) (index : ℕ) → length flow.opens ≤ index → MeetsGoals flow set index → (vertex : ℕ) → (Contains set.met vertex → IsGoal flow vertex) × (IsGoal flow vertex → Contains set.met vertex)
goals_end flow set index all is vertex = (
  λ has. All-contains (IsGoal flow) set.met vertex is.sound has,
  λ goal.
      let at = goal.1.1 in
      let entry : Crossing = record { call = goal.1.0; from = goal.0; to = vertex } in
      subst (λ (c : Crossing). Contains set.met c.to) at.2 (is.all at.0 entry (omega (arith, at.1)) at.1),
)

-- The ways are all edges.
pub edges_are : (flow : FlowGraph) (opens closes ways : List (ℕ × ℕ)) → ((a b : ℕ) → (Contains opens (a, b) → Crosses flow.opens a b) × (Crosses flow.opens a b → Contains opens (a, b))) →
    ((a b : ℕ) → (Contains closes (a, b) → Crosses flow.closes a b) × (Crosses flow.closes a b → Contains closes (a, b))) → ways ≡ (opens ++ closes) ++ flow.flat →
    (a b : ℕ) → (Contains ways (a, b) → HasEdge flow a b) × (HasEdge flow a b → Contains ways (a, b))
edges_are flow opens closes ways are_opens are_closes is a b = (
  λ has. elim (Contains-append_cases (opens ++ closes) flow.flat (a, b) (subst (λ (xs : List (ℕ × ℕ)). Contains xs (a, b)) is has)) [
    | inl front ↦ elim (Contains-append_cases opens closes (a, b) front) [
      | inl open' ↦ w.opens ((are_opens a b).0 open')
      | inr close ↦ w.closes ((are_closes a b).0 close)
    ]
    | inr flat ↦ w.flat flat
  ],
  λ edge. subst (λ (xs : List (ℕ × ℕ)). Contains xs (a, b)) (sym is) (back edge),
)
  where
    back : HasEdge flow a b → Contains ((opens ++ closes) ++ flow.flat) (a, b)
    back (w.flat edge) = Contains-append_right (opens ++ closes) flow.flat (a, b) edge
    back (w.opens edge) = Contains-append_left (opens ++ closes) flow.flat (a, b) (Contains-append_left opens closes (a, b) ((are_opens a b).1 edge))
    back (w.closes edge) = Contains-append_left (opens ++ closes) flow.flat (a, b) (Contains-append_right opens closes (a, b) ((are_closes a b).1 edge))

edge_among : (flow : FlowGraph) → (a b : ℕ) → HasEdge flow a b → (a < flow.vertices) × (b < flow.vertices)
edge_among flow a b (w.flat edge) = All-contains (λ (e : ℕ × ℕ). (e.0 < flow.vertices) × (e.1 < flow.vertices)) flow.flat (a, b) flow.within.flat edge
edge_among flow a b (w.opens edge) = let is = All-contains (IsAmong flow.vertices) flow.opens _ flow.within.opens edge.1 in (is.from, is.to)
edge_among flow a b (w.closes edge) = let is = All-contains (IsAmong flow.vertices) flow.closes _ flow.within.closes edge.1 in (is.from, is.to)

pub edges_among : (flow : FlowGraph) (ways : List (ℕ × ℕ)) → ((a b : ℕ) → (Contains ways (a, b) → HasEdge flow a b) × (HasEdge flow a b → Contains ways (a, b))) → AreAmong flow.vertices ways
edges_among flow ways are k d inside = let way = get_or ways k d in edge_among flow way.0 way.1 ((are way.0 way.1).0 (Contains-get_or ways k d inside))

pub met_is : (flow : FlowGraph) (starts : List ℕ) (ways : List (ℕ × ℕ)) → ((a b : ℕ) → (Contains ways (a, b) → HasEdge flow a b) × (HasEdge flow a b → Contains ways (a, b))) → (vertex : ℕ) →
    (IsReached ways starts vertex → IsMet flow starts vertex) × (IsMet flow starts vertex → IsReached ways starts vertex)
met_is flow starts ways are vertex = (
  λ reached. record { start = reached.start; among = reached.among; leads = path_map (λ a b way. (are a b).0 way) reached.leads },
  λ met. record { start = met.start; among = met.among; leads = path_map (λ a b edge. (are a b).1 edge) met.leads },
)

-- The goals are the wanted ones below the vertex.
pub record TakesUp (flow : FlowGraph) (starts goals : List ℕ) (vertex : ℕ) : Type 0 where
  pub rise : IsStrictlyIncreasing goals
  pub sound : All (λ goal. (goal < vertex) × IsWanted flow starts goal) goals
  pub all : (goal : ℕ) → goal < vertex → IsWanted flow starts goal → Contains goals goal

pub wanted_none : (flow : FlowGraph) (starts goals : List ℕ) → goals ≡ [] → TakesUp flow starts goals 0
wanted_none flow starts goals empty = rw empty (record {
  rise = λ k within. absurd (omega arith);
  sound = λ k d within. absurd (omega arith);
  all = λ goal less wanted. absurd (omega arith);
})

-- a number above all stands behind a rising list
rise_more : (xs : List ℕ) (x : ℕ) → IsStrictlyIncreasing xs → All (λ y. y < x) xs → IsStrictlyIncreasing (xs ++ x ∷ [])
rise_more xs x rise below k within =
    let len = length-append xs (x ∷ []) in
    elim (cases_lt (k + 1) (length xs)) [
      | inl inside ↦
          let first : k < length xs = omega arith in
          rw (get_or_append_left xs (x ∷ []) 0 k first, get_or_append_left xs (x ∷ []) 0 (k + 1) inside) (rise k inside)
      | inr outside ↦
          let at : k + 1 ≡ length xs = omega arith in
          let first : k < length xs = omega arith in
          let last : get_or (xs ++ x ∷ []) (k + 1) 0 ≡ x = ap (λ (i : ℕ). get_or (xs ++ x ∷ []) i 0) at ∙ get_or-append_seam xs x [] 0 in
          rw (last, get_or_append_left xs (x ∷ []) 0 k first) (below k 0 first)
    ]

abbrev Below : FlowGraph → List ℕ → ℕ → ℕ → Type 0
Below flow starts vertex goal = (goal < vertex) × IsWanted flow starts goal

-- what is below a vertex is below the next one
below_next : (flow : FlowGraph) (starts goals : List ℕ) (vertex : ℕ) → All (Below flow starts vertex) goals → All (Below flow starts (vertex + 1)) goals
below_next flow starts goals vertex =
    All-weaker (Below flow starts vertex) (Below flow starts (vertex + 1)) (λ g so. (omega (arith, so.0), so.1)) goals

pub wanted_one : (flow : FlowGraph) (starts goals : List ℕ) (vertex : ℕ) → IsWanted flow starts vertex → TakesUp flow starts goals vertex → TakesUp flow starts (goals ++ vertex ∷ []) (vertex + 1)
wanted_one flow starts goals vertex wanted is = record {
  rise = rise_more goals vertex is.rise (All-weaker (Below flow starts vertex) (λ g. g < vertex) (λ g so. so.0) goals is.sound);
  sound = All-push (Below flow starts (vertex + 1)) goals vertex (below_next flow starts goals vertex is.sound) (omega arith, wanted);
  all = λ goal less is_wanted. elim (cases_lt goal vertex) [
    | inl before ↦ Contains-append_left goals (vertex ∷ []) goal (is.all goal before is_wanted)
    | inr not_before ↦
        let here : vertex ≡ goal = omega arith in
        Contains-append_right goals (vertex ∷ []) goal (0, omega arith, here)
  ];
}

pub wanted_skip : (flow : FlowGraph) (starts goals : List ℕ) (vertex : ℕ) → ¬ IsWanted flow starts vertex → TakesUp flow starts goals vertex → TakesUp flow starts goals (vertex + 1)
wanted_skip flow starts goals vertex unwanted is = record {
  rise = is.rise;
  sound = below_next flow starts goals vertex is.sound;
  all = λ goal less wanted. elim (cases_lt goal vertex) [
    | inl before ↦ is.all goal before wanted
    | inr not_before ↦
        let here : goal ≡ vertex = omega arith in
        absurd (unwanted (subst (λ (g : ℕ). IsWanted flow starts g) here wanted))
  ];
}

pub wanted_end : (flow : FlowGraph) (starts goals : List ℕ) (vertex : ℕ) → flow.vertices ≤ vertex → TakesUp flow starts goals vertex → AreWanted flow starts goals
wanted_end flow starts goals vertex all is = record {
  each = λ goal. (
    λ has. (All-contains (Below flow starts vertex) goals goal is.sound has).1,
    λ wanted.
        let below = (All-contains (IsAmong flow.vertices) flow.opens _ flow.within.opens wanted.goal.1.1).to in
        is.all goal (omega arith) wanted,
  );
  rise = is.rise;
}
