-- What is so of facts and bridges stays so as they grow.
use Rattle.std.proofs.Common.{◌≡◌, ℕ, ◌+◌, ◌<◌, ◌≤◌, inl, inr, List, [], length, get_or, sym, ap, ◌∙◌, arith, subst, length-append}
use Rattle.std.specs.List.{All, Contains}
use Rattle.std.proofs.lemmas.Bool.{cases_lt}
use Rattle.std.proofs.lemmas.List.{get_or_default}
use Rattle.std.proofs.lemmas.List.Elements.{All-append, All-contains, All-get_or, All-nil, Contains-append_cases, Contains-get_or}
use Rattle.matched_paths.specs.declared.flow_graph.FlowGraph.{FlowGraph}
use Rattle.matched_paths.specs.declared.flow_graph.Pair.{Pair}
use Rattle.matched_paths.specs.Ends.{IsAmong}
use Rattle.matched_paths.specs.Edges.{HasFlat}
use Rattle.matched_paths.specs.Path.{none, step}
use Rattle.matched_paths.specs.Folded as f
use Rattle.matched_paths.specs.Folded.{FoldedStep, Leads}
use Rattle.matched_paths.specs.Matched as m
use Rattle.matched_paths.specs.Matched.{Matched}
use Rattle.flow_index.specs.Ways.{AddsAll, BridgesOver}
use Rattle.path_facts.specs.declared.pair_set.PairSet.{PairSet}
use Rattle.path_facts.specs.PairSets.{Grows, IsKept, Meets, pair_at}
use Rattle.path_facts.specs.Facts.{HasGoal, Spreads, Tabulates}
use Rattle.path_facts.proofs.Growing.{grows_all, grows_at, grows_keeps, grows_map, grows_none, grows_then}

-- the fact at a position, and where it stands
pub fact_stands : (facts : PairSet) (position : ℕ) → position < length facts.pairs.items → Contains facts.pairs.items ((pair_at facts position).0, (pair_at facts position).1)
fact_stands facts position within = Contains-get_or facts.pairs.items position (0, 0) within

-- the position of a fact
pub at_fact : (facts : PairSet) (fact : ℕ × ℕ) (has : Contains facts.pairs.items fact) → pair_at facts has.0 ≡ fact
at_fact facts fact has = get_or_default facts.pairs.items has.0 (0, 0) fact has.1 ∙ has.2

-- a fact that was read is of a vertex below the count
pub read_below : (facts : PairSet) (position : ℕ) (fact : ℕ × ℕ) → IsKept facts → position < length facts.pairs.items → fact ≡ get_or facts.pairs.items position fact → fact.0 < facts.by_first.count
read_below facts position fact kept inside read = subst (λ (f : ℕ × ℕ). f.0 < facts.by_first.count) (sym read) (kept.below position fact inside)

-- the pair of a fact
abbrev pub pair_of : ℕ × ℕ → Pair
pair_of fact = record { goal = fact.1; out = fact.0 }

module _ (flow : FlowGraph) where
  -- a fact taken along a way
  pub way_matched : (bridges : PairSet) (facts : PairSet) (a b goal : ℕ) → Matched flow a b → All (λ fact. Matched flow fact.1 fact.0) facts.pairs.items → Contains facts.pairs.items (a, goal) → Matched flow goal b
  way_matched bridges facts a b goal way matched has = m.then (All-contains (λ (fact : ℕ × ℕ). Matched flow fact.1 fact.0) facts.pairs.items (a, goal) matched has) way

  pub tabulates_none : (facts bridges : PairSet) → IsKept facts → IsKept bridges → facts.by_first.count ≡ flow.vertices → bridges.by_first.count ≡ flow.vertices → bridges.pairs.items ≡ [] →
      All (λ fact. Matched flow fact.1 fact.0) facts.pairs.items → Tabulates flow facts bridges 0 0
  tabulates_none facts bridges facts_kept bridges_kept facts_count bridges_count empty matched = record {
    facts_kept = facts_kept;
    bridges_kept = bridges_kept;
    facts_count = facts_count;
    bridges_count = bridges_count;
    among = rw empty (All-nil (λ (way : ℕ × ℕ). (way.0 < flow.vertices) × (way.1 < flow.vertices)));
    matched = matched;
    bridges_matched = rw empty (All-nil (λ (way : ℕ × ℕ). Matched flow way.0 way.1));
    within = omega arith;
    behind = omega arith;
    flat = λ k to less edge. absurd (omega arith);
    bridged = λ k to less way. absurd (omega arith);
    spans = λ k way less over. absurd (omega arith);
  }

  -- more facts
  pub tabulates_grows : (IsSo : ℕ × ℕ → Type 0) (facts after bridges : PairSet) (followed spanned : ℕ) → ((fact : ℕ × ℕ) → IsSo fact → Matched flow fact.1 fact.0) → Grows IsSo facts after →
      Tabulates flow facts bridges followed spanned → Tabulates flow after bridges followed spanned
  tabulates_grows IsSo facts after bridges followed spanned so grows is =
      let at : (k : ℕ) → k < followed → pair_at after k ≡ pair_at facts k = λ k less. grows_at IsSo facts after k (0, 0) grows (omega (arith, is.within)) in
      record {
        facts_kept = grows.kept;
        bridges_kept = is.bridges_kept;
        facts_count = grows.count ∙ is.facts_count;
        bridges_count = is.bridges_count;
        among = is.among;
        matched = grows_all IsSo (λ fact. Matched flow fact.1 fact.0) facts after so grows is.matched;
        bridges_matched = is.bridges_matched;
        within = omega (arith, is.within, ap length grows.grown, length-append facts.pairs.items grows.more);
        behind = is.behind;
        flat = λ k to less edge. subst (λ (f : ℕ × ℕ). Contains after.pairs.items (to, f.1)) (sym (at k less))
            (grows_keeps IsSo facts after _ grows (is.flat k to less (subst (λ (f : ℕ × ℕ). HasFlat flow f.0 to) (at k less) edge)));
        bridged = λ k to less way. subst (λ (f : ℕ × ℕ). Contains after.pairs.items (to, f.1)) (sym (at k less))
            (grows_keeps IsSo facts after _ grows (is.bridged k to less (subst (λ (f : ℕ × ℕ). Contains bridges.pairs.items (f.0, to)) (at k less) way)));
        spans = λ k way less over. is.spans k way less (subst (λ (f : ℕ × ℕ). BridgesOver flow (pair_of f) way) (at k (omega (arith, is.behind))) over);
      }

  -- one fact more was followed
  pub tabulates_followed : (facts bridges : PairSet) (position : ℕ) (spanned : ℕ) → position < length facts.pairs.items →
      ((to : ℕ) → HasFlat flow (pair_at facts position).0 to → Contains facts.pairs.items (to, (pair_at facts position).1)) →
      ((to : ℕ) → Contains bridges.pairs.items ((pair_at facts position).0, to) → Contains facts.pairs.items (to, (pair_at facts position).1)) →
      Tabulates flow facts bridges position spanned → Tabulates flow facts bridges (position + 1) spanned
  tabulates_followed facts bridges position spanned within flat bridged is = record {
    facts_kept = is.facts_kept;
    bridges_kept = is.bridges_kept;
    facts_count = is.facts_count;
    bridges_count = is.bridges_count;
    among = is.among;
    matched = is.matched;
    bridges_matched = is.bridges_matched;
    within = omega arith;
    behind = omega (arith, is.behind);
    flat = λ k to less edge. elim (cases_lt k position) [
      | inl before ↦ is.flat k to before edge
      | inr not_before ↦
          let here : position ≡ k = omega arith in
          subst (λ (p : ℕ). Contains facts.pairs.items (to, (pair_at facts p).1)) here (flat to (subst (λ (p : ℕ). HasFlat flow (pair_at facts p).0 to) (sym here) edge))
    ];
    bridged = λ k to less way. elim (cases_lt k position) [
      | inl before ↦ is.bridged k to before way
      | inr not_before ↦
          let here : position ≡ k = omega arith in
          subst (λ (p : ℕ). Contains facts.pairs.items (to, (pair_at facts p).1)) here (bridged to (subst (λ (p : ℕ). Contains bridges.pairs.items ((pair_at facts p).0, to)) (sym here) way))
    ];
    spans = is.spans;
  }

  -- over the pair of one fact more all bridges stand
  pub tabulates_spanned : (facts bridges : PairSet) (followed position : ℕ) → position < followed → ((way : ℕ × ℕ) → BridgesOver flow (pair_of (pair_at facts position)) way → Contains bridges.pairs.items way) →
      Tabulates flow facts bridges followed position → Tabulates flow facts bridges followed (position + 1)
  tabulates_spanned facts bridges followed position below all is = record {
    facts_kept = is.facts_kept;
    bridges_kept = is.bridges_kept;
    facts_count = is.facts_count;
    bridges_count = is.bridges_count;
    among = is.among;
    matched = is.matched;
    bridges_matched = is.bridges_matched;
    within = is.within;
    behind = omega arith;
    flat = is.flat;
    bridged = is.bridged;
    spans = λ k way less over. elim (cases_lt k position) [
      | inl before ↦ is.spans k way before over
      | inr not_before ↦
          let here : k ≡ position = omega arith in
          all way (subst (λ (p : ℕ). BridgesOver flow (pair_of (pair_at facts p)) way) here over)
    ];
  }

  -- a bridge more, along which the goals that stand at its beginning were taken
  pub tabulates_bridge : (facts after bridges wider : PairSet) (a b followed spanned : ℕ) → Matched flow a b → (a < flow.vertices) × (b < flow.vertices) → Meets bridges wider (a, b) → Spreads a b facts after →
      Tabulates flow facts bridges followed spanned → Tabulates flow after wider followed spanned
  tabulates_bridge facts after bridges wider a b followed spanned way among meets spreads is =
      let grown = tabulates_grows _ facts after bridges followed spanned
      (λ fact arrives. subst (λ (v : ℕ). Matched flow fact.1 v) (sym arrives.0) (way_matched bridges facts a b fact.1 way is.matched arrives.1)) spreads.grows is in
      record {
        facts_kept = grown.facts_kept;
        bridges_kept = meets.grows.kept;
        facts_count = grown.facts_count;
        bridges_count = meets.grows.count ∙ is.bridges_count;
        among = grows_all _ (λ w. (w.0 < flow.vertices) × (w.1 < flow.vertices)) bridges wider (λ w same. subst (λ (x : ℕ × ℕ). (x.0 < flow.vertices) × (x.1 < flow.vertices)) (sym same) among) meets.grows is.among;
        matched = grown.matched;
        bridges_matched = grows_all _ (λ w. Matched flow w.0 w.1) bridges wider (λ w same. subst (λ (x : ℕ × ℕ). Matched flow x.0 x.1) (sym same) way) meets.grows is.bridges_matched;
        within = grown.within;
        behind = grown.behind;
        flat = grown.flat;
        bridged = λ k to less has. elim (Contains-append_cases bridges.pairs.items meets.grows.more _ (subst (λ (xs : List (ℕ × ℕ)). Contains xs ((pair_at after k).0, to)) meets.grows.grown has)) [
          | inl old ↦ grown.bridged k to less old
          | inr new ↦
              let same : ((pair_at after k).0, to) ≡ (a, b) = All-contains (λ w. w ≡ (a, b)) meets.grows.more _ meets.grows.new new in
              let inside : k < length facts.pairs.items = omega (arith, is.within) in
              let at : pair_at after k ≡ pair_at facts k = grows_at _ facts after k (0, 0) spreads.grows inside in
              let stands : Contains facts.pairs.items (a, (pair_at after k).1) =
              subst (λ (v : ℕ). Contains facts.pairs.items (v, (pair_at after k).1)) (ap (λ (w : ℕ × ℕ). w.0) same) (subst (λ (f : ℕ × ℕ). Contains facts.pairs.items (f.0, f.1)) (sym at) (fact_stands facts k inside)) in
              subst (λ (v : ℕ). Contains after.pairs.items (v, (pair_at after k).1)) (sym (ap (λ (w : ℕ × ℕ). w.1) same)) (spreads.all (pair_at after k).1 stands)
        ];
        spans = λ k w less over. grows_keeps _ bridges wider w meets.grows (grown.spans k w less over);
      }

  -- a bridge over the pair of a fact is a matched path between vertices
  pub over_matched : (facts : PairSet) (position : ℕ) (way : ℕ × ℕ) → position < length facts.pairs.items → All (λ fact. Matched flow fact.1 fact.0) facts.pairs.items → BridgesOver flow (pair_of (pair_at facts position)) way → Matched flow way.0 way.1
  over_matched facts position way within matched over = m.call over.opened (All-get_or (λ (fact : ℕ × ℕ). Matched flow fact.1 fact.0) facts.pairs.items position (0, 0) within matched) over.closed

  pub over_among : (pair : Pair) (way : ℕ × ℕ) → BridgesOver flow pair way → (way.0 < flow.vertices) × (way.1 < flow.vertices)
  over_among pair way over =
      ((All-contains (IsAmong flow.vertices) flow.opens _ flow.within.opens over.opened).from, (All-contains (IsAmong flow.vertices) flow.closes _ flow.within.closes over.closed).to)

  goal_before : (start now : PairSet) → Grows (λ fact. HasGoal start fact.1) start now → (goal : ℕ) → HasGoal now goal → HasGoal start goal
  goal_before start now grows goal has = elim (Contains-append_cases start.pairs.items grows.more (has.0, goal) (subst (λ (xs : List (ℕ × ℕ)). Contains xs (has.0, goal)) grows.grown has.1)) [
    | inl old ↦ (has.0, old)
    | inr new ↦ All-contains (λ fact. HasGoal start fact.1) grows.more (has.0, goal) grows.new new
  ]

  -- The ways are the bridges over the pair of a fact.
  pub record AreOver (facts : PairSet) (position : ℕ) (ways : List (ℕ × ℕ)) : Type 0 where
    pub over : All (BridgesOver flow (pair_of (pair_at facts position))) ways
    pub all : (way : ℕ × ℕ) → BridgesOver flow (pair_of (pair_at facts position)) way → Contains ways way

  pub are_over : (facts : PairSet) (position : ℕ) (fact : ℕ × ℕ) (before after ways : List (ℕ × ℕ)) → position < length facts.pairs.items → fact ≡ get_or facts.pairs.items position fact → before ≡ [] → ways ≡ after →
      AddsAll (BridgesOver flow (pair_of fact)) before after → AreOver facts position ways
  are_over facts position fact before after ways inside read empty same adds =
      let own : fact ≡ pair_at facts position = read ∙ get_or_default facts.pairs.items position fact (0, 0) inside in
      let over : All (BridgesOver flow (pair_of fact)) ways =
      subst (λ (xs : List (ℕ × ℕ)). All (BridgesOver flow (pair_of fact)) xs) (sym (same ∙ adds.kept)) (All-append (BridgesOver flow (pair_of fact)) before adds.more (rw empty (All-nil (BridgesOver flow (pair_of fact)))) adds.new) in
      record {
        over = subst (λ (f : ℕ × ℕ). All (BridgesOver flow (pair_of f)) ways) own over;
        all = λ way is. subst (λ (xs : List (ℕ × ℕ)). Contains xs way) (sym same) (adds.all way (subst (λ (f : ℕ × ℕ). BridgesOver flow (pair_of f) way) (sym own) is));
      }

  -- a bridge of the ways ends at vertices
  pub over_below : (facts : PairSet) (position : ℕ) (ways : List (ℕ × ℕ)) (index : ℕ) → index < length ways → AreOver facts position ways → ((get_or ways index (0, 0)).0 < flow.vertices) × ((get_or ways index (0, 0)).1 < flow.vertices)
  over_below facts position ways index below are = over_among _ (get_or ways index (0, 0)) (All-get_or (BridgesOver flow (pair_of (pair_at facts position))) ways index (0, 0) below are.over)

  -- a fact was followed along flat edges and bridges
  module _ (facts middle after bridges : PairSet) (position : ℕ) (fact : ℕ × ℕ) (edges ways : List (ℕ × ℕ)) (is : Tabulates flow facts bridges position position) (inside : position < length facts.pairs.items) (read : fact ≡ get_or facts.pairs.items position fact)
      (are_edges : edges ≡ flow.flat) (are_ways : ways ≡ bridges.pairs.items)
      (first : Grows (λ f. Contains edges (fact.0, f.0) × (f.1 ≡ fact.1)) facts middle) (first_all : (to : ℕ) → Contains edges (fact.0, to) → Contains middle.pairs.items (to, fact.1))
      (second : Grows (λ f. Contains ways (fact.0, f.0) × (f.1 ≡ fact.1)) middle after) (second_all : (to : ℕ) → Contains ways (fact.0, to) → Contains after.pairs.items (to, fact.1)) where
    own : pair_at facts position ≡ fact
    own = sym (read ∙ get_or_default facts.pairs.items position fact (0, 0) inside)

    stands : Contains facts.pairs.items (fact.0, fact.1)
    stands = subst (λ (f : ℕ × ℕ). Contains facts.pairs.items (f.0, f.1)) own (fact_stands facts position inside)

    goal_matched : Matched flow fact.1 fact.0
    goal_matched = All-contains (λ (f : ℕ × ℕ). Matched flow f.1 f.0) facts.pairs.items (fact.0, fact.1) is.matched stands

    middle_is : Tabulates flow middle bridges position position
    middle_is = tabulates_grows _ facts middle bridges position position
        (λ f so. subst (λ (g : ℕ). Matched flow g f.0) (sym so.1) (m.then goal_matched (m.flat (subst (λ (es : List (ℕ × ℕ)). Contains es (fact.0, f.0)) are_edges so.0)))) first is

    after_is : Tabulates flow after bridges position position
    after_is = tabulates_grows _ middle after bridges position position
        (λ f so. subst (λ (g : ℕ). Matched flow g f.0) (sym so.1) (m.then goal_matched (All-contains (λ (w : ℕ × ℕ). Matched flow w.0 w.1) bridges.pairs.items (fact.0, f.0) is.bridges_matched (subst (λ (es : List (ℕ × ℕ)). Contains es (fact.0, f.0)) are_ways so.0)))) second middle_is

    pub followed_inside : position < length after.pairs.items
    followed_inside = omega (arith, ap length first.grown, ap length second.grown, length-append facts.pairs.items first.more, length-append middle.pairs.items second.more)

    pub followed_at : pair_at after position ≡ fact
    followed_at = grows_at _ middle after position (0, 0) second (omega (arith, ap length first.grown, length-append facts.pairs.items first.more)) ∙ (grows_at _ facts middle position (0, 0) first inside ∙ own)

    pub followed_is : Tabulates flow after bridges (position + 1) position
    followed_is = tabulates_followed after bridges position position followed_inside
        (λ to edge. subst (λ (f : ℕ × ℕ). Contains after.pairs.items (to, f.1)) (sym followed_at)
        (grows_keeps _ middle after _ second (first_all to (subst (λ (es : List (ℕ × ℕ)). Contains es (fact.0, to)) (sym are_edges) (subst (λ (f : ℕ × ℕ). HasFlat flow f.0 to) followed_at edge)))))
        (λ to way. subst (λ (f : ℕ × ℕ). Contains after.pairs.items (to, f.1)) (sym followed_at)
        (second_all to (subst (λ (es : List (ℕ × ℕ)). Contains es (fact.0, to)) (sym are_ways) (subst (λ (f : ℕ × ℕ). Contains bridges.pairs.items (f.0, to)) followed_at way)))) after_is

    pub followed_grows : Grows (λ f. HasGoal facts f.1) facts after
    followed_grows =
        let same : (f : ℕ × ℕ) → f.1 ≡ fact.1 → HasGoal facts f.1 = λ f is_goal. (fact.0, subst (λ (g : ℕ). Contains facts.pairs.items (fact.0, g)) (sym is_goal) stands) in
        grows_then _ facts middle after (grows_map _ _ facts middle (λ f so. same f so.1) first) (grows_map _ _ middle after (λ f so. same f so.1) second)

  -- growth by goals that stand, twice
  pub goals_then : (facts middle after : PairSet) → Grows (λ f. HasGoal facts f.1) facts middle → Grows (λ f. HasGoal middle f.1) middle after → Grows (λ f. HasGoal facts f.1) facts after
  goals_then facts middle after first second = grows_then _ facts middle after first (grows_map _ _ middle after (λ f has. goal_before facts middle first f.1 has) second)

  -- The first bridges over the pair of a fact stand.
  pub record Crossing (start : PairSet) (position : ℕ) (ways : List (ℕ × ℕ)) (facts bridges : PairSet) (index : ℕ) : Type 0 where
    pub tabulates : Tabulates flow facts bridges (position + 1) position
    pub grows : Grows (λ fact. HasGoal start fact.1) start facts
    pub added : (k : ℕ) → k < index → k < length ways → Contains bridges.pairs.items (get_or ways k (0, 0))

  pub cross_none : (facts bridges : PairSet) (position : ℕ) (ways : List (ℕ × ℕ)) → Tabulates flow facts bridges (position + 1) position → Crossing facts position ways facts bridges 0
  cross_none facts bridges position ways is = record { tabulates = is; grows = grows_none _ facts is.facts_kept; added = λ k less inside. absurd (omega arith) }

  pub cross_more : (start facts after bridges wider : PairSet) (position : ℕ) (ways : List (ℕ × ℕ)) (index : ℕ) (d : ℕ × ℕ) → position < length start.pairs.items → index < length ways →
      All (BridgesOver flow (pair_of (pair_at start position))) ways → Meets bridges wider ((get_or ways index d).0, (get_or ways index d).1) → Spreads (get_or ways index d).0 (get_or ways index d).1 facts after →
      Crossing start position ways facts bridges index → Crossing start position ways after wider (index + 1)
  cross_more start facts after bridges wider position ways index d inside below over meets spreads is =
      let way = get_or ways index d in
      let same : pair_at facts position ≡ pair_at start position = grows_at _ start facts position (0, 0) is.grows inside in
      let here : BridgesOver flow (pair_of (pair_at facts position)) way = subst (λ (f : ℕ × ℕ). BridgesOver flow (pair_of f) way) (sym same) (All-get_or (BridgesOver flow (pair_of (pair_at start position))) ways index d below over) in
      let stays : position < length facts.pairs.items = omega (arith, ap length is.grows.grown, length-append start.pairs.items is.grows.more) in
      record {
        tabulates = tabulates_bridge facts after bridges wider way.0 way.1 (position + 1) position (over_matched facts position way stays is.tabulates.matched here) (over_among _ way here) meets spreads is.tabulates;
        grows = grows_then _ start facts after is.grows (grows_map _ _ facts after (λ fact arrives. goal_before start facts is.grows fact.1 (_, arrives.1)) spreads.grows);
        added = λ k less in_ways. elim (cases_lt k index) [
          | inl before ↦ grows_keeps _ bridges wider _ meets.grows (is.added k before in_ways)
          | inr not_before ↦
              let at : index ≡ k = omega arith in
              subst (λ (w : ℕ × ℕ). Contains wider.pairs.items w) (get_or_default ways index d (0, 0) below ∙ ap (λ (i : ℕ). get_or ways i (0, 0)) at) meets.met
        ];
      }

  pub cross_end : (start facts bridges : PairSet) (position : ℕ) (ways : List (ℕ × ℕ)) (index : ℕ) → position < length start.pairs.items → length ways ≤ index →
      ((way : ℕ × ℕ) → BridgesOver flow (pair_of (pair_at start position)) way → Contains ways way) → Crossing start position ways facts bridges index → Tabulates flow facts bridges (position + 1) (position + 1)
  cross_end start facts bridges position ways index inside all_ways all is =
      let same : pair_at facts position ≡ pair_at start position = grows_at _ start facts position (0, 0) is.grows inside in
      tabulates_spanned facts bridges (position + 1) position (omega arith)
      (λ way over.
      let has = all way (subst (λ (f : ℕ × ℕ). BridgesOver flow (pair_of f) way) same over) in
      subst (λ (w : ℕ × ℕ). Contains bridges.pairs.items w) (get_or_default ways has.0 (0, 0) way has.1 ∙ has.2) (is.added has.0 (omega (arith, has.1)) has.1)) is.tabulates

  -- At the end of the work list the facts hold what follows from them.
  module _ (facts bridges : PairSet) (done : ℕ) (all : done ≡ length facts.pairs.items) (is : Tabulates flow facts bridges done done) (pairs : List Pair)
      (each : (pair : Pair) → Contains pairs pair → Contains facts.pairs.items (pair.out, pair.goal)) where
    along_flat : (a b goal : ℕ) → Contains facts.pairs.items (a, goal) → HasFlat flow a b → Contains facts.pairs.items (b, goal)
    along_flat a b goal has edge =
        let at = at_fact facts (a, goal) has in
        subst (λ (f : ℕ × ℕ). Contains facts.pairs.items (b, f.1)) at (is.flat has.0 b (omega (arith, has.1)) (subst (λ (f : ℕ × ℕ). HasFlat flow f.0 b) (sym at) edge))

    along_bridge : (a b goal : ℕ) (pair : Pair) → Contains facts.pairs.items (a, goal) → Contains facts.pairs.items (pair.out, pair.goal) → BridgesOver flow pair (a, b) → Contains facts.pairs.items (b, goal)
    along_bridge a b goal pair has stands over =
        let at = at_fact facts (a, goal) has in
        let of_pair = at_fact facts (pair.out, pair.goal) stands in
        let way : Contains bridges.pairs.items (a, b) = is.spans stands.0 (a, b) (omega (arith, stands.1)) (subst (λ (f : ℕ × ℕ). BridgesOver flow (pair_of f) (a, b)) (sym of_pair) over) in
        subst (λ (f : ℕ × ℕ). Contains facts.pairs.items (b, f.1)) at (is.bridged has.0 b (omega (arith, has.1)) (subst (λ (f : ℕ × ℕ). Contains bridges.pairs.items (f.0, b)) (sym at) way))

    pub led : (goal : ℕ) {a b : ℕ} → Contains facts.pairs.items (a, goal) → Leads flow (Contains pairs) a b → Contains facts.pairs.items (b, goal)
    led goal has none = has
    led goal has (step {a} {b} (f.flat edge) rest) = led goal (along_flat a b goal has edge) rest
    led goal has (step {a} {b} (f.bridge call asked out opened so closed) rest) =
        led goal (along_bridge a b goal (record { goal = asked; out = out }) has (each _ so) (record { call = call; opened = opened; closed = closed })) rest
