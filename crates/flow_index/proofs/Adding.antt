-- Ways that are added one after another.
use Rattle.std.proofs.Common.{◌≡◌, ℕ, ◌+◌, ◌<◌, ◌≤◌, inl, inr, List, [], ◌∷◌, ◌++◌, length, get_or, refl, sym, ap, ◌∙◌, arith, subst, append_assoc, true, is_some, Option, Some, None}
use Rattle.std.specs.List.{All, Contains}
use Rattle.std.proofs.lemmas.Bool.{cases_lt, false≢true}
use Rattle.std.proofs.lemmas.List.{append-nil, length-map, get_or-map, get_or_default}
use Rattle.std.proofs.lemmas.List.Elements.{All-nil, All-append, All-weaker, All-cons, All-contains, Contains-append_left, Contains-get_or}
use Rattle.matched_paths.specs.declared.flow_graph.Crossing.{Crossing}
use Rattle.matched_paths.specs.declared.flow_graph.FlowGraph.{FlowGraph}
use Rattle.matched_paths.specs.declared.flow_graph.Pair.{Pair}
use Rattle.matched_paths.specs.Ends.{IsAmong}
use Rattle.matched_paths.specs.Edges.{IsOut}
use Rattle.flow_index.specs.Positions.{IsLastPosition, Keys}
use Rattle.flow_index.specs.Crossings.{AreEntryPositions, AreOutPositions, slot_of}
use Rattle.flow_index.specs.Ways.{AddsAll, Bridges, BridgesOver, Enters}
use Rattle.flow_index.proofs.Walking.{Walks, walk_begin, walk_step, walk_end}

-- Ways that are so were added.
pub record Adds (IsSo : ℕ × ℕ → Type 0) (before after : List (ℕ × ℕ)) : Type 0 where
  pub more : List (ℕ × ℕ)
  pub kept : after ≡ before ++ more
  pub new : All IsSo more

pub adds_none : (IsSo : ℕ × ℕ → Type 0) (ways : List (ℕ × ℕ)) → Adds IsSo ways ways
adds_none IsSo ways = record { more = []; kept = sym (append-nil ways); new = All-nil IsSo }

pub adds_then : (IsSo : ℕ × ℕ → Type 0) (a b c : List (ℕ × ℕ)) → Adds IsSo a b → Adds IsSo b c → Adds IsSo a c
adds_then IsSo a b c front back = record {
  more = front.more ++ back.more;
  kept = back.kept ∙ (ap (λ xs. xs ++ back.more) front.kept ∙ append_assoc a front.more back.more);
  new = All-append IsSo front.more back.more front.new back.new;
}

pub adds_one : (IsSo : ℕ × ℕ → Type 0) (ways : List (ℕ × ℕ)) (way : ℕ × ℕ) → IsSo way → Adds IsSo ways (ways ++ way ∷ [])
adds_one IsSo ways way so = record { more = way ∷ []; kept = refl; new = All-cons IsSo way [] so (All-nil IsSo) }

pub adds_keeps : (IsSo : ℕ × ℕ → Type 0) (a b : List (ℕ × ℕ)) (way : ℕ × ℕ) → Adds IsSo a b → Contains a way → Contains b way
adds_keeps IsSo a b way adds has = subst (λ (xs : List (ℕ × ℕ)). Contains xs way) (sym adds.kept) (Contains-append_left a adds.more way has)

pub adds_from_all : (P Q : ℕ × ℕ → Type 0) (a b : List (ℕ × ℕ)) → ((way : ℕ × ℕ) → P way → Q way) → AddsAll P a b → Adds Q a b
adds_from_all P Q a b same adds = record { more = adds.more; kept = adds.kept; new = All-weaker P Q same adds.more adds.new }

-- a crossing to read where there is none
abbrev pub no_crossing : Crossing
no_crossing = record { call = 0; from = 0; to = 0 }

module _ (flow : FlowGraph) (keys : Keys) (to call goal : ℕ) where
  -- the open at the position is of another call or goal, or its way was added
  abbrev pub IsEntered : List (ℕ × ℕ) → ℕ → Type 0
  IsEntered ways position =
      let entry = get_or flow.opens position no_crossing in
      entry.call ≡ call → entry.to ≡ goal → Contains ways (entry.from, to)

  pub record Entering (start ways : List (ℕ × ℕ)) (next : Option ℕ) : Type 0 where
    pub adds : Adds (Enters flow to call goal) start ways
    pub walks : Walks keys.keys (slot_of keys.count call goal) next (IsEntered ways)

  slot_at : AreEntryPositions flow keys → (position : ℕ) → position < length flow.opens → (position < length keys.keys) × (get_or keys.keys position 0 ≡ slot_of keys.count (get_or flow.opens position no_crossing).call (get_or flow.opens position no_crossing).to)
  slot_at are position within = (
    rw (are.slots, length-map) within,
    ap (λ (xs : List ℕ). get_or xs position 0) are.slots ∙ get_or-map (λ (c : Crossing). slot_of keys.count c.call c.to) flow.opens position no_crossing 0 within,
  )

  pub enter_begin : (start : List (ℕ × ℕ)) (found : Option ℕ) → IsLastPosition keys.keys (slot_of keys.count call goal) (length keys.keys) found → Entering start start found
  enter_begin start found is = record { adds = adds_none _ start; walks = walk_begin keys.keys _ found _ is }

  pub enter_within : (start ways : List (ℕ × ℕ)) (at : ℕ) (next : Option ℕ) → AreEntryPositions flow keys → next ≡ Some at → Entering start ways next → at < length flow.opens
  enter_within start ways at next are some is =
      let on = (subst (λ (n : Option ℕ). Walks keys.keys (slot_of keys.count call goal) n (IsEntered ways)) some is.walks).on in
      omega (arith, on.0, ap length are.slots, length-map flow.opens (λ (c : Crossing). slot_of keys.count c.call c.to))

  pub enter_step : (start ways after : List (ℕ × ℕ)) (at : ℕ) (next found : Option ℕ) → AreEntryPositions flow keys → next ≡ Some at → Entering start ways next → IsLastPosition keys.keys (get_or keys.keys at 0) at found →
      Adds (Enters flow to call goal) ways after → IsEntered after at → Entering start after found
  enter_step start ways after at next found are some is last adds here = record {
    adds = adds_then _ start ways after is.adds adds;
    walks = walk_step keys.keys _ at next found _ _ some is.walks last (λ position done same_call same_goal. adds_keeps _ ways after _ adds (done same_call same_goal)) here;
  }

  pub enter_end : (start ways : List (ℕ × ℕ)) (next : Option ℕ) → AreEntryPositions flow keys → next ≡ None → Entering start ways next → AddsAll (Enters flow to call goal) start ways
  enter_end start ways next are none is = record {
    more = is.adds.more;
    kept = is.adds.kept;
    new = is.adds.new;
    all = λ way enters.
        let position = enters.opened.0 in
        let entry : get_or flow.opens position no_crossing ≡ record { call = call; from = way.0; to = goal } = get_or_default flow.opens position no_crossing _ enters.opened.1 ∙ enters.opened.2 in
        let key = slot_at are position enters.opened.1 in
        let added = walk_end keys.keys _ next _ none is.walks position key.0 (key.1 ∙ ap (λ (c : Crossing). slot_of keys.count c.call c.to) entry) (ap (λ (c : Crossing). c.call) entry) (ap (λ (c : Crossing). c.to) entry) in
        let same : ((get_or flow.opens position no_crossing).from, to) ≡ way = ap (λ (x : ℕ). ((get_or flow.opens position no_crossing).from, x)) (sym enters.ends) ∙ ap (λ (c : Crossing). (c.from, way.1)) entry in
        subst (λ (w : ℕ × ℕ). Contains ways w) same added;
  }

module _ (flow : FlowGraph) (keys : Keys) (pair : Pair) where
  -- the ways over the close at the position were added
  abbrev pub IsSpanned : List (ℕ × ℕ) → ℕ → Type 0
  IsSpanned ways position =
      let close = get_or flow.closes position no_crossing in
      (way : ℕ × ℕ) → Enters flow close.to close.call pair.goal way → Contains ways way

  pub record Spanning (start ways : List (ℕ × ℕ)) (next : Option ℕ) : Type 0 where
    pub adds : Adds (BridgesOver flow pair) start ways
    pub walks : Walks keys.keys pair.out next (IsSpanned ways)

  out_of : AreOutPositions flow keys → (position : ℕ) → position < length flow.closes → (position < length keys.keys) × (get_or keys.keys position 0 ≡ (get_or flow.closes position no_crossing).from)
  out_of are position within = (
    rw (are.outs, length-map) within,
    ap (λ (xs : List ℕ). get_or xs position 0) are.outs ∙ get_or-map (λ (c : Crossing). c.from) flow.closes position no_crossing 0 within,
  )

  pub span_begin : (start : List (ℕ × ℕ)) (found : Option ℕ) → IsLastPosition keys.keys pair.out (length keys.keys) found → Spanning start start found
  span_begin start found is = record { adds = adds_none _ start; walks = walk_begin keys.keys _ found _ is }

  -- the ways over a close from the out are bridges over the pair
  span_over : AreOutPositions flow keys → (at : ℕ) → at < length keys.keys → get_or keys.keys at 0 ≡ pair.out → (way : ℕ × ℕ) →
      Enters flow (get_or flow.closes at no_crossing).to (get_or flow.closes at no_crossing).call pair.goal way → BridgesOver flow pair way
  span_over are at inside key way enters =
      let within : at < length flow.closes = omega (arith, inside, ap length are.outs, length-map flow.closes (λ (c : Crossing). c.from)) in
      let close = get_or flow.closes at no_crossing in
      let from : close.from ≡ pair.out = sym (out_of are at within).1 ∙ key in
      let stands : Contains flow.closes close = Contains-get_or flow.closes at no_crossing within in
      record {
        call = close.call;
        opened = enters.opened;
        closed = subst (λ (t : ℕ). Contains flow.closes (record { call = close.call; from = pair.out; to = t })) (sym enters.ends)
            (subst (λ (f : ℕ). Contains flow.closes (record { call = close.call; from = f; to = close.to })) from stands);
      }

  pub span_step : (start ways after : List (ℕ × ℕ)) (at : ℕ) (next found : Option ℕ) → AreOutPositions flow keys → next ≡ Some at → Spanning start ways next → IsLastPosition keys.keys (get_or keys.keys at 0) at found →
      AddsAll (Enters flow (get_or flow.closes at no_crossing).to (get_or flow.closes at no_crossing).call pair.goal) ways after → Spanning start after found
  span_step start ways after at next found are some is last added =
      let on = (subst (λ (n : Option ℕ). Walks keys.keys pair.out n (IsSpanned ways)) some is.walks).on in
      let adds = adds_from_all _ (BridgesOver flow pair) ways after (span_over are at on.0 on.1) added in
      record {
        adds = adds_then _ start ways after is.adds adds;
        walks = walk_step keys.keys _ at next found _ _ some is.walks last (λ position done way enters. adds_keeps _ ways after way adds (done way enters)) added.all;
      }

  pub span_end : (start ways : List (ℕ × ℕ)) (next : Option ℕ) → AreOutPositions flow keys → next ≡ None → Spanning start ways next → AddsAll (BridgesOver flow pair) start ways
  span_end start ways next are none is = record {
    more = is.adds.more;
    kept = is.adds.kept;
    new = is.adds.new;
    all = λ way over.
        let position = over.closed.0 in
        let close : get_or flow.closes position no_crossing ≡ record { call = over.call; from = pair.out; to = way.1 } = get_or_default flow.closes position no_crossing _ over.closed.1 ∙ over.closed.2 in
        let key = out_of are position over.closed.1 in
        walk_end keys.keys _ next _ none is.walks position key.0 (key.1 ∙ ap (λ (c : Crossing). c.from) close) way
        (subst (λ (c : Crossing). Enters flow c.to c.call pair.goal way) (sym close) (record { ends = refl; opened = over.opened }));
  }

-- a vertex has a last close where it is an out
module _ (flow : FlowGraph) (keys : Keys) (vertex : ℕ) where
  close_of : AreOutPositions flow keys → (position : ℕ) → position < length flow.closes → (position < length keys.keys) × (get_or keys.keys position 0 ≡ (get_or flow.closes position no_crossing).from)
  close_of are position within = (
    rw (are.outs, length-map) within,
    ap (λ (xs : List ℕ). get_or xs position 0) are.outs ∙ get_or-map (λ (c : Crossing). c.from) flow.closes position no_crossing 0 within,
  )

  pub out_found : (found : Option ℕ) → AreOutPositions flow keys → IsLastPosition keys.keys vertex (length keys.keys) found → (is_some found ≡ true → IsOut flow vertex) × (IsOut flow vertex → is_some found ≡ true)
  out_found None are none = (
    λ some. absurd (false≢true some),
    λ out.
        let at = out.1.1 in
        let close = close_of are at.0 at.1 in
        let is : get_or flow.closes at.0 no_crossing ≡ record { call = out.1.0; from = vertex; to = out.0 } = get_or_default flow.closes at.0 no_crossing _ at.1 ∙ at.2 in
        absurd (none at.0 close.0 (close.1 ∙ ap (λ (c : Crossing). c.from) is)),
  )
  out_found (Some position) are last = (
    λ some.
        let within : position < length flow.closes = omega (arith, last.before, ap length are.outs, length-map flow.closes (λ (c : Crossing). c.from)) in
        let close = get_or flow.closes position no_crossing in
        let from : close.from ≡ vertex = sym (close_of are position within).1 ∙ last.stands in
        subst (λ (v : ℕ). IsOut flow v) from (close.to, (close.call, Contains-get_or flow.closes position no_crossing within)),
    λ out. refl,
  )

-- what is no vertex is no out
pub out_below : (flow : FlowGraph) (vertex : ℕ) → flow.vertices ≤ vertex → ¬ IsOut flow vertex
out_below flow vertex beyond out = let below = (All-contains (IsAmong flow.vertices) flow.closes _ flow.within.closes out.1.1).from in absurd (omega arith)

-- Ways over the first pairs were added.
pub record Bridging (flow : FlowGraph) (pairs : List Pair) (ways : List (ℕ × ℕ)) (index : ℕ) : Type 0 where
  pub sound : All (λ way. Bridges flow pairs way.0 way.1) ways
  pub all : (k : ℕ) (d : Pair) → k < index → k < length pairs → (way : ℕ × ℕ) → BridgesOver flow (get_or pairs k d) way → Contains ways way

pub bridging_none : (flow : FlowGraph) (pairs : List Pair) (ways : List (ℕ × ℕ)) → ways ≡ [] → Bridging flow pairs ways 0
bridging_none flow pairs ways empty = record {
  sound = subst (λ (xs : List (ℕ × ℕ)). All (λ way. Bridges flow pairs way.0 way.1) xs) (sym empty) (All-nil _);
  all = λ k d less within way over. absurd (omega arith);
}

pub bridging_more : (flow : FlowGraph) (pairs : List Pair) (ways after : List (ℕ × ℕ)) (index : ℕ) (d : Pair) → index < length pairs → Bridging flow pairs ways index →
    AddsAll (BridgesOver flow (get_or pairs index d)) ways after → Bridging flow pairs after (index + 1)
bridging_more flow pairs ways after index d within is added = record {
  sound = subst (λ (xs : List (ℕ × ℕ)). All (λ way. Bridges flow pairs way.0 way.1) xs) (sym added.kept)
      (All-append (λ (way : ℕ × ℕ). Bridges flow pairs way.0 way.1) ways added.more is.sound (All-weaker (BridgesOver flow (get_or pairs index d)) (λ way. Bridges flow pairs way.0 way.1) (λ way over. record { pair = get_or pairs index d; stands = Contains-get_or pairs index d within; over = over }) added.more added.new));
  all = λ k e less inside way over. elim (cases_lt k index) [
    | inl before ↦ adds_keeps _ ways after way (adds_from_all (BridgesOver flow (get_or pairs index d)) (BridgesOver flow (get_or pairs index d)) ways after (λ w o. o) added) (is.all k e before inside way over)
    | inr not_before ↦
        let here : k ≡ index = omega arith in
        added.all way (subst (λ (p : Pair). BridgesOver flow p way) (get_or_default pairs k e d inside ∙ ap (λ (i : ℕ). get_or pairs i d) here) over)
  ];
}

-- a pair whose out is no vertex has no bridges
pub over_none : (flow : FlowGraph) (pair : Pair) (ways : List (ℕ × ℕ)) → flow.vertices ≤ pair.out → AddsAll (BridgesOver flow pair) ways ways
over_none flow pair ways beyond = record {
  more = [];
  kept = sym (append-nil ways);
  new = All-nil (BridgesOver flow pair);
  all = λ way over. let below = (All-contains (IsAmong flow.vertices) flow.closes _ flow.within.closes over.closed).from in absurd (omega arith);
}

pub bridging_end : (flow : FlowGraph) (pairs : List Pair) (ways : List (ℕ × ℕ)) (index : ℕ) → length pairs ≤ index → Bridging flow pairs ways index → (a b : ℕ) →
    (Contains ways (a, b) → Bridges flow pairs a b) × (Bridges flow pairs a b → Contains ways (a, b))
bridging_end flow pairs ways index all is a b = (
  λ has. All-contains (λ way. Bridges flow pairs way.0 way.1) ways (a, b) is.sound has,
  λ bridges. is.all bridges.stands.0 bridges.pair (omega (arith, bridges.stands.1)) bridges.stands.1 (a, b) (subst (λ (p : Pair). BridgesOver flow p (a, b)) (sym bridges.stands.2) bridges.over),
)
