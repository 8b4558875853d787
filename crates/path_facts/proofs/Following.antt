-- A goal is taken along ways, and goals along a way.
use Rattle.std.proofs.Common.{◌≡◌, ℕ, ◌<◌, ◌≤◌, List, ◌++◌, length, get_or, map, sym, ap, ◌∙◌, arith, subst, length-append, Option, Some, None}
use Rattle.std.specs.List.{Contains}
use Rattle.std.proofs.lemmas.List.{length-map, get_or-map, get_or_default, get_or_append_left, map-append}
use Rattle.std.proofs.lemmas.List.Elements.{Contains-get_or}
use Rattle.flow_index.specs.Positions.{IsLastPosition}
use Rattle.flow_index.proofs.Walking.{Walks, walk_begin, walk_step, walk_end}
use Rattle.path_facts.specs.declared.pair_set.PairSet.{PairSet}
use Rattle.path_facts.specs.PairSets.{Grows, IsKept, Meets}
use Rattle.path_facts.specs.Facts.{Spreads}
use Rattle.path_facts.proofs.Growing.{grows_at, grows_keeps, grows_map, grows_none, grows_then}

abbrev pub firsts : List (ℕ × ℕ) → List ℕ
firsts ways = map (λ (way : ℕ × ℕ). way.0) ways

-- a pair of the list from its position
at_position : (ways : List (ℕ × ℕ)) (position first : ℕ) → position < length ways → get_or (firsts ways) position 0 ≡ first → Contains ways (first, (get_or ways position (0, 0)).1)
at_position ways position first within key =
    let own : (get_or ways position (0, 0)).0 ≡ first = sym (get_or-map (λ (w : ℕ × ℕ). w.0) ways position (0, 0) 0 within) ∙ key in
    subst (λ (f : ℕ). Contains ways (f, (get_or ways position (0, 0)).1)) own (Contains-get_or ways position (0, 0) within)

-- the position of a pair of the list
key_at : (ways : List (ℕ × ℕ)) (way : ℕ × ℕ) (has : Contains ways way) → (has.0 < length (firsts ways)) × (get_or (firsts ways) has.0 0 ≡ way.0) × (get_or ways has.0 (0, 0) ≡ way)
key_at ways way has =
    let is : get_or ways has.0 (0, 0) ≡ way = get_or_default ways has.0 (0, 0) way has.1 ∙ has.2 in
    (rw length-map has.1, get_or-map (λ (w : ℕ × ℕ). w.0) ways has.0 (0, 0) 0 has.1 ∙ ap (λ (w : ℕ × ℕ). w.0) is, is)

module _ (ways : List (ℕ × ℕ)) (vertex goal : ℕ) (start : PairSet) where
  abbrev pub Leads : ℕ × ℕ → Type 0
  Leads fact = Contains ways (vertex, fact.0) × (fact.1 ≡ goal)

  -- the goal was taken along the ways at positions that are behind
  pub record Follows (set : PairSet) (next : Option ℕ) : Type 0 where
    pub grows : Grows Leads start set
    pub walks : Walks (firsts ways) vertex next (λ position. Contains set.pairs.items ((get_or ways position (0, 0)).1, goal))

  pub follow_begin : (found : Option ℕ) → IsKept start → IsLastPosition (firsts ways) vertex (length (firsts ways)) found → Follows start found
  follow_begin found kept is = record { grows = grows_none Leads start kept; walks = walk_begin (firsts ways) vertex found _ is }

  pub follow_within : (set : PairSet) (next : Option ℕ) (at : ℕ) → next ≡ Some at → Follows set next → at < length ways
  follow_within set next at some is =
      let on = (subst (λ (n : Option ℕ). Walks (firsts ways) vertex n (λ position. Contains set.pairs.items ((get_or ways position (0, 0)).1, goal))) some is.walks).on in
      omega (arith, on.0, length-map ways (λ (w : ℕ × ℕ). w.0))

  pub follow_step : (set after : PairSet) (at : ℕ) (d : ℕ × ℕ) (next found : Option ℕ) → next ≡ Some at → Follows set next → Meets set after ((get_or ways at d).1, goal) →
      IsLastPosition (firsts ways) (get_or (firsts ways) at 0) at found → Follows after found
  follow_step set after at d next found some is meets last =
      let on = (subst (λ (n : Option ℕ). Walks (firsts ways) vertex n (λ position. Contains set.pairs.items ((get_or ways position (0, 0)).1, goal))) some is.walks).on in
      let within : at < length ways = omega (arith, on.0, length-map ways (λ (w : ℕ × ℕ). w.0)) in
      let same : (get_or ways at d).1 ≡ (get_or ways at (0, 0)).1 = ap (λ (w : ℕ × ℕ). w.1) (get_or_default ways at d (0, 0) within) in
      let stands : Contains ways (vertex, (get_or ways at d).1) = subst (λ (t : ℕ). Contains ways (vertex, t)) (sym same) (at_position ways at vertex within on.1) in
      record {
        grows = grows_then Leads start set after is.grows
            (grows_map (λ new. new ≡ ((get_or ways at d).1, goal)) Leads set after
            (λ pair is_new. (subst (λ (t : ℕ). Contains ways (vertex, t)) (sym (ap (λ (p : ℕ × ℕ). p.0) is_new)) stands, ap (λ (p : ℕ × ℕ). p.1) is_new)) meets.grows);
        walks = walk_step (firsts ways) vertex at next found _ _ some is.walks last (λ position done. grows_keeps _ set after _ meets.grows done)
            (subst (λ (t : ℕ). Contains after.pairs.items (t, goal)) same meets.met);
      }

  pub follow_end : (set : PairSet) (next : Option ℕ) → next ≡ None → Follows set next → (to : ℕ) → Contains ways (vertex, to) → Contains set.pairs.items (to, goal)
  follow_end set next none is to has =
      let key = key_at ways (vertex, to) has in
      subst (λ (w : ℕ × ℕ). Contains set.pairs.items (w.1, goal)) key.2 (walk_end (firsts ways) vertex next _ none is.walks has.0 key.0 key.1)

-- the last position of a key before an end does not depend on what is behind it
last_less : (keys more : List ℕ) (key end : ℕ) (found : Option ℕ) → end ≤ length keys → IsLastPosition (keys ++ more) key end found → IsLastPosition keys key end found
last_less keys more key end None within is = λ position below same.
    let inside : position < length keys = omega arith in
    is position below (get_or_append_left keys more 0 position inside ∙ same)
last_less keys more key end (Some position) within is =
    let before = is.before in
    let inside : position < length keys = omega arith in
    record {
      before = is.before;
      stands = sym (get_or_append_left keys more 0 position inside) ∙ is.stands;
      last = λ later after below same.
          let later_inside : later < length keys = omega arith in
          is.last later after below (get_or_append_left keys more 0 later later_inside ∙ same);
    }

module _ (from to : ℕ) (start : PairSet) where
  abbrev pub Arrives : ℕ × ℕ → Type 0
  Arrives fact = (fact.0 ≡ to) × Contains start.pairs.items (from, fact.1)

  -- the goals at positions that are behind were taken along
  pub record Spreading (set : PairSet) (next : Option ℕ) : Type 0 where
    pub grows : Grows Arrives start set
    pub walks : Walks (firsts start.pairs.items) from next (λ position. Contains set.pairs.items (to, (get_or start.pairs.items position (0, 0)).1))

  pub spread_begin : (found : Option ℕ) → IsKept start → IsLastPosition start.by_first.keys from (length start.by_first.keys) found → Spreading start found
  spread_begin found kept is = record {
    grows = grows_none Arrives start kept;
    walks = walk_begin (firsts start.pairs.items) from found _ (subst (λ (ks : List ℕ). IsLastPosition ks from (length ks) found) kept.keys is);
  }

  pub spread_on : (set : PairSet) (next : Option ℕ) (at : ℕ) → next ≡ Some at → Spreading set next → (at < length start.pairs.items) × (get_or (firsts start.pairs.items) at 0 ≡ from)
  spread_on set next at some is =
      let on = (subst (λ (n : Option ℕ). Walks (firsts start.pairs.items) from n (λ position. Contains set.pairs.items (to, (get_or start.pairs.items position (0, 0)).1))) some is.walks).on in
      (omega (arith, on.0, length-map start.pairs.items (λ (w : ℕ × ℕ). w.0)), on.1)

  -- the positions are those of the grown set too
  pub spread_within : (set : PairSet) (next : Option ℕ) (at : ℕ) → next ≡ Some at → Spreading set next → (at < length set.pairs.items) × (at < length set.by_first.keys)
  spread_within set next at some is =
      let on = spread_on set next at some is in
      let len = ap length is.grows.grown ∙ length-append start.pairs.items is.grows.more in
      let keys = ap length is.grows.kept.keys ∙ length-map set.pairs.items (λ (w : ℕ × ℕ). w.0) in
      (omega (arith, on.0), omega (arith, on.0))

  pub spread_step : (set after : PairSet) (at : ℕ) (fact : ℕ × ℕ) (next found : Option ℕ) → next ≡ Some at → Spreading set next → fact ≡ get_or set.pairs.items at fact → Meets set after (to, fact.1) →
      IsLastPosition after.by_first.keys (get_or after.by_first.keys at 0) at found → Spreading after found
  spread_step set after at fact next found some is read meets last =
      let on = spread_on set next at some is in
      let grows = grows_then Arrives start set after is.grows (grows_map (λ new. new ≡ (to, fact.1)) Arrives set after
      (λ pair is_new. (ap (λ (p : ℕ × ℕ). p.0) is_new, subst (λ (g : ℕ). Contains start.pairs.items (from, g)) (sym (ap (λ (p : ℕ × ℕ). p.1) is_new ∙ goal_at on.0)) (at_position start.pairs.items at from on.0 on.1))) meets.grows) in
      let keys : after.by_first.keys ≡ firsts start.pairs.items ++ firsts grows.more = grows.kept.keys ∙ (ap firsts grows.grown ∙ map-append (λ (w : ℕ × ℕ). w.0) start.pairs.items grows.more) in
      let inside : at < length (firsts start.pairs.items) = rw length-map on.0 in
      let key : get_or after.by_first.keys at 0 ≡ get_or (firsts start.pairs.items) at 0 = ap (λ (ks : List ℕ). get_or ks at 0) keys ∙ get_or_append_left (firsts start.pairs.items) (firsts grows.more) 0 at inside in
      let chained : IsLastPosition (firsts start.pairs.items) (get_or (firsts start.pairs.items) at 0) at found =
      last_less (firsts start.pairs.items) (firsts grows.more) _ at found (omega arith) (subst (λ (k : ℕ). IsLastPosition (firsts start.pairs.items ++ firsts grows.more) k at found) key (subst (λ (ks : List ℕ). IsLastPosition ks (get_or after.by_first.keys at 0) at found) keys last)) in
      record {
        grows = grows;
        walks = walk_step (firsts start.pairs.items) from at next found _ _ some is.walks chained (λ position done. grows_keeps _ set after _ meets.grows done)
            (subst (λ (g : ℕ). Contains after.pairs.items (to, g)) (goal_at on.0) meets.met);
      }
    where
      goal_at : at < length start.pairs.items → fact.1 ≡ (get_or start.pairs.items at (0, 0)).1
      goal_at within = ap (λ (w : ℕ × ℕ). w.1) (read ∙ (grows_at Arrives start set at fact is.grows within ∙ get_or_default start.pairs.items at fact (0, 0) within))

  pub spread_end : (set : PairSet) (next : Option ℕ) → next ≡ None → Spreading set next → Spreads from to start set
  spread_end set next none is = record {
    grows = is.grows;
    all = λ goal has.
        let key = key_at start.pairs.items (from, goal) has in
        subst (λ (w : ℕ × ℕ). Contains set.pairs.items (to, w.1)) key.2 (walk_end (firsts start.pairs.items) from next _ none is.walks has.0 key.0 key.1);
  }
