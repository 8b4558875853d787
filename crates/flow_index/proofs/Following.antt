-- The ends of ways from a vertex are met one after another.
use Rattle.std.proofs.Common.{◌≡◌, ℕ, ◌<◌, ◌⊎◌, inl, inr, List, length, get_or, map, sym, ap, ◌∙◌, arith, subst, Option, Some, None}
use Rattle.std.specs.List.{Contains}
use Rattle.std.proofs.lemmas.List.{length-map, get_or-map, get_or_default}
use Rattle.flow_index.specs.Positions.{IsLastPosition}
use Rattle.flow_index.specs.Vertices.{Grows, Meets, Vertices, FollowsAll}
use Rattle.flow_index.proofs.Growing.{grows_none, grows_then, grows_map, grows_keeps}
use Rattle.flow_index.proofs.Walking as walk
use Rattle.flow_index.proofs.Walking.{IsAhead, IsOnWay, begin_ahead, begin_on, step_ahead, step_left}

abbrev pub positions_left : Option ℕ → ℕ
positions_left next = walk.positions_left next

-- The ends met so far are those of ways from the vertex, and those at positions that are behind were met.
pub record Follows (ways : List (ℕ × ℕ)) (from : ℕ) (start set : Vertices) (next : Option ℕ) : Type 0 where
  pub grows : Grows (λ to. Contains ways (from, to)) start set
  pub on : IsOnWay (map (λ way. way.0) ways) from next
  pub done : (position : ℕ) (to : ℕ) → position < length ways → get_or ways position (from, to) ≡ (from, to) → IsAhead next position ⊎ Contains set.met to

key_at : (ways : List (ℕ × ℕ)) (from to position : ℕ) → position < length ways → get_or ways position (from, to) ≡ (from, to) → get_or (map (λ (way : ℕ × ℕ). way.0) ways) position 0 ≡ from
key_at ways from to position within is = get_or-map (λ (way : ℕ × ℕ). way.0) ways position (from, to) 0 within ∙ ap (λ (way : ℕ × ℕ). way.0) is

pub follow_begin : (ways : List (ℕ × ℕ)) (from : ℕ) (set : Vertices) (found : Option ℕ) → IsLastPosition (map (λ way. way.0) ways) from (length (map (λ (way : ℕ × ℕ). way.0) ways)) found → Follows ways from set set found
follow_begin ways from set found is = record {
  grows = grows_none _ set;
  on = begin_on _ from _ found (omega arith) is;
  done = λ position to within at. inl (begin_ahead _ from _ found is position (rw length-map within) (key_at ways from to position within at));
}

pub follow_step : (ways : List (ℕ × ℕ)) (from : ℕ) (start set after : Vertices) (at : ℕ) (d : ℕ × ℕ) (next found : Option ℕ) →
    next ≡ Some at → Follows ways from start set next → Meets set after (get_or ways at d).1 → IsLastPosition (map (λ w. w.0) ways) (get_or (map (λ (w : ℕ × ℕ). w.0) ways) at 0) at found →
    Follows ways from start after found
follow_step ways from start set after at d next found some before meets last =
    let follows : Follows ways from start set (Some at) = subst (λ (n : Option ℕ). Follows ways from start set n) some before in
    let way : ℕ × ℕ = get_or ways at d in
    let keys = map (λ (w : ℕ × ℕ). w.0) ways in
    let within : at < length ways = omega (arith, follows.on.0, length-map ways (λ (w : ℕ × ℕ). w.0)) in
    let is : way ≡ get_or ways at way = get_or_default ways at d way within in
    let own : way.0 ≡ from = ap (λ (w : ℕ × ℕ). w.0) is ∙ (sym (get_or-map (λ (w : ℕ × ℕ). w.0) ways at way 0 within) ∙ follows.on.1) in
    let chained : IsLastPosition keys from at found = subst (λ (k : ℕ). IsLastPosition keys k at found) follows.on.1 last in
    let pair : get_or ways at (from, way.1) ≡ (from, way.1) = get_or_default ways at (from, way.1) way within ∙ (sym is ∙ ap (λ (x : ℕ). (x, way.1)) own) in
    let stands : Contains ways (from, way.1) = (at, within, pair) in
    record {
      grows = grows_then _ start set after follows.grows (grows_map _ _ set after (λ vertex same. subst (λ (v : ℕ). Contains ways (from, v)) (sym same) stands) meets.grows);
      on = begin_on keys from at found (omega (arith, follows.on.0)) chained;
      done = λ position to inside is_at. elim (follows.done position to inside is_at) [
        | inl ahead ↦ elim (step_ahead keys from at found chained position (key_at ways from to position inside is_at) ahead) [
          | inl further ↦ inl further
          | inr here ↦
              let same : way.1 ≡ to = ap (λ (w : ℕ × ℕ). w.1) (is ∙ (get_or_default ways at way (from, to) within ∙ (ap (λ (p : ℕ). get_or ways p (from, to)) (sym here) ∙ is_at))) in
              inr (subst (λ (v : ℕ). Contains after.met v) same meets.met)
        ]
        | inr met ↦ inr (grows_keeps _ set after to meets.grows met)
      ];
    }

pub follow_end : (ways : List (ℕ × ℕ)) (from : ℕ) (start set : Vertices) (next : Option ℕ) → next ≡ None → Follows ways from start set next → FollowsAll ways from set
follow_end ways from start set None is follows to has = elim (follows.done has.0 to has.1 has.2) [ inl ahead ↦ absurd ahead | inr met ↦ met ]
follow_end ways from start set (Some at) is follows to has = cc
