-- A search from some starts.
use Rattle.std.proofs.Common.{◌≡◌, ℕ, ◌+◌, ◌<◌, ◌≤◌, inl, inr, List, [], length, get_or, sym, ap, ◌∙◌, arith, subst, length-append}
use Rattle.std.specs.List.{All, Contains}
use Rattle.std.proofs.lemmas.Bool.{cases_lt}
use Rattle.std.proofs.lemmas.List.{get_or_default, get_or_append_left}
use Rattle.std.proofs.lemmas.List.Elements.{All-nil, All-append, All-weaker, All-contains, Contains-get_or}
use Rattle.matched_paths.specs.Path.{Path, none, step}
use Rattle.matched_paths.proofs.PathLemmas.{path_end}
use Rattle.flow_index.specs.Ways.{HasWay, IsReached}
use Rattle.flow_index.specs.Vertices.{Vertices, Grows, Meets, FollowsAll}
use Rattle.flow_index.proofs.Growing.{grows_keeps}

-- what was met is reached
abbrev AreSound : List (ℕ × ℕ) → List ℕ → Vertices → Type 0
AreSound ways starts set = All (IsReached ways starts) set.met

-- the first starts were met
pub record Starting (count : ℕ) (ways : List (ℕ × ℕ)) (starts : List ℕ) (set : Vertices) (index : ℕ) : Type 0 where
  pub count_is : set.count ≡ count
  pub sound : AreSound ways starts set
  pub met : (k : ℕ) → k < index → k < length starts → Contains set.met (get_or starts k 0)

-- all starts were met, and the ways from the first vertices that were met were followed
pub record Reaching (count : ℕ) (ways : List (ℕ × ℕ)) (starts : List ℕ) (set : Vertices) (next : ℕ) : Type 0 where
  pub count_is : set.count ≡ count
  pub sound : AreSound ways starts set
  pub met : All (Contains set.met) starts
  pub within : next ≤ length set.met
  pub followed : (k : ℕ) → k < next → FollowsAll ways (get_or set.met k 0) set

sound_more : (ways : List (ℕ × ℕ)) (starts : List ℕ) (IsSo : ℕ → Type 0) (set after : Vertices) → ((vertex : ℕ) → IsSo vertex → IsReached ways starts vertex) → Grows IsSo set after → AreSound ways starts set → AreSound ways starts after
sound_more ways starts IsSo set after reached grows sound =
    subst (λ (xs : List ℕ). All (IsReached ways starts) xs) (sym grows.kept)
    (All-append (IsReached ways starts) set.met grows.more sound (All-weaker IsSo (IsReached ways starts) reached grows.more grows.new))

pub start_none : (count : ℕ) (ways : List (ℕ × ℕ)) (starts : List ℕ) (set : Vertices) → set.count ≡ count → set.met ≡ [] → Starting count ways starts set 0
start_none count ways starts set counts empty = record {
  count_is = counts;
  sound = subst (λ (xs : List ℕ). All (IsReached ways starts) xs) (sym empty) (All-nil (IsReached ways starts));
  met = λ k less within. absurd (omega arith);
}

pub start_more : (count : ℕ) (ways : List (ℕ × ℕ)) (starts : List ℕ) (set after : Vertices) (index : ℕ) → index < length starts → Starting count ways starts set index → Meets set after (get_or starts index 0) → Starting count ways starts after (index + 1)
start_more count ways starts set after index within is meets = record {
  count_is = meets.grows.count ∙ is.count_is;
  sound = sound_more ways starts _ set after (λ vertex same. record { start = get_or starts index 0; among = Contains-get_or starts index 0 within; leads = subst (λ (v : ℕ). Path (HasWay ways) (get_or starts index 0) v) (sym same) none }) meets.grows is.sound;
  met = λ k less inside. elim (cases_lt k index) [
    | inl before ↦ grows_keeps _ set after _ meets.grows (is.met k before inside)
    | inr not_before ↦
        let same : index ≡ k = omega arith in
        subst (λ (i : ℕ). Contains after.met (get_or starts i 0)) same meets.met
  ];
}

pub reach_none : (count : ℕ) (ways : List (ℕ × ℕ)) (starts : List ℕ) (set : Vertices) (index : ℕ) → length starts ≤ index → Starting count ways starts set index → Reaching count ways starts set 0
reach_none count ways starts set index all is = record {
  count_is = is.count_is;
  sound = is.sound;
  met = λ k d inside. subst (λ (v : ℕ). Contains set.met v) (get_or_default starts k 0 d inside) (is.met k (omega arith) inside);
  within = omega arith;
  followed = λ k less. absurd (omega arith);
}

-- the vertex whose turn it is was reached
turn_reached : (ways : List (ℕ × ℕ)) (starts : List ℕ) (set : Vertices) (next : ℕ) → next < length set.met → AreSound ways starts set → IsReached ways starts (get_or set.met next 0)
turn_reached ways starts set next within sound = sound next 0 within

pub reach_more : (count : ℕ) (ways : List (ℕ × ℕ)) (starts : List ℕ) (set after : Vertices) (next : ℕ) → next < length set.met → Reaching count ways starts set next →
    Grows (λ to. Contains ways (get_or set.met next 0, to)) set after → FollowsAll ways (get_or set.met next 0) after → Reaching count ways starts after (next + 1)
reach_more count ways starts set after next within is grows follows =
    let len : length after.met ≡ length set.met + length grows.more = ap length grows.kept ∙ length-append set.met grows.more in
    let same : (k : ℕ) → k < length set.met → get_or after.met k 0 ≡ get_or set.met k 0 = λ k inside. ap (λ (xs : List ℕ). get_or xs k 0) grows.kept ∙ get_or_append_left set.met grows.more 0 k inside in
    let reached = turn_reached ways starts set next within is.sound in
    record {
      count_is = grows.count ∙ is.count_is;
      sound = sound_more ways starts _ set after (λ vertex way. record { start = reached.start; among = reached.among; leads = path_end reached.leads way }) grows is.sound;
      met = λ k d inside. grows_keeps _ set after _ grows (is.met k d inside);
      within = omega arith;
      followed = λ k less to has. elim (cases_lt k next) [
        | inl before ↦
            let inside : k < length set.met = omega (arith, is.within) in
            grows_keeps _ set after to grows (is.followed k before to (subst (λ (v : ℕ). Contains ways (v, to)) (same k inside) has))
        | inr not_before ↦
            let here : k ≡ next = omega arith in
            let inside : k < length set.met = omega arith in
            follows to (subst (λ (v : ℕ). Contains ways (v, to)) (same k inside ∙ ap (λ (i : ℕ). get_or set.met i 0) here) has)
      ];
    }

path_met : (ways : List (ℕ × ℕ)) (set : Vertices) → ((a b : ℕ) → Contains set.met a → Contains ways (a, b) → Contains set.met b) → {a b : ℕ} → Contains set.met a → Path (HasWay ways) a b → Contains set.met b
path_met ways set closed has none = has
path_met ways set closed has (step first rest) = path_met ways set closed (closed _ _ has first) rest

pub reach_end : (count : ℕ) (ways : List (ℕ × ℕ)) (starts : List ℕ) (set : Vertices) (next : ℕ) → next ≡ length set.met → Reaching count ways starts set next → (vertex : ℕ) →
    (Contains set.met vertex → IsReached ways starts vertex) × (IsReached ways starts vertex → Contains set.met vertex)
reach_end count ways starts set next all is vertex =
    let closed : (a b : ℕ) → Contains set.met a → Contains ways (a, b) → Contains set.met b =
    λ a b has way.
    let below : has.0 < next = omega (arith, has.1) in
    let at : get_or set.met has.0 0 ≡ a = get_or_default set.met has.0 0 a has.1 ∙ has.2 in
    is.followed has.0 below b (subst (λ (v : ℕ). Contains ways (v, b)) (sym at) way) in (
      λ has. All-contains (IsReached ways starts) set.met vertex is.sound has,
      λ reached. path_met ways set closed (All-contains (Contains set.met) starts reached.start is.met reached.among) reached.leads,
    )
