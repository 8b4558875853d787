-- Sets of pairs that grow.
use Rattle.std.proofs.Common.{◌≡◌, ◌≢◌, ℕ, ◌<◌, ◌⊎◌, inl, inr, Bool, true, List, [], ◌∷◌, ◌++◌, map, length, get_or, refl, sym, ap, ◌∙◌, arith, subst, append_assoc, length-append, None}
use Rattle.std.specs.List.{All, Contains}
use Rattle.std.specs.HashSet as bag
use Rattle.std.proofs.Math.Seq.{get_or-append_seam}
use Rattle.std.proofs.lemmas.Bool.{cases_lt}
use Rattle.std.proofs.lemmas.List.{append-nil, map-append, length-map, get_or-map, get_or_default, get_or_append_left}
use Rattle.std.proofs.lemmas.List.Elements.{All-append, All-weaker, All-nil, All-cons, All-push, All-contains, All-contains_itself, Contains-append_left, Contains-push, Contains-get_or}
use Rattle.std.proofs.lemmas.List.Quantifiers.{all_pairs_push}
use Rattle.flow_index.specs.Positions.{IsLast, IsLastPosition}
use Rattle.path_facts.specs.declared.pair_set.PairSet.{PairSet}
use Rattle.path_facts.specs.PairSets.{Grows, IsKept, Meets, pair_at}
use Rattle.path_facts.proofs.Hashing.{pair_eq, set_has, updated_new, updated_old, updated_only}

pub grows_none : (IsSo : ℕ × ℕ → Type 0) (set : PairSet) → IsKept set → Grows IsSo set set
grows_none IsSo set kept = record { kept = kept; count = refl; more = []; grown = sym (append-nil set.pairs.items); new = All-nil IsSo }

pub grows_then : (IsSo : ℕ × ℕ → Type 0) (a b c : PairSet) → Grows IsSo a b → Grows IsSo b c → Grows IsSo a c
grows_then IsSo a b c front back = record {
  kept = back.kept;
  count = back.count ∙ front.count;
  more = front.more ++ back.more;
  grown = back.grown ∙ (ap (λ xs. xs ++ back.more) front.grown ∙ append_assoc a.pairs.items front.more back.more);
  new = All-append IsSo front.more back.more front.new back.new;
}

pub grows_map : (P Q : ℕ × ℕ → Type 0) (a b : PairSet) → ((pair : ℕ × ℕ) → P pair → Q pair) → Grows P a b → Grows Q a b
grows_map P Q a b same grows = record { kept = grows.kept; count = grows.count; more = grows.more; grown = grows.grown; new = All-weaker P Q same grows.more grows.new }

-- what was met stays
pub grows_keeps : (IsSo : ℕ × ℕ → Type 0) (a b : PairSet) (pair : ℕ × ℕ) → Grows IsSo a b → Contains a.pairs.items pair → Contains b.pairs.items pair
grows_keeps IsSo a b pair grows has = subst (λ (xs : List (ℕ × ℕ)). Contains xs pair) (sym grows.grown) (Contains-append_left a.pairs.items grows.more pair has)

-- what holds of all pairs goes on to hold
pub grows_all : (IsSo P : ℕ × ℕ → Type 0) (a b : PairSet) → ((pair : ℕ × ℕ) → IsSo pair → P pair) → Grows IsSo a b → All P a.pairs.items → All P b.pairs.items
grows_all IsSo P a b so grows all =
    subst (λ (xs : List (ℕ × ℕ)). All P xs) (sym grows.grown) (All-append P a.pairs.items grows.more all (All-weaker IsSo P so grows.more grows.new))

-- a pair keeps its position
pub grows_at : (IsSo : ℕ × ℕ → Type 0) (a b : PairSet) (position : ℕ) (d : ℕ × ℕ) → Grows IsSo a b → position < length a.pairs.items → get_or b.pairs.items position d ≡ get_or a.pairs.items position d
grows_at IsSo a b position d grows within = ap (λ (xs : List (ℕ × ℕ)). get_or xs position d) grows.grown ∙ get_or_append_left a.pairs.items grows.more d position within

-- the pairs of a set that begin with a number
module _ (set : PairSet) (first : ℕ) (kept : IsKept set) where
  len_keys : length set.by_first.keys ≡ length set.pairs.items
  len_keys = ap length kept.keys ∙ length-map set.pairs.items (λ (p : ℕ × ℕ). p.0)

  key_is : (position : ℕ) → position < length set.pairs.items → get_or set.by_first.keys position 0 ≡ (pair_at set position).0
  key_is position within = ap (λ (ks : List ℕ). get_or ks position 0) kept.keys ∙ get_or-map (λ (p : ℕ × ℕ). p.0) set.pairs.items position (0, 0) 0 within

  module _ (position : ℕ) (last : IsLast set.by_first.keys first (length set.by_first.keys) position) where
    pub last_within : position < length set.pairs.items
    last_within = let before = last.before in omega (arith, len_keys)

    pub last_first : (pair_at set position).0 ≡ first
    last_first = sym (key_is position last_within) ∙ last.stands

    -- such a pair is the last one, or was passed
    before_last : (k : ℕ) → k < length set.pairs.items → (pair_at set k).0 ≡ first → (k ≡ position) ⊎ Contains set.passed.keys (pair_at set k)
    before_last k within same = elim (cases_lt k position) [
      | inl before ↦ inr (kept.passed k position before last_within (same ∙ sym last_first))
      | inr not_before ↦ elim (cases_lt position k) [
        | inl behind ↦ absurd (last.last k behind (omega (arith, len_keys)) (key_is k within ∙ same))
        | inr not_behind ↦ inl (omega arith)
      ]
    ]

module _ (set : PairSet) (pair : ℕ × ℕ) (kept : IsKept set) where
  abbrev IsPassed : Type 0
  IsPassed = bag.contains pair_eq set.passed pair ≡ true

  stands_passed : IsPassed → Contains set.pairs.items pair
  stands_passed on = All-contains (Contains set.pairs.items) set.passed.keys pair kept.passed_stand ((set_has set.passed pair).0 on)

  -- where a pair stands
  at_pair : (has : Contains set.pairs.items pair) → pair_at set has.0 ≡ pair
  at_pair has = get_or_default set.pairs.items has.0 (0, 0) pair has.1 ∙ has.2

  -- the last pair is this one
  pub has_last : (position : ℕ) (d : ℕ × ℕ) → IsLast set.by_first.keys pair.0 (length set.by_first.keys) position → (get_or set.pairs.items position d).1 ≡ pair.1 → Contains set.pairs.items pair
  has_last position d last same =
      let within = last_within set pair.0 kept position last in
      let second : (pair_at set position).1 ≡ pair.1 = ap (λ (p : ℕ × ℕ). p.1) (get_or_default set.pairs.items position (0, 0) d within) ∙ same in
      let is : pair_at set position ≡ pair = ap (λ (x : ℕ). (x, (pair_at set position).1)) (last_first set pair.0 kept position last) ∙ ap (λ (x : ℕ). (pair.0, x)) second in
      subst (λ (p : ℕ × ℕ). Contains set.pairs.items p) is (Contains-get_or set.pairs.items position (0, 0) within)

  -- it is not
  pub has_passed : (position : ℕ) (d : ℕ × ℕ) (on : Bool) → IsLast set.by_first.keys pair.0 (length set.by_first.keys) position → ¬ ((get_or set.pairs.items position d).1 ≡ pair.1) → on ≡ bag.contains pair_eq set.passed pair →
      (on ≡ true → Contains set.pairs.items pair) × (Contains set.pairs.items pair → on ≡ true)
  has_passed position d on last differs is = (
    λ so. stands_passed (sym is ∙ so),
    λ has. elim (before_last set pair.0 kept position last has.0 has.1 (ap (λ (p : ℕ × ℕ). p.0) (at_pair has))) [
      | inl here ↦
          let within = last_within set pair.0 kept position last in
          let found : pair_at set position ≡ pair = ap (λ (k : ℕ). pair_at set k) (sym here) ∙ at_pair has in
          absurd (differs (ap (λ (p : ℕ × ℕ). p.1) (get_or_default set.pairs.items position d (0, 0) within ∙ found)))
      | inr passed ↦ is ∙ (set_has set.passed pair).1 (subst (λ (p : ℕ × ℕ). Contains set.passed.keys p) (at_pair has) passed)
    ],
  )

  -- no pair begins so
  pub has_none : IsLastPosition set.by_first.keys pair.0 (length set.by_first.keys) None → ¬ Contains set.pairs.items pair
  has_none none has = none has.0 (let within = has.1 in omega (arith, len_keys set pair.0 kept)) (key_is set pair.0 kept has.0 has.1 ∙ ap (λ (p : ℕ × ℕ). p.0) (at_pair has))

  -- a pair that was met before
  pub meets_known : Contains set.pairs.items pair → Meets set set pair
  meets_known has = record { grows = grows_none (λ new. new ≡ pair) set kept; met = has }

  -- a pair that is new
  module _ (after : PairSet) (fresh : ¬ Contains set.pairs.items pair) (items : after.pairs.items ≡ set.pairs.items ++ pair ∷ []) (below : pair.0 < set.by_first.count) (count : after.by_first.count ≡ set.by_first.count)
      (chained : after.by_first.keys ≡ set.by_first.keys ++ pair.0 ∷ []) where
    at_old : (k : ℕ) → k < length set.pairs.items → pair_at after k ≡ pair_at set k
    at_old k within = ap (λ (xs : List (ℕ × ℕ)). get_or xs k (0, 0)) items ∙ get_or_append_left set.pairs.items (pair ∷ []) (0, 0) k within

    at_new : pair_at after (length set.pairs.items) ≡ pair
    at_new = ap (λ (xs : List (ℕ × ℕ)). get_or xs (length set.pairs.items) (0, 0)) items ∙ get_or-append_seam set.pairs.items pair [] (0, 0)

    meets_push : All (Contains set.pairs.items) after.passed.keys → ((q : ℕ × ℕ) → Contains set.passed.keys q → Contains after.passed.keys q) →
        ((k : ℕ) → k < length set.pairs.items → (pair_at set k).0 ≡ pair.0 → Contains after.passed.keys (pair_at set k)) → Meets set after pair
    meets_push stand old own = record {
      grows = record {
        kept = record {
          passed_stand = All-weaker (Contains set.pairs.items) (Contains after.pairs.items) (λ q has. rw items (Contains-append_left set.pairs.items (pair ∷ []) q has)) after.passed.keys stand;
          passed = λ k later before within same. elim (cases_lt later (length set.pairs.items)) [
            | inl inside ↦
                let k_inside : k < length set.pairs.items = omega arith in
                subst (λ (p : ℕ × ℕ). Contains after.passed.keys p) (sym (at_old k k_inside))
                (old _ (kept.passed k later before inside (ap (λ (p : ℕ × ℕ). p.0) (sym (at_old k k_inside)) ∙ (same ∙ ap (λ (p : ℕ × ℕ). p.0) (at_old later inside)))))
            | inr not_inside ↦
                let end : later ≡ length set.pairs.items = omega (arith, ap length items, length-append set.pairs.items (pair ∷ [])) in
                let k_inside : k < length set.pairs.items = omega arith in
                let new : pair_at after later ≡ pair = ap (λ (i : ℕ). pair_at after i) end ∙ at_new in
                subst (λ (p : ℕ × ℕ). Contains after.passed.keys p) (sym (at_old k k_inside))
                (own k k_inside (ap (λ (p : ℕ × ℕ). p.0) (sym (at_old k k_inside)) ∙ (same ∙ ap (λ (p : ℕ × ℕ). p.0) new)))
          ];
          once = rw items (all_pairs_push (λ a b. a ≢ b) set.pairs.items pair kept.once
              (λ k d inside same. fresh (subst (λ (p : ℕ × ℕ). Contains set.pairs.items p) same (Contains-get_or set.pairs.items k d inside))));
          below = rw (items, count) (All-push (λ p. p.0 < set.by_first.count) set.pairs.items pair kept.below below);
          keys = chained ∙ (ap (λ ks. ks ++ pair.0 ∷ []) kept.keys ∙ (sym (map-append (λ (p : ℕ × ℕ). p.0) set.pairs.items (pair ∷ [])) ∙ ap (λ (xs : List (ℕ × ℕ)). map (λ p. p.0) xs) (sym items)));
        };
        count = count;
        more = pair ∷ [];
        grown = items;
        new = All-cons (λ new. new ≡ pair) pair [] refl (All-nil (λ new. new ≡ pair));
      };
      met = rw items (Contains-push set.pairs.items pair);
    }

    -- the first that begins so
    pub meets_first : after.passed ≡ set.passed → IsLastPosition set.by_first.keys pair.0 (length set.by_first.keys) None → Meets set after pair
    meets_first same none = meets_push (rw same kept.passed_stand) (λ q has. rw same has)
        (λ k within begins. absurd (none k (omega (arith, len_keys set pair.0 kept)) (key_is set pair.0 kept k within ∙ begins)))

    -- one behind others, of which the last is passed
    pub meets_further : (position : ℕ) (last : ℕ × ℕ) → last ≡ get_or set.pairs.items position last → IsLast set.by_first.keys pair.0 (length set.by_first.keys) position →
        bag.Updates pair_eq set.passed after.passed last true → Meets set after pair
    meets_further position last read is updates =
        let within = last_within set pair.0 kept position is in
        let own : last ≡ pair_at set position = read ∙ get_or_default set.pairs.items position last (0, 0) within in
        let stands : Contains set.pairs.items last = subst (λ (p : ℕ × ℕ). Contains set.pairs.items p) (sym own) (Contains-get_or set.pairs.items position (0, 0) within) in
        meets_push
        (All-weaker (Contains after.passed.keys) (Contains set.pairs.items)
        (λ q has. elim (updated_only set.passed after.passed last updates q has) [
          | inl same ↦ subst (λ (p : ℕ × ℕ). Contains set.pairs.items p) (sym same) stands
          | inr old ↦ All-contains (Contains set.pairs.items) set.passed.keys q kept.passed_stand old
        ]) after.passed.keys (All-contains_itself after.passed.keys))
        (λ q has. updated_old set.passed after.passed last updates q has)
        (λ k inside begins. elim (before_last set pair.0 kept position is k inside begins) [
          | inl here ↦ subst (λ (p : ℕ × ℕ). Contains after.passed.keys p) (own ∙ ap (λ (i : ℕ). pair_at set i) (sym here)) (updated_new set.passed after.passed last updates)
          | inr passed ↦ updated_old set.passed after.passed last updates _ passed
        ])
