-- Pooled names: what a set of byte vectors says of its names.
use Rattle.std.proofs.Common.{◌≡◌, ℕ, zero, suc, ◌+◌, ◌<◌, ◌≤◌, Bool, true, false, cond, ◌||◌, List, [], ◌∷◌, ◌++◌, Some, length, map, take, slice_get, get_or, position, refl, ap, sym, subst, ◌∙◌, arith, nat_lt, Result, Ok, Err}
use borrow.Author.Tests.{ltb-true, ltb-false}
use Rattle.std.specs.declared.vec.Vec.{Vec}
use Rattle.std.specs.List.{list_any, IsDistinct}
use Rattle.std.specs.Cmp.Lexicographic.{nat_list_eq_equiv}
use Rattle.std.proofs.lemmas.Map.Keys.{apart_from_distinct, IsDistinct-tail}
use Rattle.indexmap.specs.IndexSet.{insert_key}
use Rattle.std.specs.Option.{option_map}
use Rattle.std.specs.Result.{OnErr}
use Rattle.std.specs.Str.{bytes_eq}
use Rattle.std.proofs.lemmas.List.{map_more, map-append, append-nil, append_assoc, take_at, length-append, get_or_append_left, get_or_at, length-map}
use Rattle.std.proofs.lemmas.List.Quantifiers.{position-Some}
use Rattle.std.proofs.lemmas.Option.{slice_get-map, slice_get-get_or, slice_get_within}
use Rattle.std.proofs.lemmas.Slice.Eq.{bytes_eq-Decides}
use Rattle.graph_store.specs.Pool.{Adds, AreDistinct, Numbers}

module _ {A : Type 0} where
  -- the name at a position whose vector is equal to the one looked up
  pub name_at : (keys : List (Vec ℕ A)) (n : ℕ) (v : List ℕ) (k : Vec ℕ A) → slice_get keys n ≡ Some k → bytes_eq v k.items ≡ true →
      slice_get (map (λ (name : Vec ℕ A). name.items) keys) n ≡ Some v
  name_at keys n v k here same =
      slice_get-map (λ (name : Vec ℕ A). name.items) keys n ∙
      (ap (option_map (λ (name : Vec ℕ A). name.items)) here ∙ ap Some (sym ((bytes_eq-Decides v k.items).0 same)))

  -- the name at the position that a look-up gives
  pub name_found : (keys : List (Vec ℕ A)) (n : ℕ) (v : List ℕ) → position (λ (k : Vec ℕ A). bytes_eq v k.items) keys ≡ Some n →
      slice_get (map (λ (name : Vec ℕ A). name.items) keys) n ≡ Some v
  name_found [] n v found = absurd (cc)
  name_found (first ∷ keys) n v found =
      let p = position-Some (λ (k : Vec ℕ A). bytes_eq v k.items) (first ∷ keys) n first found in
      name_at (first ∷ keys) n v (get_or (first ∷ keys) n first) (slice_get-get_or (first ∷ keys) n first p.0) p.1

-- adding nothing, and then more
pub adds_none : (names : List (List ℕ)) → Adds names names
adds_none names = record { more = []; is = sym (append-nil names) }

pub adds_more : (a b c : List (List ℕ)) → Adds a b → Adds b c → Adds a c
adds_more a b c ab bc = record {
  more = ab.more ++ bc.more;
  is = bc.is ∙ (ap (λ names. names ++ bc.more) ab.is ∙ append_assoc a ab.more bc.more);
}

-- what is added keeps the names that were there
get_append : (xs ys : List (List ℕ)) (n : ℕ) → n < length xs → slice_get (xs ++ ys) n ≡ slice_get xs n
get_append [] ys n h = absurd (omega arith)
get_append (x ∷ xs) ys zero h = refl
get_append (x ∷ xs) ys (suc n) h = get_append xs ys n (omega arith)

pub adds_keep : (a b : List (List ℕ)) (n : ℕ) → Adds a b → n < length a → slice_get b n ≡ slice_get a n
adds_keep a b n adds h = ap (λ names. slice_get names n) adds.is ∙ get_append a adds.more n h

-- what was added can be cut off again
pub adds_cut : (a b : List (List ℕ)) → Adds a b → take (length a) b ≡ a
adds_cut a b adds = ap (λ names. take (length a) names) adds.is ∙ take_at a adds.more (length a) refl

-- the name at a position, which is there
there : (xs : List (List ℕ)) (k : ℕ) → k < length xs → slice_get xs k ≡ Some (get_or xs k [])
there xs k h = slice_get-get_or xs k [] h

-- one more name with its number
pub numbers_more : (names a b : List (List ℕ)) (numbers : List ℕ) (v : List ℕ) (n : ℕ) →
    Numbers names a numbers → Adds a b → slice_get b n ≡ Some v → Numbers (names ++ v ∷ []) b (numbers ++ n ∷ [])
numbers_more names a b numbers v n h adds here = record {
  one_each = length-append numbers (n ∷ []) ∙ (ap (λ k. k + 1) h.one_each ∙ sym (length-append names (v ∷ [])));
  stored = λ k within. by k within (nat_lt k (length names)) refl;
}
  where
    by : (k : ℕ) → k < length (names ++ v ∷ []) → (t : Bool) → nat_lt k (length names) ≡ t →
        slice_get b (get_or (numbers ++ n ∷ []) k 0) ≡ slice_get (names ++ v ∷ []) k
    by k within true t =
        let low : k < length names = ltb-true _ _ t in
        let low_too : k < length numbers = rw h.one_each low in
        let old = h.stored k low in
        let is_there : get_or numbers k 0 < length a = slice_get_within a (get_or numbers k 0) (get_or names k []) (old ∙ there names k low) in
        ap (slice_get b) (get_or_append_left numbers (n ∷ []) 0 k low_too) ∙
        (adds_keep a b (get_or numbers k 0) adds is_there ∙ (old ∙ sym (get_append names (v ∷ []) k low)))
    by k within false t =
        let high : length names ≤ k = ltb-false _ _ t in
        let size = length-append names (v ∷ []) in
        let is : k ≡ length names = omega arith in
        let at : get_or (numbers ++ n ∷ []) k 0 ≡ n = get_or_at numbers n [] 0 k (h.one_each ∙ sym is) in
        let name : get_or (names ++ v ∷ []) k [] ≡ v = get_or_at names v [] [] k (sym is) in
        ap (slice_get b) at ∙ (here ∙ (ap Some (sym name) ∙ sym (there (names ++ v ∷ []) k within)))

-- the bytes of a vector
abbrev pub items : {A : Type 0} → Vec ℕ A → List ℕ
items name = name.items

-- numbers, by equal lists
pub numbers_by : (names others new : List (List ℕ)) (numbers ns : List ℕ) → Numbers names new numbers → names ≡ others → numbers ≡ ns → Numbers others new ns
numbers_by names others new numbers ns h e f =
    subst (λ (xs : List (List ℕ)). Numbers xs new ns) e (subst (λ (xs : List ℕ). Numbers names new xs) f h)

module _ {A : Type 0} where
  -- a test of vectors is a test of their bytes
  any_name : (keys : List (Vec ℕ A)) (v : List ℕ) → list_any (λ (k : Vec ℕ A). bytes_eq v k.items) keys ≡ list_any (bytes_eq v) (map items keys)
  any_name [] v = refl
  any_name (k ∷ keys) v = ap (λ b. bytes_eq v k.items || b) (any_name keys v)

  -- a key of a set is equal to none before it
  none_before : (all : List (Vec ℕ A)) (i : ℕ) (d : Vec ℕ A) → IsDistinct (λ (x y : Vec ℕ A). bytes_eq x.items y.items) all → i < length all →
      list_any (λ (k : Vec ℕ A). bytes_eq (get_or all i d).items k.items) (take i all) ≡ false
  none_before [] i d distinct h = absurd (omega arith)
  none_before (x ∷ xs) zero d distinct h = refl
  none_before (x ∷ xs) (suc i) d distinct h =
      let w = get_or xs i d in
      let apart : bytes_eq x.items w.items ≡ false = apart_from_distinct (λ (x y : Vec ℕ A). bytes_eq x.items y.items) (x ∷ xs) 0 (suc i) d distinct (omega arith) h in
      let here : bytes_eq w.items x.items ≡ false = nat_list_eq_equiv.symm w.items x.items ∙ apart in
      ap (λ b. b || list_any (λ (k : Vec ℕ A). bytes_eq w.items k.items) (take i xs)) here ∙
      none_before xs i d (IsDistinct-tail (λ (x y : Vec ℕ A). bytes_eq x.items y.items) x xs distinct) (omega arith)

  -- the next key of a set goes into the copy of those before it
  pub copied_more : (keys all : List (Vec ℕ A)) (i : ℕ) (v d : Vec ℕ A) → IsDistinct (λ (x y : Vec ℕ A). bytes_eq x.items y.items) all →
      map items keys ≡ map items (take i all) → i < length all → v.items ≡ (get_or all i d).items →
      map items (insert_key (λ (x y : Vec ℕ A). bytes_eq x.items y.items) keys v) ≡ map items (take (i + 1) all)
  copied_more keys all i v d distinct same h is =
      let w = get_or all i d in
      let absent : list_any (λ (k : Vec ℕ A). bytes_eq v.items k.items) keys ≡ false =
      any_name keys v.items ∙ (ap (list_any (bytes_eq v.items)) same ∙
      (ap (λ (b : List ℕ). list_any (bytes_eq b) (map items (take i all))) is ∙
      (sym (any_name (take i all) w.items) ∙ none_before all i d distinct h))) in
      ap (λ b. map items (cond b keys (keys ++ v ∷ []))) absent ∙
      (map-append items keys (v ∷ []) ∙
      (ap (λ (names : List (List ℕ)). names ++ v.items ∷ []) same ∙
      (ap (λ (b : List ℕ). map items (take i all) ++ b ∷ []) is ∙ sym (map_more items all i d h))))

-- names that are added make the list no shorter
pub length_adds : (a b : List (List ℕ)) → Adds a b → length a ≤ length b
length_adds a b adds = let e = ap length adds.is in let more = length-append a adds.more in omega arith

-- what holds anyway holds on an error
pub on_err : {T E P : Type 0} (r : Result T E) → P → OnErr r P
on_err (Ok x) p = tt
on_err (Err e) p = p

module _ {A : Type 0} (keys : List (Vec ℕ A)) (first : Vec ℕ A) (distinct : IsDistinct (λ (x y : Vec ℕ A). bytes_eq x.items y.items) keys) where
  -- the bytes of the key at a position
  key_bytes : (i : ℕ) (name : List ℕ) → slice_get (map items keys) i ≡ Some name → (i < length keys) × (items (get_or keys i first) ≡ name)
  key_bytes i name is =
      let within = slice_get_within (map items keys) i name is in
      let size = length-map keys items in
      let low : i < length keys = omega arith in
      let there : slice_get (map items keys) i ≡ Some (items (get_or keys i first)) =
      slice_get-map items keys i ∙ ap (option_map items) (slice_get-get_or keys i first low) in
      (low, cc)

  not_before : (i j : ℕ) (name : List ℕ) → i < j → slice_get (map items keys) i ≡ Some name → slice_get (map items keys) j ≡ Some name → ⊥
  not_before i j name low one other =
      let a = key_bytes i name one in
      let b = key_bytes j name other in
      let apart : bytes_eq (get_or keys i first).items (get_or keys j first).items ≡ false =
      apart_from_distinct (λ (x y : Vec ℕ A). bytes_eq x.items y.items) keys i j first distinct low b.0 in
      let same = (bytes_eq-Decides (get_or keys i first).items (get_or keys j first).items).1 (a.1 ∙ sym b.1) in
      cc

  one_position : (i j : ℕ) (name : List ℕ) → slice_get (map items keys) i ≡ Some name → slice_get (map items keys) j ≡ Some name → i ≡ j
  one_position i j name one other =
      by (nat_lt i j) refl (nat_lt j i) refl
    where
      by : (s : Bool) → nat_lt i j ≡ s → (t : Bool) → nat_lt j i ≡ t → i ≡ j
      by true s t u = absurd (not_before i j name (ltb-true _ _ s) one other)
      by false s true u = absurd (not_before j i name (ltb-true _ _ u) other one)
      by false s false u =
          let high : j ≤ i = ltb-false _ _ s in
          let low : i ≤ j = ltb-false _ _ u in
          omega arith

-- the names of keys that differ from one another do too
pub distinct_names : {A : Type 0} (keys : List (Vec ℕ A)) → IsDistinct (λ (x y : Vec ℕ A). bytes_eq x.items y.items) keys → AreDistinct (map items keys)
distinct_names [] distinct = record { same = λ i j name one other. absurd (cc) }
distinct_names (first ∷ keys) distinct = record { same = one_position (first ∷ keys) first distinct }
