-- Chains of positions grow at the end.
use Rattle.std.proofs.Common.{◌≡◌, ◌≢◌, ℕ, ◌+◌, ◌<◌, ◌≤◌, inl, inr, List, [], ◌∷◌, ◌++◌, length, get_or, set, sym, ap, ◌∙◌, arith, subst, length-append, length-take, take, get_or-set_same, get_or-set_other, Option, Some, None}
use Rattle.std.proofs.Math.ListN.{length-set}
use Rattle.std.proofs.Math.Seq.{get_or-append_seam}
use Rattle.std.proofs.lemmas.Bool.{cases_lt, cases_eq}
use Rattle.std.specs.List.{All}
use Rattle.std.proofs.lemmas.List.{get_or_append_left, take_more}
use Rattle.flow_index.specs.Positions.{IsLast, IsLastPosition, AreChained}

-- a key behind the end changes nothing
pub last_more : (keys more : List ℕ) (key end : ℕ) (found : Option ℕ) → end ≤ length keys → IsLastPosition keys key end found → IsLastPosition (keys ++ more) key end found
last_more keys more key end None within is = λ position below same.
    let inside : position < length keys = omega arith in
    is position below (sym (get_or_append_left keys more 0 position inside) ∙ same)
last_more keys more key end (Some position) within is =
    let before = is.before in
    let inside : position < length keys = omega arith in
    record {
      before = is.before;
      stands = get_or_append_left keys more 0 position inside ∙ is.stands;
      last = λ later after below same.
          let later_inside : later < length keys = omega arith in
          is.last later after below (sym (get_or_append_left keys more 0 later later_inside) ∙ same);
    }

-- nor does another key at the end
pub last_other : (keys : List ℕ) (new key : ℕ) (found : Option ℕ) → new ≢ key → IsLastPosition keys key (length keys) found → IsLastPosition (keys ++ new ∷ []) key (length keys + 1) found
last_other keys new key None other is = λ position below same. elim (cases_lt position (length keys)) [
  | inl inside ↦ is position inside (sym (get_or_append_left keys (new ∷ []) 0 position inside) ∙ same)
  | inr outside ↦
      let at : position ≡ length keys = omega arith in
      other (sym (get_or-append_seam keys new [] 0) ∙ subst (λ (p : ℕ). get_or (keys ++ new ∷ []) p 0 ≡ key) at same)
]
last_other keys new key (Some position) other is =
    let before = is.before in
    record {
      before = omega arith;
      stands = get_or_append_left keys (new ∷ []) 0 position before ∙ is.stands;
      last = λ later after below same. elim (cases_lt later (length keys)) [
        | inl inside ↦ is.last later after inside (sym (get_or_append_left keys (new ∷ []) 0 later inside) ∙ same)
        | inr outside ↦
            let at : later ≡ length keys = omega arith in
            other (sym (get_or-append_seam keys new [] 0) ∙ subst (λ (p : ℕ). get_or (keys ++ new ∷ []) p 0 ≡ key) at same)
      ];
    }

-- the key at the end is its last
pub last_new : (keys : List ℕ) (key : ℕ) → IsLast (keys ++ key ∷ []) key (length keys + 1) (length keys)
last_new keys key = record {
  before = omega arith;
  stands = get_or-append_seam keys key [] 0;
  last = λ later after below same. omega arith;
}

pub chained_more : (last : List (Option ℕ)) (keys : List ℕ) (before : List (Option ℕ)) (key : ℕ) → key < length last → AreChained last keys before →
    AreChained (set last key (Some (length keys))) (keys ++ key ∷ []) (before ++ get_or last key None ∷ [])
chained_more last keys before key below is = record {
  below = λ position within. elim (cases_lt position (length keys)) [
    | inl inside ↦ rw (length-set, get_or_append_left keys (key ∷ []) 0 position inside) (is.below position inside)
    | inr outside ↦
        let len = length-append keys (key ∷ []) in
        let at : position ≡ length keys = omega arith in
        rw (length-set, at, get_or-append_seam keys key [] 0) below
  ];
  links = length-append before (get_or last key None ∷ []) ∙ (ap (λ n. n + 1) is.links ∙ sym (length-append keys (key ∷ [])));
  heads = λ other within.
      let inside : other < length last = omega (arith, within, length-set last key (Some (length keys))) in
      let len : length (keys ++ key ∷ []) ≡ length keys + 1 = length-append keys (key ∷ []) in
      elim (cases_eq other key) [
        | inl same ↦ rw (len, same, get_or-set_same) (last_new keys key)
        | inr differs ↦ rw (len, get_or-set_other last key other (Some (length keys)) None differs) (last_other keys key other _ (λ same. differs (sym same)) (is.heads other inside))
      ];
  steps = λ position within.
      let len : length (keys ++ key ∷ []) ≡ length keys + 1 = length-append keys (key ∷ []) in
      elim (cases_lt position (length keys)) [
        | inl inside ↦
            let old : position < length before = omega (arith, is.links) in
            rw (get_or_append_left keys (key ∷ []) 0 position inside, get_or_append_left before (get_or last key None ∷ []) None position old)
            (last_more keys (key ∷ []) _ position _ (omega arith) (is.steps position inside))
        | inr outside ↦
            let at : position ≡ length keys = omega arith in
            let end : position ≡ length before = omega (arith, is.links) in
            let value : get_or (before ++ get_or last key None ∷ []) position None ≡ get_or last key None =
            ap (λ (p : ℕ). get_or (before ++ get_or last key None ∷ []) p None) end ∙ get_or-append_seam before (get_or last key None) [] None in
            let own : get_or (keys ++ key ∷ []) position 0 ≡ key = ap (λ (p : ℕ). get_or (keys ++ key ∷ []) p 0) at ∙ get_or-append_seam keys key [] 0 in
            rw (value, own, at) (last_more keys (key ∷ []) key (length keys) _ (omega arith) (is.heads key below))
      ];
}

-- The first keys are chained.
pub record Chaining (count : ℕ) (keys : List ℕ) (last before : List (Option ℕ)) (index : ℕ) : Type 0 where
  pub count_is : length last ≡ count
  pub chained : AreChained last (take index keys) before

pub chaining_more : (count : ℕ) (keys : List ℕ) (last before : List (Option ℕ)) (index : ℕ) → All (λ key. key < count) keys → index < length keys → Chaining count keys last before index →
    Chaining count keys (set last (get_or keys index 0) (Some index)) (before ++ get_or last (get_or keys index 0) None ∷ []) (index + 1)
chaining_more count keys last before index below within is =
    let key = get_or keys index 0 in
    let small : key < count = below index 0 within in
    let inside : key < length last = omega (arith, is.count_is) in
    let len : length (take index keys) ≡ index = omega (arith, length-take index keys) in
    let front : take (index + 1) keys ≡ take index keys ++ key ∷ [] = take_more keys index 0 within in
    record {
      count_is = length-set last key (Some index) ∙ is.count_is;
      chained = subst (λ (ks : List ℕ). AreChained (set last key (Some index)) ks (before ++ get_or last key None ∷ [])) (sym front)
          (subst (λ (n : ℕ). AreChained (set last key (Some n)) (take index keys ++ key ∷ []) (before ++ get_or last key None ∷ [])) len
          (chained_more last (take index keys) before key inside is.chained));
    }
