-- Names, each once: what stands among them, and how they grow by a name more.
use Rattle.std.proofs.Common.{◌≡◌, ℕ, zero, suc, ◌+◌, cond, not, Bool, true, false, List, [], ◌∷◌, ◌++◌, Some, filter, length, slice_get, bytes_eq, refl, ap, sym, ◌∙◌, arith, add-one, append-nil, append_assoc}
use Rattle.std.proofs.lemmas.List.Elements.{filter-append}
use Rattle.std.proofs.lemmas.Slice.Eq.{bytes_eq-Decides}
use Rattle.type_rules.specs.Types.{each_once, position_of}

-- The name stands among the names.
pub among : List (List ℕ) → List ℕ → Bool
among [] name = false
among (first ∷ rest) name = cond (bytes_eq first name) true (among rest name)

pub same_name : (a b : List ℕ) → bytes_eq a b ≡ true → a ≡ b
same_name a b is = (bytes_eq-Decides a b).0 is

pub name_same : (a : List ℕ) → bytes_eq a a ≡ true
name_same a = (bytes_eq-Decides a a).1 refl

other_name : (a b : List ℕ) → bytes_eq a b ≡ false → bytes_eq b a ≡ false
other_name a b is = by (bytes_eq b a) refl
  where
    by : (t : Bool) → bytes_eq b a ≡ t → bytes_eq b a ≡ false
    by true e = let there = (bytes_eq-Decides a b).1 (sym (same_name b a e)) in cc
    by false e = e

-- ---- Where a name stands

pub found_at : (names : List (List ℕ)) (name : List ℕ) → among names name ≡ true → slice_get names (position_of names name) ≡ Some name
unfolding among
found_at [] name is = cc
found_at (first ∷ rest) name is = by (bytes_eq first name) refl is (found_at rest name)
  where
    by : (t : Bool) → bytes_eq first name ≡ t → cond t true (among rest name) ≡ true → (among rest name ≡ true → slice_get rest (position_of rest name) ≡ Some name) →
        slice_get (first ∷ rest) (cond t 0 (position_of rest name + 1)) ≡ Some name
    by true e is later = let same = same_name first name e in cc
    by false e is later = rw add-one (later is)

-- A name that stands somewhere stands among them.
pub stands_among : (names : List (List ℕ)) (k : ℕ) (name : List ℕ) → slice_get names k ≡ Some name → among names name ≡ true
unfolding among
stands_among [] k name is = cc
stands_among (first ∷ rest) zero name is =
    let same : first ≡ name = cc in
    let here : bytes_eq first name ≡ true = ap (λ (n : List ℕ). bytes_eq n name) same ∙ name_same name in
    rw here refl
stands_among (first ∷ rest) (suc k) name is = either (bytes_eq first name) (among rest name) (stands_among rest k name is)
  where
    either : (s t : Bool) → t ≡ true → cond s true t ≡ true
    either true t e = refl
    either false t e = e

-- ---- Names that are kept by a test

kept_among : (p : List ℕ → Bool) (names : List (List ℕ)) (name : List ℕ) → p name ≡ true → among (filter p names) name ≡ among names name
unfolding among
kept_among p [] name passes = refl
kept_among p (first ∷ rest) name passes = by (p first) refl (bytes_eq first name) refl (kept_among p rest name passes)
  where
    by : (t : Bool) → p first ≡ t → (s : Bool) → bytes_eq first name ≡ s → among (filter p rest) name ≡ among rest name →
        among (cond t (first ∷ filter p rest) (filter p rest)) name ≡ cond s true (among rest name)
    by true e true same later = rw same refl
    by true e false other later = rw other later
    by false e true same later = let is = same_name first name same in cc
    by false e false other later = later

-- Each of some names is one of them that stand once.
pub among_once : (names : List (List ℕ)) (name : List ℕ) → among (each_once names) name ≡ among names name
unfolding among
among_once [] name = refl
among_once (first ∷ rest) name = by (bytes_eq first name) refl (among_once rest name)
  where
    by : (t : Bool) → bytes_eq first name ≡ t → among (each_once rest) name ≡ among rest name →
        cond t true (among (filter (λ (n : List ℕ). not (bytes_eq n first)) (each_once rest)) name) ≡ cond t true (among rest name)
    by true e later = refl
    by false e later =
        kept_among (λ (n : List ℕ). not (bytes_eq n first)) (each_once rest) name (ap not (other_name first name e)) ∙ later

pub among_behind : (names more : List (List ℕ)) (name : List ℕ) → among more name ≡ true → among (names ++ more) name ≡ true
unfolding among
among_behind [] more name is = is
among_behind (first ∷ rest) more name is = by (bytes_eq first name) (among_behind rest more name is)
  where
    by : (t : Bool) → among (rest ++ more) name ≡ true → cond t true (among (rest ++ more) name) ≡ true
    by true later = refl
    by false later = later

pub among_front : (name : List ℕ) (more : List (List ℕ)) → among (name ∷ more) name ≡ true
unfolding among
among_front name more = rw name_same refl

-- ---- A name more

-- The name, where the names lack it.
pub missing_of : List (List ℕ) → List ℕ → List (List ℕ)
missing_of names name = cond (among names name) [] (name ∷ [])

pub none_missing : (names : List (List ℕ)) (name : List ℕ) → among names name ≡ true → missing_of names name ≡ []
unfolding missing_of
none_missing names name is = rw is refl

pub one_missing : (names : List (List ℕ)) (name : List ℕ) → among names name ≡ false → missing_of names name ≡ name ∷ []
unfolding missing_of
one_missing names name is = rw is refl

filter_one : (p : List ℕ → Bool) (name : List ℕ) (t : Bool) → p name ≡ t → filter p (name ∷ []) ≡ cond t (name ∷ []) []
filter_one p name true e = rw e refl
filter_one p name false e = rw e refl

filter_none : (p : List ℕ → Bool) (name : List ℕ) (t : Bool) → p name ≡ false → filter p (cond t [] (name ∷ [])) ≡ []
filter_none p name true e = refl
filter_none p name false e = filter_one p name false e

filter_all : (p : List ℕ → Bool) (name : List ℕ) (t : Bool) → p name ≡ true → filter p (cond t [] (name ∷ [])) ≡ cond t [] (name ∷ [])
filter_all p name true e = refl
filter_all p name false e = filter_one p name true e

pub once_more : (names : List (List ℕ)) (name : List ℕ) → each_once (names ++ name ∷ []) ≡ each_once names ++ missing_of (each_once names) name
unfolding among missing_of
once_more [] name = refl
once_more (first ∷ rest) name =
    let p = λ (n : List ℕ). not (bytes_eq n first) in
    let kept = each_once rest in
    let before : filter p (each_once (rest ++ name ∷ [])) ≡ filter p kept ++ filter p (missing_of kept name) =
    ap (filter p) (once_more rest name) ∙ filter-append p kept (missing_of kept name) in
    ap (λ (ns : List (List ℕ)). first ∷ ns) (before ∙ ap (λ (ns : List (List ℕ)). filter p kept ++ ns) (by (bytes_eq first name) refl))
  where
    by : (s : Bool) → bytes_eq first name ≡ s →
        filter (λ (n : List ℕ). not (bytes_eq n first)) (cond (among (each_once rest) name) [] (name ∷ []))
        ≡ cond (cond s true (among (filter (λ (n : List ℕ). not (bytes_eq n first)) (each_once rest)) name)) [] (name ∷ [])
    by true same =
        let is = same_name first name same in
        let fails : not (bytes_eq name first) ≡ false = ap (λ (n : List ℕ). not (bytes_eq name n)) is ∙ ap not (name_same name) in
        filter_none (λ (n : List ℕ). not (bytes_eq n first)) name (among (each_once rest) name) fails
    by false other =
        let passes : not (bytes_eq name first) ≡ true = ap not (other_name first name other) in
        let p = λ (n : List ℕ). not (bytes_eq n first) in
        filter_all p name (among (each_once rest) name) passes
        ∙ ap (λ (t : Bool). cond t [] (name ∷ [])) (sym (kept_among p (each_once rest) name passes))

-- Names more come behind, each once.
pub record Grown (old new : List (List ℕ)) : Type 0 where
  pub more : List (List ℕ)
  pub is : new ≡ old ++ more

pub once_grows : (names more : List (List ℕ)) → Grown (each_once names) (each_once (names ++ more))
once_grows names [] = record { more = []; is = ap each_once (append-nil names) ∙ sym (append-nil (each_once names)) }
once_grows names (name ∷ more) =
    let later = once_grows (names ++ name ∷ []) more in
    record {
      more = missing_of (each_once names) name ++ later.more;
      is =
          ap each_once (sym (append_assoc names (name ∷ []) more))
          ∙ (later.is
          ∙ (ap (λ (ns : List (List ℕ)). ns ++ later.more) (once_more names name) ∙ append_assoc (each_once names) (missing_of (each_once names) name) later.more));
    }

-- A name that stands among names is found there however they grow.
pub found_before : (names more : List (List ℕ)) (name : List ℕ) → among names name ≡ true → position_of (names ++ more) name ≡ position_of names name
unfolding among
found_before [] more name is = cc
found_before (first ∷ rest) more name is = by (bytes_eq first name) is (found_before rest more name)
  where
    by : (t : Bool) → cond t true (among rest name) ≡ true → (among rest name ≡ true → position_of (rest ++ more) name ≡ position_of rest name) →
        cond t 0 (position_of (rest ++ more) name + 1) ≡ cond t 0 (position_of rest name + 1)
    by true is later = refl
    by false is later = ap (λ (k : ℕ). k + 1) (later is)

-- A new name stands behind the others.
pub found_last : (names : List (List ℕ)) (name : List ℕ) → among names name ≡ false → position_of (names ++ name ∷ []) name ≡ length names
unfolding among
found_last [] name is = rw name_same refl
found_last (first ∷ rest) name is = by (bytes_eq first name) is (found_last rest name)
  where
    by : (t : Bool) → cond t true (among rest name) ≡ false → (among rest name ≡ false → position_of (rest ++ name ∷ []) name ≡ length rest) →
        cond t 0 (position_of (rest ++ name ∷ []) name + 1) ≡ suc (length rest)
    by true is later = cc
    by false is later = let at = later is in omega arith

-- ---- No name stands twice

-- What fails the test is not kept, and what is missing is missing of what is kept.
dropped : (p : List ℕ → Bool) (names : List (List ℕ)) (name : List ℕ) → p name ≡ false → among (filter p names) name ≡ false
unfolding among
dropped p [] name fails = refl
dropped p (first ∷ rest) name fails = by (p first) refl (bytes_eq first name) refl (dropped p rest name fails)
  where
    by : (t : Bool) → p first ≡ t → (s : Bool) → bytes_eq first name ≡ s → among (filter p rest) name ≡ false →
        among (cond t (first ∷ filter p rest) (filter p rest)) name ≡ false
    by true e true same later = let is = same_name first name same in cc
    by true e false other later = rw other later
    by false e s other later = later

still_missing : (p : List ℕ → Bool) (names : List (List ℕ)) (name : List ℕ) → among names name ≡ false → among (filter p names) name ≡ false
unfolding among
still_missing p [] name none = refl
still_missing p (first ∷ rest) name none = by (p first) (bytes_eq first name) refl none (still_missing p rest name)
  where
    by : (t s : Bool) → bytes_eq first name ≡ s → cond s true (among rest name) ≡ false → (among rest name ≡ false → among (filter p rest) name ≡ false) →
        among (cond t (first ∷ filter p rest) (filter p rest)) name ≡ false
    by t true e none later = cc
    by true false e none later = rw e (later none)
    by false false e none later = later none

-- No name stands behind itself.
AreApart : List (List ℕ) → Type 0
AreApart [] = Unit {0}
AreApart (first ∷ rest) = (among rest first ≡ false) × AreApart rest

kept_apart : (p : List ℕ → Bool) (names : List (List ℕ)) → AreApart names → AreApart (filter p names)
unfolding AreApart
kept_apart p [] apart = tt
kept_apart p (first ∷ rest) apart = by (p first) (kept_apart p rest apart.1)
  where
    by : (t : Bool) → AreApart (filter p rest) → AreApart (cond t (first ∷ filter p rest) (filter p rest))
    by true later = (still_missing p rest first apart.0, later)
    by false later = later

once_apart : (names : List (List ℕ)) → AreApart (each_once names)
unfolding AreApart
once_apart [] = tt
once_apart (first ∷ rest) =
    let p = λ (n : List ℕ). not (bytes_eq n first) in
    (dropped p (each_once rest) first (ap not (name_same first)), kept_apart p (each_once rest) (once_apart rest))

-- So where a name stands it is found.
apart_found : (names : List (List ℕ)) → AreApart names → (k : ℕ) (name : List ℕ) → slice_get names k ≡ Some name → position_of names name ≡ k
unfolding AreApart
apart_found [] apart k name is = cc
apart_found (first ∷ rest) apart zero name is =
    let same : first ≡ name = cc in
    let here : bytes_eq first name ≡ true = ap (λ (n : List ℕ). bytes_eq n name) same ∙ name_same name in
    rw here refl
apart_found (first ∷ rest) apart (suc k) name is = by (bytes_eq first name) refl (apart_found rest apart.1 k name is)
  where
    by : (t : Bool) → bytes_eq first name ≡ t → position_of rest name ≡ k → cond t 0 (position_of rest name + 1) ≡ suc k
    by true e later =
        let same = same_name first name e in
        let there = stands_among rest k name is in
        let none : among rest name ≡ false = ap (among rest) (sym same) ∙ apart.0 in
        cc
    by false e later = omega arith

pub one_position : (names : List (List ℕ)) (first second : ℕ) (name : List ℕ) →
    slice_get (each_once names) first ≡ Some name → slice_get (each_once names) second ≡ Some name → first ≡ second
one_position names first second name one other =
    sym (apart_found (each_once names) (once_apart names) first name one) ∙ apart_found (each_once names) (once_apart names) second name other
