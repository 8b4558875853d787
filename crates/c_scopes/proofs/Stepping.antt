-- What the scopes are after one step more, and after one that is taken back.

use Rattle.std.proofs.Common.{◌≡◌, ◌∙◌, ◌<◌, ◌≤◌, ℕ, Bool, true, false, cond}
use Rattle.std.proofs.Common.{sym, ap, refl, arith, eqb, eqb-true}
use Rattle.std.proofs.Common.{List, [], ◌∷◌, ◌++◌, Some, length, length-append, length-set, get_or, slice_get}
use Rattle.std.specs.Prelude.{reverse, slice_index_or, take, drop, Contains, ◌⊎◌}
use Rattle.std.proofs.Common.{inl, inr}
use Rattle.std.proofs.Math.Seq.{take-append_seam, drop-append_seam}
use Rattle.std.proofs.Math.ListN.{set}
use Rattle.std.proofs.lemmas.Bool.{eqb-false, ne_eqb, cases_lt}
use Rattle.std.proofs.lemmas.List.{reverse-append, get_or_append_left}
use Rattle.std.proofs.lemmas.List.{get_or-set_same, get_or-set_other}
use Rattle.std.proofs.lemmas.Option.{slice_get-get_or, get_or_from_slice_get, slice_get_within}
use Rattle.name_table.specs.Names.{Extends}
use Rattle.c_scopes.specs.Scopes.{entered, declared}
use Rattle.c_scopes.specs.KeptScopes.{scopes_after, scopes_in, is_typedef_after, AreSteps, IsKept}
use Rattle.c_scopes.specs.KeptScopes.{KeepsTypedefs}
use Rattle.c_scopes.specs.declared.scopes.Step.{Step}
use Rattle.c_scopes.specs.declared.scopes.Step.TheVariants.{Opens, Declares, Others}

pub reverse-push : (steps : List Step) (step : Step) →
    reverse (steps ++ step ∷ []) ≡ step ∷ reverse steps
reverse-push steps step = reverse-append steps (step ∷ [])

pub scopes_in-push : (names : List (List ℕ)) (texts : List ℕ) (steps : List Step) (step : Step) →
    scopes_in names texts (steps ++ step ∷ []) ≡ scopes_after names texts (step ∷ reverse steps)
unfolding scopes_in
scopes_in-push names texts steps step = ap (scopes_after names texts) (reverse-push steps step)

-- what the numbers name does not change when names are added
scopes_after-extends : (names new : List (List ℕ)) (texts : List ℕ) (steps : List Step) →
    Extends names new → AreSteps names texts steps →
    scopes_after new texts steps ≡ scopes_after names texts steps
scopes_after-extends names new texts [] more known = refl
scopes_after-extends names new texts (Opens ∷ before) more known =
    ap entered (scopes_after-extends names new texts before more known)
scopes_after-extends names new texts (Declares name typedef was ∷ before) more known =
    let rest = scopes_after-extends names new texts before more known.2 in
    let same : get_or new name [] ≡ get_or names name [] =
    rw more.1 (get_or_append_left names more.0 [] name known.0) in
    ap (λ s. declared s (get_or new name []) typedef) rest
    ∙ ap (λ n. declared (scopes_after names texts before) n typedef) same
scopes_after-extends names new texts (Others begin ∷ before) more known =
    ap (λ s. declared s (drop begin texts) false)
    (scopes_after-extends names new (take begin texts) before more known.1)

-- a number that no name has is declared by no step
unused : (names : List (List ℕ)) (texts : List ℕ) (steps : List Step) (number : ℕ) →
    length names ≤ number → AreSteps names texts steps → is_typedef_after steps number ≡ false
unused names texts [] number past known = refl
unused names texts (Opens ∷ before) number past known = unused names texts before number past known
unused names texts (Declares name typedef was ∷ before) number past known =
    rw (ne_eqb name number (λ is. absurd (omega (arith, known.0))))
    (unused names texts before number past known.2)
unused names texts (Others begin ∷ before) number past known =
    unused names (take begin texts) before number past known.1

length-extends : (names new : List (List ℕ)) → Extends names new → length names ≤ length new
length-extends names new more = rw more.1 (omega (arith, length-append names more.0))

-- a number that had a name has it still
named_before : (names new : List (List ℕ)) (number : ℕ) (name : List ℕ) → Extends names new →
    number < length names → slice_get new number ≡ Some name → slice_get names number ≡ Some name
named_before names new number name more inside stands =
    let same : get_or new number [] ≡ get_or names number [] =
    rw more.1 (get_or_append_left names more.0 [] number inside) in
    slice_get-get_or names number [] inside
    ∙ ap Some (sym same ∙ get_or_from_slice_get new number name [] stands)

AreSteps-extends : (names new : List (List ℕ)) (texts : List ℕ) (steps : List Step) →
    Extends names new → AreSteps names texts steps → AreSteps new texts steps
AreSteps-extends names new texts [] more known = tt
AreSteps-extends names new texts (Opens ∷ before) more known =
    AreSteps-extends names new texts before more known
AreSteps-extends names new texts (Declares name typedef was ∷ before) more known = (
  omega (arith, length-extends names new more, known.0),
  known.1,
  AreSteps-extends names new texts before more known.2,
)
AreSteps-extends names new texts (Others begin ∷ before) more known = (
  λ number stands. by_size number stands (cases_lt number (length names)),
  AreSteps-extends names new (take begin texts) before more known.1,
)
  where
    by_size : (number : ℕ) → slice_get new number ≡ Some (drop begin texts) →
        (number < length names) ⊎ (length names ≤ number) →
        is_typedef_after before number ≡ false
    by_size number stands (inl inside) =
        known.0 number (named_before names new number (drop begin texts) more inside stands)
    by_size number stands (inr past) =
        unused names (take begin texts) before number past known.1

-- names are added
pub IsKept-extends : (names new : List (List ℕ)) (typedefs grown : List Bool) (texts : List ℕ)
    (steps : List Step) → Extends names new → KeepsTypedefs names new typedefs grown →
    IsKept names typedefs texts steps → IsKept new grown texts steps
IsKept-extends names new typedefs grown texts steps more room kept = record {
  enough = room.enough kept.enough;
  recorded = AreSteps-extends names new texts (reverse steps) more kept.recorded;
  told = λ number. room.told number ∙ kept.told number;
}

pub scopes_in-extends : (names new : List (List ℕ)) (typedefs : List Bool) (texts : List ℕ)
    (steps : List Step) → Extends names new → IsKept names typedefs texts steps →
    scopes_in new texts steps ≡ scopes_in names texts steps
unfolding scopes_in
scopes_in-extends names new typedefs texts steps more kept =
    scopes_after-extends names new texts (reverse steps) more kept.recorded

-- a name that is not declared with a step keeps what it was
told_set : (typedefs : List Bool) (before : List Step) (number : ℕ) (typedef was : Bool) →
    number < length typedefs →
    ((n : ℕ) → get_or typedefs n false ≡ is_typedef_after before n) →
    (n : ℕ) → get_or (set typedefs number typedef) n false
    ≡ is_typedef_after (Declares number typedef was ∷ before) n
told_set typedefs before number typedef was inside told n =
    by_test (eqb number n) refl
  where
    by_test : (b : Bool) → eqb number n ≡ b → get_or (set typedefs number typedef) n false
        ≡ cond b typedef (is_typedef_after before n)
    by_test true test = rw (← eqb-true number n test)
        (get_or-set_same typedefs number typedef false inside)
    by_test false test = get_or-set_other typedefs number n typedef false
        (λ is. eqb-false number n test (sym is)) ∙ told n

-- a name is declared
pub IsKept-declares : (names : List (List ℕ)) (typedefs : List Bool) (texts : List ℕ)
    (steps : List Step) (number : ℕ) (typedef : Bool) → number < length names → IsKept names typedefs texts steps →
    IsKept names (set typedefs number typedef) texts
    (steps ++ Declares number typedef (get_or typedefs number false) ∷ [])
IsKept-declares names typedefs texts steps number typedef inside kept =
    let was = get_or typedefs number false in
    let within : number < length typedefs = omega (arith, kept.enough) in
    record {
      enough = rw (length-set typedefs number typedef) kept.enough;
      recorded = rw (reverse-push steps (Declares number typedef was))
          (inside, kept.told number, kept.recorded);
      told = λ n. told_set typedefs (reverse steps) number typedef was within kept.told n
          ∙ sym (ap (λ done. is_typedef_after done n)
          (reverse-push steps (Declares number typedef was)));
    }

-- a declaration is taken back
pub IsKept-undoes : (names : List (List ℕ)) (typedefs : List Bool) (texts : List ℕ)
    (steps : List Step) (number : ℕ) (typedef was : Bool) →
    IsKept names typedefs texts (steps ++ Declares number typedef was ∷ []) →
    IsKept names (set typedefs number was) texts steps
IsKept-undoes names typedefs texts steps number typedef was kept =
    let known : AreSteps names texts (Declares number typedef was ∷ reverse steps) =
    rw (reverse-push steps (Declares number typedef was)) at kept.recorded in
    record {
      enough = rw (length-set typedefs number was) kept.enough;
      recorded = known.2;
      told = told known;
    }
  where
    told : AreSteps names texts (Declares number typedef was ∷ reverse steps) → (n : ℕ) →
        get_or (set typedefs number was) n false ≡ is_typedef_after (reverse steps) n
    told known n = by_test (eqb number n) refl
      where
        within : number < length typedefs
        within = omega (arith, kept.enough, known.0)

        after : get_or typedefs n false ≡ is_typedef_after (Declares number typedef was ∷ reverse steps) n
        after = kept.told n ∙ ap (λ done. is_typedef_after done n)
            (reverse-push steps (Declares number typedef was))

        by_test : (b : Bool) → eqb number n ≡ b →
            get_or (set typedefs number was) n false ≡ is_typedef_after (reverse steps) n
        by_test true test = rw (← eqb-true number n test)
            (get_or-set_same typedefs number was false within ∙ known.1)
        by_test false test = get_or-set_other typedefs number n was false
            (λ is. eqb-false number n test (sym is)) ∙ (rw test at after)

pub IsKept-opens : (names : List (List ℕ)) (typedefs : List Bool) (texts : List ℕ) (steps : List Step) →
    IsKept names typedefs texts steps → IsKept names typedefs texts (steps ++ Opens ∷ [])
IsKept-opens names typedefs texts steps kept = record {
  enough = kept.enough;
  recorded = rw (reverse-push steps Opens) kept.recorded;
  told = λ n. rw (reverse-push steps Opens) (kept.told n);
}

pub IsKept-closes : (names : List (List ℕ)) (typedefs : List Bool) (texts : List ℕ) (steps : List Step) →
    IsKept names typedefs texts (steps ++ Opens ∷ []) → IsKept names typedefs texts steps
IsKept-closes names typedefs texts steps kept = record {
  enough = kept.enough;
  recorded = rw (reverse-push steps Opens) at kept.recorded;
  told = λ n. rw (reverse-push steps Opens) at (kept.told n);
}

-- another name is declared
pub IsKept-other : (names : List (List ℕ)) (typedefs : List Bool) (texts : List ℕ)
    (steps : List Step) (name : List ℕ) → ¬ Contains names name →
    IsKept names typedefs texts steps →
    IsKept names typedefs (texts ++ name) (steps ++ Others (length texts) ∷ [])
IsKept-other names typedefs texts steps name absent kept = record {
  enough = kept.enough;
  recorded = rw (reverse-push steps (Others (length texts)))
      (fresh, rw (take-append_seam texts name) kept.recorded);
  told = λ n. rw (reverse-push steps (Others (length texts))) (kept.told n);
} where
  fresh : (number : ℕ) → slice_get names number ≡ Some (drop (length texts) (texts ++ name)) →
      is_typedef_after (reverse steps) number ≡ false
  fresh number stands =
      let own : slice_get names number ≡ Some name = rw (drop-append_seam texts name) at stands in
      absurd (absent (
        number,
        slice_get_within names number name own,
        get_or_from_slice_get names number name name own,
      ))

-- another declaration is taken back
pub IsKept-other_undone : (names : List (List ℕ)) (typedefs : List Bool) (texts : List ℕ)
    (steps : List Step) (begin : ℕ) →
    IsKept names typedefs texts (steps ++ Others begin ∷ []) →
    IsKept names typedefs (take begin texts) steps
IsKept-other_undone names typedefs texts steps begin kept =
    let known : AreSteps names texts (Others begin ∷ reverse steps) =
    rw (reverse-push steps (Others begin)) at kept.recorded in
    record {
      enough = kept.enough;
      recorded = known.1;
      told = λ n. rw (reverse-push steps (Others begin)) at (kept.told n);
    }

-- the scopes before a declaration
pub scopes_in-undoes : (names : List (List ℕ)) (texts : List ℕ) (steps : List Step) (number : ℕ)
    (typedef was : Bool) → scopes_in names texts (steps ++ Declares number typedef was ∷ [])
    ≡ declared (scopes_in names texts steps) (slice_index_or names number []) typedef
unfolding scopes_in
scopes_in-undoes names texts steps number typedef was =
    scopes_in-push names texts steps (Declares number typedef was)

pub scopes_in-other_undone : (names : List (List ℕ)) (texts : List ℕ) (steps : List Step)
    (begin : ℕ) → scopes_in names texts (steps ++ Others begin ∷ [])
    ≡ declared (scopes_in names (take begin texts) steps) (drop begin texts) false
unfolding scopes_in
scopes_in-other_undone names texts steps begin = scopes_in-push names texts steps (Others begin)

-- the scopes after a declaration
pub scopes_in-declares : (names new : List (List ℕ)) (typedefs : List Bool) (texts : List ℕ)
    (steps : List Step) (number : ℕ) (name : List ℕ) (typedef was : Bool) → Extends names new →
    IsKept names typedefs texts steps → slice_get new number ≡ Some name →
    scopes_in new texts (steps ++ Declares number typedef was ∷ [])
    ≡ declared (scopes_in names texts steps) name typedef
scopes_in-declares names new typedefs texts steps number name typedef was more kept stands =
    scopes_in-undoes new texts steps number typedef was
    ∙ ap (λ n. declared (scopes_in new texts steps) n typedef)
    (get_or_from_slice_get new number name [] stands)
    ∙ ap (λ s. declared s name typedef)
    (scopes_in-extends names new typedefs texts steps more kept)

pub scopes_in-other : (names : List (List ℕ)) (texts : List ℕ) (steps : List Step)
    (name : List ℕ) → scopes_in names (texts ++ name) (steps ++ Others (length texts) ∷ [])
    ≡ declared (scopes_in names texts steps) name false
scopes_in-other names texts steps name =
    scopes_in-other_undone names (texts ++ name) steps (length texts)
    ∙ ap (λ t. declared (scopes_in names t steps) (drop (length texts) (texts ++ name)) false)
    (take-append_seam texts name)
    ∙ ap (λ n. declared (scopes_in names texts steps) n false) (drop-append_seam texts name)

pub scopes_in-opens : (names : List (List ℕ)) (texts : List ℕ) (steps : List Step) →
    scopes_in names texts (steps ++ Opens ∷ []) ≡ entered (scopes_in names texts steps)
unfolding scopes_in
scopes_in-opens names texts steps = scopes_in-push names texts steps Opens

the_same : (a b : Bool) → Some a ≡ Some b → a ≡ b
the_same a b e = cc

-- an element does not depend on what stands for those past the end
pub read_as : (typedefs : List Bool) (number : ℕ) (was : Bool) → number < length typedefs →
    was ≡ get_or typedefs number was → was ≡ get_or typedefs number false
read_as typedefs number was inside is =
    is ∙ the_same (get_or typedefs number was) (get_or typedefs number false)
    (sym (slice_get-get_or typedefs number was inside) ∙ slice_get-get_or typedefs number false inside)

-- a number that has a name has its place in the list of typedef names
pub within_typedefs : (names : List (List ℕ)) (typedefs : List Bool) (number : ℕ) (name : List ℕ) →
    length names ≤ length typedefs → slice_get names number ≡ Some name →
    number < length typedefs
within_typedefs names typedefs number name enough stands =
    omega (arith, slice_get_within names number name stands)

pub within_names : (names : List (List ℕ)) (number : ℕ) (name : List ℕ) →
    slice_get names number ≡ Some name → number < length names
within_names names number name stands = slice_get_within names number name stands
