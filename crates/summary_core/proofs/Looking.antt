-- What a binary search finds.
use Rattle.std.proofs.Common.{◌≡◌, ℕ, ◌<◌, ◌≤◌, inl, inr, true, List, length, get_or, Result, Ok, Err, sym, arith, nat_cmp, refl, ◌+◌, ◌∙◌, MatchResult}
use Rattle.std.specs.Cmp.{nat_cmp_is}
use Rattle.std.specs.Result.{is_ok}
use Rattle.std.specs.declared.cmp.Ordering.TheVariants.{Equal, Greater}
use Rattle.std.specs.List.{All, Contains}
use Rattle.std.specs.List.Sorted.{IsBinarySearchResult, IsSearchInRange, IsStrictlyIncreasing}
use Rattle.std.proofs.lemmas.Bool.{cases_lt}
use Rattle.std.proofs.lemmas.Cmp.{nat_cmp_total}
use Rattle.std.proofs.lemmas.Map.Lookups.{exact_unsigned}
use Rattle.std.proofs.lemmas.List.{get_or_default}
use Rattle.std.proofs.lemmas.List.Kept.{AllPairs-from_increasing}
use Rattle.std.proofs.lemmas.List.Sorted.{searchable_from_sorted, searched}
use Rattle.summary_core.specs.declared.task.Task.{Task}
use Rattle.summary_core.proofs.Changing.{Rise}

-- the task of a goal
pub task_found : (tasks : List Task) (goal : ℕ) (r : Result ℕ ℕ) → Rise tasks → IsSearchInRange r (length tasks) → IsBinarySearchResult (λ (t : Task). nat_cmp t.goal goal) tasks r →
    MatchResult r (λ position. (position < length tasks) × ((d : Task) → (get_or tasks position d).goal ≡ goal)) (λ position. All (λ (t : Task). ¬ (t.goal ≡ goal)) tasks)
task_found tasks goal (Ok position) rise within is = (within, λ d. exact_unsigned _ _ (is d))
task_found tasks goal (Err position) rise within is =
    let parts = is (searchable_from_sorted nat_cmp_total (λ (t : Task). t.goal) tasks goal
    (λ k d low inside. let up = rise k (k + 1) d (omega arith) inside in let greater = nat_cmp_is (get_or tasks (k + 1) d).goal (get_or tasks k d).goal Greater up in rw (← greater) refl)) in
    λ k d inside same.
    let equal = nat_cmp_is (get_or tasks k d).goal goal Equal same in
    elim (cases_lt k position) [
      | inl before ↦ let less = parts.0 k d (omega arith) before in cc
      | inr behind ↦ let greater = parts.1 k d behind inside in cc
    ]

-- a number of a rising list
pub number_found : (numbers : List ℕ) (number : ℕ) (r : Result ℕ ℕ) → IsStrictlyIncreasing numbers → IsBinarySearchResult (λ n. nat_cmp n number) numbers r →
    (is_ok r ≡ true → Contains numbers number) × (Contains numbers number → is_ok r ≡ true)
number_found numbers number r rise is = by r (searched numbers number r is level)
  where
    level : (i j : ℕ) → i ≤ j → j < length numbers → get_or numbers i 0 ≤ get_or numbers j 0
    level i j less inside = elim (cases_lt i j) [
      | inl before ↦ let up = AllPairs-from_increasing numbers rise i j 0 before inside in omega arith
      | inr not_before ↦ let same : i ≡ j = omega arith in rw same (omega arith)
    ]

    by : (answer : Result ℕ ℕ) → MatchResult answer (λ i. (i < length numbers) × (get_or numbers i 0 ≡ number)) (λ i. (i ≤ length numbers) × ((k : ℕ) → k < i → get_or numbers k 0 < number) × ((k : ℕ) → i ≤ k → k < length numbers → number < get_or numbers k 0)) →
        (is_ok answer ≡ true → Contains numbers number) × (Contains numbers number → is_ok answer ≡ true)
    by (Ok position) at = (λ on. (position, at.0, sym (get_or_default numbers position 0 number at.0) ∙ at.1), λ has. refl)
    by (Err position) at = (
      λ on. cc,
      λ has.
          let same = get_or_default numbers has.0 0 number has.1 ∙ has.2 in
          absurd (elim (cases_lt has.0 position) [
            | inl before ↦ let less = at.1 has.0 before in omega (arith, less, same)
            | inr behind ↦ let more = at.2 has.0 behind has.1 in omega (arith, more, same)
          ]),
    )
