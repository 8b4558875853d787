-- Numbers in a table, when one more is placed and when one is looked up.

use Rattle.std.proofs.Common.{◌≡◌, ◌≢◌, ◌∙◌, ◌+◌, ◌-◌, ◌<◌, ◌≤◌, ℕ, zero, suc, sym, ap, refl, arith}
use Rattle.std.proofs.Common.{Bool, true, false, eqb, eqb-true}
use Rattle.std.proofs.Common.{List, [], ◌∷◌, ◌++◌, Some, None, length, slice_get, get_or}
use Rattle.std.proofs.Common.{length-set, length-append, take}
use Rattle.std.specs.Prelude.{◌⊎◌, Contains, min}
use Rattle.std.specs.Global.{Vec}
use Rattle.std.specs.BTreeMap.{insert_entry}
use Rattle.std.proofs.Common.{inl, inr}
use Rattle.std.proofs.Math.ListN.{set}
use Rattle.std.proofs.Math.Seq.{get_or-append_seam, take-append_seam}
use Rattle.std.proofs.lemmas.Bool.{cases_lt, eqb-false}
use Rattle.std.proofs.lemmas.List.{get_or-set_same, get_or-set_other, get_or_append_left}
use Rattle.std.proofs.lemmas.Option.{slice_get-get_or, slice_get_within, slice_get_past}
use Rattle.std.proofs.lemmas.Option.{slice_get_read, same_Some, none-some, get_or_from_slice_get}
use Rattle.std.proofs.lemmas.Slice.Eq.{bytes_eq-Decides}
use Rattle.std.specs.Str.{bytes_eq}
use Rattle.name_table.specs.Names.{AreDistinct}
use Rattle.name_table.specs.Table.{home_of, number_in, IsInWindow, IsFree, IsTakenTo, IsCrowded}
use Rattle.name_table.specs.Table.{IsFirstFree, Stands, IsTable}
use Rattle.name_table.specs.Table.Stands.{in_window, in_others}
use Rattle.name_table.specs.declared.table.Table.{Table}
use Rattle.name_table.specs.declared.table.TheConstants.{WINDOW}
use Rattle.name_table.proofs.Lookups.{name_cmp, number_in-insert_same, number_in-insert_other}

-- ---- Elements of lists

pub slice_get-set_same : (xs : List ℕ) (i x : ℕ) → i < length xs → slice_get (set xs i x) i ≡ Some x
slice_get-set_same xs i x inside =
    slice_get-get_or (set xs i x) i 0 (rw (length-set xs i x) inside)
    ∙ ap Some (get_or-set_same xs i x 0 inside)

pub slice_get-set_other : (xs : List ℕ) (i j x : ℕ) → j ≢ i →
    slice_get (set xs i x) j ≡ slice_get xs j
slice_get-set_other xs i j x apart = by_size (cases_lt j (length xs))
  where
    by_size : (j < length xs) ⊎ (length xs ≤ j) → slice_get (set xs i x) j ≡ slice_get xs j
    by_size (inl inside) =
        slice_get-get_or (set xs i x) j 0 (rw (length-set xs i x) inside)
        ∙ ap Some (get_or-set_other xs i j x 0 apart)
        ∙ sym (slice_get-get_or xs j 0 inside)
    by_size (inr past) =
        slice_get_past (set xs i x) j (rw (length-set xs i x) past)
        ∙ sym (slice_get_past xs j past)

pub slice_get-append : {A : Type 0} (xs ys : List A) (d : A) (i : ℕ) → i < length xs →
    slice_get (xs ++ ys) i ≡ slice_get xs i
slice_get-append xs ys d i inside =
    slice_get-get_or (xs ++ ys) i d (rw (length-append xs ys) (omega arith))
    ∙ ap Some (get_or_append_left xs ys d i inside)
    ∙ sym (slice_get-get_or xs i d inside)

-- ---- The names

-- a table stands for the names below its count alone
pub IsTable-agrees : (names new : List (List ℕ)) (count : ℕ) (table : Table) →
    ((number : ℕ) → number < count → slice_get new number ≡ slice_get names number) →
    IsTable names count table → IsTable new count table
IsTable-agrees names new count table agree old = record {
  stand = λ number name inside stands.
      old.stand number name inside (sym (agree number inside) ∙ stands);
  below = old.below;
  found = λ name number is.
      let own = old.found name number is in (own.0, agree number own.0 ∙ own.1);
}

pub IsTable-push : (names : List (List ℕ)) (name : List ℕ) (table : Table) →
    IsTable names (length names) table → IsTable (names ++ name ∷ []) (length names) table
IsTable-push names name table old =
    IsTable-agrees names (names ++ name ∷ []) (length names) table
    (λ number inside. slice_get-append names (name ∷ []) [] number inside) old

pub IsTable-pop : (names : List (List ℕ)) (name : List ℕ) (table : Table) →
    IsTable (names ++ name ∷ []) (length names) table → IsTable names (length names) table
IsTable-pop names name table old =
    IsTable-agrees (names ++ name ∷ []) names (length names) table
    (λ number inside. sym (slice_get-append names (name ∷ []) [] number inside)) old

-- what is left without the last name
pub same_without_last : (old new : List (List ℕ)) (last other : List ℕ) →
    old ++ last ∷ [] ≡ new ++ other ∷ [] → new ≡ old
same_without_last old new last other is =
    let long : length new ≡ length old =
    omega (arith, ap length is, length-append old (last ∷ []), length-append new (other ∷ [])) in
    sym (take-append_seam new (other ∷ []))
    ∙ ap (λ n. take n (new ++ other ∷ [])) long
    ∙ ap (take (length old)) (sym is)
    ∙ take-append_seam old (last ∷ [])

-- a name that is new makes no name stand twice
pub AreDistinct-push : (names : List (List ℕ)) (name : List ℕ) → AreDistinct names →
    ¬ Contains names name → AreDistinct (names ++ name ∷ [])
AreDistinct-push names name distinct absent each number other first second =
    by_size (cases_lt number (length names)) (cases_lt other (length names))
  where
    below : (n : ℕ) → slice_get (names ++ name ∷ []) n ≡ Some each → length names ≤ n →
        n ≡ length names
    below n stands past =
        let inside = slice_get_within (names ++ name ∷ []) n each stands in
        omega (arith, length-append names (name ∷ []))

    before : (n : ℕ) → slice_get (names ++ name ∷ []) n ≡ Some each → n < length names →
        slice_get names n ≡ Some each
    before n stands inside = sym (slice_get-append names (name ∷ []) [] n inside) ∙ stands

    last : (n : ℕ) → slice_get (names ++ name ∷ []) n ≡ Some each → length names ≤ n →
        each ≡ name
    last n stands past =
        let inside = slice_get_within (names ++ name ∷ []) n each stands in
        let at = below n stands past in
        same_Some each name (sym stands ∙ ap (slice_get (names ++ name ∷ [])) at
        ∙ slice_get-get_or (names ++ name ∷ []) (length names) [] (rw (sym at) inside)
        ∙ ap Some (get_or-append_seam names name [] []))

    twice : (n m : ℕ) → slice_get (names ++ name ∷ []) n ≡ Some each → n < length names →
        slice_get (names ++ name ∷ []) m ≡ Some each → length names ≤ m → ⊥
    twice n m stands inside again past =
        let own = before n stands inside in
        absent (n, inside, get_or_from_slice_get names n each name own ∙ last m again past)

    by_size : (number < length names) ⊎ (length names ≤ number) →
        (other < length names) ⊎ (length names ≤ other) → other ≡ number
    by_size (inl inside) (inl within) =
        distinct each number other (before number first inside) (before other second within)
    by_size (inl inside) (inr past) = absurd (twice number other first inside second past)
    by_size (inr past) (inl inside) = absurd (twice other number second inside first past)
    by_size (inr past) (inr beyond) =
        below other second beyond ∙ sym (below number first past)

-- a table stands as its slots and its map do
pub IsTable-same : (names : List (List ℕ)) (count : ℕ) (table new : Table) →
    IsTable names count table → new.mask ≡ table.mask →
    new.slots.items ≡ table.slots.items → new.others.entries ≡ table.others.entries →
    IsTable names count new
IsTable-same names count table new old mask slots others = record {
  stand = λ number name inside stands. same number name (old.stand number name inside stands);
  below = λ slot placed there.
      old.below slot placed (sym (ap (λ xs. slice_get xs slot) slots) ∙ there);
  found = λ name number there.
      old.found name number (sym (ap (λ es. number_in es name) others) ∙ there);
} where
  taken : (name : List ℕ) (end : ℕ) → IsTakenTo table name end → IsTakenTo new name end
  taken name end older = λ at from to now.
      older at (rw (ap (λ m. home_of m name) mask) at from) to
      (sym (ap (λ xs. slice_get xs at) slots) ∙ now)

  same : (number : ℕ) (name : List ℕ) → Stands table name number → Stands new name number
  same number name (in_window at inside is first) =
      let home = ap (λ m. home_of m name) mask in
      in_window at (record { from = rw home inside.from; to = rw home inside.to })
      (ap (λ xs. slice_get xs at) slots ∙ is) (taken name at first)
  same number name (in_others is crowded) =
      in_others (ap (λ es. number_in es name) others ∙ is)
      (λ at from to now. taken name (home_of table.mask name + WINDOW) crowded at from
      (rw (ap (λ m. home_of m name) mask) at to) now)

-- ---- One number more

same_or_other : (a b : ℕ) → (a ≡ b) ⊎ (a ≢ b)
same_or_other a b = by_test (eqb a b) refl
  where
    by_test : (e : Bool) → eqb a b ≡ e → (a ≡ b) ⊎ (a ≢ b)
    by_test true test = inl (eqb-true a b test)
    by_test false test = inr (eqb-false a b test)

same_name_or_other : (a b : List ℕ) → (a ≡ b) ⊎ (a ≢ b)
same_name_or_other a b = by_test (bytes_eq a b) refl
  where
    by_test : (e : Bool) → bytes_eq a b ≡ e → (a ≡ b) ⊎ (a ≢ b)
    by_test true test = inl ((bytes_eq-Decides a b).0 test)
    by_test false test = inr (λ is. let same = (bytes_eq-Decides a b).1 is in cc)

-- a free slot is taken by a number plus one
pub record Takes (table new : Table) (slot number : ℕ) : Type 0 where
  pub free : IsFree table slot
  pub mask : new.mask ≡ table.mask
  pub slots : new.slots.items ≡ set table.slots.items slot (number + 1)
  pub others : new.others.entries ≡ table.others.entries

-- what stands in the slot now
takes_there : (table new : Table) (slot number : ℕ) → Takes table new slot number →
    slice_get new.slots.items slot ≡ Some (number + 1)
takes_there table new slot number takes =
    ap (λ xs. slice_get xs slot) takes.slots
    ∙ slice_get-set_same table.slots.items slot (number + 1)
    (slice_get_within table.slots.items slot 0 takes.free)

-- what stands in another
takes_elsewhere : (table new : Table) (slot number other : ℕ) → Takes table new slot number →
    other ≢ slot → slice_get new.slots.items other ≡ slice_get table.slots.items other
takes_elsewhere table new slot number other takes apart =
    ap (λ xs. slice_get xs other) takes.slots
    ∙ slice_get-set_other table.slots.items slot other (number + 1) apart

some_other : (n : ℕ) → Some (n + 1) ≡ Some 0 → ⊥
some_other n is = let same = same_Some (n + 1) 0 is in absurd (omega arith)

-- what is free was free
was_free : (table new : Table) (slot number other : ℕ) → Takes table new slot number →
    IsFree new other → IsFree table other
was_free table new slot number other takes now = by_place (same_or_other other slot)
  where
    by_place : (other ≡ slot) ⊎ (other ≢ slot) → IsFree table other
    by_place (inl is) = rw is takes.free
    by_place (inr apart) = sym (takes_elsewhere table new slot number other takes apart) ∙ now

takes_taken : (table new : Table) (slot number end : ℕ) (name : List ℕ) →
    Takes table new slot number → IsTakenTo table name end → IsTakenTo new name end
takes_taken table new slot number end name takes old = λ other from to now.
    old other (rw (ap (λ m. home_of m name) takes.mask) at from) to
    (was_free table new slot number other takes now)

takes_within : (table new : Table) (slot number at : ℕ) (name : List ℕ) →
    Takes table new slot number → IsInWindow table name at → IsInWindow new name at
takes_within table new slot number at name takes old =
    let same = ap (λ m. home_of m name) takes.mask in
    record { from = rw same old.from; to = rw same old.to }

-- a number that stands does so still
takes_stands : (table new : Table) (slot number : ℕ) (name : List ℕ) (other : ℕ) →
    Takes table new slot number → Stands table name other → Stands new name other
takes_stands table new slot number name other takes (in_window at inside is taken) =
    in_window at (takes_within table new slot number at name takes inside)
    (takes_elsewhere table new slot number at takes apart ∙ is)
    (takes_taken table new slot number at name takes taken)
  where
    apart : at ≢ slot
    apart same = some_other other (sym is ∙ (rw same takes.free))
takes_stands table new slot number name other takes (in_others is crowded) =
    in_others (ap (λ es. number_in es name) takes.others ∙ is)
    (λ slot' from to now. takes_taken table new slot number
    (home_of table.mask name + WINDOW) name takes crowded slot' from
    (rw (ap (λ m. home_of m name) takes.mask) at to) now)

-- the next number takes the first free slot of its name's window
pub IsTable-takes : (names : List (List ℕ)) (count : ℕ) (table new : Table) (name : List ℕ)
    (slot : ℕ) → IsTable names count table → IsFirstFree table name slot →
    Takes table new slot count → slice_get names count ≡ Some name →
    IsTable names (count + 1) new
IsTable-takes names count table new name slot old first takes is = record {
  stand = λ number other inside stands. stand number other inside stands (cases_lt number count);
  below = λ other placed there. below other placed there (same_or_other other slot);
  found = λ other number there.
      let own = old.found other number (sym (ap (λ es. number_in es other) takes.others) ∙ there) in
      (omega arith, own.1);
} where
  own_stands : Stands new name count
  own_stands = in_window slot (takes_within table new slot count slot name takes first.inside)
      (takes_there table new slot count takes)
      (takes_taken table new slot count slot name takes first.first)

  stand : (number : ℕ) (other : List ℕ) → number < count + 1 →
      slice_get names number ≡ Some other → (number < count) ⊎ (count ≤ number) →
      Stands new other number
  stand number other inside stands (inl before) =
      takes_stands table new slot count other number takes (old.stand number other before stands)
  stand number other inside stands (inr past) =
      let last : number ≡ count = omega arith in
      let same : other ≡ name = same_Some other name
      (sym stands ∙ ap (slice_get names) last ∙ is) in
      rw (last, same) own_stands

  below : (other placed : ℕ) → slice_get new.slots.items other ≡ Some placed →
      (other ≡ slot) ⊎ (other ≢ slot) → placed ≤ count + 1
  below other placed there (inl same) =
      let value = same_Some placed (count + 1) (sym there ∙ ap (slice_get new.slots.items) same
      ∙ takes_there table new slot count takes) in omega arith
  below other placed there (inr apart) =
      let older = old.below other placed
      (sym (takes_elsewhere table new slot count other takes apart) ∙ there) in omega arith

-- the next number is put into the map, where its name's window is crowded
pub IsTable-puts : (names : List (List ℕ)) (count : ℕ) (table new : Table) (name : List ℕ)
    (key : Vec ℕ) → IsTable names count table → IsCrowded table name → AreDistinct names →
    key.items ≡ name → slice_get names count ≡ Some name →
    new.mask ≡ table.mask → new.slots.items ≡ table.slots.items →
    new.others.entries ≡ insert_entry name_cmp table.others.entries key count →
    IsTable names (count + 1) new
IsTable-puts names count table new name key old crowded distinct keyed is mask slots entries =
    record {
      stand = λ number other inside stands. stand number other inside stands
          (cases_lt number count);
      below = λ other placed there.
          let older = old.below other placed (sym (ap (λ xs. slice_get xs other) slots) ∙ there) in
          omega arith;
      found = λ other number there. found other number there (same_name_or_other other key.items);
    }
  where
    taken : (other : List ℕ) (end : ℕ) → IsTakenTo table other end → IsTakenTo new other end
    taken other end older = λ at from to now.
        older at (rw (ap (λ m. home_of m other) mask) at from) to
        (sym (ap (λ xs. slice_get xs at) slots) ∙ now)

    full : (other : List ℕ) → IsCrowded table other → IsCrowded new other
    full other older = λ at from to now. taken other (home_of table.mask other + WINDOW) older at
        from (rw (ap (λ m. home_of m other) mask) at to) now

    in_new : number_in new.others.entries name ≡ Some count
    in_new = ap (λ es. number_in es name) entries
        ∙ ap (number_in (insert_entry name_cmp table.others.entries key count)) (sym keyed)
        ∙ number_in-insert_same table.others.entries key count

    still_in : (other : List ℕ) → other ≢ key.items →
        number_in new.others.entries other ≡ number_in table.others.entries other
    still_in other apart = ap (λ es. number_in es other) entries
        ∙ number_in-insert_other table.others.entries key count other apart

    keeps : (other : List ℕ) (number : ℕ) → other ≢ key.items → Stands table other number →
        Stands new other number
    keeps other number apart (in_window at inside stands first) =
        let same = ap (λ m. home_of m other) mask in
        in_window at (record { from = rw same inside.from; to = rw same inside.to })
        (ap (λ xs. slice_get xs at) slots ∙ stands) (taken other at first)
    keeps other number apart (in_others stands older) =
        in_others (still_in other apart ∙ stands) (full other older)

    stand : (number : ℕ) (other : List ℕ) → number < count + 1 →
        slice_get names number ≡ Some other → (number < count) ⊎ (count ≤ number) →
        Stands new other number
    stand number other inside stands (inl before) =
        keeps other number (λ same. absurd (again before
        (distinct other number count stands (is ∙ ap Some (sym (same ∙ keyed))))))
        (old.stand number other before stands)
      where
        again : number < count → count ≡ number → ⊥
        again below same = absurd (omega arith)
    stand number other inside stands (inr past) =
        let last : number ≡ count = omega arith in
        let same : other ≡ name = same_Some other name
        (sym stands ∙ ap (slice_get names) last ∙ is) in
        rw (last, same) (in_others in_new (full name crowded))

    found : (other : List ℕ) (number : ℕ) → number_in new.others.entries other ≡ Some number →
        (other ≡ key.items) ⊎ (other ≢ key.items) →
        (number < count + 1) × (slice_get names number ≡ Some other)
    found other number there (inl same) =
        let value : number ≡ count = same_Some number count
        (sym there ∙ ap (number_in new.others.entries) (same ∙ keyed) ∙ in_new) in
        (omega arith, ap (slice_get names) value ∙ is ∙ ap Some (sym (same ∙ keyed)))
    found other number there (inr apart) =
        let own = old.found other number (sym (still_in other apart) ∙ there) in
        (omega arith, own.1)

-- ---- A look-up

-- the name's number stands in none of the slots from its home up to here
abbrev pub IsAbsentTo : List (List ℕ) → Table → List ℕ → ℕ → Type 0
IsAbsentTo names table name end = (slot number : ℕ) → home_of table.mask name ≤ slot →
    slot < end → slice_get table.slots.items slot ≡ Some (number + 1) →
    slice_get names number ≢ Some name

-- what is read where a slot is not free
pub read_slot : (xs : List ℕ) (n i value number : ℕ) → n ≡ length xs → i < n →
    value ≡ get_or xs i value → 1 ≤ value → number ≡ value - 1 →
    slice_get xs i ≡ Some (number + 1)
read_slot xs n i value number long inside is some less =
    slice_get_read xs n i value long inside is ∙ ap Some (omega arith)

pub read_free : (xs : List ℕ) (n i value : ℕ) → n ≡ length xs → i < n →
    value ≡ get_or xs i value → ¬ (1 ≤ value) → slice_get xs i ≡ Some 0
read_free xs n i value long inside is none =
    slice_get_read xs n i value long inside is ∙ ap Some (nothing value none)
  where
    nothing : (v : ℕ) → ¬ (1 ≤ v) → v ≡ 0
    nothing zero below = refl
    nothing (suc v) below = absurd (below (omega arith))

-- a slot that has another number is passed
pub passes : (names : List (List ℕ)) (table : Table) (name : List ℕ) (slot number : ℕ) →
    slice_get table.slots.items slot ≡ Some (number + 1) →
    slice_get names number ≢ Some name → IsTakenTo table name slot →
    IsAbsentTo names table name slot →
    IsTakenTo table name (slot + 1) × IsAbsentTo names table name (slot + 1)
passes names table name slot number is other taken absent = (
  λ at from to now. taken_at at from to now (cases_lt at slot),
  λ at found from to there. absent_at at found from to there (cases_lt at slot),
) where
  taken_at : (at : ℕ) → home_of table.mask name ≤ at → at < slot + 1 → IsFree table at →
      (at < slot) ⊎ (slot ≤ at) → ⊥
  taken_at at from to now (inl before) = taken at from before now
  taken_at at from to now (inr past) =
      let here : at ≡ slot = omega arith in
      some_other number (sym is ∙ ap (slice_get table.slots.items) (sym here) ∙ now)

  absent_at : (at found : ℕ) → home_of table.mask name ≤ at → at < slot + 1 →
      slice_get table.slots.items at ≡ Some (found + 1) → (at < slot) ⊎ (slot ≤ at) →
      slice_get names found ≢ Some name
  absent_at at found from to there (inl before) = absent at found from before there
  absent_at at found from to there (inr past) = λ named.
      let here : at ≡ slot = omega arith in
      let same = same_Some (found + 1) (number + 1)
      (sym there ∙ ap (slice_get table.slots.items) here ∙ is) in
      let one : found ≡ number = omega arith in
      other (ap (slice_get names) (sym one) ∙ named)

-- a number that has the name stands
stands_for : (names : List (List ℕ)) (table : Table) (name : List ℕ) →
    IsTable names (length names) table → Contains names name →
    (number : ℕ) × (slice_get names number ≡ Some name) × Stands table name number
stands_for names table name are contained =
    let is = slice_get-get_or names contained.0 name contained.1 ∙ ap Some contained.2 in
    (contained.0, is, are.stand contained.0 name contained.1 is)

-- no name has a number behind a free slot
pub absent_at_free : (names : List (List ℕ)) (table : Table) (name : List ℕ) (slot : ℕ) →
    IsTable names (length names) table → IsInWindow table name slot → IsFree table slot →
    IsTakenTo table name slot → IsAbsentTo names table name slot → ¬ Contains names name
absent_at_free names table name slot are inside free taken absent contained =
    let found = stands_for names table name are contained in by_case found.0 found.1 found.2
  where
    at_place : (number at : ℕ) → slice_get names number ≡ Some name →
        IsInWindow table name at → slice_get table.slots.items at ≡ Some (number + 1) →
        IsTakenTo table name at → (at < slot) ⊎ (slot ≤ at) → ⊥
    at_place number at named within is first (inl before) =
        absent at number within.from before is named
    at_place number at named within is first (inr past) = here_or_past (same_or_other at slot)
      where
        here_or_past : (at ≡ slot) ⊎ (at ≢ slot) → ⊥
        here_or_past (inl here) =
            some_other number (sym is ∙ ap (slice_get table.slots.items) here ∙ free)
        here_or_past (inr apart) = first slot inside.from (omega arith) free

    by_case : (number : ℕ) → slice_get names number ≡ Some name → Stands table name number → ⊥
    by_case number named (in_window at within is first) =
        at_place number at named within is first (cases_lt at slot)
    by_case number named (in_others is crowded) = crowded slot inside.from inside.to free

-- no name has a number that stands neither in its window nor in the map
pub absent_at_end : (names : List (List ℕ)) (table : Table) (name : List ℕ) (slot : ℕ) →
    IsTable names (length names) table →
    min (length table.slots.items) (home_of table.mask name + WINDOW) ≤ slot →
    number_in table.others.entries name ≡ None → IsAbsentTo names table name slot →
    ¬ Contains names name
absent_at_end names table name slot are end none absent contained =
    let found = stands_for names table name are contained in by_case found.0 found.1 found.2
  where
    by_case : (number : ℕ) → slice_get names number ≡ Some name → Stands table name number → ⊥
    by_case number named (in_window at within is first) =
        let inside = slice_get_within table.slots.items at (number + 1) is in
        let to = within.to in
        absent at number within.from (omega arith) is named
    by_case number named (in_others is crowded) = none-some number (sym none ∙ is)
