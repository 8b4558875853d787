-- Histories and their entries (ours).
use Rattle.std.specs.Prelude.{
  ◌≡◌,
  ℕ,
  suc,
  ◌≤◌,
  ◌==◌,
  nat_lt,
  if◌then◌else◌,
  List,
  [],
  ◌∷◌,
  ◌++◌,
  count_by,
  drop,
  length,
  slice_get,
  sum_by,
  Some,
}
use Rattle.turn_lock.specs.declared.view.Positioned.{Positioned}

module _ {E : Type 0} where
  -- The later history begins with the earlier one.
  pub record Extends (later earlier : List E) : Type 0 where
    pub rest : List E
    pub is : later ≡ earlier ++ rest

  -- The longer of two histories, and the first where they are as long.
  abbrev pub longer : List E → List E → List E
  longer one other = if nat_lt (length one) (length other) then other else one

  -- The shorter of two histories, and the second where they are as long.
  abbrev pub shorter : List E → List E → List E
  shorter one other = if nat_lt (length one) (length other) then one else other

  -- These entries with their positions, the first of which is n.
  abbrev pub positioned_from : ℕ → List E → List (Positioned E)
  positioned_from n [] = []
  positioned_from n (entry ∷ entries) =
      record { position = n; entry = entry } ∷ positioned_from (suc n) entries

  -- The entries of a history with their positions.
  abbrev pub positioned : List E → List (Positioned E)
  positioned history = positioned_from 0 history

  -- The entries that the later history has beyond the earlier one, with their positions.
  abbrev pub added : List E → List E → List (Positioned E)
  added earlier later = positioned_from (length earlier) (drop (length earlier) later)

  -- Each entry stands in the history, at its position.
  abbrev pub AreAt : List E → List (Positioned E) → Type 0
  AreAt history [] = Unit {0}
  AreAt history (own ∷ owns) =
      (slice_get history own.position ≡ Some own.entry) × AreAt history owns

  -- No two of the entries have one position.
  abbrev pub AreApart : List (Positioned E) → Type 0
  AreApart owns = (position : ℕ) → count_by (λ own. own.position == position) owns ≤ 1

  -- The entries with their positions are those of the history, each once, in some order: they weigh
  -- the same, however an entry and its position are weighed.
  abbrev pub AreAll : List E → List (Positioned E) → Type 0
  AreAll history owns =
      (weight : Positioned E → ℕ) → sum_by weight owns ≡ sum_by weight (positioned history)
