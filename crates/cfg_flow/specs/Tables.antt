-- The table of the summaries of constructs that are joined (ours).
use Rattle.std.specs.Prelude.{ℕ, ◌≡◌, ◌<◌, ◌≤◌, ◌+◌, ◌↔◌, ◌⊎◌, ◌++◌, List, [], Option, Some, None}
use Rattle.std.specs.Prelude.{IsTrue, slice_get, length}
use Rattle.cfg_rules.specs.declared.summary.Summary.{Summary}
use Rattle.cfg_rules.specs.Member.{IsIn}
use Rattle.cfg_rules.specs.Plan.{Construct, part, flat_part}
use Rattle.cfg_rules.specs.Sets.{IsFirstOf, IsLastOf, IsPassed, IsSummary}

-- Part k in a list of parts.
abbrev pub part_in : List (Option ℕ) → ℕ → Option ℕ
part_in parts k = flat_part (slice_get parts k)

-- The summary of a part that is left out.
pub record IsGap (m : Summary) : Type 0 where
  pub no_first : m.first.items ≡ []
  pub no_last : m.last.items ≡ []
  pub passed : IsTrue m.passable

-- The summary of the construct c was taken out of the table.
pub record IsTakenAt (c : ℕ) (old : List Summary) (m : Summary) (new : List Summary) : Type 0 where
  pub is : slice_get old c ≡ Some m
  pub others : (d : ℕ) → ¬ (d ≡ c) → slice_get new d ≡ slice_get old d

-- The summary of the part was taken out of the table, if the part is not left out.
abbrev pub IsTaken : Option ℕ → List Summary → Summary → List Summary → Type 0
IsTaken None old m new = IsGap m × (new ≡ old)
IsTaken (Some c) old m new = c < length old → IsTakenAt c old m new

-- The summary of the construct x was put into the table.
pub record IsPut (x : ℕ) (old : List Summary) (m : Summary) (new : List Summary) : Type 0 where
  pub is : slice_get new x ≡ Some m
  pub others : (c : ℕ) → ¬ (c ≡ x) → slice_get new c ≡ slice_get old c
  pub count : length new ≡ length old

-- The part has these last marks too.
pub record IsContinued (part : Summary) (continues : List ℕ) (body : Summary) : Type 0 where
  pub first : body.first.items ≡ part.first.items
  pub last : body.last.items ≡ part.last.items ++ continues
  pub passable : body.passable ≡ part.passable

-- The summary is that of part k of x, but for the `continue`s that end it.
pub record IsPartAlone (plan : List Construct) (x k : ℕ) (m : Summary) : Type 0 where
  pub first : (b : ℕ) → IsIn m.first.items b ↔ IsFirstOf plan (part plan x k) b
  pub last : (a : ℕ) → IsIn m.last.items a ↔ IsLastOf plan (part plan x k) a
  pub passable : IsTrue m.passable ↔ IsPassed plan (part plan x k)

-- The table has the summary of each construct from x on that is part of none from x on.
pub record AreDone (plan : List Construct) (x : ℕ) (table : List Summary) : Type 0 where
  pub each : (c : ℕ) (m : Summary) → x ≤ c → slice_get table c ≡ Some m →
      ((y j : ℕ) → part plan y j ≡ Some c → y < x) → IsSummary plan c m

-- The table has the summary of each construct above x that is part of none from x on.
pub record AreKept (plan : List Construct) (x : ℕ) (table : List Summary) : Type 0 where
  pub each : (c : ℕ) (m : Summary) → x < c → slice_get table c ≡ Some m →
      ((y j : ℕ) → part plan y j ≡ Some c → y < x) → IsSummary plan c m

-- It has those of part k of x and of the later ones too. Parts are above x, and in the table.
pub record AreReady (plan : List Construct) (x k : ℕ) (table : List Summary) : Type 0 where
  pub each : (c : ℕ) (m : Summary) → x < c → slice_get table c ≡ Some m →
      ((y j : ℕ) → part plan y j ≡ Some c → (y < x) ⊎ ((y ≡ x) × (k ≤ j))) → IsSummary plan c m
  pub above : (j c : ℕ) → part plan x j ≡ Some c → (x < c) × (c < length table)

-- Part k of x was taken out of the table.
pub record IsPartTaken (plan : List Construct) (x k : ℕ) (m : Summary) (table : List Summary) :
    Type 0 where
  pub alone : IsPartAlone plan x k m
  pub ready : AreReady plan x (k + 1) table

-- The first parts of x were taken out of the table.
pub record ArePartsTaken (plan : List Construct) (x n : ℕ) (parts table : List Summary) :
    Type 0 where
  pub count : length parts ≡ n
  pub each : (k : ℕ) (m : Summary) → slice_get parts k ≡ Some m → IsPartAlone plan x k m
  pub ready : AreReady plan x n table
