-- Parts in order: the items of a block, the operands of a call (ours).
use Rattle.std.specs.Prelude.{ℕ, zero, suc, ◌≡◌, ◌<◌, ◌↔◌, ◌⊎◌, List, Some, length, slice_get}
use Rattle.cfg_rules.specs.declared.summary.Summary.{Summary}
use Rattle.cfg_rules.specs.declared.arrival.Arrival.{Arrival}
use Rattle.cfg_rules.specs.declared.joined.Joined.{Joined}
use Rattle.cfg_rules.specs.Rules.{Tail, entry, out_of, into}
use Rattle.cfg_rules.specs.Plan.{Construct, HasArrow, part, part_count}
use Rattle.cfg_rules.specs.Joined.{Source, Comes, tail, head}
use Rattle.cfg_rules.specs.Sets.{Has, Got, IsPart, IsFirstOf}

-- Where control is before part k: at the entry, or as the part before it is left.
abbrev pub before : ℕ → Tail
before zero = entry
before (suc k) = out_of k

-- The construct x leads control to so many parts in order, and to each by no other way.
pub record IsChain (plan : List Construct) (x parts : ℕ) : Type 0 where
  pub leads : (k : ℕ) → k < parts → HasArrow plan x (before k) (into k)
  pub only : (p : Tail) (k : ℕ) → HasArrow plan x p (into k) → p ≡ before k

-- The summaries are those of all parts of x.
pub record AreParts (plan : List Construct) (x : ℕ) (parts : List Summary) : Type 0 where
  pub count : length parts ≡ part_count plan x
  pub each : (k : ℕ) (m : Summary) → slice_get parts k ≡ Some m → IsPart plan x k m

-- The first k parts of x are joined: where control is now, and what was added.
pub record SoFar (plan : List Construct) (x k : ℕ) (arrived : Arrival) (old now : Joined) : Type 0
  where
    pub here : (s : Source) → Has arrived s ↔ Comes plan x s (tail (before k))
    pub got : (s : Source) (b : ℕ) → Got now s b ↔ (Got old s b ⊎
        ((j : ℕ) × (j < k) × Comes plan x s (head (into j)) × IsFirstOf plan (part plan x j) b))
