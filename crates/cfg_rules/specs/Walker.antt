-- The walker: control as a walk over positions, and the flow from mark to mark (ours).
use Rattle.std.specs.Prelude.{ℕ, ◌≡◌, List, Option, Some, None}
use Rattle.cfg_rules.specs.Rules.{Tail, entry, out_of, stop, Head, into, mark, jump, finish, exit}
use Rattle.cfg_rules.specs.Plan.{Construct, HasArrow, part, JumpsTo, end_of, Breaks, Continues}

-- A node, or the place of part k of x where no node stands.
pub data Place : Type 0 where
  node : ℕ → Place
  gap : ℕ → ℕ → Place

abbrev pub place_of : ℕ → ℕ → Option ℕ → Place
place_of x k (Some c) = node c
place_of x k None = gap x k

-- The place of part k of x.
abbrev pub place : List Construct → ℕ → ℕ → Place
place plan x k = place_of x k (part plan x k)

-- Where control is: as a place is entered, as it is left, at the mark of a node.
pub data Position : Type 0 where
  enter : Place → Position
  leave : Place → Position
  mark_of : ℕ → Position

-- The position at which an arrow of x begins.
abbrev pub tail_position : List Construct → ℕ → Tail → Position
tail_position plan x entry = enter (node x)
tail_position plan x (out_of k) = leave (place plan x k)
tail_position plan x stop = mark_of x

-- An arrow of x ends at the position.
abbrev pub HeadAt : List Construct → ℕ → Head → Position → Type 0
HeadAt plan x (into k) p = p ≡ enter (place plan x k)
HeadAt plan x mark p = p ≡ mark_of x
HeadAt plan x jump p = (target : ℕ) × JumpsTo plan x target × (p ≡ enter (node target))
HeadAt plan x finish p = (end : ℕ) × (end_of plan x ≡ Some end) × (p ≡ mark_of end)
HeadAt plan x exit p = p ≡ leave (node x)

-- A step of the walker: along an arrow of a rule; past a part that is left out, which is silent;
-- from a `break` past what it leaves; from a `continue` to the end of the body that it ends.
pub data Step (plan : List Construct) (p q : Position) : Type 0 where
  by_rule : (x : ℕ) (tail : Tail) (head : Head) → HasArrow plan x tail head →
      p ≡ tail_position plan x tail → HeadAt plan x head q → Step plan p q
  past_gap : (x k : ℕ) → p ≡ enter (gap x k) → q ≡ leave (gap x k) → Step plan p q
  by_break : (x a : ℕ) → Breaks plan x a → p ≡ mark_of a → q ≡ leave (node x) → Step plan p q
  by_continue : (x a k : ℕ) → Continues plan x a k → p ≡ mark_of a → q ≡ leave (place plan x k) →
      Step plan p q

-- The position is no mark.
abbrev pub IsBetweenMarks : Position → Type 0
IsBetweenMarks (mark_of n) = ⊥
IsBetweenMarks _ = Unit {0}

-- A walk of at least one step from the mark a, with no other mark before its end.
pub data Runs (plan : List Construct) (a : ℕ) : Position → Type 0 where
  first : {q : Position} → Step plan (mark_of a) q → Runs plan a q
  then : {p q : Position} → Runs plan a p → IsBetweenMarks p → Step plan p q → Runs plan a q

-- Control flows from the mark a to the mark b.
abbrev pub Flows : List Construct → ℕ → ℕ → Type 0
Flows plan a b = Runs plan a (mark_of b)
