-- Control flow by constructs (ours): what is joined at each, from what its parts are.
use Rattle.std.specs.Prelude.{ℕ, ◌≡◌, List, Some, None}
use Rattle.cfg_rules.specs.Rules.{Tail, entry, out_of, stop, Head, into, mark, jump, finish, exit}
use Rattle.cfg_rules.specs.Plan.{Construct, HasArrow, part, JumpsTo, end_of, Breaks, Continues}

-- Where control was last: it entered the construct and met no mark, or it was at a mark in it.
pub data Source : Type 0 where
  entered : Source
  after : ℕ → Source

-- A place of a construct where arrows begin or end.
pub data Point : Type 0 where
  tail : Tail → Point
  head : Head → Point

-- From the source control comes to a point of x, in x and past no mark: it begins there, goes along
-- an arrow, passes a part silently or where there is none, comes out of a part from a last mark of
-- it, or jumps there by a `break` or a `continue`.
pub data Comes (plan : List Construct) : ℕ → Source → Point → Type 0 where
  begin : {x : ℕ} → Comes plan x entered (tail entry)
  own : {x : ℕ} → Comes plan x (after x) (tail stop)
  along : {x : ℕ} {s : Source} {t : Tail} {h : Head} → Comes plan x s (tail t) →
      HasArrow plan x t h → Comes plan x s (head h)
  through : {x k c : ℕ} {s : Source} → Comes plan x s (head (into k)) → part plan x k ≡ Some c →
      Comes plan c entered (head exit) → Comes plan x s (tail (out_of k))
  over : {x k : ℕ} {s : Source} → Comes plan x s (head (into k)) → part plan x k ≡ None →
      Comes plan x s (tail (out_of k))
  up : {x k c a : ℕ} → part plan x k ≡ Some c → Comes plan c (after a) (head exit) →
      Comes plan x (after a) (tail (out_of k))
  broke : {x a : ℕ} → Breaks plan x a → Comes plan x (after a) (head exit)
  continued : {x a k : ℕ} → Continues plan x a k → Comes plan x (after a) (tail (out_of k))

-- From the source control comes to the mark b next: the mark of x, that of a JUMP_TARGET that x
-- jumps to, that of the METHOD_RETURN, or a first mark of a part.
pub data Goes (plan : List Construct) : ℕ → Source → ℕ → Type 0 where
  stops : {x : ℕ} {s : Source} → Comes plan x s (head mark) → Goes plan x s x
  jumps : {x b : ℕ} {s : Source} → Comes plan x s (head jump) → JumpsTo plan x b → Goes plan x s b
  finishes : {x b : ℕ} {s : Source} → Comes plan x s (head finish) → end_of plan x ≡ Some b →
      Goes plan x s b
  inner : {x k c b : ℕ} {s : Source} → Comes plan x s (head (into k)) → part plan x k ≡ Some c →
      Goes plan c entered b → Goes plan x s b

-- A mark that is met first in x.
abbrev pub IsFirst : List Construct → ℕ → ℕ → Type 0
IsFirst plan x b = Goes plan x entered b

-- A mark after which x is left.
abbrev pub IsLast : List Construct → ℕ → ℕ → Type 0
IsLast plan x a = Comes plan x (after a) (head exit)

-- Control passes x and meets no mark.
abbrev pub IsPassable : List Construct → ℕ → Type 0
IsPassable plan x = Comes plan x entered (head exit)

-- The edge from a to b is one that x joins.
abbrev pub Joins : List Construct → ℕ → ℕ → ℕ → Type 0
Joins plan x a b = Goes plan x (after a) b
