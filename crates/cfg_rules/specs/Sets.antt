-- What the lists of marks say that the code carries through a construct (ours).
use Rattle.std.specs.Prelude.{ℕ, ◌≡◌, ◌↔◌, ◌⊎◌, List, [], ◌∷◌, Option, Some, None, Bool, IsTrue}
use Rattle.cfg_rules.specs.declared.summary.Summary.{Summary}
use Rattle.cfg_rules.specs.declared.arrival.Arrival.{Arrival}
use Rattle.cfg_rules.specs.declared.joined.Joined.{Joined}
use Rattle.cfg_rules.specs.declared.loops.Ring.{Ring}
use Rattle.cfg_rules.specs.Member.{IsIn}
use Rattle.cfg_rules.specs.Rules.{exit}
use Rattle.cfg_rules.specs.Plan.{Construct, part, Breaks, Continues, JumpsTo}
use Rattle.cfg_rules.specs.Joined.{Source, entered, after, Comes, Goes, head}
use Rattle.cfg_rules.specs.Joined.{IsFirst, IsLast, IsPassable}

-- The list has what one of the two has.
pub record IsUnion (xs ys all : List ℕ) : Type 0 where
  pub has : (m : ℕ) → IsIn all m ↔ (IsIn xs m ⊎ IsIn ys m)

-- The edges are the old ones, and those from each mark of one list to each of the other.
pub record HasEdges (old new : List (ℕ × ℕ)) (from to : List ℕ) : Type 0 where
  pub has : (a b : ℕ) → IsIn new (a, b) ↔ (IsIn old (a, b) ⊎ (IsIn from a × IsIn to b))

-- Control arrives from the source.
unfoldable pub Has : Arrival → Source → Type 0
Has here entered = IsTrue here.entered
Has here (after a) = IsIn here.marks.items a

-- Control goes from the source to the mark b.
unfoldable pub Got : Joined → Source → ℕ → Type 0
Got out entered b = IsIn out.first.items b
Got out (after a) b = IsIn out.edges.items (a, b)

-- The source is one of the marks.
unfoldable pub IsAfter : List ℕ → Source → Type 0
IsAfter marks entered = ⊥
IsAfter marks (after a) = IsIn marks a

-- Control arrives as a construct is entered, and from nowhere else.
pub record IsEntry (here : Arrival) : Type 0 where
  pub has : (s : Source) → Has here s ↔ (s ≡ entered)

-- Control arrives from these marks alone.
pub record AreFrom (marks : List ℕ) (next : Arrival) : Type 0 where
  pub has : (s : Source) → Has next s ↔ IsAfter marks s

-- Two arrivals are from the same sources.
pub record IsSame (there next : Arrival) : Type 0 where
  pub has : (s : Source) → Has next s ↔ Has there s

-- Control arrives from the sources of both.
pub record IsBoth (there also next : Arrival) : Type 0 where
  pub has : (s : Source) → Has next s ↔ (Has there s ⊎ Has also s)

-- Control arrives from where it did, and from the marks.
pub record IsPast (there : Arrival) (marks : List ℕ) (next : Arrival) : Type 0 where
  pub has : (s : Source) → Has next s ↔ (Has there s ⊎ IsAfter marks s)

-- Control leaves a part from its last marks, and where it is passed from where it came.
pub record IsLeft (last : List ℕ) (passable : Bool) (here next : Arrival) : Type 0 where
  pub has : (s : Source) → Has next s ↔ (IsAfter last s ⊎ (IsTrue passable × Has here s))

-- Control leaves a part that it came to, from a last mark or past it.
abbrev pub LeavesBy : Summary → Arrival → Source → Type 0
LeavesBy m here s = IsAfter m.last.items s ⊎ (IsTrue m.passable × Has here s)

-- Control leaves one of two parts that it came to.
pub record IsLeftByEither (one other : Summary) (here next : Arrival) : Type 0 where
  pub has : (s : Source) → Has next s ↔ (LeavesBy one here s ⊎ LeavesBy other here s)

-- Control arrives from where it did, and where a part is passed from what comes round to it.
pub record IsAgain (there : Arrival) (passable : Bool) (round next : Arrival) : Type 0 where
  pub has : (s : Source) → Has next s ↔ (Has there s ⊎ (IsTrue passable × Has round s))

-- What arrived was led on to each of the marks.
pub record IsLed (marks : List ℕ) (here : Arrival) (old new : Joined) : Type 0 where
  pub got : (s : Source) (b : ℕ) → Got new s b ↔ (Got old s b ⊎ (Has here s × IsIn marks b))

-- The mark, if there is one, as a list.
abbrev pub marks_of : Option ℕ → List ℕ
marks_of None = []
marks_of (Some m) = m ∷ []

-- The summary is that of the construct x.
pub record IsSummary (plan : List Construct) (x : ℕ) (m : Summary) : Type 0 where
  pub first : (b : ℕ) → IsIn m.first.items b ↔ IsFirst plan x b
  pub last : (a : ℕ) → IsIn m.last.items a ↔ IsLast plan x a
  pub passable : IsTrue m.passable ↔ IsPassable plan x

abbrev pub IsFirstOf : List Construct → Option ℕ → ℕ → Type 0
IsFirstOf plan None b = ⊥
IsFirstOf plan (Some c) b = IsFirst plan c b

abbrev pub IsLastOf : List Construct → Option ℕ → ℕ → Type 0
IsLastOf plan None a = ⊥
IsLastOf plan (Some c) a = IsLast plan c a

abbrev pub IsPassed : List Construct → Option ℕ → Type 0
IsPassed plan None = Unit {0}
IsPassed plan (Some c) = IsPassable plan c

-- The summary is that of part k of x. A part that is left out is passed. A `continue` that ends the
-- part is one of its last marks.
pub record IsPart (plan : List Construct) (x k : ℕ) (m : Summary) : Type 0 where
  pub first : (b : ℕ) → IsIn m.first.items b ↔ IsFirstOf plan (part plan x k) b
  pub last : (a : ℕ) →
      IsIn m.last.items a ↔ (IsLastOf plan (part plan x k) a ⊎ Continues plan x a k)
  pub passable : IsTrue m.passable ↔ IsPassed plan (part plan x k)

-- The marks are the `break`s that leave x.
pub record AreBreaks (plan : List Construct) (x : ℕ) (marks : List ℕ) : Type 0 where
  pub are : (a : ℕ) → IsIn marks a ↔ Breaks plan x a

-- The marks are the JUMP_TARGETs to which x jumps.
pub record AreTargets (plan : List Construct) (x : ℕ) (marks : List ℕ) : Type 0 where
  pub are : (b : ℕ) → IsIn marks b ↔ JumpsTo plan x b

-- Control goes round a condition, a body and a third part, and first comes to the condition from
-- where it was set up. It comes out of them a first time, and then also by what came round.
pub record IsRing (set : Arrival) (condition third body : Summary) (ring : Ring) : Type 0 where
  pub once : Arrival
  pub twice : Arrival
  pub bypass : Bool
  pub tests : IsLeft condition.last.items condition.passable set once
  pub runs : IsLeft body.last.items body.passable once twice
  pub steps : IsLeft third.last.items third.passable twice ring.stepped
  pub tests_again : IsAgain once condition.passable ring.stepped ring.tested
  pub bypasses : IsTrue bypass ↔ (IsTrue condition.passable × IsTrue body.passable)
  pub runs_again : IsAgain twice bypass ring.stepped ring.ran

-- What goes round was led on: into the condition, the body and the third part.
pub record IsLedRound (set : Arrival) (ring : Ring) (condition third body : Summary)
    (old new : Joined) : Type 0 where
  pub got : (s : Source) (b : ℕ) → Got new s b ↔ (Got old s b ⊎
      ((((Has set s × IsIn condition.first.items b) ⊎
      (Has ring.stepped s × IsIn condition.first.items b)) ⊎
      (Has ring.tested s × IsIn body.first.items b)) ⊎
      (Has ring.ran s × IsIn third.first.items b)))

-- The construct x is joined: control leaves it from these sources, and its first marks and the
-- edges that it joins were added.
pub record IsJoined (plan : List Construct) (x : ℕ) (next : Arrival) (old new : Joined) : Type 0
  where
    pub leaves : (s : Source) → Has next s ↔ Comes plan x s (head exit)
    pub goes : (s : Source) (b : ℕ) → Got new s b ↔ (Got old s b ⊎ Goes plan x s b)
