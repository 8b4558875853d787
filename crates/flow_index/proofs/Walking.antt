-- A walk along the positions of a key, from the last to the first.
use Rattle.std.proofs.Common.{◌≡◌, ℕ, ◌+◌, ◌<◌, ◌≤◌, ◌⊎◌, inl, inr, List, length, get_or, sym, subst, arith, Option, Some, None, MatchOption}
use Rattle.std.proofs.lemmas.Bool.{cases_lt}
use Rattle.flow_index.specs.Positions.{IsLastPosition}

-- the position is still to come on the walk
abbrev pub IsAhead : Option ℕ → ℕ → Type 0
IsAhead next position = MatchOption next ⊥ (λ at. position ≤ at)

-- the next position of the walk has the key
abbrev pub IsOnWay : List ℕ → ℕ → Option ℕ → Type 0
IsOnWay keys key next = MatchOption next (Unit {0}) (λ at. (at < length keys) × (get_or keys at 0 ≡ key))

-- at most how many positions are to come
abbrev pub positions_left : Option ℕ → ℕ
positions_left None = 0
positions_left (Some at) = at + 1

pub begin_ahead : (keys : List ℕ) (key end : ℕ) (found : Option ℕ) → IsLastPosition keys key end found → (position : ℕ) → position < end → get_or keys position 0 ≡ key → IsAhead found position
begin_ahead keys key end None is position below same = is position below same
begin_ahead keys key end (Some at) is position below same = elim (cases_lt at position) [
  | inl after ↦ absurd (is.last position after below same)
  | inr not_after ↦ not_after
]

pub begin_on : (keys : List ℕ) (key end : ℕ) (found : Option ℕ) → end ≤ length keys → IsLastPosition keys key end found → IsOnWay keys key found
begin_on keys key end None within is = tt
begin_on keys key end (Some at) within is = let before = is.before in (omega arith, is.stands)

-- one position further
pub step_ahead : (keys : List ℕ) (key at : ℕ) (found : Option ℕ) → IsLastPosition keys key at found → (position : ℕ) → get_or keys position 0 ≡ key → position ≤ at → IsAhead found position ⊎ (position ≡ at)
step_ahead keys key at found is position same below = elim (cases_lt position at) [
  | inl less ↦ inl (begin_ahead keys key at found is position less same)
  | inr not_less ↦ inr (omega arith)
]

pub step_left : (keys : List ℕ) (key at : ℕ) (found : Option ℕ) → IsLastPosition keys key at found → positions_left found < at + 1
step_left keys key at None is = omega arith
step_left keys key at (Some before) is = let less = is.before in omega arith

-- The walk is at a position with the key, and each position with the key is ahead or done.
pub record Walks (keys : List ℕ) (key : ℕ) (next : Option ℕ) (IsDone : ℕ → Type 0) : Type 0 where
  pub on : IsOnWay keys key next
  pub done : (position : ℕ) → position < length keys → get_or keys position 0 ≡ key → IsAhead next position ⊎ IsDone position

pub walk_begin : (keys : List ℕ) (key : ℕ) (found : Option ℕ) (IsDone : ℕ → Type 0) → IsLastPosition keys key (length keys) found → Walks keys key found IsDone
walk_begin keys key found IsDone is = record {
  on = begin_on keys key (length keys) found (omega arith) is;
  done = λ position within same. inl (begin_ahead keys key (length keys) found is position within same);
}

pub walk_step : (keys : List ℕ) (key at : ℕ) (next found : Option ℕ) (IsDone Then : ℕ → Type 0) → next ≡ Some at → Walks keys key next IsDone →
    IsLastPosition keys (get_or keys at 0) at found → ((position : ℕ) → IsDone position → Then position) → Then at → Walks keys key found Then
walk_step keys key at next found IsDone Then some before last keeps here =
    let walks : Walks keys key (Some at) IsDone = subst (λ (n : Option ℕ). Walks keys key n IsDone) some before in
    let within = walks.on.0 in
    let chained : IsLastPosition keys key at found = subst (λ (k : ℕ). IsLastPosition keys k at found) walks.on.1 last in
    record {
      on = begin_on keys key at found (omega arith) chained;
      done = λ position inside same. elim (walks.done position inside same) [
        | inl ahead ↦ elim (step_ahead keys key at found chained position same ahead) [
          | inl further ↦ inl further
          | inr now ↦ inr (subst Then (sym now) here)
        ]
        | inr done ↦ inr (keeps position done)
      ];
    }

pub walk_end : (keys : List ℕ) (key : ℕ) (next : Option ℕ) (IsDone : ℕ → Type 0) → next ≡ None → Walks keys key next IsDone → (position : ℕ) → position < length keys → get_or keys position 0 ≡ key → IsDone position
walk_end keys key None IsDone none walks position within same = elim (walks.done position within same) [ inl ahead ↦ absurd ahead | inr done ↦ done ]
walk_end keys key (Some at) IsDone none walks position within same = cc
