-- The positions of keys in a list.
use Rattle.std.specs.Prelude.{
  ℕ,
  ◌≡◌,
  ◌≢◌,
  ◌<◌,
  List,
  length,
  slice_index,
  slice_index_or,
  Option,
  None,
  MatchOption,
}

-- Keys below a count, in a list.
pub record Keys : Type 0 where
  pub count : ℕ
  pub keys : List ℕ

-- The last position before the end at which the key stands.
pub record IsLast (keys : List ℕ) (key end position : ℕ) : Type 0 where
  pub before : position < end
  pub stands : slice_index keys position ≡ key
  pub last : (later : ℕ) → position < later → later < end → slice_index keys later ≢ key

-- The last position before the end at which the key stands, where there is one.
abbrev pub IsLastPosition : List ℕ → ℕ → ℕ → Option ℕ → Type 0
IsLastPosition keys key end found = MatchOption found
    ((position : ℕ) → position < end → slice_index keys position ≢ key) (IsLast keys key end)

-- How keys are chained: the last position of each key, and for each position the one before it that has
-- the same key.
pub record AreChained (last : List (Option ℕ)) (keys : List ℕ) (before : List (Option ℕ)) :
    Type 0 where
  pub below : (position : ℕ) → position < length keys → slice_index keys position < length last
  pub links : length before ≡ length keys
  pub heads : (key : ℕ) → key < length last →
      IsLastPosition keys key (length keys) (slice_index_or last key None)
  pub steps : (position : ℕ) → position < length keys →
      IsLastPosition keys (slice_index keys position) position (slice_index_or before position None)
