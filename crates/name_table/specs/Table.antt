-- How a table of slots and a map stand for the numbers of names.

use Rattle.std.specs.Prelude.{◌≡◌, ◌<◌, ◌≤◌, ◌+◌, ◌*◌, ◌%◌, ◌^◌, ℕ, List, [], ◌∷◌, Option, Some}
use Rattle.std.specs.Prelude.{slice_get, bit_and}
use Rattle.std.specs.Global.{Vec}
use Rattle.std.specs.Ordering.{nat_cmp}
use Rattle.std.specs.Map.{lookup}
use Rattle.std.specs.BTreeMap.{is_at}
use Rattle.std.specs.Cmp.Lexicographic.{slice_cmp}
use Rattle.name_table.specs.declared.table.Table.{Table}
use Rattle.name_table.specs.declared.table.TheConstants.{WINDOW}

-- ---- The hash of a name

-- The hash of what was taken, and of the bytes behind it.
abbrev pub hash_on : ℕ → List ℕ → ℕ
hash_on hash [] = hash
hash_on hash (byte ∷ bytes) = hash_on ((hash * 31 % 2 ^ 32 + byte) % 2 ^ 32) bytes

-- The hash of a name: its bytes as the digits of a number to the base 31, modulo 2^32.
abbrev pub hash_of : List ℕ → ℕ
hash_of name = hash_on 0 name

-- The first slot of the name's window.
abbrev pub home_of : ℕ → List ℕ → ℕ
home_of mask name = bit_and (hash_of name) mask

-- ---- The map

abbrev pub Entries : Type 0
Entries = List (Vec ℕ × ℕ)

-- The number that the name has.
abbrev pub number_in : Entries → List ℕ → Option ℕ
number_in entries name = lookup (is_at (λ (key : Vec ℕ). slice_cmp nat_cmp name key.items)) entries

-- ---- The table

-- The slot is in the name's window.
pub record IsInWindow (table : Table) (name : List ℕ) (slot : ℕ) : Type 0 where
  pub from : home_of table.mask name ≤ slot
  pub to : slot < home_of table.mask name + WINDOW

-- Nothing stands in the slot.
abbrev pub IsFree : Table → ℕ → Type 0
IsFree table slot = slice_get table.slots.items slot ≡ Some 0

-- None of the slots from the name's home up to here is free.
abbrev pub IsTakenTo : Table → List ℕ → ℕ → Type 0
IsTakenTo table name end = (slot : ℕ) → home_of table.mask name ≤ slot → slot < end →
    ¬ IsFree table slot

-- No slot of the name's window is free.
abbrev pub IsCrowded : Table → List ℕ → Type 0
IsCrowded table name = IsTakenTo table name (home_of table.mask name + WINDOW)

-- The slot is the first of the name's window that is free.
pub record IsFirstFree (table : Table) (name : List ℕ) (slot : ℕ) : Type 0 where
  pub inside : IsInWindow table name slot
  pub free : IsFree table slot
  pub first : IsTakenTo table name slot

-- The name's number is found: in the window before any free slot, or in the map where the window
-- is crowded.
pub data Stands (table : Table) (name : List ℕ) (number : ℕ) : Type 0 where
  in_window : (slot : ℕ) → IsInWindow table name slot →
      slice_get table.slots.items slot ≡ Some (number + 1) → IsTakenTo table name slot →
      Stands table name number
  in_others : number_in table.others.entries name ≡ Some number → IsCrowded table name →
      Stands table name number

-- The table has the numbers below the count, and no others.
pub record IsTable (names : List (List ℕ)) (count : ℕ) (table : Table) : Type 0 where
  pub stand : (number : ℕ) (name : List ℕ) → number < count →
      slice_get names number ≡ Some name → Stands table name number
  pub below : (slot placed : ℕ) → slice_get table.slots.items slot ≡ Some placed → placed ≤ count
  pub found : (name : List ℕ) (number : ℕ) →
      number_in table.others.entries name ≡ Some number →
      (number < count) × (slice_get names number ≡ Some name)
