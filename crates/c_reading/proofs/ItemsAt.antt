-- The items at positions of a list.
use Rattle.std.proofs.Common.{◌≡◌, ℕ, List, Some, subst}
use Rattle.std.specs.List.{All, slice_get}
use Rattle.std.proofs.lemmas.Option.{get_or_from_slice_get, slice_get_within}
use Rattle.line_marks.specs.Kept.{items_at}
use Rattle.line_marks.proofs.ItemsAt.{All-items_at}

-- What holds of each item holds of those at the positions.
pub all_at : {A : Type 0} (P : A → Type 0) (items : List A) (positions : List ℕ) (number : ℕ) (item : A) → All P items → slice_get (items_at items positions) number ≡ Some item → P item
all_at P items positions number item all is =
    subst P (get_or_from_slice_get (items_at items positions) number item item is)
    (All-items_at P items positions all number item (slice_get_within (items_at items positions) number item is))
