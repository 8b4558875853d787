-- What the parts of the stripping find at a position.

use Rattle.std.specs.Prelude.{ℕ, ◌≡◌, ◌⊎◌, ◌+◌, ◌<◌, ◌≤◌, List, Option, Some, length, slice_index}
use Rattle.c_lexer.specs.declared.token.Kind.{Kind}
use Rattle.c_lexer.specs.declared.token.Kind.TheVariants.{Key}
use Rattle.c_lexer.specs.declared.keyword.TheConstants.{KEY_ATTRIBUTE, KEY_ASM}
use Rattle.c_lexer.specs.declared.token.Token.{Token}
use Rattle.line_marks.specs.declared.stripping.Treatment.{Treatment}
use Rattle.line_marks.specs.declared.stripping.Treatment.TheVariants.{Drop, Keep, Refuse}
use Rattle.line_marks.specs.Balance.{AreBalanced, IsBracket, IsGroup, kind_at}
use Rattle.line_marks.specs.Kept.{IsBadAttribute, IsDropped, IsKept}

-- No balanced text goes on from the position.
pub record EndsBalance (tokens : List Token) (at : ℕ) : Type 0 where
  pub bracket : (kind : Kind) → kind_at tokens at ≡ Some kind → IsBracket kind
  pub no_group : (to : ℕ) → ¬ IsGroup tokens at to

-- The longest balanced text from `from` on ends at `to`.
pub record IsBalancedTo (tokens : List Token) (from to : ℕ) : Type 0 where
  pub low : from ≤ to
  pub within : to ≤ length tokens
  pub balanced : AreBalanced tokens from to
  pub ends : EndsBalance tokens to

-- Where the longest balanced text ends, from each position on.
pub record AreBalancedTo (tokens : List Token) (ends : List ℕ) : Type 0 where
  pub one_each : length ends ≡ length tokens + 1
  pub each : (at : ℕ) → at ≤ length tokens → IsBalancedTo tokens at (slice_index ends at)

-- A token of this kind may be dropped with parentheses behind it.
abbrev pub MayDropGroup : Kind → Type 0
MayDropGroup (Key number) = (number ≡ KEY_ATTRIBUTE) ⊎ (number ≡ KEY_ASM)
MayDropGroup _ = ⊥

-- Where the longest balanced text ends is known if a token may be dropped so.
pub record HasEndsForGroups (tokens : List Token) (ends : List ℕ) : Type 0 where
  pub known : (at : ℕ) (kind : Kind) → kind_at tokens at ≡ Some kind → MayDropGroup kind →
      AreBalancedTo tokens ends

-- What is done with the token at the position.
abbrev pub IsTreatment : List Token → Option Kind → ℕ → Kind → Treatment → Type 0
IsTreatment tokens before at kind (Drop to) =
    (at < to) × (to ≤ length tokens) × IsDropped tokens before at to
IsTreatment tokens before at kind Keep = IsKept tokens before at kind
IsTreatment tokens before at kind Refuse = IsBadAttribute tokens at
