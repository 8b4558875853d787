-- A plan: what each node of a graph is to control flow, by its number (ours).
use Rattle.std.specs.Prelude.{ℕ, ◌≡◌, List, [], Option, Some, None, length, slice_get}
use Rattle.cfg_rules.specs.declared.rule.Rule.{Rule}
use Rattle.cfg_rules.specs.declared.rule.Rule.TheVariants.{JumpTarget}
use Rattle.cfg_rules.specs.Member.{IsIn}
use Rattle.cfg_rules.specs.Rules.{Tail, Head, Arrow, arrow, arrows, body, CanBreak, CanContinue}

-- A node: its rule; its parts in order, None where one is left out; the JUMP_TARGETs that it jumps
-- to; the METHOD_RETURN at which its function ends; the `break`s that leave it; the `continue`s
-- that end its body.
pub record Construct : Type 0 where
  pub rule : Rule
  pub parts : List (Option ℕ)
  pub targets : List ℕ
  pub method_return : Option ℕ
  pub breaks : List ℕ
  pub continues : List ℕ

abbrev pub RuleAt : Option Construct → Rule → Type 0
RuleAt (Some c) rule = c.rule ≡ rule
RuleAt None rule = ⊥

-- The node x has this rule.
unfoldable pub HasRule : List Construct → ℕ → Rule → Type 0
HasRule plan x rule = RuleAt (slice_get plan x) rule

abbrev pub arrows_at : Option Construct → List Arrow
arrows_at (Some c) = arrows c.rule (length c.parts)
arrows_at None = []

-- The rule of x has an arrow from here to there.
unfoldable pub HasArrow : List Construct → ℕ → Tail → Head → Type 0
HasArrow plan x tail head = IsIn (arrows_at (slice_get plan x)) (arrow tail head)

abbrev pub parts_at : Option Construct → List (Option ℕ)
parts_at (Some c) = c.parts
parts_at None = []

-- How many parts x has.
unfoldable pub part_count : List Construct → ℕ → ℕ
part_count plan x = length (parts_at (slice_get plan x))

abbrev pub flat_part : Option (Option ℕ) → Option ℕ
flat_part (Some part) = part
flat_part None = None

-- Part k of x: a node, or None.
unfoldable pub part : List Construct → ℕ → ℕ → Option ℕ
part plan x k = flat_part (slice_get (parts_at (slice_get plan x)) k)

abbrev pub JumpsAt : Option Construct → ℕ → Type 0
JumpsAt (Some c) target = IsIn c.targets target
JumpsAt None target = ⊥

-- The node x jumps to the target.
unfoldable pub JumpsTo : List Construct → ℕ → ℕ → Type 0
JumpsTo plan x target = JumpsAt (slice_get plan x) target

abbrev pub end_at : Option Construct → Option ℕ
end_at (Some c) = c.method_return
end_at None = None

-- The METHOD_RETURN at which the function of x ends.
unfoldable pub end_of : List Construct → ℕ → Option ℕ
end_of plan x = end_at (slice_get plan x)

abbrev pub BreaksAt : Option Construct → ℕ → Type 0
BreaksAt (Some c) a = IsIn c.breaks a × CanBreak c.rule
BreaksAt None a = ⊥

-- The `break` a leaves x.
unfoldable pub Breaks : List Construct → ℕ → ℕ → Type 0
Breaks plan x a = BreaksAt (slice_get plan x) a

abbrev pub ContinuesAt : Option Construct → ℕ → ℕ → Type 0
ContinuesAt (Some c) a k = IsIn c.continues a × CanContinue c.rule × (k ≡ body c.rule)
ContinuesAt None a k = ⊥

-- The `continue` a ends part k of x.
unfoldable pub Continues : List Construct → ℕ → ℕ → ℕ → Type 0
Continues plan x a k = ContinuesAt (slice_get plan x) a k

-- No node is a part of two nodes or two parts of one, and what is jumped to is a JUMP_TARGET.
pub record IsPlan (plan : List Construct) : Type 0 where
  pub tree : (x k y j c : ℕ) → part plan x k ≡ Some c → part plan y j ≡ Some c →
      (x ≡ y) × (k ≡ j)
  pub targets : (x target : ℕ) → JumpsTo plan x target → HasRule plan target JumpTarget
