-- The steps of the walker over a plan, as a list (ours).
use Rattle.std.specs.Prelude.{ℕ, ◌+◌, ◌==◌, Bool, ◌&&◌, List, [], ◌∷◌, ◌++◌, Option, Some, None}
use Rattle.std.specs.Prelude.{length, if◌then◌else◌}
use Rattle.cfg_rules.specs.declared.rule.Rule.{Rule}
use Rattle.cfg_rules.specs.declared.rule.Rule.TheVariants.{While, Do, For, Endless, Switch}
use Rattle.cfg_rules.specs.declared.rule.Rule.TheVariants.{SwitchDefault}
use Rattle.cfg_rules.specs.Rules.{Head, into, mark, jump, finish, exit, Arrow, arrows, body}
use Rattle.cfg_rules.specs.Plan.{Construct}
use Rattle.cfg_rules.specs.Walker.{Place, node, gap, place, Position, enter, leave, mark_of}
use Rattle.cfg_rules.specs.Walker.{tail_position}

-- A step, from a position to a position.
abbrev pub Move : Type 0
Move = Position × Position

abbrev pub moves_to : Position → List Position → List Move
moves_to p [] = []
moves_to p (q ∷ qs) = (p, q) ∷ moves_to p qs

abbrev pub moves_from : List ℕ → Position → List Move
moves_from [] q = []
moves_from (a ∷ marks) q = (mark_of a, q) ∷ moves_from marks q

abbrev pub entered : List ℕ → List Position
entered [] = []
entered (x ∷ xs) = enter (node x) ∷ entered xs

abbrev pub marked : Option ℕ → List Position
marked None = []
marked (Some x) = mark_of x ∷ []

-- The positions at which an arrow of x with this head ends.
abbrev pub ends_of : List Construct → ℕ → Construct → Head → List Position
ends_of plan x c (into k) = enter (place plan x k) ∷ []
ends_of plan x c mark = mark_of x ∷ []
ends_of plan x c jump = entered c.targets
ends_of plan x c finish = marked c.method_return
ends_of plan x c exit = leave (node x) ∷ []

-- The step past part k of x, which counts where that part is left out.
abbrev pub past_of : ℕ → Head → List Move
past_of x (into k) = (enter (gap x k), leave (gap x k)) ∷ []
past_of x _ = []

-- The steps along some arrows of x.
unfoldable pub arrow_moves : List Construct → ℕ → Construct → List Arrow → List Move
arrow_moves plan x c [] = []
arrow_moves plan x c (arrow ∷ arrows) =
    moves_to (tail_position plan x arrow.from) (ends_of plan x c arrow.to)
    ++ (past_of x arrow.to ++ arrow_moves plan x c arrows)

abbrev pub can_continue : Rule → Bool
can_continue While = Bool.true
can_continue Do = Bool.true
can_continue For = Bool.true
can_continue Endless = Bool.true
can_continue _ = Bool.false

abbrev pub can_break : Rule → Bool
can_break Switch = Bool.true
can_break SwitchDefault = Bool.true
can_break While = Bool.true
can_break Do = Bool.true
can_break For = Bool.true
can_break Endless = Bool.true
can_break _ = Bool.false

abbrev pub break_moves : ℕ → Construct → List Move
break_moves x c = if can_break c.rule then moves_from c.breaks (leave (node x)) else []

abbrev pub continue_moves : List Construct → ℕ → Construct → List Move
continue_moves plan x c =
    if can_continue c.rule then moves_from c.continues (leave (place plan x (body c.rule))) else []

-- The steps of the construct x.
unfoldable pub construct_moves : List Construct → ℕ → Construct → List Move
construct_moves plan x c =
    arrow_moves plan x c (arrows c.rule (length c.parts))
    ++ (break_moves x c ++ continue_moves plan x c)

-- The steps of some constructs of the plan, of which the first is x.
unfoldable pub moves_of : List Construct → ℕ → List Construct → List Move
moves_of plan x [] = []
moves_of plan x (c ∷ cs) = construct_moves plan x c ++ moves_of plan (x + 1) cs

-- All steps of a plan.
abbrev pub all_moves : List Construct → List Move
all_moves plan = moves_of plan 0 plan

-- Two positions are one.
abbrev pub same_place : Place → Place → Bool
same_place (node x) (node y) = x == y
same_place (gap x k) (gap y j) = (x == y) && (k == j)
same_place _ _ = Bool.false

abbrev pub same_position : Position → Position → Bool
same_position (enter one) (enter other) = same_place one other
same_position (leave one) (leave other) = same_place one other
same_position (mark_of x) (mark_of y) = x == y
same_position _ _ = Bool.false
