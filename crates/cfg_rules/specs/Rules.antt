-- How control runs through one construct (C11 6.5, 6.8): each rule as arrows between places of the
-- construct. Parts count from 0. That each has a mark of its own, and which, is ours.
use Rattle.std.specs.Prelude.{ℕ, zero, suc, ◌+◌, List, [], ◌∷◌, ◌++◌}
use Rattle.cfg_rules.specs.declared.rule.Rule.{Rule}
use Rattle.cfg_rules.specs.declared.rule.Rule.TheVariants.{Method, Primary, Silent, Call}
use Rattle.cfg_rules.specs.declared.rule.Rule.TheVariants.{ShortCircuit, Conditional, SizeOf}
use Rattle.cfg_rules.specs.declared.rule.Rule.TheVariants.{Block, If, While, Do, For, Endless}
use Rattle.cfg_rules.specs.declared.rule.Rule.TheVariants.{Switch, SwitchDefault, JumpTarget}
use Rattle.cfg_rules.specs.declared.rule.Rule.TheVariants.{Goto, Break, Continue, Return}

-- Where an arrow begins: as the construct is entered, as a part is left, at the construct's mark.
pub data Tail : Type 0 where
  entry : Tail
  out_of : ℕ → Tail
  stop : Tail

-- Where an arrow ends: as a part is entered, at the construct's mark, as a JUMP_TARGET that it
-- jumps to is entered, at the mark of the METHOD_RETURN, as the construct is left.
pub data Head : Type 0 where
  into : ℕ → Head
  mark : Head
  jump : Head
  finish : Head
  exit : Head

-- A step that the rule of a construct allows.
pub record Arrow : Type 0 where
  pub from : Tail
  pub to : Head

abbrev pub arrow : Tail → Head → Arrow
arrow tail head = record { from = tail; to = head }

-- As many parts in order, from the one numbered k, and then the end.
abbrev pub in_order : Tail → ℕ → ℕ → Head → List Arrow
in_order from k zero end = arrow from end ∷ []
in_order from k (suc parts) end =
    arrow from (into k) ∷ in_order (out_of k) (k + 1) parts end

-- The body of a function is executed, and at its closing brace the function ends (6.9.1 p11, p12).
-- Ours: a function in a block is passed.
abbrev pub method_arrows : List Arrow
method_arrows = arrow stop (into 0) ∷ arrow (out_of 0) finish ∷ arrow entry exit ∷ []

-- An identifier, a constant or a string literal is evaluated alone (6.5.1 p2 to p4). Ours: a
-- member's name too.
abbrev pub primary_arrows : List Arrow
primary_arrows = arrow entry mark ∷ arrow stop exit ∷ []

-- Ours: a declaration, a function without a body and the name of a type are passed. What
-- initialises an object is an expression of its own (6.8 p3).
abbrev pub silent_arrows : List Arrow
silent_arrows = arrow entry exit ∷ []

-- The operands are evaluated before the call or the operation (6.5 p1, 6.5.2.2 p10). Ours: from
-- left to right.
abbrev pub call_arrows : ℕ → List Arrow
call_arrows parts = in_order entry 0 parts mark ++ (arrow stop exit ∷ [])

-- The first operand of `&&` and `||` is evaluated, the second only where it decides (6.5.13 p4,
-- 6.5.14 p4).
abbrev pub short_circuit_arrows : List Arrow
short_circuit_arrows = arrow entry (into 0) ∷ arrow (out_of 0) (into 1) ∷
    arrow (out_of 0) mark ∷ arrow (out_of 1) mark ∷ arrow stop exit ∷ []

-- The first operand of `?:` is evaluated, and then either the second or the third (6.5.15 p4).
abbrev pub conditional_arrows : List Arrow
conditional_arrows = arrow entry (into 0) ∷ arrow (out_of 0) (into 1) ∷
    arrow (out_of 0) (into 2) ∷ arrow (out_of 1) mark ∷ arrow (out_of 2) mark ∷
    arrow stop exit ∷ []

-- The operand of `sizeof` and `_Alignof` is not evaluated (6.5.3.4 p2, p3). Ours: nor is one of a
-- variable length.
abbrev pub size_of_arrows : List Arrow
size_of_arrows = arrow entry mark ∷ arrow stop exit ∷ []

-- The items of a block are executed in sequence (6.8 p2, p3).
abbrev pub block_arrows : ℕ → List Arrow
block_arrows parts = in_order entry 0 parts exit

-- After the condition of an `if` either the first substatement is executed or the second, which
-- may be left out (6.8.4.1 p2).
abbrev pub if_arrows : List Arrow
if_arrows = arrow entry (into 0) ∷ arrow (out_of 0) (into 1) ∷ arrow (out_of 0) (into 2) ∷
    arrow (out_of 1) exit ∷ arrow (out_of 2) exit ∷ []

-- The condition of a `while` is evaluated before each execution of the body (6.8.5 p4,
-- 6.8.5.1 p1).
abbrev pub while_arrows : List Arrow
while_arrows = arrow entry (into 0) ∷ arrow (out_of 0) (into 1) ∷ arrow (out_of 0) exit ∷
    arrow (out_of 1) (into 0) ∷ []

-- The condition of a `do` is evaluated after each execution of the body, its first part (6.8.5 p4,
-- 6.8.5.2 p1).
abbrev pub do_arrows : List Arrow
do_arrows = arrow entry (into 0) ∷ arrow (out_of 0) (into 1) ∷ arrow (out_of 1) (into 0) ∷
    arrow (out_of 1) exit ∷ []

-- A `for`: its first part; before each execution of the body, its fourth part, the second; after
-- it the third (6.8.5.3 p1).
abbrev pub for_arrows : List Arrow
for_arrows = arrow entry (into 0) ∷ arrow (out_of 0) (into 1) ∷ arrow (out_of 1) (into 3) ∷
    arrow (out_of 1) exit ∷ arrow (out_of 3) (into 2) ∷ arrow (out_of 2) (into 1) ∷ []

-- A second part that is left out counts as nonzero (6.8.5.3 p2): there is no way past from there.
abbrev pub endless_arrows : List Arrow
endless_arrows = arrow entry (into 0) ∷ arrow (out_of 0) (into 1) ∷
    arrow (out_of 1) (into 3) ∷ arrow (out_of 3) (into 2) ∷ arrow (out_of 2) (into 1) ∷ []

-- A `switch` without `default` jumps to a `case` of its own, or past its body (6.8.4.2 p4, p5).
abbrev pub switch_arrows : List Arrow
switch_arrows = arrow entry (into 0) ∷ arrow (out_of 0) jump ∷ arrow (out_of 0) exit ∷
    arrow (out_of 1) exit ∷ []

-- A `switch` with a `default` jumps to it or to a `case` (6.8.4.2 p4, p5).
abbrev pub switch_default_arrows : List Arrow
switch_default_arrows =
    arrow entry (into 0) ∷ arrow (out_of 0) jump ∷ arrow (out_of 1) exit ∷ []

-- Control goes on across a label, a `case` or a `default` to the statement, its second part
-- (6.8.1 p4). The first part, a case expression, is a constant of the translation (6.6 p2).
abbrev pub jump_target_arrows : List Arrow
jump_target_arrows = arrow entry mark ∷ arrow stop (into 1) ∷ arrow (out_of 1) exit ∷ []

-- A `goto` jumps to the statement with its label (6.8.6.1 p2).
abbrev pub goto_arrows : List Arrow
goto_arrows = arrow entry mark ∷ arrow stop jump ∷ []

-- A `break` ends the smallest loop or `switch` around it (6.8.6.3 p2): what it leaves is said
-- there.
abbrev pub break_arrows : List Arrow
break_arrows = arrow entry mark ∷ []

-- A `continue` jumps to the end of the body of the smallest loop around it (6.8.6.2 p2): whose
-- body it ends is said there.
abbrev pub continue_arrows : List Arrow
continue_arrows = arrow entry mark ∷ []

-- A `return` ends the function, after its expression (6.8.6.4 p2, p3).
abbrev pub return_arrows : List Arrow
return_arrows = arrow entry (into 0) ∷ arrow (out_of 0) mark ∷ arrow stop finish ∷ []

-- The arrows of a construct of this rule with so many parts.
abbrev pub arrows : Rule → ℕ → List Arrow
arrows Method parts = method_arrows
arrows Primary parts = primary_arrows
arrows Silent parts = silent_arrows
arrows Call parts = call_arrows parts
arrows ShortCircuit parts = short_circuit_arrows
arrows Conditional parts = conditional_arrows
arrows SizeOf parts = size_of_arrows
arrows Block parts = block_arrows parts
arrows If parts = if_arrows
arrows While parts = while_arrows
arrows Do parts = do_arrows
arrows For parts = for_arrows
arrows Endless parts = endless_arrows
arrows Switch parts = switch_arrows
arrows SwitchDefault parts = switch_default_arrows
arrows JumpTarget parts = jump_target_arrows
arrows Goto parts = goto_arrows
arrows Break parts = break_arrows
arrows Continue parts = continue_arrows
arrows Return parts = return_arrows

-- The part of a loop that is its body.
abbrev pub body : Rule → ℕ
body Do = 0
body While = 1
body _ = 3

-- A loop or a `switch`: what a `break` leaves (6.8.6.3 p1).
abbrev pub CanBreak : Rule → Type 0
CanBreak While = Unit {0}
CanBreak Do = Unit {0}
CanBreak For = Unit {0}
CanBreak Endless = Unit {0}
CanBreak Switch = Unit {0}
CanBreak SwitchDefault = Unit {0}
CanBreak _ = ⊥

-- A loop: its body is what a `continue` ends (6.8.6.2 p1).
abbrev pub CanContinue : Rule → Type 0
CanContinue While = Unit {0}
CanContinue Do = Unit {0}
CanContinue For = Unit {0}
CanContinue Endless = Unit {0}
CanContinue _ = ⊥
