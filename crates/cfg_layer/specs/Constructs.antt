-- Which construct a walked node is: its rule, its parts, and where jumps lead and come from (C11
-- 6.5, 6.8). Parts count from 1 in a graph and from 0 in a plan.
use Rattle.std.specs.Prelude.{ℕ, ◌≡◌, ◌<◌, ◌+◌, ◌↔◌, ◌⊎◌, List, [], ◌∷◌, Option, Some, None}
use Rattle.std.specs.Prelude.{length, slice_get}
use Rattle.cpg_schema.specs.declared.label.Label.TheVariants.{MethodReturn}
use Rattle.cpg_schema.specs.declared.label.Label.TheVariants as label
use Rattle.cpg_schema.specs.Graph.{PlainGraph}
use Rattle.graph_parts.specs.Finds.{Finds}
use Rattle.graph_parts.specs.Parts.{IsArgument, IsChild, IsChildOf, IsPart}
use Rattle.cfg_rules.specs.declared.rule.Rule.{Rule}
use Rattle.cfg_rules.specs.declared.rule.Rule.TheVariants as rule
use Rattle.cfg_rules.specs.Member.{IsIn}
use Rattle.cfg_rules.specs.Plan.{Construct}
use Rattle.cfg_layer.specs.Kinds.{Kind, function, primary, passed, call, short_circuit}
use Rattle.cfg_layer.specs.Kinds.{conditional, size_of, block, if_statement, while_loop, do_loop}
use Rattle.cfg_layer.specs.Kinds.{for_loop, switch_statement, jump_target, goto_jump, break_jump}
use Rattle.cfg_layer.specs.Kinds.{continue_jump, return_jump, unknown}
use Rattle.cfg_layer.specs.Jumps.{IsBreakOf, IsContinueOf, IsDefaultOf, LeadsToCase, LeadsToLabel}

-- The rule is one where something is so, and else the other.
pub data IsRuleBy (P : ℕ → Type 0) (one other : Rule) : Rule → Type 0 where
  some : (node : ℕ) → P node → IsRuleBy P one other one
  none : ((node : ℕ) → ¬ P node) → IsRuleBy P one other other

-- The rule of a node of this kind that is walked in the function. A `for` goes past only where it
-- has a second part (6.8.5.3 p2), and a `switch` only where it has no `default` (6.8.4.2 p5). Ours:
-- where nothing is known of a node, control goes nowhere from it, as from a `switch` with nothing
-- but a `default` that is not there.
abbrev pub IsRuleOf : PlainGraph → ℕ → ℕ → Kind → Rule → Type 0
IsRuleOf graph method node function is = is ≡ rule.Silent
IsRuleOf graph method node primary is = is ≡ rule.Primary
IsRuleOf graph method node passed is = is ≡ rule.Silent
IsRuleOf graph method node call is = is ≡ rule.Call
IsRuleOf graph method node short_circuit is = is ≡ rule.ShortCircuit
IsRuleOf graph method node conditional is = is ≡ rule.Conditional
IsRuleOf graph method node size_of is = is ≡ rule.SizeOf
IsRuleOf graph method node block is = is ≡ rule.Block
IsRuleOf graph method node if_statement is = is ≡ rule.If
IsRuleOf graph method node while_loop is = is ≡ rule.While
IsRuleOf graph method node do_loop is = is ≡ rule.Do
IsRuleOf graph method node for_loop is = IsRuleBy (IsPart graph 2 node) rule.For rule.Endless is
IsRuleOf graph method node switch_statement is =
    IsRuleBy (IsDefaultOf graph method node) rule.SwitchDefault rule.Switch is
IsRuleOf graph method node jump_target is = is ≡ rule.JumpTarget
IsRuleOf graph method node goto_jump is = is ≡ rule.Goto
IsRuleOf graph method node break_jump is = is ≡ rule.Break
IsRuleOf graph method node continue_jump is = is ≡ rule.Continue
IsRuleOf graph method node return_jump is = is ≡ rule.Return
IsRuleOf graph method node unknown is = is ≡ rule.SwitchDefault

-- The first so many parts of a node, each left out where it has none; and its arguments likewise.
pub record AreNumbered (graph : PlainGraph) (node count : ℕ) (parts : List (Option ℕ)) : Type 0
  where
    pub count_is : length parts ≡ count
    pub each : (k : ℕ) (part : Option ℕ) → slice_get parts k ≡ Some part →
        Finds (IsPart graph (k + 1) node) part

pub record AreArguments (graph : PlainGraph) (node count : ℕ) (parts : List (Option ℕ)) : Type 0
  where
    pub count_is : length parts ≡ count
    pub each : (k : ℕ) (part : Option ℕ) → slice_get parts k ≡ Some part →
        Finds (IsArgument graph (k + 1) node) part

-- The children of a node, in the order of their numbers.
pub record AreChildren (graph : PlainGraph) (node : ℕ) (parts : List (Option ℕ)) : Type 0 where
  pub each : (k : ℕ) (part : Option ℕ) → slice_get parts k ≡ Some part →
      (child : ℕ) × (part ≡ Some child) × IsChild graph node child
  pub all : (child : ℕ) → IsChild graph node child → IsIn parts (Some child)
  pub rise : (i k one other : ℕ) → i < k → slice_get parts i ≡ Some (Some one) →
      slice_get parts k ≡ Some (Some other) → one < other

-- The statement of a JUMP_TARGET, its second part. The first is not walked.
pub record AreOfTarget (graph : PlainGraph) (node : ℕ) (parts : List (Option ℕ)) : Type 0 where
  pub statement : Option ℕ
  pub statement_is : Finds (IsPart graph 2 node) statement
  pub parts_are : parts ≡ None ∷ statement ∷ []

-- The parts of a node of this kind through which control runs.
abbrev pub ArePartsOf : PlainGraph → ℕ → Kind → List (Option ℕ) → Type 0
ArePartsOf graph node call parts = AreChildren graph node parts
ArePartsOf graph node short_circuit parts = AreArguments graph node 2 parts
ArePartsOf graph node conditional parts = AreArguments graph node 3 parts
ArePartsOf graph node block parts = AreChildren graph node parts
ArePartsOf graph node if_statement parts = AreNumbered graph node 3 parts
ArePartsOf graph node while_loop parts = AreNumbered graph node 2 parts
ArePartsOf graph node do_loop parts = AreNumbered graph node 2 parts
ArePartsOf graph node for_loop parts = AreNumbered graph node 4 parts
ArePartsOf graph node switch_statement parts = AreNumbered graph node 2 parts
ArePartsOf graph node jump_target parts = AreOfTarget graph node parts
ArePartsOf graph node return_jump parts = AreNumbered graph node 1 parts
ArePartsOf graph node _ parts = parts ≡ []

-- Where the jumps of a construct lead, and those that it knows of.
pub record AreJumpsOf (graph : PlainGraph) (method node : ℕ) (construct : Construct) : Type 0 where
  pub targets : (target : ℕ) → IsIn construct.targets target
      ↔ (LeadsToLabel graph method node target ⊎ LeadsToCase graph method node target)
  pub breaks : (jump : ℕ) → IsIn construct.breaks jump ↔ IsBreakOf graph method node jump
  pub continues : (jump : ℕ) → IsIn construct.continues jump ↔ IsContinueOf graph method node jump

-- The construct is that of a node of this kind that is walked in the function.
pub record IsConstructOf (graph : PlainGraph) (method node : ℕ) (kind : Kind)
    (construct : Construct) : Type 0 where
  pub rule_is : IsRuleOf graph method node kind construct.rule
  pub parts : ArePartsOf graph node kind construct.parts
  pub jumps : AreJumpsOf graph method node construct
  pub end : Finds (IsChildOf graph MethodReturn method) construct.method_return

-- The construct is that of the function: its BLOCK is its one part (6.9.1).
pub record IsFunctionOf (graph : PlainGraph) (method : ℕ) (construct : Construct) : Type 0 where
  pub rule_is : construct.rule ≡ rule.Method
  pub body : ℕ
  pub body_is : IsChildOf graph label.Block method body
  pub parts : construct.parts ≡ Some body ∷ []
  pub no_targets : construct.targets ≡ []
  pub end : Finds (IsChildOf graph MethodReturn method) construct.method_return
