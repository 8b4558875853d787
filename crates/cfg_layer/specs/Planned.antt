-- The plan of a function and its edges, as functions of the graph (ours).
use Rattle.std.specs.Prelude.{ℕ, zero, suc, ◌+◌, ◌==◌, Bool, List, [], ◌∷◌, Option, Some}
use Rattle.std.specs.Prelude.{None, length, if◌then◌else◌}
use Rattle.cpg_schema.specs.declared.edge_kind.EdgeKind.TheVariants.{Ast}
use Rattle.cpg_schema.specs.Graph.{PlainGraph, PlainNode}
use Rattle.cfg_rules.specs.declared.rule.Rule.{Rule}
use Rattle.cfg_rules.specs.declared.rule.Rule.TheVariants as rule
use Rattle.cfg_rules.specs.Plan.{Construct}
use Rattle.cfg_edges.specs.Edges.{edges_within}
use Rattle.cfg_layer.specs.Kinds.{Kind, kind_of, function, primary, passed, call, short_circuit}
use Rattle.cfg_layer.specs.Kinds.{conditional, size_of, block, if_statement, while_loop, do_loop}
use Rattle.cfg_layer.specs.Kinds.{for_loop, switch_statement, jump_target, goto_jump, break_jump}
use Rattle.cfg_layer.specs.Kinds.{continue_jump, return_jump, unknown}
use Rattle.cfg_layer.specs.Tested.{argument_at, block_at, has_edge, is_break_of, is_continue_of}
use Rattle.cfg_layer.specs.Tested.{is_default_of, is_walked, leads_to, least_node, part_at}
use Rattle.cfg_layer.specs.Tested.{return_at}

-- Those of so many numbers, from this one on, that pass the test; and all such nodes.
unfoldable pub all_from : (ℕ → Bool) → ℕ → ℕ → List ℕ
all_from test x zero = []
all_from test x (suc count) =
    if test x then x ∷ all_from test (x + 1) count else all_from test (x + 1) count

abbrev pub all_nodes : PlainGraph → (ℕ → Bool) → List ℕ
all_nodes graph test = all_from test 0 (length graph.nodes)

-- Parts that are all there.
unfoldable pub present : List ℕ → List (Option ℕ)
present [] = []
present (part ∷ parts) = Some part ∷ present parts

-- So many parts, from the number k on.
unfoldable pub numbered_from : (ℕ → Option ℕ) → ℕ → ℕ → List (Option ℕ)
numbered_from part k zero = []
numbered_from part k (suc count) = part k ∷ numbered_from part (k + 1) count

abbrev pub children : PlainGraph → ℕ → List (Option ℕ)
children graph node = present (all_nodes graph (λ child. has_edge graph Ast node child))

abbrev pub numbered : PlainGraph → ℕ → ℕ → List (Option ℕ)
numbered graph node count = numbered_from (λ k. part_at graph k node) 1 count

abbrev pub arguments : PlainGraph → ℕ → ℕ → List (Option ℕ)
arguments graph node count = numbered_from (λ k. argument_at graph k node) 1 count

-- The parts of a node of this kind.
unfoldable pub parts_of : PlainGraph → ℕ → Kind → List (Option ℕ)
parts_of graph node function = []
parts_of graph node primary = []
parts_of graph node passed = []
parts_of graph node call = children graph node
parts_of graph node short_circuit = arguments graph node 2
parts_of graph node conditional = arguments graph node 3
parts_of graph node size_of = []
parts_of graph node block = children graph node
parts_of graph node if_statement = numbered graph node 3
parts_of graph node while_loop = numbered graph node 2
parts_of graph node do_loop = numbered graph node 2
parts_of graph node for_loop = numbered graph node 4
parts_of graph node switch_statement = numbered graph node 2
parts_of graph node jump_target = None ∷ part_at graph 2 node ∷ []
parts_of graph node goto_jump = []
parts_of graph node break_jump = []
parts_of graph node continue_jump = []
parts_of graph node return_jump = numbered graph node 1
parts_of graph node unknown = []

-- The one rule where something was found, and else the other.
abbrev pub rule_by : Option ℕ → Rule → Rule → Rule
rule_by (Some node) one other = one
rule_by None one other = other

-- The rule of a node of this kind.
unfoldable pub rule_of : PlainGraph → ℕ → ℕ → Kind → Rule
rule_of graph method node function = rule.Silent
rule_of graph method node primary = rule.Primary
rule_of graph method node passed = rule.Silent
rule_of graph method node call = rule.Call
rule_of graph method node short_circuit = rule.ShortCircuit
rule_of graph method node conditional = rule.Conditional
rule_of graph method node size_of = rule.SizeOf
rule_of graph method node block = rule.Block
rule_of graph method node if_statement = rule.If
rule_of graph method node while_loop = rule.While
rule_of graph method node do_loop = rule.Do
rule_of graph method node for_loop = rule_by (part_at graph 2 node) rule.For rule.Endless
rule_of graph method node switch_statement =
    rule_by (least_node graph (is_default_of graph method node)) rule.SwitchDefault rule.Switch
rule_of graph method node jump_target = rule.JumpTarget
rule_of graph method node goto_jump = rule.Goto
rule_of graph method node break_jump = rule.Break
rule_of graph method node continue_jump = rule.Continue
rule_of graph method node return_jump = rule.Return
rule_of graph method node unknown = rule.SwitchDefault

-- The construct of a walked node, of the function, and of any other node. Each knows where the
-- function ends.
abbrev pub walked_construct : PlainGraph → ℕ → ℕ → Kind → Construct
walked_construct graph method node kind = record {
  rule = rule_of graph method node kind;
  parts = parts_of graph node kind;
  targets = all_nodes graph (leads_to graph method node);
  method_return = return_at graph method;
  breaks = all_nodes graph (is_break_of graph method node);
  continues = all_nodes graph (is_continue_of graph method node);
}

abbrev pub function_construct : PlainGraph → ℕ → Construct
function_construct graph method = record {
  rule = rule.Method;
  parts = block_at graph method ∷ [];
  targets = [];
  method_return = return_at graph method;
  breaks = [];
  continues = [];
}

abbrev pub other_construct : PlainGraph → ℕ → Construct
other_construct graph method = record {
  rule = rule.Silent;
  parts = [];
  targets = [];
  method_return = return_at graph method;
  breaks = [];
  continues = [];
}

-- The construct of a node in the plan of the function.
unfoldable pub construct_of : PlainGraph → ℕ → ℕ → PlainNode → Construct
construct_of graph method number node =
    if number == method then function_construct graph method
    else (if is_walked graph method number then walked_construct graph method number (kind_of node)
    else other_construct graph method)

unfoldable pub plan_from : PlainGraph → ℕ → ℕ → List PlainNode → List Construct
plan_from graph method number [] = []
plan_from graph method number (node ∷ nodes) =
    construct_of graph method number node ∷ plan_from graph method (number + 1) nodes

-- The plan of the function.
abbrev pub plan_of : PlainGraph → ℕ → List Construct
plan_of graph method = plan_from graph method 0 graph.nodes

-- The edges along which control flows in it.
abbrev pub flow_of : PlainGraph → ℕ → List (ℕ × ℕ)
flow_of graph method = edges_within (length graph.nodes) (plan_of graph method)
