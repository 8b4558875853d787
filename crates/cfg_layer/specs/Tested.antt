-- The parts, the walk and the jumps of a function, tested (ours): what a definition that computes
-- the plan takes them from.
use Rattle.std.specs.Prelude.{ℕ, zero, suc, ◌+◌, ◌==◌, Bool, ◌&&◌, ◌||◌, List, [], ◌∷◌}
use Rattle.std.specs.Prelude.{Option, Some, None, length, slice_get, codes, nat_eq, not}
use Rattle.std.specs.Prelude.{if◌then◌else◌}
use Rattle.std.specs.Str.{bytes_eq}
use Rattle.cpg_schema.specs.declared.label.Label.{Label}
use Rattle.cpg_schema.specs.declared.label.Label.TheVariants as label
use Rattle.cpg_schema.specs.declared.edge_kind.EdgeKind.{EdgeKind}
use Rattle.cpg_schema.specs.declared.edge_kind.EdgeKind.TheVariants.{Ast, Argument}
use Rattle.cpg_schema.specs.Names.{kind_rank}
use Rattle.cpg_schema.specs.Graph.{PlainEdge, PlainGraph, PlainNode}
use Rattle.cfg_edges.specs.Reaching.{reaches}
use Rattle.cfg_layer.specs.Kinds.{Kind, kind_of, function, primary, passed, call, short_circuit}
use Rattle.cfg_layer.specs.Kinds.{conditional, size_of, block, if_statement, while_loop, do_loop}
use Rattle.cfg_layer.specs.Kinds.{for_loop, switch_statement, jump_target, goto_jump, break_jump}
use Rattle.cfg_layer.specs.Kinds.{continue_jump, return_jump, unknown}

-- ---- Edges and nodes.

-- One of the edges passes the test.
unfoldable pub some_edge : (PlainEdge → Bool) → List PlainEdge → Bool
some_edge test [] = Bool.false
some_edge test (edge ∷ edges) = test edge || some_edge test edges

abbrev pub is_edge : EdgeKind → ℕ → ℕ → PlainEdge → Bool
is_edge kind from to edge =
    (kind_rank edge.kind == kind_rank kind) && ((edge.from == from) && (edge.to == to))

abbrev pub has_edge : PlainGraph → EdgeKind → ℕ → ℕ → Bool
has_edge graph kind from to = some_edge (is_edge kind from to) graph.edges

-- The node of this number passes the test.
abbrev pub passes : (PlainNode → Bool) → Option PlainNode → Bool
passes test None = Bool.false
passes test (Some node) = test node

abbrev pub node_passes : PlainGraph → (PlainNode → Bool) → ℕ → Bool
node_passes graph test number = passes test (slice_get graph.nodes number)

-- The least of so many numbers, from this one on, that passes the test; and the least node.
unfoldable pub least_from : (ℕ → Bool) → ℕ → ℕ → Option ℕ
least_from test x zero = None
least_from test x (suc count) = if test x then Some x else least_from test (x + 1) count

abbrev pub least_node : PlainGraph → (ℕ → Bool) → Option ℕ
least_node graph test = least_from test 0 (length graph.nodes)

-- An optional number is this one, an optional name this one.
abbrev pub is_number : ℕ → Option ℕ → Bool
is_number number None = Bool.false
is_number number (Some other) = other == number

abbrev pub is_name : List ℕ → Option (List ℕ) → Bool
is_name name None = Bool.false
is_name name (Some other) = bytes_eq other name

-- ---- Kinds.

abbrev pub kind_number : Kind → ℕ
kind_number function = 0
kind_number primary = 1
kind_number passed = 2
kind_number call = 3
kind_number short_circuit = 4
kind_number conditional = 5
kind_number size_of = 6
kind_number block = 7
kind_number if_statement = 8
kind_number while_loop = 9
kind_number do_loop = 10
kind_number for_loop = 11
kind_number switch_statement = 12
kind_number jump_target = 13
kind_number goto_jump = 14
kind_number break_jump = 15
kind_number continue_jump = 16
kind_number return_jump = 17
kind_number unknown = 18

abbrev pub is_kind : Kind → PlainNode → Bool
is_kind kind node = kind_number (kind_of node) == kind_number kind

abbrev pub is_loop : PlainNode → Bool
is_loop node = is_kind while_loop node || (is_kind do_loop node || is_kind for_loop node)

abbrev pub is_loop_or_switch : PlainNode → Bool
is_loop_or_switch node = is_loop node || is_kind switch_statement node

abbrev pub is_passed_over : PlainNode → Bool
is_passed_over node = is_kind passed node || is_kind function node

abbrev pub is_target_named : List ℕ → PlainNode → Bool
is_target_named name node = is_kind jump_target node && is_name name node.name

abbrev pub is_default : PlainNode → Bool
is_default node = is_target_named (codes "default") node

abbrev pub is_case_or_default : PlainNode → Bool
is_case_or_default node = is_target_named (codes "case") node || is_default node

-- The labels of a METHOD and of its children.
abbrev pub is_method_label : Label → Bool
is_method_label label.Method = Bool.true
is_method_label _ = Bool.false

abbrev pub is_block_label : Label → Bool
is_block_label label.Block = Bool.true
is_block_label _ = Bool.false

abbrev pub is_return_label : Label → Bool
is_return_label label.MethodReturn = Bool.true
is_return_label _ = Bool.false

abbrev pub is_method : PlainNode → Bool
is_method node = is_method_label node.label

abbrev pub is_block : PlainNode → Bool
is_block node = is_block_label node.label

abbrev pub is_method_return : PlainNode → Bool
is_method_return node = is_return_label node.label

-- ---- Parts.

abbrev pub is_child_with : PlainGraph → (PlainNode → Bool) → ℕ → ℕ → Bool
is_child_with graph test parent child =
    has_edge graph Ast parent child && node_passes graph test child

-- Part k of a node, the child of a METHOD that is its BLOCK or its METHOD_RETURN, argument i.
abbrev pub part_at : PlainGraph → ℕ → ℕ → Option ℕ
part_at graph k parent =
    least_node graph (λ child. is_child_with graph (λ node. is_number k node.order) parent child)

abbrev pub block_at : PlainGraph → ℕ → Option ℕ
block_at graph parent = least_node graph (λ child. is_child_with graph is_block parent child)

abbrev pub return_at : PlainGraph → ℕ → Option ℕ
return_at graph parent =
    least_node graph (λ child. is_child_with graph is_method_return parent child)

abbrev pub argument_at : PlainGraph → ℕ → ℕ → Option ℕ
argument_at graph i parent = least_node graph (λ child.
    has_edge graph Ast parent child
    && (has_edge graph Argument parent child
    && node_passes graph (λ node. is_number i node.argument_index) child))

-- ---- The walk.

abbrev pub is_unevaluated : PlainGraph → ℕ → ℕ → Bool
is_unevaluated graph parent node =
    node_passes graph (is_kind size_of) parent
    || (node_passes graph (is_kind jump_target) parent && is_number node (part_at graph 1 parent))

abbrev pub is_ast : PlainEdge → Bool
is_ast edge = kind_rank edge.kind == kind_rank Ast

abbrev pub is_step : PlainGraph → PlainEdge → Bool
is_step graph edge =
    is_ast edge
    && (not (node_passes graph is_passed_over edge.from)
    && not (is_unevaluated graph edge.from edge.to))

-- From where to where the edges that pass the test lead.
unfoldable pub steps_by : (PlainEdge → Bool) → List PlainEdge → List (ℕ × ℕ)
steps_by test [] = []
steps_by test (edge ∷ edges) =
    if test edge then (edge.from, edge.to) ∷ steps_by test edges else steps_by test edges

-- From a walked node to its children that are walked.
abbrev pub steps_down : PlainGraph → List (ℕ × ℕ)
steps_down graph = steps_by (is_step graph) graph.edges

abbrev pub is_walked_from : PlainGraph → Option ℕ → ℕ → Bool
is_walked_from graph None node = Bool.false
is_walked_from graph (Some body) node = reaches nat_eq (steps_down graph) body node

unfoldable pub is_walked : PlainGraph → ℕ → ℕ → Bool
is_walked graph method node = is_walked_from graph (block_at graph method) node

-- ---- What is around a node.

abbrev pub ast_steps : PlainGraph → List (ℕ × ℕ)
ast_steps graph = steps_by is_ast graph.edges

-- A step leads from the ancestor to a node from which steps lead to this one, none or more.
unfoldable pub leads_down : List (ℕ × ℕ) → List (ℕ × ℕ) → ℕ → ℕ → Bool
leads_down [] all ancestor node = Bool.false
leads_down (step ∷ steps) all ancestor node =
    ((step.0 == ancestor) && reaches nat_eq all step.1 node) || leads_down steps all ancestor node

unfoldable pub is_above : PlainGraph → ℕ → ℕ → Bool
is_above graph ancestor node = leads_down (ast_steps graph) (ast_steps graph) ancestor node

abbrev pub is_none : Option ℕ → Bool
is_none None = Bool.true
is_none (Some x) = Bool.false

-- A node with the property stands between the two.
abbrev pub is_between : PlainGraph → (PlainNode → Bool) → ℕ → ℕ → ℕ → Bool
is_between graph test node around between =
    is_above graph around between && (is_above graph between node && node_passes graph test between)

unfoldable pub is_innermost : PlainGraph → (PlainNode → Bool) → ℕ → ℕ → Bool
is_innermost graph test node around =
    is_above graph around node
    && (node_passes graph test around
    && is_none (least_node graph (is_between graph test node around)))

-- ---- Jumps.

abbrev pub is_label_in : PlainGraph → ℕ → List ℕ → ℕ → Bool
is_label_in graph method name target =
    node_passes graph (is_target_named name) target && is_innermost graph is_method target method

-- The JUMP_TARGET of a NAME in a function.
abbrev pub label_in : PlainGraph → ℕ → List ℕ → Option ℕ
label_in graph method name = least_node graph (is_label_in graph method name)

abbrev pub is_label_of : PlainGraph → ℕ → ℕ → Option (List ℕ) → Bool
is_label_of graph method target None = Bool.false
is_label_of graph method target (Some name) = is_number target (label_in graph method name)

unfoldable pub leads_to_label : PlainGraph → ℕ → ℕ → ℕ → Bool
leads_to_label graph method node target =
    node_passes graph (λ at. is_kind goto_jump at && is_label_of graph method target at.name) node
    && is_walked graph method target

-- A walked node with the property, of which the other is the innermost around it with its own.
unfoldable pub belongs : PlainGraph → ℕ → (PlainNode → Bool) → (PlainNode → Bool) → ℕ → ℕ → Bool
belongs graph method test outer node around =
    is_walked graph method node
    && (node_passes graph test node && is_innermost graph outer node around)

abbrev pub leads_to_case : PlainGraph → ℕ → ℕ → ℕ → Bool
leads_to_case graph method node target =
    belongs graph method is_case_or_default (is_kind switch_statement) target node

abbrev pub is_default_of : PlainGraph → ℕ → ℕ → ℕ → Bool
is_default_of graph method node target =
    belongs graph method is_default (is_kind switch_statement) target node

abbrev pub leads_to : PlainGraph → ℕ → ℕ → ℕ → Bool
leads_to graph method node target =
    leads_to_label graph method node target || leads_to_case graph method node target

abbrev pub is_break_of : PlainGraph → ℕ → ℕ → ℕ → Bool
is_break_of graph method node jump =
    belongs graph method (is_kind break_jump) is_loop_or_switch jump node

abbrev pub is_continue_of : PlainGraph → ℕ → ℕ → ℕ → Bool
is_continue_of graph method node jump =
    belongs graph method (is_kind continue_jump) is_loop jump node
