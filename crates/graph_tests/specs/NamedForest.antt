-- The forest over which named parts are tested: a file with `int f(int p) { g(a, 1); }`.
use Rattle.std.specs.Prelude.{ℕ, Some}
use Rattle.cpg_schema.specs.declared.label.Label.{Label}
use Rattle.cpg_schema.specs.declared.label.Label.TheVariants.{File, NamespaceBlock, Method}
use Rattle.cpg_schema.specs.declared.label.Label.TheVariants.{MethodParameterIn, MethodReturn}
use Rattle.cpg_schema.specs.declared.label.Label.TheVariants.{Block, Call, Identifier, Literal}
use Rattle.cpg_schema.specs.Graph.{PlainNode, bare_node}
use Rattle.graph_forest.specs.declared.hang.Hang.TheVariants.{Plain, Argument}
use Rattle.graph_forest.specs.Forest.{Forest, beside, branch, leaf}

-- A node with its ORDER alone, and an argument whose ARGUMENT_INDEX is its ORDER.
abbrev pub ordered : Label → ℕ → PlainNode
ordered label order = record (bare_node label) { order = Some order }

abbrev pub argument_node : Label → ℕ → PlainNode
argument_node label order =
    record (bare_node label) { order = Some order; argument_index = Some order }

-- The call, the METHOD `f`, that of the file, and the file.
abbrev pub call_forest : Forest
call_forest =
    branch Plain (ordered Call 1)
    (beside (leaf (Argument 1) (argument_node Identifier 1))
    (leaf (Argument 2) (argument_node Literal 2)))

abbrev pub method_forest : Forest
method_forest =
    branch Plain (ordered Method 1)
    (beside (leaf Plain (ordered MethodParameterIn 1))
    (beside (branch Plain (ordered Block 2) call_forest) (leaf Plain (ordered MethodReturn 3))))

abbrev pub global_forest : Forest
global_forest =
    branch Plain (ordered Method 1)
    (beside (branch Plain (ordered Block 1) method_forest) (leaf Plain (ordered MethodReturn 2)))

abbrev pub named_forest : Forest
named_forest =
    branch Plain (ordered File 1) (branch Plain (ordered NamespaceBlock 1) global_forest)
