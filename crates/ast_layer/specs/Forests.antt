-- The syntax layer of a file: the forest of each construct of its tree (Code Property Graph
-- specification 1.1, layer AST).
use Rattle.std.specs.Prelude.{ℕ, ◌+◌, List, [], ◌∷◌, Option, Some, None, slice_get}
use Rattle.graph_forest.specs.declared.hang.Hang.TheVariants.{Plain}
use Rattle.graph_forest.specs.Forest.{Forest, none, branch, leaf, beside}
use Rattle.c_tree.specs.declared.tree.Unit.{Unit}
use Rattle.c_tree.specs.declared.tree.Item.{Item}
use Rattle.c_tree.specs.declared.tree.Item.TheVariants as item
use Rattle.c_tree.specs.declared.tree.Specs.{Specs}
use Rattle.c_tree.specs.declared.tree.Spec.{Spec, out-Spec}
use Rattle.c_tree.specs.declared.tree.Declarator.{Declarator, out-Declarator}
use Rattle.c_tree.specs.declared.tree.Core.{out-Core}
use Rattle.c_tree.specs.declared.tree.BaseForm.TheOpen as o
use Rattle.c_tree.specs.declared.tree.Block.{Block}
use Rattle.c_tree.specs.declared.tree.BlockItem.{BlockItem, out-BlockItem}
use Rattle.c_tree.specs.declared.tree.BlockItem.TheOpen as s
use Rattle.c_tree.specs.declared.tree.StmtKind.{out-StmtKind}
use Rattle.c_tree.specs.declared.tree.Expr.{out-Expr}
use Rattle.c_tree.specs.Folds.{OpenBlockItem, OpenCore, OpenSpec, OpenStmtKind}
use Rattle.c_tree.specs.declared.tree.Assign.{Assign}
use Rattle.graph_forest.specs.declared.rank.Rank.{Rank}
use Rattle.ast_layer.specs.Source.{File}
use Rattle.ast_layer.specs.Grouping.{Grouped, Operand, Joined, first_token, grouped_assign}
use Rattle.graph_forest.specs.Ranks.{child, argument}
use Rattle.ast_layer.specs.Nodes.{global_method, global_block, global_return}
use Rattle.ast_layer.specs.Nodes.{method_node, block_node, return_node, call_node, operand_node}

-- ---- Expressions (6.5)

-- An operand is a leaf. An operator is a CALL, whose children are its two sides as arguments.
abbrev pub grouped_forest : File → Rank → Grouped → Forest
grouped_forest file rank (Operand operand) = leaf rank.hang (operand_node file operand rank)
grouped_forest file rank (Joined operator left right) =
    branch rank.hang (call_node file operator (first_token left) rank)
    (beside (grouped_forest file (argument 1) left) (grouped_forest file (argument 2) right))

-- ---- Statements (6.8)

-- The parts of a statement's expression; this version reads one (6.8.3). Ours: the other statements
-- have none, and this version reads none of them.
abbrev pub kind_parts : OpenStmtKind → List Assign
kind_parts (s.StmtKind-F.Empty marks) = []
kind_parts (s.StmtKind-F.Value expr marks) = (out-Expr expr).parts
kind_parts (s.StmtKind-F.Braced block) = []
kind_parts (s.StmtKind-F.If arms other marks) = []
kind_parts (s.StmtKind-F.While expr body marks) = []
kind_parts (s.StmtKind-F.DoWhile body expr marks) = []
kind_parts (s.StmtKind-F.For init cond step body marks) = []
kind_parts (s.StmtKind-F.Switch expr body marks) = []
kind_parts (s.StmtKind-F.Break marks) = []
kind_parts (s.StmtKind-F.Continue marks) = []
kind_parts (s.StmtKind-F.Goto name marks) = []
kind_parts (s.StmtKind-F.Return expr marks) = []

-- The same, of an item of a body. A declaration has none, and this version reads none.
abbrev pub open_parts : OpenBlockItem → List Assign
open_parts (s.BlockItem-F.Declare declaration) = []
open_parts (s.BlockItem-F.Do stmt) = kind_parts (out-StmtKind stmt.kind)

-- The same, of an item as it stands in a tree.
abbrev pub item_parts : BlockItem → List Assign
item_parts item = open_parts (out-BlockItem item)

-- How the first part is grouped, if there is one.
abbrev pub grouped_part : Option Assign → Option Grouped
grouped_part None = None
grouped_part (Some part) = Some (grouped_assign part)

-- The expression of a statement.
abbrev pub statement : BlockItem → Option Grouped
statement item = grouped_part (slice_get (item_parts item) 0)

-- What a statement has, if anything, before what the others have.
abbrev pub and_then : Option Grouped → List Grouped → List Grouped
and_then None rest = rest
and_then (Some grouped) rest = grouped ∷ rest

-- The expressions of statements. A statement without one has no node, and no rank among the
-- children of its BLOCK.
abbrev pub expressions : List BlockItem → List Grouped
expressions [] = []
expressions (item ∷ items) = and_then (statement item) (expressions items)

-- The children of a BLOCK, with ranks from `order` on (6.8.2).
abbrev pub children_forest : File → ℕ → List Grouped → Forest
children_forest file order [] = none
children_forest file order (first ∷ rest) =
    beside (grouped_forest file (child order) first) (children_forest file (order + 1) rest)

-- A BLOCK, whose children are its statements.
abbrev pub block_forest : File → Block → Forest
block_forest file block =
    branch Plain (block_node file (slice_get block.marks 0))
    (children_forest file 1 (expressions block.items))

-- ---- Functions (6.9.1)

-- The token of the name that stands in the core of a declarator.
abbrev pub core_token : OpenCore → Option ℕ
core_token (o.Core-F.Core::Name token) = Some token
core_token (o.Core-F.Core::Group declarator marks) = None
core_token o.Core-F.Empty = None

-- The token of the name that a declarator declares.
abbrev pub name_token : Declarator → Option ℕ
name_token declarator = core_token (out-Core (out-Declarator declarator).core)

-- The token of a type specifier of one keyword; this version reads one in each list, and no other
-- specifier.
abbrev pub spec_token : OpenSpec → Option ℕ
spec_token (o.Spec-F.Storage token) = None
spec_token (o.Spec-F.Function token) = None
spec_token (o.Spec-F.Qualifier token) = None
spec_token (o.Spec-F.Basic token) = Some token
spec_token (o.Spec-F.Named token) = None
spec_token (o.Spec-F.Atomic type_name marks) = None
spec_token (o.Spec-F.AlignType type_name marks) = None
spec_token (o.Spec-F.AlignExpr expr marks) = None
spec_token (o.Spec-F.Record kind tag body marks) = None
spec_token (o.Spec-F.Enumeration kind tag body marks) = None

-- The token of the specifier, if there is one.
abbrev pub first_spec : Option Spec → Option ℕ
first_spec None = None
first_spec (Some spec) = spec_token (out-Spec spec)

-- The token of the first type specifier, if there is one.
abbrev pub type_token : Specs → Option ℕ
type_token specs = first_spec (slice_get specs.words 0)

-- A METHOD, whose children are the BLOCK of its body and its METHOD_RETURN. Ours: a declaration, of
-- which this version reads none, has no node.
abbrev pub function_forest : File → ℕ → Item → Forest
function_forest file order (item.Define specs declarator body) =
    branch Plain (method_node file (name_token declarator) order)
    (beside (block_forest file body)
    (leaf Plain (return_node file (name_token declarator) (type_token specs))))
function_forest file order (item.Declare declaration) = none

-- ---- Files (6.9)

-- Functions, with ranks from `order` on among the children of the BLOCK of `<global>`.
abbrev pub functions_forest : File → ℕ → List Item → Forest
functions_forest file order [] = none
functions_forest file order (item ∷ items) =
    beside (function_forest file order item) (functions_forest file (order + 1) items)

-- The BLOCK of `<global>`, whose children are the functions.
abbrev pub global_forest : File → List Item → Forest
global_forest file items = branch Plain global_block (functions_forest file 1 items)

-- The METHOD `<global>` of a file whose tree is the unit. Its children are the BLOCK that holds the
-- functions, and its METHOD_RETURN.
abbrev pub file_forest : File → Unit → Forest
file_forest file unit =
    branch Plain (global_method file)
    (beside (global_forest file unit.items) (leaf Plain global_return))
