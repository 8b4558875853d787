-- Where a node stands (ours): what is above it in the tree that the AST edges make.
use Rattle.std.specs.Prelude.{ℕ, ◌≡◌, ◌⊎◌}
use Rattle.cpg_schema.specs.declared.label.Label.{Label}
use Rattle.cpg_schema.specs.declared.label.Label.TheVariants.{File, Method}
use Rattle.cpg_schema.specs.Graph.{PlainGraph}
use Rattle.cpg_schema.specs.Shape.{IsAbove}
use Rattle.graph_parts.specs.Parts.{IsChild, IsNodeWith, HasLabel}

-- The node is the top one, or stands below it.
abbrev pub IsIn : PlainGraph → ℕ → ℕ → Type 0
IsIn graph top node = (top ≡ node) ⊎ IsAbove graph.edges top node

-- The nearest node above that has this label: none with it stands between.
pub record IsNearestAbove (graph : PlainGraph) (label : Label) (node above : ℕ) : Type 0 where
  pub is_above : IsAbove graph.edges above node
  pub is_node : IsNodeWith graph (HasLabel label) above
  pub nearest : (between : ℕ) → IsAbove graph.edges above between →
      IsAbove graph.edges between node → ¬ IsNodeWith graph (HasLabel label) between

-- The METHOD in which a node stands: the nearest above it. That of a METHOD is the one around it.
abbrev pub IsMethodAbove : PlainGraph → ℕ → ℕ → Type 0
IsMethodAbove graph node method = IsNearestAbove graph Method node method

-- The root of the tree in which a node stands: no AST edge leads to it.
pub record IsRootOf (graph : PlainGraph) (node root : ℕ) : Type 0 where
  pub holds : IsIn graph root node
  pub top : (parent : ℕ) → ¬ IsChild graph parent root

-- The file of a node: the FILE that is the root of its tree. The schema lets no AST edge lead to a
-- FILE.
pub record IsFileOf (graph : PlainGraph) (node file : ℕ) : Type 0 where
  pub is_root : IsRootOf graph node file
  pub is_node : IsNodeWith graph (HasLabel File) file

-- A METHOD of a file.
pub record IsMethodOfFile (graph : PlainGraph) (file method : ℕ) : Type 0 where
  pub is_node : IsNodeWith graph (HasLabel Method) method
  pub file_is : IsFileOf graph method file
