-- Functions and files (C11 6.9), and their forests.
use Rattle.std.specs.Prelude.{ℕ, ◌+◌, Bool, List, [], ◌∷◌, length, Option}
use Rattle.graph_forest.specs.declared.hang.Hang.TheVariants.{Plain}
use Rattle.graph_forest.specs.Ranks.{child}
use Rattle.graph_forest.specs.Forest.{Forest, none, branch, leaf, beside}
use Rattle.layer_rules.specs.Files.{File}
use Rattle.layer_rules.specs.Nodes.{parameter_node, method_node, return_node, global_method}
use Rattle.layer_rules.specs.Nodes.{global_block, global_return, block_node}
use Rattle.layer_rules.specs.Records.{Body, bodies_forest}
use Rattle.layer_rules.specs.Statements.{Declared, Items, declared_forest, items_forest}

-- A parameter (6.7.6.3): the token of its name, if it has one, its first token, its type text, the
-- records and enumerations with a body among its specifiers; and whether it is `void` alone.
pub record Parameter : Type 0 where
  pub name : Option ℕ
  pub first : Option ℕ
  pub text : List ℕ
  pub bodies : List Body
  pub is_void : Bool

-- A function (6.9.1): its name, whether its linkage is internal, its parameters, the `{` of its
-- body and what stands in it, and the type text of what it returns.
pub record Defined : Type 0 where
  pub name : Option ℕ
  pub internal : Bool
  pub parameters : List Parameter
  pub brace : Option ℕ
  pub items : Items
  pub text : List ℕ

-- What a file holds.
pub data External : Type 0 where
  Defines : Defined → External
  HasDeclared : Declared → External

-- METHOD_PARAMETER_INs, with ranks from `order` on. Their children are the TYPE_DECLs of bodies.
abbrev pub parameters_forest : File → ℕ → List Parameter → Forest
parameters_forest file order [] = none
parameters_forest file order (first ∷ parameters) =
    beside (branch Plain (parameter_node file first.name first.first first.text order)
    (bodies_forest file 1 first.bodies)) (parameters_forest file (order + 1) parameters)

-- A METHOD, whose children are its parameters, the BLOCK of its body and its METHOD_RETURN.
abbrev pub function_forest : File → ℕ → Defined → Forest
function_forest file order function =
    branch Plain (method_node file function.name function.internal order)
    (beside (parameters_forest file 1 function.parameters)
    (beside
    (branch Plain
    (block_node file function.brace (child (length function.parameters + 1)))
    (items_forest file 1 function.items))
    (leaf Plain
    (return_node file function.name function.text (length function.parameters + 2)))))

abbrev pub external_forest : File → ℕ → External → Forest
external_forest file order (Defines function) = function_forest file order function
external_forest file order (HasDeclared declared) = declared_forest file order declared

-- What a file holds, with ranks from `order` on.
abbrev pub externals_forest : File → ℕ → List External → Forest
externals_forest file order [] = none
externals_forest file order (first ∷ externals) =
    beside (external_forest file order first) (externals_forest file (order + 1) externals)

-- The METHOD `<global>` of a file. Its children are the BLOCK of what the file holds, and its
-- METHOD_RETURN.
abbrev pub global_forest : File → List External → Forest
global_forest file externals =
    branch Plain (global_method file)
    (beside (branch Plain global_block (externals_forest file 1 externals))
    (leaf Plain global_return))
