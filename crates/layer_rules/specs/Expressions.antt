-- The forest of each construct of expressions (C11 6.5).
use Rattle.std.specs.Prelude.{ℕ, ◌+◌, List, [], Option, Some, None, codes}
use Rattle.graph_forest.specs.declared.rank.Rank.{Rank}
use Rattle.graph_forest.specs.Ranks.{argument, pointer_argument}
use Rattle.graph_forest.specs.Forest.{Forest, none, branch, leaf, beside}
use Rattle.layer_rules.specs.Files.{File, kind_at, spelling_at}
use Rattle.layer_rules.specs.Operators.{operator, infix_operators, prefix_operators}
use Rattle.layer_rules.specs.Operators.{key_operators, postfix_operators, kind_operator}
use Rattle.layer_rules.specs.Nodes.{identifier_node, literal_node, field_node, type_node}
use Rattle.layer_rules.specs.Nodes.{call_node}
use Rattle.layer_rules.specs.Records.{bodies_forest}
use Rattle.layer_rules.specs.Terms.{NamedType, Term, Terms, Name, Literal, Parens, Subscript, Call}
use Rattle.layer_rules.specs.Terms.{Dot, Arrow, Postfix, CompoundLiteral, Prefix, SizeOfType, Cast}
use Rattle.layer_rules.specs.Terms.{Infix, Conditional, Comma, Initialisers, no_terms, Argument}
use Rattle.layer_rules.specs.Terms.{first_token, sole_name}

-- The name of an operator between two operands, and those of one before and one behind its operand.
abbrev pub infix_name : File → ℕ → Option (List ℕ)
infix_name file token = kind_operator infix_operators [] (kind_at file token)

abbrev pub prefix_name : File → ℕ → Option (List ℕ)
prefix_name file token = kind_operator prefix_operators key_operators (kind_at file token)

abbrev pub postfix_name : File → ℕ → Option (List ℕ)
postfix_name file token = kind_operator postfix_operators [] (kind_at file token)

-- The TYPE_REF of a type name, whose children are the TYPE_DECLs of bodies in it.
abbrev pub type_forest : File → Rank → NamedType → Forest
type_forest file rank type =
    branch rank.hang (type_node file type.first type.text rank) (bodies_forest file 1 type.bodies)

-- A CALL of an operator with this name, whose arguments are this forest.
abbrev pub operator_forest : File → Rank → Option (List ℕ) → Term → Forest → Forest
operator_forest file rank name term arguments =
    branch rank.hang (call_node file name (first_token term) rank) arguments

-- The call of a name is a CALL with that NAME and its arguments from 1 on. Any other is a call
-- through a pointer, whose callee is argument 0 and its first child.
abbrev pub call_forest : File → Rank → Option ℕ → Term → Forest → Forest → Forest → Forest
call_forest file rank (Some name) term callee by_name by_pointer =
    branch rank.hang
    (call_node file (Some (spelling_at file (Some name))) (first_token term) rank) by_name
call_forest file rank None term callee by_name by_pointer =
    operator_forest file rank (Some (operator "pointerCall")) term
    (beside callee by_pointer)

abbrev mutual
  pub term_forest : File → Rank → Term → Forest
  -- A name is an IDENTIFIER, a constant or string literals a LITERAL. Parentheses have no node.
  term_forest file rank (Name token) = leaf rank.hang (identifier_node file token rank)
  term_forest file rank (Literal tokens) = leaf rank.hang (literal_node file tokens rank)
  term_forest file rank (Parens opening inner) = term_forest file rank inner
  -- Each operator is a CALL with its operands as arguments.
  term_forest file rank (Subscript array index) =
      operator_forest file rank (Some (operator "indexAccess")) (Subscript array index)
      (beside (term_forest file (argument 1) array) (term_forest file (argument 2) index))
  term_forest file rank (Call callee arguments) =
      call_forest file rank (sole_name callee) callee
      (term_forest file (pointer_argument 0) callee)
      (terms_forest file argument 1 arguments) (terms_forest file pointer_argument 1 arguments)
  term_forest file rank (Dot operand member) =
      operator_forest file rank (Some (operator "fieldAccess")) (Dot operand member)
      (beside (term_forest file (argument 1) operand)
      (leaf (argument 2).hang (field_node file member (argument 2))))
  term_forest file rank (Arrow operand member) =
      operator_forest file rank (Some (operator "indirectFieldAccess"))
      (Arrow operand member)
      (beside (term_forest file (argument 1) operand)
      (leaf (argument 2).hang (field_node file member (argument 2))))
  term_forest file rank (Postfix operand token) =
      operator_forest file rank (postfix_name file token) (Postfix operand token)
      (term_forest file (argument 1) operand)
  term_forest file rank (CompoundLiteral opening type list) =
      operator_forest file rank (Some (operator "compoundLiteral"))
      (CompoundLiteral opening type list)
      (beside (type_forest file (argument 1) type) (term_forest file (argument 2) list))
  term_forest file rank (Prefix token operand) =
      operator_forest file rank (prefix_name file token) (Prefix token operand)
      (term_forest file (argument 1) operand)
  term_forest file rank (SizeOfType token type) =
      operator_forest file rank (prefix_name file token) (SizeOfType token type)
      (type_forest file (argument 1) type)
  term_forest file rank (Cast opening type operand) =
      operator_forest file rank (Some (operator "cast")) (Cast opening type operand)
      (beside (type_forest file (argument 1) type) (term_forest file (argument 2) operand))
  term_forest file rank (Infix token left right) =
      operator_forest file rank (infix_name file token) (Infix token left right)
      (beside (term_forest file (argument 1) left) (term_forest file (argument 2) right))
  term_forest file rank (Conditional test then other) =
      operator_forest file rank (Some (operator "conditional"))
      (Conditional test then other)
      (beside (term_forest file (argument 1) test)
      (beside (term_forest file (argument 2) then) (term_forest file (argument 3) other)))
  term_forest file rank (Comma left right) =
      operator_forest file rank (Some (operator "comma")) (Comma left right)
      (beside (term_forest file (argument 1) left) (term_forest file (argument 2) right))
  -- An initialiser list is a CALL with its items as arguments. Designators have no node.
  term_forest file rank (Initialisers brace items) =
      operator_forest file rank (Some (operator "arrayInitializer"))
      (Initialisers brace items) (terms_forest file argument 1 items)

  -- Arguments, with indexes from `index` on.
  pub terms_forest : File → (ℕ → Rank) → ℕ → Terms → Forest
  terms_forest file rank_of index no_terms = none
  terms_forest file rank_of index (Argument term more) =
      beside (term_forest file (rank_of index) term) (terms_forest file rank_of (index + 1) more)
