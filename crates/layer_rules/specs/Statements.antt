-- The constructs of declarations and statements in a block (C11 6.7, 6.8), and their forests.
use Rattle.std.specs.Prelude.{ℕ, ◌+◌, Option, Some, None, List, codes}
use Rattle.graph_forest.specs.declared.hang.Hang.TheVariants.{Plain}
use Rattle.graph_forest.specs.declared.rank.Rank.{Rank}
use Rattle.graph_forest.specs.Ranks.{child, condition, argument}
use Rattle.graph_forest.specs.Forest.{Forest, none, branch, leaf, beside}
use Rattle.layer_rules.specs.Files.{File}
use Rattle.layer_rules.specs.Operators.{operator}
use Rattle.layer_rules.specs.Nodes.{typedef_node, reference_node, local_node, identifier_node}
use Rattle.layer_rules.specs.Nodes.{call_node, block_node, control_node, goto_node, target_node}
use Rattle.layer_rules.specs.Nodes.{leave_node}
use Rattle.layer_rules.specs.Records.{Body, body_forest}
use Rattle.layer_rules.specs.Terms.{Term}
use Rattle.layer_rules.specs.Expressions.{term_forest}

-- ---- Declarations

-- What a declaration has: a record or an enumeration with a body; a typedef (6.7.8), a function
-- (6.7.6.3) or an object, by the name's token and the type text; and the initialiser of an object
-- of this name (6.7.9).
pub data Declared : Type 0 where
  WithBody : (body : Body) → Declared
  Typedef : (name : Option ℕ) → (text : List ℕ) → Declared
  Function : (name : Option ℕ) → Declared
  Object : (name : Option ℕ) → (text : List ℕ) → Declared
  Initialised : (name : ℕ) → (value : Term) → Declared

-- The assignment that an initialiser is: its CALL has the line of the name.
abbrev pub assignment_forest : File → Rank → ℕ → Term → Forest
assignment_forest file rank name value =
    branch rank.hang
    (call_node file (Some (operator "assignment")) (Some name) rank)
    (beside (leaf (argument 1).hang (identifier_node file name (argument 1)))
    (term_forest file (argument 2) value))

-- A body and a typedef are a TYPE_DECL, a function is a METHOD_REF, an object a LOCAL.
abbrev pub declared_forest : File → ℕ → Declared → Forest
declared_forest file order (WithBody body) = body_forest file order body
declared_forest file order (Typedef name text) = leaf Plain (typedef_node file name text order)
declared_forest file order (Function name) = leaf Plain (reference_node file name order)
declared_forest file order (Object name text) = leaf Plain (local_node file name text order)
declared_forest file order (Initialised name value) =
    assignment_forest file (child order) name value

-- ---- Statements

-- A label (6.8.1): the label's name, `case` or `default`, and the expression of a `case`.
pub record Target : Type 0 where
  pub token : Option ℕ
  pub value : Option Term

-- A keyword or a `{` is the number of its token.
mutual
  pub data Statement : Type 0 where
    -- A null statement (6.8.3), or a part that is left out.
    Nothing : Statement
    Labelled : (target : Target) → (statement : Statement) → Statement
    -- 6.8.2, and what a `for` declares, which begins with the declaration's first token.
    Compound : (first : Option ℕ) → (items : Items) → Statement
    -- 6.8.3.
    Value : (term : Term) → Statement
    -- 6.8.4.
    If : (key : Option ℕ) → (test : Term) → (body other : Statement) → Statement
    Switch : (key : Option ℕ) → (test : Term) → (body : Statement) → Statement
    -- 6.8.5.
    While : (key : Option ℕ) → (test : Term) → (body : Statement) → Statement
    Do : (key : Option ℕ) → (body : Statement) → (test : Term) → Statement
    For : (key : Option ℕ) → (first : Statement) → (test step : Option Term) →
        (body : Statement) → Statement
    -- 6.8.6.
    Goto : (key : Option ℕ) → (target : ℕ) → Statement
    Continue : (key : Option ℕ) → Statement
    Break : (key : Option ℕ) → Statement
    Return : (key : Option ℕ) → (value : Option Term) → Statement

  -- What stands in a block.
  pub data Items : Type 0 where
    no_items : Items
    Does : (statement : Statement) → (more : Items) → Items
    Declares : (declared : Declared) → (more : Items) → Items

-- What stands in one place and then what stands in another.
abbrev pub items_beside : Items → Items → Items
items_beside no_items second = second
items_beside (Does statement more) second = Does statement (items_beside more second)
items_beside (Declares declared more) second = Declares declared (items_beside more second)

-- How many nodes a statement has among the children of the construct around it.
abbrev pub places : Statement → ℕ
places Nothing = 0
places _ = 1

-- An expression, where it is there.
abbrev pub optional_forest : File → Rank → Option Term → Forest
optional_forest file rank None = none
optional_forest file rank (Some term) = term_forest file rank term

-- A CONTROL_STRUCTURE of this type, whose parts are this forest. A part's ORDER is fixed by the
-- construct, and stays unused where the part is left out or has no node.
abbrev pub control_forest : File → Rank → List ℕ → Option ℕ → Forest → Forest
control_forest file rank type key parts =
    branch rank.hang (control_node file type key rank) parts

abbrev mutual
  pub statement_forest : File → Rank → Statement → Forest
  statement_forest file rank Nothing = none
  -- A JUMP_TARGET: part 1 is the expression of a `case`, and part 2 the statement.
  statement_forest file rank (Labelled target statement) =
      branch rank.hang (target_node file target.token rank)
      (beside (optional_forest file (child 1) target.value)
      (statement_forest file (child 2) statement))
  -- A BLOCK.
  statement_forest file rank (Compound first items) =
      branch rank.hang (block_node file first rank) (items_forest file 1 items)
  statement_forest file rank (Value term) = term_forest file rank term
  -- IF, SWITCH and WHILE: the condition is part 1 and the body part 2. What stands after `else` is
  -- part 3 of an IF; it may be a further IF.
  statement_forest file rank (If key test body other) =
      control_forest file rank (codes "IF") key
      (beside (term_forest file (condition 1) test)
      (beside (statement_forest file (child 2) body) (statement_forest file (child 3) other)))
  statement_forest file rank (Switch key test body) =
      control_forest file rank (codes "SWITCH") key
      (beside (term_forest file (condition 1) test) (statement_forest file (child 2) body))
  statement_forest file rank (While key test body) =
      control_forest file rank (codes "WHILE") key
      (beside (term_forest file (condition 1) test) (statement_forest file (child 2) body))
  -- DO: the body is part 1, and the condition part 2.
  statement_forest file rank (Do key body test) =
      control_forest file rank (codes "DO") key
      (beside (statement_forest file (child 1) body) (term_forest file (condition 2) test))
  -- FOR: what stands before the first `;` is part 1, the condition part 2, the third expression
  -- part 3, and the body part 4.
  statement_forest file rank (For key first test step body) =
      control_forest file rank (codes "FOR") key
      (beside (statement_forest file (child 1) first)
      (beside (optional_forest file (condition 2) test)
      (beside (optional_forest file (child 3) step) (statement_forest file (child 4) body))))
  -- Jumps, without parts.
  statement_forest file rank (Goto key target) =
      leaf rank.hang (goto_node file key target rank)
  statement_forest file rank (Continue key) =
      leaf rank.hang (control_node file (codes "CONTINUE") key rank)
  statement_forest file rank (Break key) =
      leaf rank.hang (control_node file (codes "BREAK") key rank)
  -- A RETURN, whose expression is part 1.
  statement_forest file rank (Return key value) =
      branch rank.hang (leave_node file key rank) (optional_forest file (child 1) value)

  -- What stands in a block, with ranks from `order` on.
  pub items_forest : File → ℕ → Items → Forest
  items_forest file order no_items = none
  items_forest file order (Does statement more) =
      beside (statement_forest file (child order) statement)
      (items_forest file (order + places statement) more)
  items_forest file order (Declares declared more) =
      beside (declared_forest file order declared) (items_forest file (order + 1) more)
