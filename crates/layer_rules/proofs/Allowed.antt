-- The schema allows the forest of each construct.
use Rattle.std.specs.Prelude.{ℕ, ◌≡◌, ◌+◌, IsTrue, List, [], ◌∷◌, length, Option, Some, None, codes, refl}
use Rattle.cpg_schema.specs.declared.label.Label.{Label}
use Rattle.cpg_schema.specs.declared.label.Label.TheVariants as label
use Rattle.graph_forest.specs.declared.hang.Hang.{Hang}
use Rattle.graph_forest.specs.declared.hang.Hang.TheVariants.{Plain, Argument as AsArgument, Condition}
use Rattle.graph_forest.specs.declared.rank.Rank.{Rank}
use Rattle.graph_forest.specs.Ranks.{child, condition, argument, pointer_argument}
use Rattle.graph_forest.specs.Forest.{Forest, may_hang, IsAllowed, IsAllowedUnder, planted, IsPlanted}
use Rattle.graph_forest.proofs.Fitting.{planted_fits}
use Rattle.cpg_schema.specs.Fitting.{Fits}
use Rattle.cpg_schema.specs.Graph.{PlainGraph}
use Rattle.graph_forest.proofs.Allowing.{allowed-beside}
use Rattle.c_tree.specs.declared.tree.Unit.{Unit as Tree}
use Rattle.layer_rules.specs.Files.{File}
use Rattle.layer_rules.specs.Nodes.{call_node}
use Rattle.layer_rules.specs.Records.{Members, no_members, Member, Inner, Body, members_forest, body_forest}
use Rattle.layer_rules.specs.Records.{bodies_forest}
use Rattle.layer_rules.specs.Terms.{NamedType, Term, Terms, Name, Literal, Parens, Subscript, Call, Dot, Arrow}
use Rattle.layer_rules.specs.Terms.{Postfix, CompoundLiteral, Prefix, SizeOfType, Cast, Infix, Conditional, Comma}
use Rattle.layer_rules.specs.Terms.{Initialisers, no_terms, Argument, sole_name}
use Rattle.layer_rules.specs.Expressions.{type_forest, call_forest, term_forest, terms_forest}
use Rattle.layer_rules.specs.Statements.{Declared, WithBody, Typedef, Function, Object, Initialised, declared_forest}
use Rattle.layer_rules.specs.Statements.{assignment_forest, Target, Statement, Items, Nothing, Labelled, Compound}
use Rattle.layer_rules.specs.Statements.{Value, If, Switch, While, Do, For, Goto, Continue, Break, Return, no_items}
use Rattle.layer_rules.specs.Statements.{Does, Declares, places, optional_forest, statement_forest, items_forest}
use Rattle.layer_rules.specs.Functions.{Parameter, Defined, External, Defines, HasDeclared, parameters_forest}
use Rattle.layer_rules.specs.Functions.{function_forest, external_forest, externals_forest, global_forest}
use Rattle.layer_rules.specs.FilesOfTrees.{file_forest, externals}

-- ---- Records

members_allowed : (file : File) (order : ℕ) (members : Members) →
    IsAllowedUnder (Some label.TypeDecl) (members_forest file order members)
members_allowed file order no_members = tt
members_allowed file order (Member name text more) =
    allowed-beside _ _ _ (refl, tt, tt) (members_allowed file (order + 1) more)
members_allowed file order (Inner key tag inside more) =
    allowed-beside _ _ _ (refl, members_allowed file 1 inside, tt) (members_allowed file (order + 1) more)

bodies_allowed : (parent : Label) (file : File) (order : ℕ) (bodies : List Body) →
    IsTrue (may_hang (Some parent) Plain label.TypeDecl) →
    IsAllowedUnder (Some parent) (bodies_forest file order bodies)
bodies_allowed parent file order [] may = tt
bodies_allowed parent file order (body ∷ bodies) may =
    allowed-beside _ _ _ (may, members_allowed file 1 body.inside, tt) (bodies_allowed parent file (order + 1) bodies may)

-- ---- Expressions

-- An expression may hang so from a node of this label.
record MayHold (parent : Label) (hang : Hang) : Type 0 where
  call : IsTrue (may_hang (Some parent) hang label.Call)
  name : IsTrue (may_hang (Some parent) hang label.Identifier)
  literal : IsTrue (may_hang (Some parent) hang label.Literal)

as_argument : (index : ℕ) → MayHold label.Call (AsArgument index)
as_argument index = record { call = refl; name = refl; literal = refl }

type_allowed : (file : File) (index : ℕ) (type : NamedType) →
    IsAllowedUnder (Some label.Call) (type_forest file (argument index) type)
type_allowed file index type = (refl, bodies_allowed label.TypeRef file 1 type.bodies refl, tt)

call_allowed : (file : File) (parent : Label) (rank : Rank) (name : Option ℕ) (term : Term)
    (callee by_name by_pointer : Forest) → MayHold parent rank.hang →
    IsAllowedUnder (Some label.Call) callee → IsAllowedUnder (Some label.Call) by_name →
    IsAllowedUnder (Some label.Call) by_pointer →
    IsAllowedUnder (Some parent) (call_forest file rank name term callee by_name by_pointer)
call_allowed file parent rank None term callee by_name by_pointer may first second third =
    (may.call, allowed-beside _ _ _ first third, tt)
call_allowed file parent rank (Some name) term callee by_name by_pointer may first second third =
    (may.call, second, tt)

mutual
  term_allowed : (file : File) (parent : Label) (rank : Rank) (term : Term) →
      MayHold parent rank.hang → IsAllowedUnder (Some parent) (term_forest file rank term)
  term_allowed file parent rank (Name token) may = (may.name, tt, tt)
  term_allowed file parent rank (Literal tokens) may = (may.literal, tt, tt)
  term_allowed file parent rank (Parens opening inner) may = term_allowed file parent rank inner may
  term_allowed file parent rank (Subscript array index) may = (
    may.call,
    allowed-beside _ _ _
        (term_allowed file label.Call (argument 1) array (as_argument 1))
        (term_allowed file label.Call (argument 2) index (as_argument 2)),
    tt,
  )
  term_allowed file parent rank (Call callee arguments) may =
      call_allowed file parent rank (sole_name callee) callee _ _ _ may
      (term_allowed file label.Call (pointer_argument 0) callee (as_argument 0))
      (terms_allowed file argument (λ index. as_argument index) 1 arguments)
      (terms_allowed file pointer_argument (λ index. as_argument index) 1 arguments)
  term_allowed file parent rank (Dot operand member) may = (
    may.call,
    allowed-beside _ _ _
        (term_allowed file label.Call (argument 1) operand (as_argument 1)) (refl, tt, tt),
    tt,
  )
  term_allowed file parent rank (Arrow operand member) may = (
    may.call,
    allowed-beside _ _ _
        (term_allowed file label.Call (argument 1) operand (as_argument 1)) (refl, tt, tt),
    tt,
  )
  term_allowed file parent rank (Postfix operand operator) may =
      (may.call, term_allowed file label.Call (argument 1) operand (as_argument 1), tt)
  term_allowed file parent rank (CompoundLiteral opening type list) may = (
    may.call,
    allowed-beside _ _ _ (type_allowed file 1 type)
        (term_allowed file label.Call (argument 2) list (as_argument 2)),
    tt,
  )
  term_allowed file parent rank (Prefix operator operand) may =
      (may.call, term_allowed file label.Call (argument 1) operand (as_argument 1), tt)
  term_allowed file parent rank (SizeOfType operator type) may =
      (may.call, type_allowed file 1 type, tt)
  term_allowed file parent rank (Cast opening type operand) may = (
    may.call,
    allowed-beside _ _ _ (type_allowed file 1 type)
        (term_allowed file label.Call (argument 2) operand (as_argument 2)),
    tt,
  )
  term_allowed file parent rank (Infix operator left right) may = (
    may.call,
    allowed-beside _ _ _
        (term_allowed file label.Call (argument 1) left (as_argument 1))
        (term_allowed file label.Call (argument 2) right (as_argument 2)),
    tt,
  )
  term_allowed file parent rank (Conditional test then other) may = (
    may.call,
    allowed-beside _ _ _
        (term_allowed file label.Call (argument 1) test (as_argument 1))
        (allowed-beside _ _ _
        (term_allowed file label.Call (argument 2) then (as_argument 2))
        (term_allowed file label.Call (argument 3) other (as_argument 3))),
    tt,
  )
  term_allowed file parent rank (Comma left right) may = (
    may.call,
    allowed-beside _ _ _
        (term_allowed file label.Call (argument 1) left (as_argument 1))
        (term_allowed file label.Call (argument 2) right (as_argument 2)),
    tt,
  )
  term_allowed file parent rank (Initialisers brace items) may =
      (may.call, terms_allowed file argument (λ index. as_argument index) 1 items, tt)

  terms_allowed : (file : File) (rank_of : ℕ → Rank) →
      ((index : ℕ) → MayHold label.Call (rank_of index).hang) → (index : ℕ) (terms : Terms) →
      IsAllowedUnder (Some label.Call) (terms_forest file rank_of index terms)
  terms_allowed file rank_of may index no_terms = tt
  terms_allowed file rank_of may index (Argument term more) =
      allowed-beside _ _ _ (term_allowed file label.Call (rank_of index) term (may index))
      (terms_allowed file rank_of may (index + 1) more)

-- ---- Statements

-- A statement may hang from a node of this label, and an expression as a condition or a part.
record MayDo (parent : Label) : Type 0 where
  part : MayHold parent Plain
  block : IsTrue (may_hang (Some parent) Plain label.Block)
  control : IsTrue (may_hang (Some parent) Plain label.ControlStructure)
  target : IsTrue (may_hang (Some parent) Plain label.JumpTarget)
  leave : IsTrue (may_hang (Some parent) Plain label.Return)

plainly : MayHold label.Block Plain
plainly = record { call = refl; name = refl; literal = refl }

in_block : MayDo label.Block
in_block = record {
  part = plainly;
  block = refl;
  control = refl;
  target = refl;
  leave = refl;
}

in_control : MayDo label.ControlStructure
in_control = record {
  part = record { call = refl; name = refl; literal = refl };
  block = refl;
  control = refl;
  target = refl;
  leave = refl;
}

in_target : MayDo label.JumpTarget
in_target = record {
  part = record { call = refl; name = refl; literal = refl };
  block = refl;
  control = refl;
  target = refl;
  leave = refl;
}

as_condition : MayHold label.ControlStructure Condition
as_condition = record { call = refl; name = refl; literal = refl }

of_return : MayHold label.Return Plain
of_return = record { call = refl; name = refl; literal = refl }

declared_allowed : (file : File) (order : ℕ) (declared : Declared) →
    IsAllowedUnder (Some label.Block) (declared_forest file order declared)
declared_allowed file order (WithBody body) = (refl, members_allowed file 1 body.inside, tt)
declared_allowed file order (Typedef name text) = (refl, tt, tt)
declared_allowed file order (Function name) = (refl, tt, tt)
declared_allowed file order (Object name text) = (refl, tt, tt)
declared_allowed file order (Initialised name value) = (
  refl,
  allowed-beside _ _ _ (refl, tt, tt)
      (term_allowed file label.Call (argument 2) value (as_argument 2)),
  tt,
)

optional_allowed : (file : File) (parent : Label) (rank : Rank) (term : Option Term) →
    MayHold parent rank.hang → IsAllowedUnder (Some parent) (optional_forest file rank term)
optional_allowed file parent rank None may = tt
optional_allowed file parent rank (Some term) may = term_allowed file parent rank term may

mutual
  statement_allowed : (file : File) (parent : Label) (order : ℕ) (statement : Statement) →
      MayDo parent → IsAllowedUnder (Some parent) (statement_forest file (child order) statement)
  statement_allowed file parent order Nothing may = tt
  statement_allowed file parent order (Labelled target statement) may = (
    may.target,
    allowed-beside _ _ _
        (optional_allowed file label.JumpTarget (child 1) target.value in_target.part)
        (statement_allowed file label.JumpTarget 2 statement in_target),
    tt,
  )
  statement_allowed file parent order (Compound first items) may =
      (may.block, items_allowed file 1 items, tt)
  statement_allowed file parent order (Value term) may =
      term_allowed file parent (child order) term may.part
  statement_allowed file parent order (If key test body other) may = (
    may.control,
    allowed-beside _ _ _
        (term_allowed file label.ControlStructure (condition 1) test as_condition)
        (allowed-beside _ _ _ (statement_allowed file label.ControlStructure 2 body in_control)
        (statement_allowed file label.ControlStructure 3 other in_control)),
    tt,
  )
  statement_allowed file parent order (Switch key test body) may = (
    may.control,
    allowed-beside _ _ _
        (term_allowed file label.ControlStructure (condition 1) test as_condition)
        (statement_allowed file label.ControlStructure 2 body in_control),
    tt,
  )
  statement_allowed file parent order (While key test body) may = (
    may.control,
    allowed-beside _ _ _
        (term_allowed file label.ControlStructure (condition 1) test as_condition)
        (statement_allowed file label.ControlStructure 2 body in_control),
    tt,
  )
  statement_allowed file parent order (Do key body test) may = (
    may.control,
    allowed-beside _ _ _
        (statement_allowed file label.ControlStructure 1 body in_control)
        (term_allowed file label.ControlStructure (condition 2) test as_condition),
    tt,
  )
  statement_allowed file parent order (For key first test step body) may = (
    may.control,
    allowed-beside _ _ _
        (statement_allowed file label.ControlStructure 1 first in_control)
        (allowed-beside _ _ _
        (optional_allowed file label.ControlStructure (condition 2) test as_condition)
        (allowed-beside _ _ _
        (optional_allowed file label.ControlStructure (child 3) step in_control.part)
        (statement_allowed file label.ControlStructure 4 body in_control))),
    tt,
  )
  statement_allowed file parent order (Goto key target) may = (may.control, tt, tt)
  statement_allowed file parent order (Continue key) may = (may.control, tt, tt)
  statement_allowed file parent order (Break key) may = (may.control, tt, tt)
  statement_allowed file parent order (Return key value) may =
      (may.leave, optional_allowed file label.Return (child 1) value of_return, tt)

  items_allowed : (file : File) (order : ℕ) (items : Items) →
      IsAllowedUnder (Some label.Block) (items_forest file order items)
  items_allowed file order no_items = tt
  items_allowed file order (Does statement more) =
      allowed-beside _ _ _ (statement_allowed file label.Block order statement in_block)
      (items_allowed file (order + places statement) more)
  items_allowed file order (Declares declared more) =
      allowed-beside _ _ _ (declared_allowed file order declared) (items_allowed file (order + 1) more)

-- ---- Functions and files

parameters_allowed : (file : File) (order : ℕ) (parameters : List Parameter) →
    IsAllowedUnder (Some label.Method) (parameters_forest file order parameters)
parameters_allowed file order [] = tt
parameters_allowed file order (first ∷ parameters) =
    allowed-beside _ _ _ (refl, bodies_allowed label.MethodParameterIn file 1 first.bodies refl, tt)
    (parameters_allowed file (order + 1) parameters)

function_allowed : (file : File) (order : ℕ) (function : Defined) →
    IsAllowedUnder (Some label.Block) (function_forest file order function)
function_allowed file order function = (
  refl,
  allowed-beside _ _ _ (parameters_allowed file 1 function.parameters)
      (allowed-beside _ _ _ (refl, items_allowed file 1 function.items, tt) (refl, tt, tt)),
  tt,
)

externals_allowed : (file : File) (order : ℕ) (held : List External) →
    IsAllowedUnder (Some label.Block) (externals_forest file order held)
externals_allowed file order [] = tt
externals_allowed file order (Defines function ∷ more) =
    allowed-beside _ _ _ (function_allowed file order function) (externals_allowed file (order + 1) more)
externals_allowed file order (HasDeclared declared ∷ more) =
    allowed-beside _ _ _ (declared_allowed file order declared) (externals_allowed file (order + 1) more)

global_allowed : (file : File) (held : List External) → IsAllowed (global_forest file held)
global_allowed file held =
    (refl, allowed-beside _ _ _ (refl, externals_allowed file 1 held, tt) (refl, tt, tt), tt)

-- A file.
pub file_allowed : (file : File) (unit : Tree) → IsAllowed (file_forest file unit)
unfolding file_forest
file_allowed file unit = global_allowed file (externals file [] unit.items)

-- What a file adds.
pub file_planted : (file : File) (unit : Tree) → IsPlanted (planted (file_forest file unit))
file_planted file unit = record {
  forest = file_forest file unit;
  allowed = file_allowed file unit;
  is = refl;
}

pub file_fits : (file : File) (unit : Tree) (graph : PlainGraph) → Fits graph (planted (file_forest file unit))
file_fits file unit graph = planted_fits graph (planted (file_forest file unit)) (file_planted file unit)
