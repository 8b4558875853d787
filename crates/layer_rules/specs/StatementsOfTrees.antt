-- The construct of each statement and block of a tree (C11 6.8).
use Rattle.std.specs.Prelude.{ℕ, List, [], ◌∷◌, Option, Some, None, drop, map, slice_get}
use Rattle.c_tree.specs.declared.tree.Block.{Block}
use Rattle.c_tree.specs.declared.tree.Expr.{Expr}
use Rattle.c_tree.specs.declared.tree.Mark.{Mark}
use Rattle.c_tree.specs.declared.tree.Mark.TheVariants as mark
use Rattle.c_tree.specs.declared.tree.ForInit.{ForInit}
use Rattle.c_tree.specs.declared.tree.ForInit.TheVariants as for_init
use Rattle.c_tree.specs.declared.tree.BlockItem.TheOpen as s
use Rattle.c_tree.specs.Folds.{StmtSteps, BlockItemLevel, StmtKindLevel, BlockLevel, StmtLevel}
use Rattle.c_tree.specs.Folds.{block_item_fold}
use Rattle.layer_rules.specs.Files.{File}
use Rattle.layer_rules.specs.Terms.{Term}
use Rattle.layer_rules.specs.Statements.{Declared, Target, Statement, Items, Nothing, Labelled}
use Rattle.layer_rules.specs.Statements.{Compound, Value, If, Switch, While, Do, For, Goto}
use Rattle.layer_rules.specs.Statements.{Continue, Break, Return, no_items, Does, Declares}
use Rattle.layer_rules.specs.Statements.{items_beside}
use Rattle.layer_rules.specs.Meanings.{Meaning}
use Rattle.layer_rules.specs.TermsOfTrees.{term_of, meaning_of_declaration}

-- A part of a statement: as a statement, and as what it has in the block around it.
pub record Part : Type 0 where
  pub statement : Statement
  pub items : Items

abbrev pub does : Statement → Part
does statement = record { statement = statement; items = Does statement no_items }

-- What a declaration has in a block.
abbrev pub declared_items : List Declared → Items
declared_items [] = no_items
declared_items (declared ∷ more) = Declares declared (declared_items more)

abbrev pub items_of : List Part → Items
items_of [] = no_items
items_of (part ∷ parts) = items_beside part.items (items_of parts)

abbrev pub some_statement : Option Part → Statement
some_statement None = Nothing
some_statement (Some part) = part.statement

abbrev pub some_term : File → Option Expr → Option Term
some_term file None = None
some_term file (Some expr) = Some (term_of file expr)

-- A label (6.8.1).
abbrev pub target_of : File → Mark → Target
target_of file (mark.Label token marks) = record { token = Some token; value = None }
target_of file (mark.Case expr marks) =
    record { token = slice_get marks 0; value = Some (term_of file expr) }
target_of file (mark.Default token marks) = record { token = Some token; value = None }

abbrev pub labelled : File → List Mark → Statement → Statement
labelled file [] statement = statement
labelled file (label ∷ labels) statement =
    Labelled (target_of file label) (labelled file labels statement)

-- The conditions of an `if`, by the marks that are left: `if`, `(` and `)` of the first and the
-- `else` behind it. What stands after `else` is a further `if`, or the last part (6.8.4.1).
abbrev pub if_statement : File → List (Expr × Part) → Statement → List ℕ → Statement
if_statement file [] other marks = other
if_statement file (arm ∷ arms) other marks =
    If (slice_get marks 0) (term_of file arm.0) arm.1.statement
    (if_statement file arms other (drop 4 marks))

-- What stands before the first `;` of a `for`. A declaration is a block that begins with its first
-- token (6.8.5.3).
abbrev pub declared_block : Meaning → Statement
declared_block declaration = Compound declaration.first (declared_items declaration.declared)

abbrev pub for_first : File → ForInit → Statement
for_first file (for_init.Nothing marks) = Nothing
for_first file (for_init.Value expr marks) = Value (term_of file expr)
for_first file (for_init.Declare declaration) =
    declared_block (meaning_of_declaration file declaration)

abbrev pub kind_statement : File → StmtKindLevel Part → Statement
-- 6.8.3, 6.8.2.
kind_statement file (s.StmtKind-F.Empty marks) = Nothing
kind_statement file (s.StmtKind-F.Value expr marks) = Value (term_of file expr)
kind_statement file (s.StmtKind-F.Braced block) = block.statement
-- 6.8.4.
kind_statement file (s.StmtKind-F.If arms other marks) =
    if_statement file arms (some_statement other) marks
kind_statement file (s.StmtKind-F.Switch expr body marks) =
    Switch (slice_get marks 0) (term_of file expr) body.statement
-- 6.8.5.
kind_statement file (s.StmtKind-F.While expr body marks) =
    While (slice_get marks 0) (term_of file expr) body.statement
kind_statement file (s.StmtKind-F.DoWhile body expr marks) =
    Do (slice_get marks 0) body.statement (term_of file expr)
kind_statement file (s.StmtKind-F.For init cond step body marks) =
    For (slice_get marks 0) (for_first file init) (some_term file cond) (some_term file step)
    body.statement
-- 6.8.6.
kind_statement file (s.StmtKind-F.Break marks) = Break (slice_get marks 0)
kind_statement file (s.StmtKind-F.Continue marks) = Continue (slice_get marks 0)
kind_statement file (s.StmtKind-F.Goto name marks) = Goto (slice_get marks 0) name
kind_statement file (s.StmtKind-F.Return expr marks) =
    Return (slice_get marks 0) (some_term file expr)

abbrev pub stmt_part : File → StmtLevel Part → Part
stmt_part file level = does (labelled file level.labels level.kind.statement)

abbrev pub block_item_part : File → BlockItemLevel Part → Part
block_item_part file (s.BlockItem-F.Declare declaration) = record {
  statement = Nothing;
  items = declared_items (meaning_of_declaration file declaration).declared;
}
block_item_part file (s.BlockItem-F.Do stmt) = stmt

-- 6.8.2.
abbrev pub block_part : BlockLevel Part → Part
block_part level = does (Compound (slice_get level.marks 0) (items_of level.items))

abbrev pub statement_steps : File → StmtSteps Part
statement_steps file = record {
  block_item = block_item_part file;
  stmt_kind = λ level. does (kind_statement file level);
  block = block_part;
  stmt = stmt_part file;
}

-- What stands in the body of a function.
unfoldable pub body_items : File → Block → Items
body_items file block = items_of (map (block_item_fold (statement_steps file)) block.items)
