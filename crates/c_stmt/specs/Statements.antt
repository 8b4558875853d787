-- Statements and blocks that hold one another (C11 6.8), and their readers.

use Rattle.std.specs.Prelude.{ℕ, suc}
use Rattle.c_tree.specs.declared.tree.Block.{Block}
use Rattle.c_tree.specs.declared.tree.BlockItem.{BlockItem}
use Rattle.reading.specs.Nesting.{nested, nested_reader}
use Rattle.c_syntax.specs.Scoping.{Part, PartReader}
use Rattle.c_stmt.specs.declared.forms.Ended.{Ended}
use Rattle.c_stmt.specs.Below.{Below, BelowReaders, Inside, InsideReaders}
use Rattle.c_stmt.specs.StatementRules as rule
use Rattle.c_stmt.specs.StatementReaders as read

-- What stands one level deeper in a statement.
pub data Name : Type 0 where
  items : Name
  statements : Name

abbrev pub Value : Name → Type 0
Value items = BlockItem
Value statements = Ended

abbrev pub inside_of : ((n : Name) → Part (Value n)) → Inside
inside_of inner = record { item = inner items; statement = inner statements }

abbrev pub readers_of : ((n : Name) → PartReader (Value n)) → InsideReaders
readers_of inner = record { item = inner items; statement = inner statements }

abbrev pub rule_of : Below → (n : Name) → ℕ → ℕ → ((m : Name) → Part (Value m)) → Part (Value n)
rule_of below items turns level inner = rule.item below turns level (inside_of inner)
rule_of below statements turns level inner = rule.statement below turns level (inside_of inner)

abbrev pub reader_of : BelowReaders → (n : Name) → ℕ → ((m : Name) → PartReader (Value m)) →
    PartReader (Value n)
reader_of below items room inner = read.item below room (readers_of inner)
reader_of below statements room inner = read.statement below room (readers_of inner)

-- A statement, and a block with its braces one level deeper.
abbrev pub statement : Below → ℕ → ℕ → Part Ended
statement below turns level = nested (rule_of below) turns level statements

abbrev pub block : Below → ℕ → ℕ → Part Block
block below turns level =
    rule.block below turns level (inside_of (nested (rule_of below) turns (suc level)))

-- Either, where fewer levels are left than the number.
abbrev pub nested_in : BelowReaders → ℕ → (n : Name) → PartReader (Value n)
nested_in below = nested_reader (reader_of below)

-- Their readers, where so many levels are left.
abbrev pub read_statement : BelowReaders → ℕ → PartReader Ended
read_statement below room = nested_reader (reader_of below) (suc room) statements

abbrev pub read_block : BelowReaders → ℕ → PartReader Block
read_block below room = read.block below room (readers_of (nested_reader (reader_of below) room))
