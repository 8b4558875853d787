-- Readers of expressions and declarations that hold one another in brackets (C11 6.5, 6.7).

use Rattle.std.specs.Prelude.{ℕ, suc}
use Rattle.c_tree.specs.declared.tree.Expr.{Expr}
use Rattle.c_tree.specs.declared.tree.TypeName.{TypeName}
use Rattle.c_tree.specs.declared.tree.Declaration.{Declaration}
use Rattle.reading.specs.Nesting.{nested_reader}
use Rattle.c_syntax.specs.declared.forms.AssignForm.TheVariants.{Whole, Constant}
use Rattle.c_syntax.specs.Scoping.{PartReader}
use Rattle.c_syntax.specs.ExpressionReaders as expression
use Rattle.c_declarators.specs.DeclaratorReaders as declarator
use Rattle.c_declarations.specs.InitialiserReaders as initialiser
use Rattle.c_declarations.specs.DeclarationReaders as declaration_
use Rattle.c_parts.specs.PartNames.{PartName, assigns, type_names, params, members, groups, items}
use Rattle.c_parts.specs.PartNames.{Value, inner_readers_of, inside_readers_of}

-- A part, where there is room for tokens of its level, and what stands in its brackets is given.
unfoldable pub body : (n : PartName) → ℕ → ((m : PartName) → PartReader (Value m)) →
    PartReader (Value n)
body (assigns form) room parts = expression.formed room (inner_readers_of parts) form
body type_names room parts = declarator.type_name room (inside_readers_of parts)
body params room parts = declarator.param room (inside_readers_of parts)
body members room parts = declaration_.member room (inside_readers_of parts)
    (expression.formed room (inner_readers_of parts) Constant)
body (groups naming) room parts = declarator.grouped room (inside_readers_of parts) naming
body items room parts = initialiser.item room (inside_readers_of parts)
    (expression.formed room (inner_readers_of parts) Whole)

-- Where fewer levels are left than the number.
abbrev pub part : ℕ → (n : PartName) → PartReader (Value n)
part = nested_reader body

-- An expression, with its own commas on the level (6.5.17).
unfoldable pub expr : ℕ → PartReader Expr
expr room = expression.inner_expr room (inner_readers_of (part room))

-- A type name (6.7.7).
unfoldable pub type_name : ℕ → PartReader TypeName
type_name room = part room type_names

-- A declaration, whose names are declared (6.7). There is room for tokens of its level.
unfoldable pub declaration : ℕ → PartReader Declaration
declaration room =
    declaration_.declaration room (inside_readers_of (part room)) (part (suc room) (assigns Whole))
