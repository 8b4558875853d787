-- Rules of expressions and declarations that hold one another in brackets (C11 6.5, 6.7).

use Rattle.std.specs.Prelude.{ℕ, suc}
use Rattle.c_tree.specs.declared.tree.Expr.{Expr}
use Rattle.c_tree.specs.declared.tree.TypeName.{TypeName}
use Rattle.c_tree.specs.declared.tree.Declaration.{Declaration}
use Rattle.reading.specs.Nesting.{nested}
use Rattle.c_syntax.specs.declared.forms.AssignForm.TheVariants.{Whole, Constant}
use Rattle.c_syntax.specs.Scoping.{Part}
use Rattle.c_syntax.specs.ExpressionRules as expression
use Rattle.c_declarators.specs.DeclaratorRules as declarator
use Rattle.c_declarations.specs.InitialiserRules as initialiser
use Rattle.c_declarations.specs.DeclarationRules as declaration_
use Rattle.c_parts.specs.PartNames.{PartName, assigns, type_names, params, members, groups, items}
use Rattle.c_parts.specs.PartNames.{Value, inner_of, inside_of}

-- A part of at most so many turns on the level, where it is given what stands in its brackets.
unfoldable pub body : (n : PartName) → ℕ → ℕ → ((m : PartName) → Part (Value m)) → Part (Value n)
body (assigns form) turns level parts = expression.formed turns level (inner_of parts) form
body type_names turns level parts = declarator.type_name turns level (inside_of parts)
body params turns level parts = declarator.param turns level (inside_of parts)
body members turns level parts = declaration_.member turns level (inside_of parts)
    (expression.formed turns level (inner_of parts) Constant)
body (groups naming) turns level parts = declarator.grouped turns level (inside_of parts) naming
body items turns level parts = initialiser.item turns level (inside_of parts)
    (expression.formed turns level (inner_of parts) Whole)

-- What the rule holds in brackets is one level deeper, and has a turn less.
abbrev pub part : ℕ → ℕ → (n : PartName) → Part (Value n)
part = nested body

-- An expression, with its own commas on the level (6.5.17).
unfoldable pub expr : ℕ → ℕ → Part Expr
expr turns level = expression.inner_expr turns level (part turns level (assigns Whole))

-- A type name (6.7.7).
unfoldable pub type_name : ℕ → ℕ → Part TypeName
type_name turns level = part turns level type_names

-- A declaration, whose names are declared (6.7).
unfoldable pub declaration : ℕ → ℕ → Part Declaration
declaration turns level =
    declaration_.declaration turns level (inside_of (part turns (suc level)))
    (part turns level (assigns Whole))
