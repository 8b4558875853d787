-- Forms of which a tree has many.

use Rattle.std.specs.Prelude.{ℕ, List, [], ◌∷◌, None}
use Rattle.c_tree.specs.declared.tree.Specs.{Specs}
use Rattle.c_tree.specs.declared.tree.Spec.TheVariants.{Basic}
use Rattle.c_tree.specs.declared.tree.Declarator.{Declarator, roll-Declarator}
use Rattle.c_tree.specs.declared.tree.Core.{Core}
use Rattle.c_tree.specs.declared.tree.Core.TheVariants as core
use Rattle.c_tree.specs.declared.tree.Suffix.{Suffix}
use Rattle.c_tree.specs.declared.tree.Suffix.TheVariants.{Params}
use Rattle.c_tree.specs.declared.tree.Param.{Param, roll-Param}
use Rattle.c_tree.specs.declared.tree.Expr.{Expr, roll-Expr}
use Rattle.c_tree.specs.declared.tree.Assign.{Assign, roll-Assign}
use Rattle.c_tree.specs.declared.tree.Cond.{Cond, roll-Cond}
use Rattle.c_tree.specs.declared.tree.Binary.{roll-Binary}
use Rattle.c_tree.specs.declared.tree.Prefixed.{Prefixed}
use Rattle.c_tree.specs.declared.tree.BaseForm.{BaseForm}
use Rattle.c_tree.specs.declared.tree.BaseForm.TheVariants as base_form
use Rattle.c_tree.specs.declared.tree.Stmt.{Stmt}
use Rattle.c_tree.specs.declared.tree.StmtKind.TheVariants.{Value}

-- One type specifier of one keyword (6.7.2).
abbrev pub basic : ℕ → Specs
basic token = record { words = Basic token ∷ [] }

-- A declarator without pointers and width (6.7.6).
abbrev pub declarator : Core → List Suffix → Declarator
declarator core suffixes = roll-Declarator
    (record { pointers = []; core = core; suffixes = suffixes; width = None; marks = [] })

-- The declarator of nothing, as in the type name `void` (6.7.7).
abbrev pub abstract : Declarator
abstract = declarator core.Empty []

-- A parameter without a name, of which the type is one keyword (6.7.6.3).
abbrev pub unnamed : ℕ → Param
unnamed token = roll-Param (record { specs = basic token; declarator = abstract })

-- The declarator of a function without parameters, `NAME(void)` (6.7.6.3p10).
abbrev pub parameterless : ℕ → ℕ → ℕ → ℕ → Declarator
parameterless name left void right =
    declarator (core.Name name) (Params (unnamed void ∷ []) None (left ∷ right ∷ []) ∷ [])

-- An operand without operators and suffixes (6.5.1).
abbrev pub operand : BaseForm → Prefixed
operand form = record { prefixes = []; base = record { form = form; suffixes = [] } }

-- An operand that is a name (6.5.1p2).
abbrev pub name_operand : ℕ → Prefixed
name_operand token = operand (base_form.Name token)

-- An operand that is one constant or string literal (6.5.1p3, p4).
abbrev pub literal_operand : ℕ → Prefixed
literal_operand token = operand (base_form.Literal (token ∷ []))

-- Operands joined by binary operators, without a condition (6.5.15).
abbrev pub unconditional : Prefixed → List (ℕ × Prefixed) → Cond
unconditional first rest =
    roll-Cond (record { arms = []; last = roll-Binary (record { first = first; rest = rest }) })

-- A value that is assigned to each target (6.5.16).
abbrev pub assigned : List (Prefixed × ℕ) → Cond → Assign
assigned targets value = roll-Assign (record { targets = targets; value = value })

-- An expression of one part (6.5.17).
abbrev pub sole : Assign → Expr
sole part = roll-Expr (record { parts = part ∷ []; marks = [] })

-- An expression statement without labels (6.8.3).
abbrev pub expression_stmt : Expr → ℕ → Stmt
expression_stmt expr semicolon = record { labels = []; kind = Value expr (semicolon ∷ []) }
