-- The form of files (C11 6.9), and which lists of lexemes have a tree.

use Rattle.std.specs.Prelude.{ℕ, ◌-◌, List, Option, All}
use Rattle.std.specs.Prelude.{true}
use Rattle.c_lexer.specs.declared.token.Kind.{Kind}
use Rattle.c_tree.specs.declared.tree.Unit.{Unit}
use Rattle.c_tree.specs.declared.tree.Item.{Item}
use Rattle.c_tree.specs.declared.tree.Item.TheVariants as item
use Rattle.c_tree.specs.declared.tree.Specs.{Specs}
use Rattle.c_tree.specs.declared.tree.Declarator.{Declarator}
use Rattle.c_tree.specs.declared.tree.Block.{Block}
use Rattle.c_tree.specs.declared.tree.Expr.{Expr}
use Rattle.c_tree.specs.declared.tree.TypeName.{TypeName}
use Rattle.c_tree.specs.declared.tree.Declaration.{Declaration}
use Rattle.c_tree.specs.declared.tree.Stmt.{Stmt}
use Rattle.c_tree.specs.Spell.{Symbols, unit_spelling, expr_spelling, type_name_spelling}
use Rattle.c_tree.specs.Spell.{declaration_spelling, stmt_spelling}
use Rattle.c_tree.specs.Fits.{FitFrom}
use Rattle.c_tree.specs.Lexemes.{Lexeme, kinds_in, kind_at, spelling_at}
use Rattle.c_scopes.specs.Scopes.{OpenScopes, file_scope}
use Rattle.c_tree.specs.Declarations.{IsSpecs, IsDeclarator, Definition}
use Rattle.c_tree.specs.Depths.{inner_to, IsFormedExpr, IsFormedTypeName, IsFormedDeclaration}
use Rattle.c_tree.specs.Statements.{IsFormedStmt, IsFormedBlock}
use Rattle.c_scopes.specs.Events.{Event, AreRight, events_to}
use Rattle.c_tree.specs.TreeEvents.{expr_events, type_name_events, declaration_events, stmt_events}
use Rattle.c_tree.specs.TreeEvents.{unit_events, DeclaresFunction}

-- ---- The form of a file

module _ (kind_of : ℕ → Option Kind) (bytes_of : ℕ → List ℕ) (depth : ℕ) where
  -- Specifiers, one declarator of a function with a name, and a compound statement (6.9.1).
  pub record IsDefinition (specs : Specs) (declarator : Declarator) (body : Block) : Type 0 where
    pub specifiers : IsSpecs kind_of (inner_to kind_of depth) Definition specs
    pub named : IsDeclarator kind_of (inner_to kind_of depth) true declarator
    pub function : DeclaresFunction kind_of bytes_of declarator
    pub block : IsFormedBlock kind_of depth body

  -- A function definition or a declaration (6.9).
  abbrev pub IsItem : Item → Type 0
  IsItem (item.Define specs declarator body) = IsDefinition specs declarator body
  IsItem (item.Declare declaration) = IsFormedDeclaration kind_of depth declaration

-- ---- Trees of lexemes

-- What is asked of trees of a type: what they spell, when they have the form to a depth, and what
-- they meet.
pub record Grammar (Tree : Type 0) : Type 1 where
  pub spelling : Tree → Symbols
  pub IsFormed : (ℕ → Option Kind) → (ℕ → List ℕ) → ℕ → Tree → Type 0
  pub events : (ℕ → Option Kind) → (ℕ → List ℕ) → Tree → List Event

abbrev pub units : Grammar Unit
units = record {
  spelling = unit_spelling;
  IsFormed = λ kind_of bytes_of depth unit. All (IsItem kind_of bytes_of depth) unit.items;
  events = unit_events;
}

abbrev pub exprs : Grammar Expr
exprs = record {
  spelling = expr_spelling;
  IsFormed = λ kind_of bytes_of depth expr. IsFormedExpr kind_of depth expr;
  events = expr_events;
}

abbrev pub type_names : Grammar TypeName
type_names = record {
  spelling = type_name_spelling;
  IsFormed = λ kind_of bytes_of depth type_name. IsFormedTypeName kind_of depth type_name;
  events = type_name_events;
}

abbrev pub declarations : Grammar Declaration
declarations = record {
  spelling = declaration_spelling;
  IsFormed = λ kind_of bytes_of depth declaration. IsFormedDeclaration kind_of depth declaration;
  events = declaration_events;
}

abbrev pub stmts : Grammar Stmt
stmts = record {
  spelling = stmt_spelling;
  IsFormed = λ kind_of bytes_of depth stmt. IsFormedStmt kind_of depth stmt;
  events = stmt_events;
}

-- The tree is well formed and spells the lexemes, whose tokens are numbered from `begin` on, in the
-- open scopes.
pub record IsTreeOf {Tree : Type 0} (grammar : Grammar Tree) (open_scopes : OpenScopes)
    (begin : ℕ) (lexemes : List Lexeme) (tree : Tree) : Type 0 where
  pub spelled : FitFrom begin (grammar.spelling tree) (kinds_in lexemes)
  pub depth : ℕ
  pub form : grammar.IsFormed (λ token. kind_at lexemes (token - begin))
      (λ token. spelling_at lexemes (token - begin)) depth tree
  pub names : AreRight (events_to open_scopes)
      (grammar.events (λ token. kind_at lexemes (token - begin))
      (λ token. spelling_at lexemes (token - begin)) tree)

-- The unit is that of a file of these lexemes: it is well formed and spells them.
abbrev pub IsUnitOf : List Lexeme → Unit → Type 0
IsUnitOf lexemes unit = IsTreeOf units file_scope 0 lexemes unit

-- A file of these lexemes is accepted by the syntax.
abbrev pub IsAccepted : List Lexeme → Type 0
IsAccepted lexemes = (unit : Unit) × IsUnitOf lexemes unit
