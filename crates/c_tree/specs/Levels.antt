-- How deep a token stands (ours).

use Rattle.std.specs.Prelude.{ℕ, ◌+◌, ◌-◌, ◌<◌, ◌≤◌, ◌==◌, ◌||◌, ◌&&◌, Bool, true, false}
use Rattle.std.specs.Prelude.{List, Option, Some, None, [], ◌∷◌, ◌++◌, map, sum, length, take, All}
use Rattle.std.specs.Prelude.{count_by, if◌then◌else◌}
use Rattle.std.specs.List.{flat_map, list_any}
use Rattle.c_lexer.specs.declared.token.Kind.{Kind}
use Rattle.c_lexer.specs.declared.token.Kind.TheVariants as k
use Rattle.c_lexer.specs.declared.mark.TheConstants.{MARK_LEFT_PAREN, MARK_RIGHT_PAREN}
use Rattle.c_lexer.specs.declared.mark.TheConstants.{MARK_LEFT_BRACKET, MARK_RIGHT_BRACKET}
use Rattle.c_lexer.specs.declared.mark.TheConstants.{MARK_LEFT_BRACE, MARK_RIGHT_BRACE}
use Rattle.c_lexer.specs.declared.mark.TheConstants.{MARK_QUESTION, MARK_COLON}
use Rattle.c_tree.specs.declared.symbol.Symbol.{Symbol}
use Rattle.c_tree.specs.declared.tree.Unit.{Unit}
use Rattle.c_tree.specs.declared.tree.Item.{Item}
use Rattle.c_tree.specs.declared.tree.Item.TheVariants as item
use Rattle.c_tree.specs.declared.tree.Expr.{Expr}
use Rattle.c_tree.specs.declared.tree.Stmt.{Stmt}
use Rattle.c_tree.specs.declared.tree.BlockItem.TheOpen as s
use Rattle.c_tree.specs.Folds.{StmtSteps, BlockItemLevel, StmtKindLevel, block_fold, stmt_fold}
use Rattle.c_tree.specs.Spell.{Symbols, expr_spelling, declaration_spelling, label_spelling}
use Rattle.c_tree.specs.Spell.{for_init_spelling}
use Rattle.c_tree.specs.Lexemes.{Lexeme, IsLexeme, kind_at}
use Rattle.c_scopes.specs.Scopes.{OpenScopes}
use Rattle.c_tree.specs.Units.{Grammar, IsTreeOf}

-- The highest level that a token may have.
abbrev pub HIGHEST_LEVEL : ℕ
HIGHEST_LEVEL = 256

-- ---- Brackets and question marks

abbrev pub is_mark : Kind → ℕ → Bool
is_mark (k.Mark number) mark = number == mark
is_mark kind mark = false

abbrev pub is_opening : Kind → Bool
is_opening kind =
    is_mark kind MARK_LEFT_PAREN || is_mark kind MARK_LEFT_BRACKET || is_mark kind MARK_LEFT_BRACE

abbrev pub is_closing : Kind → Bool
is_closing kind =
    is_mark kind MARK_RIGHT_PAREN || is_mark kind MARK_RIGHT_BRACKET
    || is_mark kind MARK_RIGHT_BRACE

-- What is open at a place: in the innermost bracket so many `?` without their `:`, and so in those
-- around it, of which the last stands for no bracket.
pub record Nesting : Type 0 where
  pub innermost : ℕ
  pub around : List ℕ

-- The brackets that are open, and all `?` that wait for their `:`.
abbrev pub nesting_level : Nesting → ℕ
nesting_level nesting = length nesting.around + (nesting.innermost + sum nesting.around)

-- A bracket is closed, where one is open.
abbrev pub closed : Nesting → List ℕ → Nesting
closed nesting [] = nesting
closed nesting (outer ∷ around) = record { innermost = outer; around = around }

-- What is open after a token. A `:` closes the last open `?` of its innermost bracket, if there is
-- one.
abbrev pub after_token : Nesting → Kind → Nesting
after_token nesting kind =
    if is_opening kind
    then record { innermost = 0; around = nesting.innermost ∷ nesting.around }
    else (if is_closing kind then closed nesting nesting.around
    else (if is_mark kind MARK_QUESTION then record nesting { innermost = nesting.innermost + 1 }
    else (if is_mark kind MARK_COLON then record nesting { innermost = nesting.innermost - 1 }
    else nesting)))

abbrev pub after_tokens : Nesting → List Lexeme → Nesting
after_tokens nesting [] = nesting
after_tokens nesting (lexeme ∷ lexemes) = after_tokens (after_token nesting lexeme.kind) lexemes

abbrev pub opens_at : Option Kind → ℕ
opens_at None = 0
opens_at (Some kind) = if is_opening kind then 1 else 0

-- The brackets that are open at a token, one that it opens or closes too, and the `?` before it
-- whose `:` stands not before it.
abbrev pub bracket_level : List Lexeme → ℕ → ℕ
bracket_level lexemes token =
    nesting_level (after_tokens (record { innermost = 0; around = [] }) (take token lexemes))
    + opens_at (kind_at lexemes token)

-- ---- Unbraced bodies

-- The tokens of a statement, whether its first one is `{`, and for each unbraced body in it the
-- tokens of that. An `if` directly after `else` is no body.
pub record Bodies : Type 0 where
  pub tokens : List ℕ
  pub braced : Bool
  pub bodies : List (List ℕ)

abbrev pub tokens_in : Symbols → List ℕ
tokens_in symbols = map (λ (symbol : Symbol). symbol.token) symbols

abbrev pub expr_tokens : Expr → List ℕ
expr_tokens expr = tokens_in (expr_spelling expr)

abbrev pub some_tokens : Option Expr → List ℕ
some_tokens None = []
some_tokens (Some expr) = expr_tokens expr

-- Tokens of no body.
abbrev pub plain : List ℕ → Bodies
plain tokens = record { tokens = tokens; braced = false; bodies = [] }

-- Tokens, and those of parts.
abbrev pub with_parts : List ℕ → List Bodies → Bodies
with_parts tokens parts = record {
  tokens = tokens ++ flat_map (λ (part : Bodies). part.tokens) parts;
  braced = false;
  bodies = flat_map (λ (part : Bodies). part.bodies) parts;
}

-- A statement that is a body.
abbrev pub as_body : Bodies → Bodies
as_body body =
    if body.braced then body else record body { bodies = body.tokens ∷ body.bodies }

abbrev pub body_of : List ℕ → Bodies → Bodies
body_of tokens body = with_parts tokens (as_body body ∷ [])

abbrev pub some_body : Option Bodies → List Bodies
some_body None = []
some_body (Some body) = as_body body ∷ []

abbrev pub block_item_bodies : BlockItemLevel Bodies → Bodies
block_item_bodies (s.BlockItem-F.Declare declaration) =
    plain (tokens_in (declaration_spelling declaration))
block_item_bodies (s.BlockItem-F.Do stmt) = stmt

abbrev pub stmt_kind_bodies : StmtKindLevel Bodies → Bodies
stmt_kind_bodies (s.StmtKind-F.Empty marks) = plain marks
stmt_kind_bodies (s.StmtKind-F.Value expr marks) = plain (marks ++ expr_tokens expr)
stmt_kind_bodies (s.StmtKind-F.Braced block) = record block { braced = true }
stmt_kind_bodies (s.StmtKind-F.If arms other marks) = with_parts
    (marks ++ flat_map (λ (arm : Expr × Bodies). expr_tokens arm.0) arms)
    (map (λ (arm : Expr × Bodies). as_body arm.1) arms ++ some_body other)
stmt_kind_bodies (s.StmtKind-F.While expr body marks) = body_of (marks ++ expr_tokens expr) body
stmt_kind_bodies (s.StmtKind-F.DoWhile body expr marks) = body_of (marks ++ expr_tokens expr) body
stmt_kind_bodies (s.StmtKind-F.For init cond step body marks) = body_of
    (marks ++ tokens_in (for_init_spelling init) ++ some_tokens cond ++ some_tokens step) body
stmt_kind_bodies (s.StmtKind-F.Switch expr body marks) = body_of (marks ++ expr_tokens expr) body
stmt_kind_bodies (s.StmtKind-F.Break marks) = plain marks
stmt_kind_bodies (s.StmtKind-F.Continue marks) = plain marks
stmt_kind_bodies (s.StmtKind-F.Goto token marks) = plain (token ∷ marks)
stmt_kind_bodies (s.StmtKind-F.Return expr marks) = plain (marks ++ some_tokens expr)

abbrev pub is_empty : {A : Type 0} → List A → Bool
is_empty [] = true
is_empty (a ∷ more) = false

abbrev pub body_steps : StmtSteps Bodies
body_steps = record {
  block_item = block_item_bodies;
  stmt_kind = stmt_kind_bodies;
  block = λ level. with_parts level.marks level.items;
  stmt = λ level. record (with_parts (tokens_in (flat_map label_spelling level.labels))
      (level.kind ∷ [])) { braced = is_empty level.labels && level.kind.braced };
}

unfoldable pub stmt_bodies : Stmt → List (List ℕ)
stmt_bodies stmt = (stmt_fold body_steps stmt).bodies

abbrev pub item_bodies : Item → List (List ℕ)
item_bodies (item.Define specs declarator body) = (block_fold body_steps body).bodies
item_bodies (item.Declare declaration) = []

unfoldable pub unit_bodies : Unit → List (List ℕ)
unit_bodies unit = flat_map item_bodies unit.items

-- ---- Levels

-- The level of a token of lexemes that are numbered from `begin` on: its brackets, its question
-- marks, and the unbraced bodies in which it stands. The level around is given, and the bodies are
-- those of a tree that the lexemes, or more of them, spell.
abbrev pub level_of : List (List ℕ) → ℕ → ℕ → List Lexeme → ℕ → ℕ
level_of bodies around begin lexemes position = around + (bracket_level lexemes position +
    count_by (λ (body : List ℕ). list_any (λ token. token == begin + position) body) bodies)

-- The lexemes up to this position are viable, and the one at it is the first with too high a level.
pub record IsTooDeep {Tree : Type 0} (grammar : Grammar Tree) (bodies_of : Tree → List (List ℕ))
    (open_scopes : OpenScopes) (around begin : ℕ) (lexemes : List Lexeme)
    (position : ℕ) : Type 0 where
  pub within : position < length lexemes
  pub more : List Lexeme
  pub each : All IsLexeme more
  pub tree : Tree
  pub whole : IsTreeOf grammar open_scopes begin (take (position + 1) lexemes ++ more) tree
  pub deep : HIGHEST_LEVEL < level_of (bodies_of tree) around begin
      (take (position + 1) lexemes) position
  pub first : (before : ℕ) → before < position →
      level_of (bodies_of tree) around begin (take (position + 1) lexemes) before ≤ HIGHEST_LEVEL

-- The lexemes have this tree, and none of them has too high a level.
pub record IsShallow {Tree : Type 0} (grammar : Grammar Tree) (bodies_of : Tree → List (List ℕ))
    (open_scopes : OpenScopes) (around begin : ℕ) (lexemes : List Lexeme)
    (tree : Tree) : Type 0 where
  pub whole : IsTreeOf grammar open_scopes begin lexemes tree
  pub shallow : (position : ℕ) → position < length lexemes →
      level_of (bodies_of tree) around begin lexemes position ≤ HIGHEST_LEVEL

-- The bodies in an expression, a type name and a declaration: none.
abbrev pub no_bodies : {Tree : Type 0} → Tree → List (List ℕ)
no_bodies tree = []
