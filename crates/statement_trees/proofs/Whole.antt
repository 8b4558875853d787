-- The rules of statements and blocks read their trees, on each level.

use Rattle.std.proofs.Common.{◌⊎◌, ℕ, suc, ◌≤◌, List, Option, arith}
use Rattle.c_lexer.specs.declared.token.Kind.{Kind}
use Rattle.c_tree.specs.declared.tree.Expr.{Expr}
use Rattle.c_tree.specs.declared.tree.Block.{Block}
use Rattle.c_tree.specs.declared.tree.Stmt.{Stmt}
use Rattle.c_tree.specs.Depths.{IsFormedExpr}
use Rattle.c_tree.specs.Spell.{stmt_spelling}
use Rattle.c_tree.specs.Statements.{IsIf, IsFormedStmt, IsFormedBlock}
use Rattle.reading.specs.Nesting.{nested}
use Rattle.c_syntax.specs.Scoping.{Part}
use Rattle.c_stmt.specs.declared.forms.Ended.{Ended}
use Rattle.c_stmt.specs.Below.{Below}
use Rattle.c_stmt.specs.StatementSets.{a_left_brace, an_if}
use Rattle.c_stmt.specs.Statements.{Name, items, statements, Value, rule_of, inside_of, statement, block}
use Rattle.expression_trees.specs.Saying.{Said, AreTrees, AreWords}
use Rattle.expression_trees.specs.Trees.{of_expr, of_assign}
use Rattle.expression_trees.proofs.Meaning.{adds_of_trees, trees_of_adds, back_of_words, words_of_back, knot_trees, knot_words}
use Rattle.statement_trees.specs.Trees.{of_declaration, of_stmt, of_block, of_item}
use Rattle.statement_trees.specs.Forms.{IsFrom, twice, IsFormedItem, IsFormedEnded, BelowAreTrees, BelowAreWords}
use Rattle.statement_trees.specs.Innermost.{IsFree}
use Rattle.statement_trees.proofs.Scoped.{IsShut}
use Rattle.statement_trees.proofs.FrontRules.{adds_item, adds_statement, adds_block}
use Rattle.statement_trees.proofs.BackRules.{IsBraced, NoneBegins, item_back, ended_back, block_back}

module _ (kind_of : ℕ → Option Kind) (bytes_of : ℕ → List ℕ)
    (free_expr : (depth : ℕ) (e : Expr) → IsFormedExpr kind_of depth e → IsFree (of_expr kind_of bytes_of e).events)
    (free_stmt : (depth : ℕ) (x : Stmt) → IsFormedStmt kind_of depth x → IsFree (of_stmt kind_of bytes_of x).events)
    (shut_block : (depth : ℕ) (b : Block) → IsFormedBlock kind_of depth b → IsShut (of_block kind_of bytes_of b).events) (below : Below) where
  abbrev said_of : (n : Name) → Value n → Said
  said_of items = of_item kind_of bytes_of
  said_of statements = λ (e : Ended). of_stmt kind_of bytes_of e.stmt

  -- ---- Words are trees

  abbrev right : (n : Name) → ℕ → Value n → Type 0
  right items turns = IsFrom (twice turns) (IsFormedItem kind_of bytes_of)
  right statements turns = IsFrom (twice turns) (IsFormedEnded kind_of bytes_of)

  module _ (h : BelowAreTrees kind_of bytes_of below) where
    step_trees : (turns level : ℕ) (inner : (m : Name) → Part (Value m)) → ((m : Name) → AreTrees kind_of bytes_of (inner m) (right m turns) (said_of m)) →
        (n : Name) → AreTrees kind_of bytes_of (rule_of below n turns level inner) (right n (suc turns)) (said_of n)
    step_trees turns level inner g items = trees_of_adds kind_of bytes_of (of_item kind_of bytes_of) (adds_item kind_of bytes_of free_expr free_stmt shut_block below turns level (inside_of inner)
        (λ at. adds_of_trees kind_of bytes_of (below.expr turns at) _ (of_expr kind_of bytes_of) (h.expr turns at))
        (λ at. adds_of_trees kind_of bytes_of (below.constant turns at) _ (of_assign kind_of bytes_of) (h.constant turns at))
        (λ at. adds_of_trees kind_of bytes_of (below.declaration turns at) _ (of_declaration kind_of bytes_of) (h.declaration turns at))
        (adds_of_trees kind_of bytes_of (inner items) (right items turns) (said_of items) (g items))
        (adds_of_trees kind_of bytes_of (inner statements) (right statements turns) (said_of statements) (g statements)))
    step_trees turns level inner g statements = trees_of_adds kind_of bytes_of (said_of statements) (adds_statement kind_of bytes_of free_expr free_stmt shut_block below turns level (inside_of inner)
        (λ at. adds_of_trees kind_of bytes_of (below.expr turns at) _ (of_expr kind_of bytes_of) (h.expr turns at))
        (λ at. adds_of_trees kind_of bytes_of (below.constant turns at) _ (of_assign kind_of bytes_of) (h.constant turns at))
        (λ at. adds_of_trees kind_of bytes_of (below.declaration turns at) _ (of_declaration kind_of bytes_of) (h.declaration turns at))
        (adds_of_trees kind_of bytes_of (inner items) (right items turns) (said_of items) (g items))
        (adds_of_trees kind_of bytes_of (inner statements) (right statements turns) (said_of statements) (g statements)))

    all_trees : (turns level : ℕ) (n : Name) → AreTrees kind_of bytes_of (nested (rule_of below) turns level n) (right n turns) (said_of n)
    all_trees = knot_trees kind_of bytes_of (rule_of below) right said_of step_trees

    pub statement_trees : (turns level : ℕ) → AreTrees kind_of bytes_of (statement below turns level) (IsFrom (twice turns) (IsFormedEnded kind_of bytes_of)) (λ (e : Ended). of_stmt kind_of bytes_of e.stmt)
    statement_trees turns level = all_trees turns level statements

    pub block_trees : (turns level : ℕ) → AreTrees kind_of bytes_of (block below turns level) (IsFrom (twice turns) (IsFormedBlock kind_of)) (of_block kind_of bytes_of)
    block_trees turns level =
        let g = all_trees turns (suc level) in
        trees_of_adds kind_of bytes_of (of_block kind_of bytes_of) (adds_block kind_of bytes_of free_expr free_stmt shut_block below turns level (inside_of (nested (rule_of below) turns (suc level)))
        (λ at. adds_of_trees kind_of bytes_of (below.expr turns at) _ (of_expr kind_of bytes_of) (h.expr turns at))
        (λ at. adds_of_trees kind_of bytes_of (below.constant turns at) _ (of_assign kind_of bytes_of) (h.constant turns at))
        (λ at. adds_of_trees kind_of bytes_of (below.declaration turns at) _ (of_declaration kind_of bytes_of) (h.declaration turns at))
        (adds_of_trees kind_of bytes_of (nested (rule_of below) turns (suc level) items) (right items turns) (said_of items) (g items))
        (adds_of_trees kind_of bytes_of (nested (rule_of below) turns (suc level) statements) (right statements turns) (said_of statements) (g statements)))

  -- ---- Trees are words

  module _ (braced_or : (depth : ℕ) (x : Stmt) → IsFormedStmt kind_of depth x → IsBraced kind_of bytes_of x ⊎ NoneBegins kind_of bytes_of a_left_brace (stmt_spelling x))
      (begins_no_if : (depth : ℕ) (x : Stmt) → IsFormedStmt kind_of depth x → (IsIf x → ⊥) → NoneBegins kind_of bytes_of an_if (stmt_spelling x)) (h : BelowAreWords kind_of bytes_of below) where
    -- To a depth below the number.
    abbrev below_depth : (n : Name) → ℕ → Value n → Type 0
    below_depth items n x = (depth : ℕ) × (suc depth ≤ n) × IsFormedItem kind_of bytes_of depth x
    below_depth statements n e = (depth : ℕ) × (suc depth ≤ n) × IsFormedEnded kind_of bytes_of depth e

    step_words : (n level : ℕ) (inner : ℕ → (m : Name) → Part (Value m)) → ((m : Name) → AreWords kind_of bytes_of (λ d. inner d m) (below_depth m n) (said_of m)) →
        (m : Name) → AreWords kind_of bytes_of (λ d. rule_of below m d level (inner d)) (below_depth m (suc n)) (said_of m)
    step_words n level inner g items = words_of_back kind_of bytes_of (of_item kind_of bytes_of) (λ x i. item_back kind_of bytes_of free_expr free_stmt shut_block braced_or begins_no_if below level n (λ d. inside_of (inner d))
        (λ at depth. back_of_words kind_of bytes_of (λ d. below.expr d at) _ (of_expr kind_of bytes_of) (h.expr at depth))
        (λ at depth. back_of_words kind_of bytes_of (λ d. below.constant d at) _ (of_assign kind_of bytes_of) (h.constant at depth))
        (λ at depth. back_of_words kind_of bytes_of (λ d. below.declaration d at) _ (of_declaration kind_of bytes_of) (h.declaration at depth))
        (λ depth l y j. back_of_words kind_of bytes_of (λ d. inner d items) (below_depth items n) (said_of items) (g items) y (depth, l, j))
        (λ depth l y j. back_of_words kind_of bytes_of (λ d. inner d statements) (below_depth statements n) (said_of statements) (g statements) y (depth, l, j))
        i.0 (omega (arith, i.1)) x i.2)
    step_words n level inner g statements = words_of_back kind_of bytes_of (said_of statements) (λ x i. ended_back kind_of bytes_of free_expr free_stmt shut_block braced_or begins_no_if below level n (λ d. inside_of (inner d))
        (λ at depth. back_of_words kind_of bytes_of (λ d. below.expr d at) _ (of_expr kind_of bytes_of) (h.expr at depth))
        (λ at depth. back_of_words kind_of bytes_of (λ d. below.constant d at) _ (of_assign kind_of bytes_of) (h.constant at depth))
        (λ at depth. back_of_words kind_of bytes_of (λ d. below.declaration d at) _ (of_declaration kind_of bytes_of) (h.declaration at depth))
        (λ depth l y j. back_of_words kind_of bytes_of (λ d. inner d items) (below_depth items n) (said_of items) (g items) y (depth, l, j))
        (λ depth l y j. back_of_words kind_of bytes_of (λ d. inner d statements) (below_depth statements n) (said_of statements) (g statements) y (depth, l, j))
        i.0 (omega (arith, i.1)) x i.2)

    none_below : (m : Name) (x : Value m) → below_depth m 0 x → ⊥
    none_below items x i = omega (arith, i.1)
    none_below statements x i = omega (arith, i.1)

    all_words : (n level : ℕ) (m : Name) → AreWords kind_of bytes_of (λ d. nested (rule_of below) d level m) (below_depth m n) (said_of m)
    all_words = knot_words kind_of bytes_of (rule_of below) below_depth said_of none_below step_words

    pub statement_words : (level depth : ℕ) → AreWords kind_of bytes_of (λ turns. statement below turns level) (IsFormedEnded kind_of bytes_of depth) (λ (e : Ended). of_stmt kind_of bytes_of e.stmt)
    statement_words level depth x g = all_words (suc depth) level statements x (depth, omega arith, g)

    pub block_words : (level depth : ℕ) → AreWords kind_of bytes_of (λ turns. block below turns level) (IsFormedBlock kind_of depth) (of_block kind_of bytes_of)
    block_words level depth = words_of_back kind_of bytes_of (of_block kind_of bytes_of) (block_back kind_of bytes_of free_expr free_stmt shut_block braced_or begins_no_if below level (suc depth) (λ d. inside_of (nested (rule_of below) d (suc level)))
        (λ at m. back_of_words kind_of bytes_of (λ d. below.expr d at) _ (of_expr kind_of bytes_of) (h.expr at m))
        (λ at m. back_of_words kind_of bytes_of (λ d. below.constant d at) _ (of_assign kind_of bytes_of) (h.constant at m))
        (λ at m. back_of_words kind_of bytes_of (λ d. below.declaration d at) _ (of_declaration kind_of bytes_of) (h.declaration at m))
        (λ m l y j. back_of_words kind_of bytes_of (λ d. nested (rule_of below) d (suc level) items) (below_depth items (suc depth)) (said_of items) (all_words (suc depth) (suc level) items) y (m, l, j))
        (λ m l y j. back_of_words kind_of bytes_of (λ d. nested (rule_of below) d (suc level) statements) (below_depth statements (suc depth)) (said_of statements) (all_words (suc depth) (suc level) statements) y (m, l, j))
        depth (omega arith))
