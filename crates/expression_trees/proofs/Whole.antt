-- The rules of expressions read the trees of expressions.

use Rattle.std.proofs.Common.{◌≡◌, ℕ, zero, suc, List, Option, refl, sym, ap, ◌∙◌, subst, arith}
use Rattle.c_lexer.specs.declared.token.Kind.{Kind}
use Rattle.c_tree.specs.declared.tree.Expr.{Expr}
use Rattle.c_tree.specs.declared.tree.Assign.{Assign}
use Rattle.c_tree.specs.Shape.{Inner as Contents}
use Rattle.c_tree.specs.Spell.{expr_spelling}
use Rattle.c_tree.specs.TreeEvents.{expr_events}
use Rattle.c_syntax.specs.Inner.{Inner}
use Rattle.c_syntax.specs.SimplestRules.{expr}
use Rattle.expression_trees.specs.Saying.{AreTrees, AreWords}
use Rattle.expression_trees.specs.Trees.{of_assign, of_expr, of_type_name, of_item}
use Rattle.expression_trees.specs.Spelling.{AreItsTrees, simplest_exprs}
use Rattle.expression_trees.specs.Simplest.{IsSimplestExpr}
use Rattle.expression_trees.specs.ExpressionsAreTrees.{InnerAreTrees, InnerAreWords, AssignsAreTrees, ExprsAreTrees, contents_by, rules_by, ExpressionsAreTrees}
use Rattle.expression_trees.proofs.FrontRules.{InnerAdds, adds_whole, adds_expr}
use Rattle.expression_trees.proofs.BackRules.{InnerBack, whole_back, expr_back}
use Rattle.expression_trees.proofs.Meaning.{adds_of_trees, trees_of_adds, back_of_words, words_of_back}
use Rattle.expression_trees.proofs.Simplest.{expr_trees, expr_words}
use Rattle.expression_trees.proofs.SimplestNumbers.{expr_alike, expr_keeps}
use Rattle.expression_trees.specs.ExactTrees.{nothing_open, AreLeveled}
use Rattle.expression_trees.proofs.Exactly.{exactly, one_tree}
use Rattle.expression_trees.proofs.Bridge.{are_its_trees}

module _ (kind_of : ℕ → Option Kind) (bytes_of : ℕ → List ℕ) (inner : Contents) where
  inner_adds : (rules : Inner) → InnerAreTrees kind_of bytes_of inner rules → InnerAdds kind_of bytes_of inner rules
  inner_adds rules h = record {
    assign = adds_of_trees kind_of bytes_of (rules.assign) inner.IsAssign (of_assign kind_of bytes_of) h.assign;
    type_name = adds_of_trees kind_of bytes_of (rules.type_name) inner.IsTypeName (of_type_name kind_of bytes_of) h.type_name;
    item = adds_of_trees kind_of bytes_of (rules.item) inner.IsItem (of_item kind_of bytes_of) h.item;
  }

  inner_back : (rules : ℕ → Inner) → InnerAreWords kind_of bytes_of inner rules → InnerBack kind_of bytes_of inner rules
  inner_back rules h = record {
    assign = back_of_words kind_of bytes_of (λ d. (rules d).assign) inner.IsAssign (of_assign kind_of bytes_of) h.assign;
    type_name = back_of_words kind_of bytes_of (λ d. (rules d).type_name) inner.IsTypeName (of_type_name kind_of bytes_of) h.type_name;
    item = back_of_words kind_of bytes_of (λ d. (rules d).item) inner.IsItem (of_item kind_of bytes_of) h.item;
  }

  pub assigns_are_trees : AssignsAreTrees kind_of bytes_of inner
  assigns_are_trees = record {
    trees = λ turns level rules h. trees_of_adds kind_of bytes_of (of_assign kind_of bytes_of) (adds_whole kind_of bytes_of inner turns level rules (inner_adds rules h));
    words = λ level rules h. words_of_back kind_of bytes_of (of_assign kind_of bytes_of) (whole_back kind_of bytes_of inner level rules (inner_back rules h));
  }

  pub exprs_are_trees : ExprsAreTrees kind_of bytes_of inner
  exprs_are_trees = record {
    trees = λ turns level rules h. trees_of_adds kind_of bytes_of (of_expr kind_of bytes_of) (adds_expr kind_of bytes_of inner turns level (rules.assign) (inner_adds rules h).assign);
    words = λ level rules h. words_of_back kind_of bytes_of (of_expr kind_of bytes_of) (expr_back kind_of bytes_of inner level (λ d. (rules d).assign) (inner_back rules h).assign);
  }

simplest_trees : (level : ℕ) (kind_of : ℕ → Option Kind) (bytes_of : ℕ → List ℕ) (turns : ℕ) →
    AreTrees kind_of bytes_of (expr turns level) (IsSimplestExpr kind_of turns) (λ tree. record { symbols = expr_spelling tree; events = expr_events kind_of bytes_of tree })
unfolding expr_events
simplest_trees level kind_of bytes_of turns = expr_trees kind_of bytes_of turns level

simplest_words : (level : ℕ) (kind_of : ℕ → Option Kind) (bytes_of : ℕ → List ℕ) (depth : ℕ) →
    AreWords kind_of bytes_of (λ d. expr d level) (IsSimplestExpr kind_of depth) (λ tree. record { symbols = expr_spelling tree; events = expr_events kind_of bytes_of tree })
unfolding expr_events
simplest_words level kind_of bytes_of depth = expr_words kind_of bytes_of depth level

pub simplest_exprs_are_trees : (level : ℕ) → AreItsTrees (λ turns. expr turns level) simplest_exprs
simplest_exprs_are_trees level = are_its_trees (λ d. expr d level) simplest_exprs (simplest_trees level) (simplest_words level) (λ turns. expr_alike turns level)

pub simplest_exprs_are_leveled : (level : ℕ) → AreLeveled (λ turns. expr turns level) level
simplest_exprs_are_leveled level = λ turns scopes word end x. (expr_keeps level turns level nothing_open (omega arith)).keeps scopes word end x

pub expressions_are_trees : ExpressionsAreTrees
expressions_are_trees = record {
  words = λ kind_of bytes_of tests turns level rules h.
      ((assigns_are_trees kind_of bytes_of (contents_by tests)).trees turns level (rules_by rules) h, (exprs_are_trees kind_of bytes_of (contents_by tests)).trees turns level (rules_by rules) h);
  trees = λ kind_of bytes_of tests level rules h.
      ((assigns_are_trees kind_of bytes_of (contents_by tests)).words level (λ d. rules_by (rules d)) h, (exprs_are_trees kind_of bytes_of (contents_by tests)).words level (λ d. rules_by (rules d)) h);
  simplest = simplest_exprs_are_trees;
  leveled = simplest_exprs_are_leveled;
  exactly = λ level scopes around begin lexemes outcome h.
      exactly (λ turns. expr turns level) simplest_exprs (simplest_exprs_are_trees level) scopes begin level (simplest_exprs_are_leveled level) around lexemes outcome h;
  one_tree = λ level once scopes begin lexemes a b x y. one_tree (λ turns. expr turns level) simplest_exprs (simplest_exprs_are_trees level) once scopes begin lexemes a b x y;
}
