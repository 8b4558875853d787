-- That what the rules of expressions read are trees, and that trees are read.

use Rattle.std.specs.Prelude.{ℕ, ◌≡◌, Bool, true, List, Option}
use Rattle.c_lexer.specs.declared.token.Kind.{Kind}
use Rattle.c_scopes.specs.Scopes.{OpenScopes}
use Rattle.c_tree.specs.declared.tree.TypeName.{TypeName}
use Rattle.c_tree.specs.declared.tree.InitItem.{InitItem}
use Rattle.c_tree.specs.declared.tree.Expr.{Expr}
use Rattle.c_tree.specs.declared.tree.Assign.{Assign}
use Rattle.c_tree.specs.Lexemes.{Lexeme}
use Rattle.c_tree.specs.Units.{IsTreeOf}
use Rattle.reading.specs.Languages.{Leveled}
use Rattle.reading.specs.Readers.{Outcome}
use Rattle.reading.specs.Exact.{IsExact}
use Rattle.c_reading.specs.Kept.{KeptToken, numbered}
use Rattle.c_reading.specs.Cursors.{Around}
use Rattle.c_tree.specs.Shape.{Inner as Contents}
use Rattle.c_tree.specs.Expressions.{IsAssign, IsExpr}
use Rattle.c_syntax.specs.Inner.{Inner}
use Rattle.c_syntax.specs.ExpressionRules.{whole, inner_expr}
use Rattle.c_syntax.specs.SimplestRules.{expr}
use Rattle.expression_trees.specs.Saying.{AreTrees, AreWords}
use Rattle.expression_trees.specs.Trees.{of_assign, of_expr, of_type_name, of_item}
use Rattle.expression_trees.specs.Spelling.{IsToken, AreItsTrees, simplest_exprs}
use Rattle.expression_trees.specs.ExactTrees.{AreLeveled, IsUnambiguous, IsReadExactly}

-- The kind and the bytes of each token are given.
module _ (kind_of : ℕ → Option Kind) (bytes_of : ℕ → List ℕ) (inner : Contents) where
  -- The words of what stands in brackets are trees of the forms.
  pub record InnerAreTrees (rules : Inner) : Type 0 where
    pub assign : AreTrees kind_of bytes_of (rules.assign) inner.IsAssign
        (of_assign kind_of bytes_of)
    pub type_name : AreTrees kind_of bytes_of (rules.type_name) inner.IsTypeName
        (of_type_name kind_of bytes_of)
    pub item : AreTrees kind_of bytes_of (rules.item) inner.IsItem (of_item kind_of bytes_of)

  -- The trees of the forms are words of what stands in brackets.
  pub record InnerAreWords (rules : ℕ → Inner) : Type 0 where
    pub assign : AreWords kind_of bytes_of (λ turns. (rules turns).assign) inner.IsAssign
        (of_assign kind_of bytes_of)
    pub type_name : AreWords kind_of bytes_of (λ turns. (rules turns).type_name) inner.IsTypeName
        (of_type_name kind_of bytes_of)
    pub item : AreWords kind_of bytes_of (λ turns. (rules turns).item) inner.IsItem
        (of_item kind_of bytes_of)

  -- Then assignment expressions are trees, and trees are assignment expressions (6.5.16).
  pub record AssignsAreTrees : Type 1 where
    pub trees : (turns level : ℕ) (rules : Inner) → InnerAreTrees rules →
        AreTrees kind_of bytes_of (whole turns level rules) (IsAssign kind_of inner)
        (of_assign kind_of bytes_of)
    pub words : (level : ℕ) (rules : ℕ → Inner) → InnerAreWords rules →
        AreWords kind_of bytes_of (λ turns. whole turns level (rules turns))
        (IsAssign kind_of inner) (of_assign kind_of bytes_of)

  -- And so are expressions (6.5.17).
  pub record ExprsAreTrees : Type 1 where
    pub trees : (turns level : ℕ) (rules : Inner) → InnerAreTrees rules →
        AreTrees kind_of bytes_of (inner_expr turns level (rules.assign)) (IsExpr kind_of inner)
        (of_expr kind_of bytes_of)
    pub words : (level : ℕ) (rules : ℕ → Inner) → InnerAreWords rules →
        AreWords kind_of bytes_of (λ turns. inner_expr turns level ((rules turns).assign))
        (IsExpr kind_of inner) (of_expr kind_of bytes_of)

-- ---- Contents that are decided

-- What is asked of what stands in brackets, by tests.
pub record Tests : Type 0 where
  pub assign : Assign → Bool
  pub type_name : TypeName → Bool
  pub item : InitItem → Bool

abbrev pub contents_by : Tests → Contents
contents_by tests = record {
  IsAssign = λ assign. tests.assign assign ≡ true;
  IsTypeName = λ type_name. tests.type_name type_name ≡ true;
  IsItem = λ item. tests.item item ≡ true;
  IsDeclarator = λ named declarator. ⊥;
  IsMember = λ declaration. ⊥;
}

-- Which words, from scopes to scopes, have which value.
abbrev pub Words : Type 0 → Type 0
Words A = OpenScopes → List (Leveled KeptToken) → A × OpenScopes → Bool

-- The rules of what stands in brackets, each by its words.
pub record InnerWords : Type 0 where
  pub assign : Words Assign
  pub type_name : Words TypeName
  pub item : Words InitItem

abbrev pub rules_by : InnerWords → Inner
rules_by words = record {
  assign = λ scopes word end. words.assign scopes word end ≡ true;
  type_name = λ scopes word end. words.type_name scopes word end ≡ true;
  item = λ scopes word end. words.item scopes word end ≡ true;
}

-- Whatever stands in brackets, the words of the rules of expressions are trees of expressions, if
-- the words of what stands in brackets are trees of that.
abbrev pub WordsAreTrees : Type 0
WordsAreTrees =
    (kind_of : ℕ → Option Kind) (bytes_of : ℕ → List ℕ) (tests : Tests) (turns level : ℕ)
    (rules : InnerWords) → InnerAreTrees kind_of bytes_of (contents_by tests) (rules_by rules) →
    AreTrees kind_of bytes_of (whole turns level (rules_by rules))
    (IsAssign kind_of (contents_by tests)) (of_assign kind_of bytes_of) ×
    AreTrees kind_of bytes_of (inner_expr turns level ((rules_by rules).assign))
    (IsExpr kind_of (contents_by tests)) (of_expr kind_of bytes_of)

-- And the trees of expressions are words of the rules.
abbrev pub TreesAreWords : Type 0
TreesAreWords =
    (kind_of : ℕ → Option Kind) (bytes_of : ℕ → List ℕ) (tests : Tests) (level : ℕ)
    (rules : ℕ → InnerWords) →
    InnerAreWords kind_of bytes_of (contents_by tests) (λ turns. rules_by (rules turns)) →
    AreWords kind_of bytes_of (λ turns. whole turns level (rules_by (rules turns)))
    (IsAssign kind_of (contents_by tests)) (of_assign kind_of bytes_of) ×
    AreWords kind_of bytes_of (λ turns. inner_expr turns level ((rules_by (rules turns)).assign))
    (IsExpr kind_of (contents_by tests)) (of_expr kind_of bytes_of)

-- ---- The whole

pub record ExpressionsAreTrees : Type 0 where
  pub words : WordsAreTrees
  pub trees : TreesAreWords
  -- With the simplest contents the words are the trees that lists of lexemes spell.
  pub simplest : (level : ℕ) → AreItsTrees (λ turns. expr turns level) simplest_exprs
  pub leveled : (level : ℕ) → AreLeveled (λ turns. expr turns level) level
  -- What is read exactly is the longest run that begins a tree, or the first lexeme is blamed with
  -- which none begins.
  pub exactly : (level : ℕ) (scopes : OpenScopes) (around : Around) (begin : ℕ)
      (lexemes : List Lexeme) (outcome : Outcome KeptToken OpenScopes Around Expr) →
      IsExact IsToken around (λ turns. expr turns level scopes) (numbered begin lexemes) outcome →
      IsReadExactly simplest_exprs scopes around level begin lexemes outcome
  -- A list of lexemes has at most one tree, where a word has at most one value.
  pub one_tree : (level : ℕ) → IsUnambiguous (λ turns. expr turns level) → (scopes : OpenScopes)
      (begin : ℕ) (lexemes : List Lexeme) (a b : Expr) →
      IsTreeOf simplest_exprs scopes begin lexemes a →
      IsTreeOf simplest_exprs scopes begin lexemes b → a ≡ b
