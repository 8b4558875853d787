-- The simplest trees of expressions: their type names are a typedef name or keywords, and stars,
-- and the items of their initialiser lists are values (C11 6.5.2.5, 6.7.7, 6.7.9).

use Rattle.std.specs.Prelude.{ℕ, zero, suc, ◌≡◌, ◌⊎◌, Bool, List, [], ◌∷◌, Option, map}
use Rattle.c_lexer.specs.declared.token.Kind.{Kind}
use Rattle.c_tree.specs.declared.tree.TypeName.{TypeName}
use Rattle.c_tree.specs.declared.tree.Spec.TheVariants as spec
use Rattle.c_tree.specs.declared.tree.InitItem.{InitItem}
use Rattle.c_tree.specs.declared.tree.Expr.{Expr}
use Rattle.c_tree.specs.declared.tree.Assign.{Assign}
use Rattle.c_tree.specs.Shape.{Inner}
use Rattle.c_tree.specs.Expressions.{IsAssign, IsExpr}
use Rattle.c_syntax.specs.Forms.{pointer, type_name_of, value_item}

-- A typedef name, or one keyword or more, and then stars.
abbrev pub IsSimplestTypeName : TypeName → Type 0
IsSimplestTypeName type_name =
    ((name : ℕ) × (stars : List ℕ) ×
    (type_name ≡ type_name_of (spec.Named name ∷ []) (map pointer stars))) ⊎
    ((first : ℕ) × (more : List ℕ) × (stars : List ℕ) ×
    (type_name ≡ type_name_of (map (λ n. spec.Basic n) (first ∷ more)) (map pointer stars)))

-- One value.
abbrev pub IsSimplestItem : (Assign → Type 0) → InitItem → Type 0
IsSimplestItem IsGood item = (value : Assign) × IsGood value × (item ≡ value_item value)

-- What is asked of the parts, where this is asked of assignment expressions.
abbrev pub simplest_of : (Assign → Type 0) → Inner
simplest_of IsGood = record {
  IsAssign = IsGood;
  IsTypeName = IsSimplestTypeName;
  IsItem = IsSimplestItem IsGood;
  IsDeclarator = λ named declarator. ⊥;
  IsMember = λ declaration. ⊥;
}

-- An assignment expression, to a depth.
unfoldable pub IsSimplestAssign : (ℕ → Option Kind) → ℕ → Assign → Type 0
IsSimplestAssign kind_of zero assign = ⊥
IsSimplestAssign kind_of (suc depth) assign =
    IsAssign kind_of (simplest_of (IsSimplestAssign kind_of depth)) assign

abbrev pub IsSimplestExpr : (ℕ → Option Kind) → ℕ → Expr → Type 0
IsSimplestExpr kind_of depth expr =
    IsExpr kind_of (simplest_of (IsSimplestAssign kind_of depth)) expr
