-- The form of expressions (C11 6.5), apart from names. The kind of each token is given.

use Rattle.std.specs.Prelude.{ℕ, ◌+◌, ◌≡◌, ◌≢◌, ◌⊎◌, List, Option, Some, [], ◌∷◌, length, drop, All}
use Rattle.c_lexer.specs.declared.token.Kind.{Kind}
use Rattle.c_lexer.specs.declared.token.Kind.TheVariants as k
use Rattle.c_lexer.specs.declared.keyword.TheConstants.{KEY_SIZEOF}
use Rattle.c_lexer.specs.declared.mark.TheConstants.{MARK_PLUS_PLUS, MARK_MINUS_MINUS}
use Rattle.c_tree.specs.declared.tree.Expr.{Expr, out-Expr}
use Rattle.c_tree.specs.declared.tree.Assign.{Assign, out-Assign}
use Rattle.c_tree.specs.declared.tree.Cond.{Cond, out-Cond}
use Rattle.c_tree.specs.declared.tree.Arm.{Arm, out-Arm}
use Rattle.c_tree.specs.declared.tree.Binary.{Binary, out-Binary}
use Rattle.c_tree.specs.declared.tree.Prefixed.{Prefixed}
use Rattle.c_tree.specs.declared.tree.Prefix.{Prefix, out-Prefix}
use Rattle.c_tree.specs.declared.tree.Base.{Base}
use Rattle.c_tree.specs.declared.tree.BaseForm.{out-BaseForm}
use Rattle.c_tree.specs.declared.tree.BaseForm.TheOpen as o
use Rattle.c_tree.specs.declared.tree.Post.{out-Post}
use Rattle.c_tree.specs.Folds.{OpenPrefix, OpenBaseForm, OpenPost}
use Rattle.c_tree.specs.Shape.{Inner, HasMarks, HasBraces, bracketed}

-- A cast (6.5.4).
abbrev pub IsCast : OpenPrefix → Type 0
IsCast (o.Prefix-F.Op token) = ⊥
IsCast (o.Prefix-F.Cast type_name marks) = Prim.Unit {0}

-- `sizeof` or `_Alignof` with a type name (6.5.3.4).
abbrev pub IsSizeOfType : OpenBaseForm → Type 0
IsSizeOfType (o.BaseForm-F.BaseForm::Name token) = ⊥
IsSizeOfType (o.BaseForm-F.Literal tokens) = ⊥
IsSizeOfType (o.BaseForm-F.BaseForm::Group expr marks) = ⊥
IsSizeOfType (o.BaseForm-F.Compound type_name items marks) = ⊥
IsSizeOfType (o.BaseForm-F.SizeType key type_name marks) = Prim.Unit {0}

module _ (kind_of : ℕ → Option Kind) (inner : Inner) where
  -- Parts, with a comma between two of them; at least one (6.5.17).
  pub record IsExpr (expr : Expr) : Type 0 where
    pub parts : All inner.IsAssign (out-Expr expr).parts
    pub commas : length (out-Expr expr).parts ≡ 1 + length (out-Expr expr).marks

  -- An assignment expression, as the one part (6.5.16).
  pub record IsSingle (expr : Expr) : Type 0 where
    pub form : IsExpr expr
    pub one : length (out-Expr expr).parts ≡ 1

  -- A constant expression: a conditional one (6.6).
  pub record IsConstant (expr : Expr) : Type 0 where
    pub single : IsSingle expr
    pub conditional : All (λ assign. (out-Assign assign).targets ≡ []) (out-Expr expr).parts

  -- The arguments of a call, of which there may be none (6.5.2.2).
  pub record IsArguments (arguments : List Assign) (marks : List ℕ) : Type 0 where
    pub each : All inner.IsAssign arguments
    pub commas : HasMarks (bracketed (length arguments)) marks

  -- ---- Operands

  -- The operators that take a unary expression, and so no cast: `sizeof`, `++` and `--` (6.5.3).
  abbrev pub TakesUnary : OpenPrefix → Type 0
  TakesUnary (o.Prefix-F.Op token) =
      (kind_of token ≡ Some (k.Key KEY_SIZEOF)) ⊎ (kind_of token ≡ Some (k.Mark MARK_PLUS_PLUS))
      ⊎ (kind_of token ≡ Some (k.Mark MARK_MINUS_MINUS))
  TakesUnary (o.Prefix-F.Cast type_name marks) = ⊥

  -- A unary operator (6.5.3), or a type name in parentheses (6.5.4).
  abbrev pub IsPrefix : OpenPrefix → Type 0
  IsPrefix (o.Prefix-F.Op token) = Prim.Unit {0}
  IsPrefix (o.Prefix-F.Cast type_name marks) = inner.IsTypeName type_name × HasMarks 2 marks

  -- No cast stands directly after an operator that takes a unary expression (6.5.3, 6.5.4).
  abbrev pub AreLinked : List Prefix → Type 0
  AreLinked [] = Prim.Unit {0}
  AreLinked (prefix ∷ []) = Prim.Unit {0}
  AreLinked (prefix ∷ next ∷ prefixes) =
      (TakesUnary (out-Prefix prefix) → ¬ IsCast (out-Prefix next)) × AreLinked (next ∷ prefixes)

  abbrev pub IsBaseForm : OpenBaseForm → Type 0
  -- An identifier (6.5.1).
  IsBaseForm (o.BaseForm-F.BaseForm::Name token) = Prim.Unit {0}
  -- A constant, or a string literal of some adjacent ones (6.4.5, 6.5.1).
  IsBaseForm (o.BaseForm-F.Literal tokens) = tokens ≢ []
  -- `(`, an expression and `)` (6.5.1).
  IsBaseForm (o.BaseForm-F.BaseForm::Group expr marks) = IsExpr expr × HasMarks 2 marks
  -- `(`, a type name, `)`, and then a list of initialisers in braces (6.5.2.5).
  IsBaseForm (o.BaseForm-F.Compound type_name items marks) =
      inner.IsTypeName type_name × All inner.IsItem items × HasBraces (length items) (drop 2 marks)
  -- `sizeof` or `_Alignof`, `(`, a type name and `)` (6.5.3.4).
  IsBaseForm (o.BaseForm-F.SizeType key type_name marks) =
      inner.IsTypeName type_name × HasMarks 2 marks

  -- What may follow a primary expression (6.5.2).
  abbrev pub IsPost : OpenPost → Type 0
  IsPost (o.Post-F.Post::Index expr marks) = IsExpr expr × HasMarks 2 marks
  IsPost (o.Post-F.Call arguments marks) = IsArguments arguments marks
  IsPost (o.Post-F.Dot token marks) = HasMarks 1 marks
  IsPost (o.Post-F.Arrow token marks) = HasMarks 1 marks
  IsPost (o.Post-F.Step token) = Prim.Unit {0}

  -- A postfix expression (6.5.2). The size of a type is a unary one: no suffix follows it (6.5.3).
  pub record IsBase (base : Base) : Type 0 where
    pub form : IsBaseForm (out-BaseForm base.form)
    pub suffixes : All (λ suffix. IsPost (out-Post suffix)) base.suffixes
    pub bare : IsSizeOfType (out-BaseForm base.form) → base.suffixes ≡ []

  -- A cast expression: operators and casts, and then a postfix expression (6.5.3, 6.5.4).
  pub record IsPrefixed (prefixed : Prefixed) : Type 0 where
    pub prefixes : All (λ prefix. IsPrefix (out-Prefix prefix)) prefixed.prefixes
    pub linked : AreLinked prefixed.prefixes
    pub base : IsBase prefixed.base

  -- ---- Operators

  -- Cast expressions with a binary operator between two of them (6.5.5 to 6.5.14).
  pub record IsBinary (binary : Binary) : Type 0 where
    pub first : IsPrefixed (out-Binary binary).first
    pub rest : All (λ (operand : ℕ × Prefixed). IsPrefixed operand.1) (out-Binary binary).rest

  -- A condition, `?`, an expression and `:` (6.5.15).
  pub record IsArm (arm : Arm) : Type 0 where
    pub test : IsBinary (out-Arm arm).test
    pub then : IsExpr (out-Arm arm).then
    pub marks : HasMarks 2 (out-Arm arm).marks

  -- A conditional expression: the third operand is one again (6.5.15).
  pub record IsCond (cond : Cond) : Type 0 where
    pub arms : All IsArm (out-Cond cond).arms
    pub last : IsBinary (out-Cond cond).last

  -- What is assigned to is a unary expression, so that no cast is first in it (6.5.16).
  pub record IsTarget (target : Prefixed × ℕ) : Type 0 where
    pub prefixed : IsPrefixed target.0
    pub unary : (cast : Prefix) (others : List Prefix) → target.0.prefixes ≡ cast ∷ others →
        ¬ IsCast (out-Prefix cast)

  -- An assignment expression (6.5.16).
  pub record IsAssign (assign : Assign) : Type 0 where
    pub targets : All IsTarget (out-Assign assign).targets
    pub value : IsCond (out-Assign assign).value
