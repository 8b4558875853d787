-- The form of statements (C11 6.8), apart from names and from where jumps may stand. The kind of
-- each token is given.

use Rattle.std.specs.Prelude.{ℕ, zero, suc, ◌+◌, ◌*◌, ◌≡◌, ◌≢◌, ◌⊎◌, Bool, true, false, List}
use Rattle.std.specs.Prelude.{Option}
use Rattle.std.specs.Prelude.{Some, None, [], ◌∷◌, ◌++◌, length, All, IsSome, IfSome}
use Rattle.std.specs.Option.{MatchOption}
use Rattle.c_lexer.specs.declared.token.Kind.{Kind}
use Rattle.c_tree.specs.declared.tree.Expr.{Expr}
use Rattle.c_tree.specs.declared.tree.Block.{Block}
use Rattle.c_tree.specs.declared.tree.BlockItem.{out-BlockItem}
use Rattle.c_tree.specs.declared.tree.BlockItem.TheOpen as s
use Rattle.c_tree.specs.declared.tree.Stmt.{Stmt}
use Rattle.c_tree.specs.declared.tree.StmtKind.{out-StmtKind}
use Rattle.c_tree.specs.declared.tree.Mark.{Mark}
use Rattle.c_tree.specs.declared.tree.Mark.TheVariants as mark
use Rattle.c_tree.specs.declared.tree.ForInit.{ForInit}
use Rattle.c_tree.specs.declared.tree.ForInit.TheVariants as for_init
use Rattle.c_tree.specs.Folds.{OpenBlockItem, OpenStmtKind}
use Rattle.c_tree.specs.Folds.{StmtKindLevel, stmt_fold}
use Rattle.c_tree.specs.Shape.{HasMarks}
use Rattle.c_tree.specs.Expressions.{IsConstant}
use Rattle.c_tree.specs.Depths.{inner_to, IsFormedExpr, IsFormedDeclaration}

-- ---- Which `if` an `else` belongs to

-- Whether a statement ends in an `if` that an `else` directly after it would belong to (6.8.4.1p3).
abbrev pub ends_in_if_level : StmtKindLevel Bool → Bool
ends_in_if_level (s.StmtKind-F.Empty marks) = false
ends_in_if_level (s.StmtKind-F.Value expr marks) = false
ends_in_if_level (s.StmtKind-F.Braced block) = false
ends_in_if_level (s.StmtKind-F.If arms None marks) = true
ends_in_if_level (s.StmtKind-F.If arms (Some other) marks) = other
ends_in_if_level (s.StmtKind-F.While expr body marks) = body
ends_in_if_level (s.StmtKind-F.DoWhile body expr marks) = false
ends_in_if_level (s.StmtKind-F.For init cond step body marks) = body
ends_in_if_level (s.StmtKind-F.Switch expr body marks) = body
ends_in_if_level (s.StmtKind-F.Break marks) = false
ends_in_if_level (s.StmtKind-F.Continue marks) = false
ends_in_if_level (s.StmtKind-F.Goto token marks) = false
ends_in_if_level (s.StmtKind-F.Return expr marks) = false

unfoldable pub ends_in_if : Stmt → Bool
ends_in_if = stmt_fold (record {
  block_item = λ level. false;
  stmt_kind = ends_in_if_level;
  block = λ level. false;
  stmt = λ level. level.kind;
})

-- An `if` without labels: after `else` it is a further arm, and no `else` part (ours).
abbrev pub IsIfKind : OpenStmtKind → Type 0
IsIfKind (s.StmtKind-F.Empty marks) = ⊥
IsIfKind (s.StmtKind-F.Value expr marks) = ⊥
IsIfKind (s.StmtKind-F.Braced block) = ⊥
IsIfKind (s.StmtKind-F.If arms other marks) = Prim.Unit {0}
IsIfKind (s.StmtKind-F.While expr body marks) = ⊥
IsIfKind (s.StmtKind-F.DoWhile body expr marks) = ⊥
IsIfKind (s.StmtKind-F.For init cond step body marks) = ⊥
IsIfKind (s.StmtKind-F.Switch expr body marks) = ⊥
IsIfKind (s.StmtKind-F.Break marks) = ⊥
IsIfKind (s.StmtKind-F.Continue marks) = ⊥
IsIfKind (s.StmtKind-F.Goto token marks) = ⊥
IsIfKind (s.StmtKind-F.Return expr marks) = ⊥

abbrev pub IsIf : Stmt → Type 0
IsIf stmt = (stmt.labels ≡ []) × IsIfKind (out-StmtKind stmt.kind)

-- ---- Statements: their parts are asked to a depth; what is asked of a statement within is given

module _ (kind_of : ℕ → Option Kind) (depth : ℕ) where
  -- A name, `case` with a constant expression, or `default`, and `:` (6.8.1).
  abbrev pub IsLabel : Mark → Type 0
  IsLabel (mark.Label token marks) = HasMarks 1 marks
  IsLabel (mark.Case expr marks) =
      IsConstant kind_of (inner_to kind_of depth) expr × HasMarks 2 marks
  IsLabel (mark.Default token marks) = HasMarks 1 marks

  -- What stands before the second part of a `for` (6.8.5).
  abbrev pub IsForInit : ForInit → Type 0
  IsForInit (for_init.Nothing marks) = HasMarks 1 marks
  IsForInit (for_init.Value expr marks) = IsFormedExpr kind_of depth expr × HasMarks 1 marks
  IsForInit (for_init.Declare declaration) = IsFormedDeclaration kind_of depth declaration

  module _ (IsInner : Stmt → Type 0) where
    -- A declaration or a statement (6.8.2).
    abbrev pub IsBlockItem : OpenBlockItem → Type 0
    IsBlockItem (s.BlockItem-F.Declare declaration) =
        IsFormedDeclaration kind_of depth declaration
    IsBlockItem (s.BlockItem-F.Do stmt) = IsInner stmt

    -- `{`, the items and `}` (6.8.2).
    pub record IsBlock (block : Block) : Type 0 where
      pub items : All (λ item. IsBlockItem (out-BlockItem item)) block.items
      pub marks : HasMarks 2 block.marks

    -- `if`, `(`, a condition, `)` and a statement; the same again after each `else` that an `if`
    -- follows; and perhaps `else` and another statement (6.8.4.1). A statement that `else` follows
    -- does not end in an `if` that would take it (p3).
    pub record IsIfStatement (arms : List (Expr × Stmt)) (other : Option Stmt)
        (marks : List ℕ) : Type 0 where
      pub some : arms ≢ []
      pub conditions : All (λ (arm : Expr × Stmt). IsFormedExpr kind_of depth arm.0) arms
      pub bodies : All (λ (arm : Expr × Stmt). IsInner arm.1) arms
      pub otherwise : IfSome other (λ stmt. IsInner stmt × ¬ IsIf stmt)
      pub fixed : MatchOption other (1 + length marks ≡ 4 * length arms)
          (λ stmt. length marks ≡ 4 * length arms)
      pub closed : (before after : List (Expr × Stmt)) (condition : Expr) (body : Stmt) →
          arms ≡ before ++ (condition, body) ∷ after → (after ≢ []) ⊎ IsSome other →
          ends_in_if body ≡ false

    abbrev pub IsStmtKind : OpenStmtKind → Type 0
    -- `;` with or without an expression (6.8.3).
    IsStmtKind (s.StmtKind-F.Empty marks) = HasMarks 1 marks
    IsStmtKind (s.StmtKind-F.Value expr marks) = IsFormedExpr kind_of depth expr × HasMarks 1 marks
    IsStmtKind (s.StmtKind-F.Braced block) = IsBlock block
    IsStmtKind (s.StmtKind-F.If arms other marks) = IsIfStatement arms other marks
    -- `while`, `(`, a condition, `)` and a statement (6.8.5).
    IsStmtKind (s.StmtKind-F.While expr body marks) =
        IsFormedExpr kind_of depth expr × IsInner body × HasMarks 3 marks
    -- `do`, a statement, `while`, `(`, a condition, `)` and `;` (6.8.5).
    IsStmtKind (s.StmtKind-F.DoWhile body expr marks) =
        IsInner body × IsFormedExpr kind_of depth expr × HasMarks 5 marks
    -- `for`, `(`, the first part with its `;`, perhaps a condition, `;`, perhaps a third part, `)`
    -- and a statement (6.8.5).
    IsStmtKind (s.StmtKind-F.For init cond step body marks) =
        IsForInit init × IfSome cond (IsFormedExpr kind_of depth) ×
        IfSome step (IsFormedExpr kind_of depth) × IsInner body × HasMarks 4 marks
    -- `switch`, `(`, an expression, `)` and a statement (6.8.4).
    IsStmtKind (s.StmtKind-F.Switch expr body marks) =
        IsFormedExpr kind_of depth expr × IsInner body × HasMarks 3 marks
    -- A keyword and `;`; between them the name of a label, or perhaps an expression (6.8.6).
    IsStmtKind (s.StmtKind-F.Break marks) = HasMarks 2 marks
    IsStmtKind (s.StmtKind-F.Continue marks) = HasMarks 2 marks
    IsStmtKind (s.StmtKind-F.Goto token marks) = HasMarks 2 marks
    IsStmtKind (s.StmtKind-F.Return expr marks) =
        IfSome expr (IsFormedExpr kind_of depth) × HasMarks 2 marks

    -- Labels, and a statement without labels (6.8.1).
    pub record IsStmt (stmt : Stmt) : Type 0 where
      pub labels : All IsLabel stmt.labels
      pub kind : IsStmtKind (out-StmtKind stmt.kind)

-- A statement, to a depth.
unfoldable pub IsFormedStmt : (ℕ → Option Kind) → ℕ → Stmt → Type 0
IsFormedStmt kind_of zero stmt = ⊥
IsFormedStmt kind_of (suc depth) stmt = IsStmt kind_of depth (IsFormedStmt kind_of depth) stmt

-- A compound statement, to a depth.
abbrev pub IsFormedBlock : (ℕ → Option Kind) → ℕ → Block → Type 0
IsFormedBlock kind_of depth block = IsBlock kind_of depth (IsFormedStmt kind_of depth) block
