-- Faults of jumps, and second definitions of a function, in a file that the syntax accepts (C11
-- 6.8.1, 6.8.4.2, 6.8.6, 6.9). Each blames a token.

use Rattle.std.specs.Prelude.{ℕ, ◌≡◌, ◌≤◌, Bool, true, false, ◌||◌, List, Option, Some, None}
use Rattle.std.specs.Prelude.{[], ◌∷◌, ◌++◌, drop, map, slice_get, Contains}
use Rattle.std.specs.List.{flat_map}
use Rattle.c_lexer.specs.declared.token.Kind.{Kind}
use Rattle.c_tree.specs.declared.tree.Unit.{Unit}
use Rattle.c_tree.specs.declared.tree.Item.{Item}
use Rattle.c_tree.specs.declared.tree.Item.TheVariants as item
use Rattle.c_tree.specs.declared.tree.Block.{Block}
use Rattle.c_tree.specs.declared.tree.Expr.{Expr}
use Rattle.c_tree.specs.declared.tree.Mark.{Mark}
use Rattle.c_tree.specs.declared.tree.Mark.TheVariants as mark
use Rattle.c_tree.specs.declared.tree.BlockItem.TheOpen as s
use Rattle.c_tree.specs.Folds.{StmtSteps, BlockItemLevel, StmtKindLevel, block_fold}
use Rattle.c_tree.specs.Folds.{declarator_fold}
use Rattle.c_tree.specs.Lexemes.{Lexeme, kind_at, spelling_at}
use Rattle.c_tree.specs.TreeEvents.{tree_steps}
use Rattle.c_tree.specs.Units.{IsUnitOf}

-- What is wrong with a token.
pub data Fault : Type 0 where
  -- `break` outside of a loop and a `switch` (6.8.6.3p1).
  StrayBreak : Fault
  -- `continue` outside of a loop (6.8.6.2p1).
  StrayContinue : Fault
  -- `case`, `default` outside of a `switch` (6.8.1p2).
  StrayCase : Fault
  StrayDefault : Fault
  -- A `default` behind another one of the same `switch` (6.8.4.2p3).
  SecondDefault : Fault
  -- A label behind another one of its name in the function (6.8.1p3).
  SecondLabel : Fault
  -- `goto` to a name that no label of the function has (6.8.6.1p1).
  MissingLabel : Fault
  -- The name of a function behind another definition of it in the file (6.9p3, p5).
  Redefined : Fault

-- A token, and what is wrong with it.
pub record Blamed : Type 0 where
  pub token : ℕ
  pub fault : Fault

abbrev pub Blames : Type 0
Blames = List Blamed

abbrev pub blame : Fault → ℕ → Blamed
blame fault token = record { token = token; fault = fault }

-- What stands in a statement: the jumps and labels that blame a token, depending on whether a loop
-- and a `switch` are around it; each `default` that is in no `switch` of the statement, and so
-- belongs to the nearest one around it; the name of each label; and each name after `goto`. The
-- lists have the order of the source, but for what blames a second `default`.
pub record Jumps : Type 0 where
  pub strays : Bool → Bool → Blames
  pub defaults : List ℕ
  pub labels : List ℕ
  pub gotos : List ℕ

abbrev pub no_jumps : Jumps
no_jumps = record {
  strays = λ loop switch. [];
  defaults = [];
  labels = [];
  gotos = [];
}

-- The first mark is a keyword that is at fault, unless it may stand there.
abbrev pub stray_unless : Bool → Fault → Option ℕ → Blames
stray_unless true fault token = []
stray_unless false fault None = []
stray_unless false fault (Some token) = blame fault token ∷ []

-- What stands in the parts, one after the other.
abbrev pub in_parts : List Jumps → Jumps
in_parts parts = record {
  strays = λ loop switch. flat_map (λ (part : Jumps). part.strays loop switch) parts;
  defaults = flat_map (λ (part : Jumps). part.defaults) parts;
  labels = flat_map (λ (part : Jumps). part.labels) parts;
  gotos = flat_map (λ (part : Jumps). part.gotos) parts;
}

-- The body of a loop: `break` and `continue` belong to it.
abbrev pub in_loop : Jumps → Jumps
in_loop body = record body { strays = λ loop switch. body.strays true switch }

-- The body of a `switch`: `break`, `case` and `default` belong to it, and only one `default` may.
abbrev pub in_switch : Jumps → Jumps
in_switch body = record body {
  strays = λ loop switch.
      body.strays loop true ++ map (blame SecondDefault) (drop 1 body.defaults);
  defaults = [];
}

abbrev pub some_jumps : Option Jumps → List Jumps
some_jumps None = []
some_jumps (Some part) = part ∷ []

abbrev pub label_jumps : Mark → Jumps
label_jumps (mark.Label token marks) = record no_jumps { labels = token ∷ [] }
label_jumps (mark.Case expr marks) = record no_jumps {
  strays = λ loop switch. stray_unless switch StrayCase (slice_get marks 0);
}
label_jumps (mark.Default token marks) = record no_jumps {
  strays = λ loop switch. stray_unless switch StrayDefault (Some token);
  defaults = token ∷ [];
}

abbrev pub stmt_kind_jumps : StmtKindLevel Jumps → Jumps
stmt_kind_jumps (s.StmtKind-F.Empty marks) = no_jumps
stmt_kind_jumps (s.StmtKind-F.Value expr marks) = no_jumps
stmt_kind_jumps (s.StmtKind-F.Braced block) = block
stmt_kind_jumps (s.StmtKind-F.If arms other marks) =
    in_parts (map (λ (arm : Expr × Jumps). arm.1) arms ++ some_jumps other)
stmt_kind_jumps (s.StmtKind-F.While expr body marks) = in_loop body
stmt_kind_jumps (s.StmtKind-F.DoWhile body expr marks) = in_loop body
stmt_kind_jumps (s.StmtKind-F.For init cond step body marks) = in_loop body
stmt_kind_jumps (s.StmtKind-F.Switch expr body marks) = in_switch body
stmt_kind_jumps (s.StmtKind-F.Break marks) = record no_jumps {
  strays = λ loop switch. stray_unless (loop || switch) StrayBreak (slice_get marks 0);
}
stmt_kind_jumps (s.StmtKind-F.Continue marks) = record no_jumps {
  strays = λ loop switch. stray_unless loop StrayContinue (slice_get marks 0);
}
stmt_kind_jumps (s.StmtKind-F.Goto token marks) = record no_jumps { gotos = token ∷ [] }
stmt_kind_jumps (s.StmtKind-F.Return expr marks) = no_jumps

abbrev pub block_item_jumps : BlockItemLevel Jumps → Jumps
block_item_jumps (s.BlockItem-F.Declare declaration) = no_jumps
block_item_jumps (s.BlockItem-F.Do stmt) = stmt

abbrev pub jump_steps : StmtSteps Jumps
jump_steps = record {
  block_item = block_item_jumps;
  stmt_kind = stmt_kind_jumps;
  block = λ level. in_parts level.items;
  stmt = λ level. in_parts (map label_jumps level.labels ++ level.kind ∷ []);
}

unfoldable pub block_jumps : Block → Jumps
block_jumps = block_fold jump_steps

-- ---- Which tokens are blamed

module _ (bytes_of : ℕ → List ℕ) where
  -- The token is one of these, and stands behind another one of its name.
  pub record IsSecond (tokens : List ℕ) (token : ℕ) : Type 0 where
    pub before : List ℕ
    pub after : List ℕ
    pub stands : tokens ≡ before ++ token ∷ after
    pub named : Contains (map bytes_of before) (bytes_of token)

  -- A fault of a function with this body.
  pub data IsFaultOf (body : Block) : Blamed → Type 0 where
    stray : (blamed : Blamed) → Contains ((block_jumps body).strays false false) blamed →
        IsFaultOf body blamed
    second_label : (token : ℕ) → IsSecond (block_jumps body).labels token →
        IsFaultOf body (blame SecondLabel token)
    missing_label : (token : ℕ) → Contains (block_jumps body).gotos token →
        ¬ Contains (map bytes_of (block_jumps body).labels) (bytes_of token) →
        IsFaultOf body (blame MissingLabel token)

-- The body of each function that an item defines, and the function's name.
abbrev pub bodies_in : Item → List Block
bodies_in (item.Define specs declarator body) = body ∷ []
bodies_in (item.Declare declaration) = []

module _ (kind_of : ℕ → Option Kind) (bytes_of : ℕ → List ℕ) where
  abbrev pub name_list : Option ℕ → List ℕ
  name_list None = []
  name_list (Some token) = token ∷ []

  abbrev pub functions_in : Item → List ℕ
  functions_in (item.Define specs declarator body) =
      name_list (declarator_fold (tree_steps kind_of bytes_of) declarator).name
  functions_in (item.Declare declaration) = []

  -- A fault of the file.
  pub data IsFileFault (unit : Unit) : Blamed → Type 0 where
    of_function : (body : Block) (blamed : Blamed) → Contains (flat_map bodies_in unit.items) body →
        IsFaultOf bytes_of body blamed → IsFileFault unit blamed
    redefined : (token : ℕ) → IsSecond bytes_of (flat_map functions_in unit.items) token →
        IsFileFault unit (blame Redefined token)

-- The unit is that of a file of these lexemes, which has no fault.
pub record HasNoFault (lexemes : List Lexeme) (unit : Unit) : Type 0 where
  pub whole : IsUnitOf lexemes unit
  pub none : (blamed : Blamed) →
      ¬ IsFileFault (kind_at lexemes) (spelling_at lexemes) unit blamed

-- The unit is that of a file of these lexemes. This is a fault of it, and none blames a token
-- before its own.
pub record IsLeastFault (lexemes : List Lexeme) (unit : Unit) (blamed : Blamed) : Type 0 where
  pub whole : IsUnitOf lexemes unit
  pub fault : IsFileFault (kind_at lexemes) (spelling_at lexemes) unit blamed
  pub least : (other : Blamed) → IsFileFault (kind_at lexemes) (spelling_at lexemes) unit other →
      blamed.token ≤ other.token
