-- How the parts of the first grammar stand in the tokens that are left: from `before`, so that
-- `after` is left behind them.

use Rattle.std.specs.Prelude.{ℕ, ◌≡◌, ◌⊎◌, List, [], ◌∷◌}
use Rattle.c_lexer.specs.declared.token.Kind.TheVariants.{Word, Key, Number, Mark}
use Rattle.c_lexer.specs.declared.keyword.TheConstants.{KEY_INT, KEY_VOID}
use Rattle.c_lexer.specs.declared.mark.TheConstants.{MARK_LEFT_PAREN, MARK_RIGHT_PAREN}
use Rattle.c_lexer.specs.declared.mark.TheConstants.{MARK_LEFT_BRACE, MARK_RIGHT_BRACE}
use Rattle.c_lexer.specs.declared.mark.TheConstants.{MARK_PLUS, MARK_SEMICOLON, MARK_EQUAL}
use Rattle.c_tree.specs.Forms.{basic, parameterless, name_operand, literal_operand}
use Rattle.c_tree.specs.Forms.{assigned, expression_stmt, sole, unconditional}
use Rattle.c_tree.specs.declared.tree.Item.{Item}
use Rattle.c_tree.specs.declared.tree.Item.TheVariants.{Define}
use Rattle.c_tree.specs.declared.tree.Block.{Block}
use Rattle.c_tree.specs.declared.tree.BlockItem.{BlockItem}
use Rattle.c_tree.specs.declared.tree.BlockItem.TheVariants.{Do}
use Rattle.c_tree.specs.declared.tree.Prefixed.{Prefixed}
use Rattle.first_grammar.specs.Rest.{Rest, IsAt}
use Rattle.first_grammar.specs.declared.functions.Head.{Head}

-- The parts follow each other.
abbrev pub Runs : {A : Type 0} → (A → Rest → Rest → Type 0) → List A → Rest → Rest → Type 0
Runs {A} Stands [] before after = before ≡ after
Runs {A} Stands (part ∷ parts) before after =
    (between : Rest) × Stands part before between × Runs Stands parts between after

-- A name or a number.
abbrev pub OperandAt : Prefixed → Rest → Rest → Type 0
OperandAt operand before after =
    ((token : ℕ) × (before ≡ (token, Word) ∷ after) × (operand ≡ name_operand token))
    ⊎ ((token : ℕ) × (before ≡ (token, Number) ∷ after) × (operand ≡ literal_operand token))

-- An operand and `=`.
abbrev pub TargetAt : Prefixed × ℕ → Rest → Rest → Type 0
TargetAt target before after =
    OperandAt target.0 before ((target.1, Mark MARK_EQUAL) ∷ after)

-- `+` and an operand.
abbrev pub AddendAt : ℕ × Prefixed → Rest → Rest → Type 0
AddendAt addend before after =
    (between : Rest) × (before ≡ (addend.0, Mark MARK_PLUS) ∷ between)
    × OperandAt addend.1 between after

-- The targets, and the operand with which the value begins. No further `=` follows.
abbrev pub BegunAt : List (Prefixed × ℕ) × Prefixed → Rest → Rest → Type 0
BegunAt begun before after =
    (between : Rest) × Runs TargetAt begun.0 before between × OperandAt begun.1 between after
    × (¬ IsAt (Mark MARK_EQUAL) after)

-- The other operands. No further `+` follows.
abbrev pub AddendsAt : List (ℕ × Prefixed) → Rest → Rest → Type 0
AddendsAt addends before after =
    Runs AddendAt addends before after × (¬ IsAt (Mark MARK_PLUS) after)

-- The statement of these parts.
unfoldable pub statement : List (Prefixed × ℕ) → Prefixed → List (ℕ × Prefixed) → ℕ → BlockItem
statement targets first rest semicolon =
    Do (expression_stmt (sole (assigned targets (unconditional first rest))) semicolon)

-- An expression and `;`.
pub record StatementAt (item : BlockItem) (before after : Rest) : Type 0 where
  pub targets : List (Prefixed × ℕ)
  pub first : Prefixed
  pub rest : List (ℕ × Prefixed)
  pub semicolon : ℕ
  pub between : Rest
  pub begun : BegunAt (targets, first) before between
  pub addends : AddendsAt rest between ((semicolon, Mark MARK_SEMICOLON) ∷ after)
  pub is : item ≡ statement targets first rest semicolon

-- Statements, up to a `}`.
abbrev pub StatementsAt : List BlockItem → Rest → Rest → Type 0
StatementsAt items before after =
    Runs StatementAt items before after × IsAt (Mark MARK_RIGHT_BRACE) after

-- The body of these parts.
unfoldable pub body : ℕ → List BlockItem → ℕ → Block
body left items right = record { items = items; marks = left ∷ right ∷ [] }

-- `{`, statements and `}`.
pub record BodyAt (block : Block) (before after : Rest) : Type 0 where
  pub left : ℕ
  pub items : List BlockItem
  pub right : ℕ
  pub inside : Rest
  pub opens : before ≡ (left, Mark MARK_LEFT_BRACE) ∷ inside
  pub statements : StatementsAt items inside ((right, Mark MARK_RIGHT_BRACE) ∷ after)
  pub is : block ≡ body left items right

-- `int NAME(void)`.
abbrev pub HeadAt : Head → Rest → Rest → Type 0
HeadAt head before after =
    before ≡ (head.int, Key KEY_INT) ∷ (head.name, Word) ∷ (head.left, Mark MARK_LEFT_PAREN) ∷
    (head.void, Key KEY_VOID) ∷ (head.right, Mark MARK_RIGHT_PAREN) ∷ after

-- The function of these parts.
unfoldable pub function : Head → Block → Item
function head block =
    Define (basic head.int) (parameterless head.name head.left head.void head.right) block

-- `int NAME(void)` and a body.
pub record FunctionAt (item : Item) (before after : Rest) : Type 0 where
  pub head : Head
  pub block : Block
  pub between : Rest
  pub begins : HeadAt head before between
  pub stands : BodyAt block between after
  pub is : item ≡ function head block

-- Functions, up to the end.
abbrev pub ItemsAt : List Item → Rest → Rest → Type 0
ItemsAt items before after = Runs FunctionAt items before after × (after ≡ [])
