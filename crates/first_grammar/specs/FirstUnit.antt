-- The first grammar. Ours: of C11 (6.5 to 6.9) it has functions without parameters, of which the
-- statements are sums and assignments of names and numbers.

use Rattle.std.specs.Prelude.{ℕ, ◌≡◌, ◌⊎◌, List, [], length, map, Option, Some, None}
use Rattle.std.specs.Prelude.{slice_get, slice_range}
use Rattle.std.specs.List.{All}
use Rattle.c_lexer.specs.declared.token.Kind.{Kind}
use Rattle.c_lexer.specs.declared.token.Kind.TheVariants.{Key, Number, Mark}
use Rattle.c_lexer.specs.declared.token.Token.{Token}
use Rattle.c_lexer.specs.declared.keyword.TheConstants.{KEY_INT, KEY_VOID}
use Rattle.c_lexer.specs.declared.mark.TheConstants.{MARK_PLUS, MARK_EQUAL}
use Rattle.c_tree.specs.Fits.{Spells, kinds_of}
use Rattle.c_tree.specs.Folds.{OpenCore}
use Rattle.c_tree.specs.Forms.{assigned, basic, expression_stmt, literal_operand, name_operand}
use Rattle.c_tree.specs.Forms.{parameterless, sole, unconditional}
use Rattle.c_tree.specs.declared.tree.Unit.{Unit}
use Rattle.c_tree.specs.declared.tree.Item.{Item}
use Rattle.c_tree.specs.declared.tree.Item.TheVariants.{Declare, Define}
use Rattle.c_tree.specs.declared.tree.Specs.{Specs}
use Rattle.c_tree.specs.declared.tree.Declarator.{Declarator, out-Declarator}
use Rattle.c_tree.specs.declared.tree.Core.{Core, out-Core}
use Rattle.c_tree.specs.declared.tree.BaseForm.TheOpen as o
use Rattle.c_tree.specs.declared.tree.Block.{Block}
use Rattle.c_tree.specs.declared.tree.BlockItem.{BlockItem}
use Rattle.c_tree.specs.declared.tree.BlockItem.TheVariants.{Do}
use Rattle.c_tree.specs.declared.tree.Prefixed.{Prefixed}

-- ---- Shapes: what a tree has beside that it spells its tokens

-- The token with the number is of the kind.
abbrev pub HasKind : List Kind → ℕ → Kind → Type 0
HasKind kinds token kind = slice_get kinds token ≡ Some kind

-- An operand is a name, or a literal of one token that is a number (6.5.1).
abbrev pub IsOperand : List Kind → Prefixed → Type 0
IsOperand kinds operand =
    ((token : ℕ) × (operand ≡ name_operand token))
    ⊎ ((token : ℕ) × (operand ≡ literal_operand token) × HasKind kinds token Number)

-- A target is an operand, and its operator is `=` (6.5.16.1).
abbrev pub IsTarget : List Kind → Prefixed × ℕ → Type 0
IsTarget kinds target =
    IsOperand kinds target.0 × HasKind kinds target.1 (Mark MARK_EQUAL)

-- An operand is added by `+` (6.5.6).
abbrev pub IsAddend : List Kind → ℕ × Prefixed → Type 0
IsAddend kinds addend =
    HasKind kinds addend.0 (Mark MARK_PLUS) × IsOperand kinds addend.1

-- A statement is an expression and its `;`, without labels (6.8.3). The expression has one part, so
-- no comma (6.5.17), and no condition (6.5.15): it is a sum that is assigned to each target, if
-- there are any (6.5.6, 6.5.16).
pub record IsStatement (kinds : List Kind) (item : BlockItem) : Type 0 where
  pub targets : List (Prefixed × ℕ)
  pub first : Prefixed
  pub rest : List (ℕ × Prefixed)
  pub semicolon : ℕ
  pub is : item ≡
      Do (expression_stmt (sole (assigned targets (unconditional first rest))) semicolon)
  pub targets_are : All (IsTarget kinds) targets
  pub first_is : IsOperand kinds first
  pub rest_are : All (IsAddend kinds) rest

-- A function is `int NAME(void)` with a body between `{` and `}` (6.9.1).
pub record IsPlainFunction (kinds : List Kind) (specs : Specs) (declarator : Declarator)
    (body : Block) : Type 0 where
  pub type_token : ℕ
  pub name : ℕ
  pub left : ℕ
  pub void_token : ℕ
  pub right : ℕ
  pub is_int : HasKind kinds type_token (Key KEY_INT)
  pub is_void : HasKind kinds void_token (Key KEY_VOID)
  pub specs_are : specs ≡ basic type_token
  pub declarator_is : declarator ≡ parameterless name left void_token right
  pub braces : length body.marks ≡ 2
  pub statements : All (IsStatement kinds) body.items

-- An external declaration is such a function (6.9).
abbrev pub IsFunction : List Kind → Item → Type 0
IsFunction kinds (Define specs declarator body) = IsPlainFunction kinds specs declarator body
IsFunction kinds (Declare declaration) = ⊥

-- ---- Names

-- The bytes of a token, if it is there.
abbrev pub text_at : List ℕ → Option Token → List ℕ
text_at bytes None = []
text_at bytes (Some token) = slice_range bytes token.start token.end

-- The bytes of the name that stands in a core, if any (6.7.6p5).
abbrev pub name_in : List ℕ → List Token → OpenCore → List ℕ
name_in bytes tokens (o.Core-F.Core::Name token) = text_at bytes (slice_get tokens token)
name_in bytes tokens (o.Core-F.Core::Group declarator marks) = []
name_in bytes tokens o.Core-F.Empty = []

-- The same, of a core of a declarator.
abbrev pub name_of_core : List ℕ → List Token → Core → List ℕ
name_of_core bytes tokens core = name_in bytes tokens (out-Core core)

-- The name of a function, by its bytes (6.4.2.1p5), and none of what is no function.
abbrev pub name_of : List ℕ → List Token → Item → List ℕ
name_of bytes tokens (Define specs declarator body) =
    name_of_core bytes tokens (out-Declarator declarator).core
name_of bytes tokens (Declare declaration) = []

-- No name stands at two places (6.9p3).
abbrev pub Differ : List (List ℕ) → Type 0
Differ names = (i j : ℕ) (name : List ℕ) → slice_get names i ≡ Some name →
    slice_get names j ≡ Some name → i ≡ j

-- ---- Files

-- The tree is that of a file of the first grammar with these tokens.
pub record IsFirstUnit (bytes : List ℕ) (tokens : List Token) (unit : Unit) : Type 0 where
  pub spells : Spells unit (kinds_of tokens)
  pub functions : All (IsFunction (kinds_of tokens)) unit.items
  pub names : Differ (map (name_of bytes tokens) unit.items)
