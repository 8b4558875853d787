-- The tree of `int f(void){x=1;}` spells the kinds of its tokens.

use Rattle.std.proofs.Common.{List, [], ◌∷◌, refl, inl, lit<}
use Rattle.c_lexer.specs.declared.token.Kind.{Kind}
use Rattle.c_lexer.specs.declared.token.Kind.TheVariants as k
use Rattle.c_lexer.specs.declared.keyword.TheConstants.{KEY_INT, KEY_VOID}
use Rattle.c_lexer.specs.declared.mark.TheConstants.{MARK_LEFT_PAREN, MARK_RIGHT_PAREN}
use Rattle.c_lexer.specs.declared.mark.TheConstants.{MARK_LEFT_BRACE, MARK_RIGHT_BRACE}
use Rattle.c_lexer.specs.declared.mark.TheConstants.{MARK_SEMICOLON, MARK_EQUAL}
use Rattle.c_tree.specs.Fits.{Spells}
use Rattle.c_tree.specs.Forms.{basic, parameterless, name_operand, literal_operand, unconditional}
use Rattle.c_tree.specs.Forms.{assigned, sole, expression_stmt}
use Rattle.c_tree.specs.declared.tree.Unit.{Unit}
use Rattle.c_tree.specs.declared.tree.Assign.{Assign}
use Rattle.c_tree.specs.declared.tree.Block.{Block}
use Rattle.c_tree.specs.declared.tree.Item.TheVariants as item
use Rattle.c_tree.specs.declared.tree.BlockItem.TheVariants as block_item
use Rattle.c_tree.proofs.Spellings.{spelling_laws}

abbrev pub assign : Assign
assign = assigned ((name_operand 6, 7) ∷ []) (unconditional (literal_operand 8) [])

abbrev pub body : Block
body = record {
  items = block_item.Do (expression_stmt (sole assign) 9) ∷ [];
  marks = 5 ∷ 10 ∷ [];
}

abbrev pub example : Unit
example = record { items = item.Define (basic 0) (parameterless 1 2 3 4) body ∷ [] }

abbrev pub kinds : List Kind
kinds =
    k.Key KEY_INT ∷ k.Word ∷ k.Mark MARK_LEFT_PAREN ∷ k.Key KEY_VOID ∷ k.Mark MARK_RIGHT_PAREN ∷
    k.Mark MARK_LEFT_BRACE ∷ k.Word ∷ k.Mark MARK_EQUAL ∷ k.Number ∷ k.Mark MARK_SEMICOLON ∷
    k.Mark MARK_RIGHT_BRACE ∷ []

pub example_spells : Spells example kinds
example_spells = simp spelling_laws (
  refl,
  (KEY_INT, (3, lit< tt, refl), refl),
  (
    refl,
    refl,
    (
      refl,
      refl,
      (
        refl,
        (KEY_VOID, (0, lit< tt, refl), refl),
        (
          refl,
          refl,
          (
            refl,
            refl,
            (
              refl,
              refl,
              (
                refl,
                (MARK_EQUAL, (0, lit< tt, refl), refl),
                (
                  refl,
                  inl refl,
                  (
                    refl,
                    refl,
                    (refl, refl, tt),
                  ),
                ),
              ),
            ),
          ),
        ),
      ),
    ),
  ),
)
