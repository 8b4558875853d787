-- What the forms spell of which a tree has many.

use Rattle.std.proofs.Common.{◌≡◌, ℕ, List, ◌++◌, ◌∙◌, append_assoc, append-nil}
use Rattle.std.specs.List.{flat_map}
use Rattle.std.proofs.lemmas.List.Folds.{flat_map-map}
use Rattle.c_lexer.specs.declared.mark.TheConstants.{MARK_SEMICOLON}
use Rattle.c_tree.specs.declared.symbol.Want.TheVariants as want
use Rattle.c_tree.specs.declared.symbol.Slot.TheVariants as slot
use Rattle.c_tree.specs.declared.tree.Unit.{Unit}
use Rattle.c_tree.specs.declared.tree.BlockItem.TheVariants.{Do}
use Rattle.c_tree.specs.declared.tree.Prefixed.{Prefixed}
use Rattle.c_tree.specs.Forms.{assigned, expression_stmt, literal_operand, name_operand, sole, unconditional}
use Rattle.c_tree.specs.Spell.{wanted, block_item_spelling, item_spelling, operand_spelling, prefixed_spelling, target_spelling, unit_spelling}
use Rattle.c_tree.proofs.Spellings.{spelling_laws, openings, unit_spelling_lem, block_item_do_spelling_lem, stmt_spelling_lem, stmt_kind_value_spelling_lem, expr_spelling_lem, assign_spelling_lem, cond_spelling_lem, binary_spelling_lem}

pub name_operand_spelling : (token : ℕ) → prefixed_spelling (name_operand token) ≡ wanted token want.Word
name_operand_spelling token = simp spelling_laws

pub literal_operand_spelling : (token : ℕ) →
    prefixed_spelling (literal_operand token) ≡ wanted token (want.Among slot.Literal)
literal_operand_spelling token = simp spelling_laws

-- Down to the operands.
ruleset statement_rules = (append_assoc, append-nil, flat_map-map, openings, block_item_do_spelling_lem, stmt_spelling_lem, stmt_kind_value_spelling_lem, expr_spelling_lem, assign_spelling_lem, cond_spelling_lem, binary_spelling_lem)

pub statement_spelling : (targets : List (Prefixed × ℕ)) (first : Prefixed) (rest : List (ℕ × Prefixed)) (semicolon : ℕ) →
    block_item_spelling (Do (expression_stmt (sole (assigned targets (unconditional first rest))) semicolon)) ≡ flat_map target_spelling targets ++ (prefixed_spelling first ++ (flat_map operand_spelling rest ++ wanted semicolon (want.Mark MARK_SEMICOLON)))
statement_spelling targets first rest semicolon = simp statement_rules

-- The external declarations, one after the other.
pub unit_items : (unit : Unit) → unit_spelling unit ≡ flat_map item_spelling unit.items
unit_items unit = unit_spelling_lem unit ∙ flat_map-map (λ part. part) item_spelling unit.items
