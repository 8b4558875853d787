-- What a function of the first grammar spells, token by token.

use Rattle.std.proofs.Common.{◌≡◌, ℕ, List, [], ◌∷◌, ◌++◌}
use Rattle.std.specs.List.{flat_map}
use Rattle.c_lexer.specs.declared.mark.TheConstants.{MARK_RIGHT_BRACE, MARK_LEFT_BRACE, MARK_LEFT_PAREN, MARK_RIGHT_PAREN}
use Rattle.c_tree.specs.declared.symbol.Want.TheVariants as want
use Rattle.c_tree.specs.declared.symbol.Slot.TheVariants as slot
use Rattle.c_tree.specs.Forms.{basic, parameterless}
use Rattle.c_tree.specs.Spell.{Symbols, wanted, block_item_spelling, item_spelling}
use Rattle.c_tree.specs.declared.tree.Item.{Item}
use Rattle.c_tree.specs.declared.tree.Item.TheVariants.{Define}
use Rattle.c_tree.specs.declared.tree.BlockItem.{BlockItem}
use Rattle.c_tree.proofs.Spellings.{spelling_laws}

-- the function whose tokens are these
abbrev pub plain : ℕ → ℕ → ℕ → ℕ → ℕ → ℕ → List BlockItem → ℕ → Item
plain t n l v r o items c =
    Define (basic t) (parameterless n l v r) (record { items = items; marks = o ∷ c ∷ [] })

-- its symbols after `int`, after the name, and so on
abbrev pub after_left_brace : List BlockItem → ℕ → Symbols
after_left_brace items c = flat_map block_item_spelling items ++ wanted c (want.Mark MARK_RIGHT_BRACE)

abbrev pub after_right : ℕ → List BlockItem → ℕ → Symbols
after_right o items c = wanted o (want.Mark MARK_LEFT_BRACE) ++ after_left_brace items c

abbrev pub after_void : ℕ → ℕ → List BlockItem → ℕ → Symbols
after_void r o items c = wanted r (want.Mark MARK_RIGHT_PAREN) ++ after_right o items c

abbrev pub after_left : ℕ → ℕ → ℕ → List BlockItem → ℕ → Symbols
after_left v r o items c = wanted v (want.Among slot.Basic) ++ after_void r o items c

abbrev pub after_name : ℕ → ℕ → ℕ → ℕ → List BlockItem → ℕ → Symbols
after_name l v r o items c = wanted l (want.Mark MARK_LEFT_PAREN) ++ after_left v r o items c

abbrev pub after_int : ℕ → ℕ → ℕ → ℕ → ℕ → List BlockItem → ℕ → Symbols
after_int n l v r o items c = wanted n want.Word ++ after_name l v r o items c

pub plain_spelling : (t n l v r o : ℕ) (items : List BlockItem) (c : ℕ) →
    item_spelling (plain t n l v r o items c) ≡ wanted t (want.Among slot.Basic) ++ after_int n l v r o items c
plain_spelling t n l v r o items c = simp spelling_laws
