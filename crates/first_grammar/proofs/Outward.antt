-- The parts that stand in the tokens of a file make a tree that has the shape and spells them.

use Rattle.std.proofs.Common.{◌≡◌, ℕ, List, [], ◌∷◌, ◌++◌, inl, inr, refl, sym, ap, ◌∙◌, subst, lit<}
use Rattle.std.specs.List.{All, flat_map}
use Rattle.std.proofs.lemmas.List.Elements.{All-cons, All-nil}
use Rattle.c_lexer.specs.declared.token.Kind.{Kind}
use Rattle.c_lexer.specs.declared.token.Kind.TheVariants.{Word, Key, Number, Mark}
use Rattle.c_lexer.specs.declared.mark.TheConstants.{MARK_RIGHT_BRACE, MARK_LEFT_BRACE, MARK_LEFT_PAREN, MARK_RIGHT_PAREN, MARK_PLUS, MARK_EQUAL, MARK_SEMICOLON}
use Rattle.c_lexer.specs.declared.keyword.TheConstants.{KEY_INT, KEY_VOID}
use Rattle.c_tree.specs.Fits.{Fits, FitFrom, Spells}
use Rattle.c_tree.specs.declared.symbol.Want.{Want}
use Rattle.c_tree.specs.declared.symbol.Want.TheVariants as want
use Rattle.c_tree.specs.declared.symbol.Slot.TheVariants as slot
use Rattle.c_tree.specs.Spell.{Symbols, wanted, prefixed_spelling, target_spelling, operand_spelling, block_item_spelling, item_spelling}
use Rattle.c_tree.proofs.Formed.{name_operand_spelling, literal_operand_spelling, statement_spelling, unit_items}
use Rattle.c_tree.specs.declared.tree.Item.{Item}
use Rattle.c_tree.specs.declared.tree.Block.{Block}
use Rattle.c_tree.specs.declared.tree.BlockItem.{BlockItem}
use Rattle.c_tree.specs.declared.tree.Prefixed.{Prefixed}
use Rattle.first_grammar.specs.FirstUnit.{HasKind, IsOperand, IsTarget, IsAddend, IsStatement, IsFunction}
use Rattle.first_grammar.specs.Rest.{Rest, numbered}
use Rattle.first_grammar.specs.Grammar.{Runs, OperandAt, TargetAt, AddendAt, statement, StatementAt, body, HeadAt, function, FunctionAt, ItemsAt}
use Rattle.first_grammar.specs.declared.functions.Head.{Head}
use Rattle.first_grammar.proofs.Plain.{plain_spelling}
use Rattle.first_grammar.proofs.Stands.{Stands, Agrees, stands_append, stands_agrees, fit_from_stands, agrees_numbered}

-- ---- One token

fixed_out : (n : ℕ) (w : Want) (kind : Kind) → Fits w kind → (a b : Rest) → a ≡ (n, kind) ∷ b →
    Stands (wanted n w) a b
fixed_out n w kind fits a b e = subst (λ (r : Rest). Stands (wanted n w) r b) (sym e) (refl, fits, refl)

agrees_here : (kinds : List Kind) (n : ℕ) (kind : Kind) (a b : Rest) → a ≡ (n, kind) ∷ b → Agrees kinds a →
    HasKind kinds n kind × Agrees kinds b
agrees_here kinds n kind a b e g = subst (Agrees kinds) e g

-- ---- Lists

runs_out : {A : Type 0} (kinds : List Kind) (S : A → Rest → Rest → Type 0) (P : A → Type 0) (sp : A → Symbols) →
    ((x : A) (a b : Rest) → S x a b → Agrees kinds a → P x × Stands (sp x) a b) →
    (xs : List A) (a b : Rest) → Runs S xs a b → Agrees kinds a → All P xs × Stands (flat_map sp xs) a b
runs_out kinds S P sp each [] a b h g = (All-nil P, h)
runs_out kinds S P sp each (x ∷ xs) a b h g =
    let here = each x a h.0 h.1 g in
    let later = runs_out kinds S P sp each xs h.0 b h.2 (stands_agrees kinds (sp x) a h.0 here.1 g) in
    (All-cons P x xs here.0 later.0, stands_append (sp x) (flat_map sp xs) a h.0 b here.1 later.1)

-- ---- Statements

operand_out : (kinds : List Kind) (p : Prefixed) (a b : Rest) → OperandAt p a b → Agrees kinds a →
    IsOperand kinds p × Stands (prefixed_spelling p) a b
operand_out kinds p a b (inl h) g = (
  inl (h.0, h.2),
  subst (λ (v : Prefixed). Stands (prefixed_spelling v) a b) (sym h.2)
      (subst (λ (s : Symbols). Stands s a b) (sym (name_operand_spelling h.0))
      (fixed_out h.0 want.Word Word refl a b h.1)),
)
operand_out kinds p a b (inr h) g = (
  inr (h.0, h.2, (agrees_here kinds h.0 Number a b h.1 g).0),
  subst (λ (v : Prefixed). Stands (prefixed_spelling v) a b) (sym h.2)
      (subst (λ (s : Symbols). Stands s a b) (sym (literal_operand_spelling h.0))
      (fixed_out h.0 (want.Among slot.Literal) Number (inl refl) a b h.1)),
)

target_out : (kinds : List Kind) (t : Prefixed × ℕ) (a b : Rest) → TargetAt t a b → Agrees kinds a →
    IsTarget kinds t × Stands (target_spelling t) a b
target_out kinds t a b h g =
    let mark : Rest = (t.1, Mark MARK_EQUAL) ∷ b in
    let operand = operand_out kinds t.0 a mark h g in
    let after = stands_agrees kinds (prefixed_spelling t.0) a mark operand.1 g in (
      (operand.0, after.0),
      stands_append (prefixed_spelling t.0) (wanted t.1 (want.Among slot.AssignOp)) a mark b operand.1
          (fixed_out t.1 (want.Among slot.AssignOp) (Mark MARK_EQUAL) (MARK_EQUAL, (0, lit< tt, refl), refl)
          mark b refl),
    )

addend_out : (kinds : List Kind) (o : ℕ × Prefixed) (a b : Rest) → AddendAt o a b → Agrees kinds a →
    IsAddend kinds o × Stands (operand_spelling o) a b
addend_out kinds o a b h g =
    let here = agrees_here kinds o.0 (Mark MARK_PLUS) a h.0 h.1 g in
    let operand = operand_out kinds o.1 h.0 b h.2 here.1 in (
      (here.0, operand.0),
      stands_append (wanted o.0 (want.Among slot.BinaryOp)) (prefixed_spelling o.1) a h.0 b
          (fixed_out o.0 (want.Among slot.BinaryOp) (Mark MARK_PLUS) (MARK_PLUS, (3, lit< tt, refl), refl)
          a h.0 h.1) operand.1,
    )

sum_out : (kinds : List Kind) (i : BlockItem) (a b : Rest) (h : StatementAt i a b) → Agrees kinds a →
    IsStatement kinds (statement h.targets h.first h.rest h.semicolon)
    × Stands (block_item_spelling (statement h.targets h.first h.rest h.semicolon)) a b
unfolding statement
sum_out kinds i a b h g =
    let middle = h.begun.0 in
    let mark : Rest = (h.semicolon, Mark MARK_SEMICOLON) ∷ b in
    let end = wanted h.semicolon (want.Mark MARK_SEMICOLON) in
    let assigned = flat_map target_spelling h.targets in
    let added = flat_map operand_spelling h.rest in
    let first_spelling = prefixed_spelling h.first in
    let targets = runs_out kinds TargetAt (IsTarget kinds) target_spelling (target_out kinds) h.targets a middle
    h.begun.1 g in
    let g_middle = stands_agrees kinds assigned a middle targets.1 g in
    let first = operand_out kinds h.first middle h.between h.begun.2 g_middle in
    let g_between = stands_agrees kinds first_spelling middle h.between first.1 g_middle in
    let rest = runs_out kinds AddendAt (IsAddend kinds) operand_spelling (addend_out kinds) h.rest h.between mark
    h.addends.0 g_between in
    let ended = stands_append added end h.between mark b rest.1
    (fixed_out h.semicolon (want.Mark MARK_SEMICOLON) (Mark MARK_SEMICOLON) refl mark b refl) in
    let value = stands_append first_spelling (added ++ end) middle h.between b first.1 ended in
    let whole = stands_append assigned (first_spelling ++ (added ++ end)) a middle b targets.1 value in (
      record {
        targets = h.targets;
        first = h.first;
        rest = h.rest;
        semicolon = h.semicolon;
        is = refl;
        targets_are = targets.0;
        first_is = first.0;
        rest_are = rest.0;
      },
      subst (λ (s : Symbols). Stands s a b)
          (sym (statement_spelling h.targets h.first h.rest h.semicolon)) whole,
    )

statement_out : (kinds : List Kind) (i : BlockItem) (a b : Rest) → StatementAt i a b → Agrees kinds a →
    IsStatement kinds i × Stands (block_item_spelling i) a b
statement_out kinds i a b h g =
    subst (λ (v : BlockItem). IsStatement kinds v × Stands (block_item_spelling v) a b) (sym h.is)
    (sum_out kinds i a b h g)

-- ---- Functions

plain_out : (kinds : List Kind) (head : Head) (o c : ℕ) (items : List BlockItem) (a m n b : Rest) →
    HeadAt head a m → m ≡ (o, Mark MARK_LEFT_BRACE) ∷ n →
    Runs StatementAt items n ((c, Mark MARK_RIGHT_BRACE) ∷ b) → Agrees kinds a →
    IsFunction kinds (function head (body o items c)) × Stands (item_spelling (function head (body o items c))) a b
unfolding function body
plain_out kinds head o c items a m n b h e run g =
    let brace : Rest = (o, Mark MARK_LEFT_BRACE) ∷ n in
    let start : Rest = (head.int, Key KEY_INT) ∷ (head.name, Word) ∷ (head.left, Mark MARK_LEFT_PAREN) ∷
    (head.void, Key KEY_VOID) ∷ (head.right, Mark MARK_RIGHT_PAREN) ∷ brace in
    let whole : a ≡ start = cc (h, e) in
    let has = subst (Agrees kinds) whole g in
    let g_n : Agrees kinds n = has.1.1.1.1.1.1 in
    let statements = runs_out kinds StatementAt (IsStatement kinds) block_item_spelling (statement_out kinds) items
    n ((c, Mark MARK_RIGHT_BRACE) ∷ b) run g_n in
    let closed : Stands (flat_map block_item_spelling items ++ wanted c (want.Mark MARK_RIGHT_BRACE)) n b =
    stands_append (flat_map block_item_spelling items) (wanted c (want.Mark MARK_RIGHT_BRACE)) n
    ((c, Mark MARK_RIGHT_BRACE) ∷ b) b statements.1 (refl, refl, refl) in
    let basic_int : Fits (want.Among slot.Basic) (Key KEY_INT) = (KEY_INT, (3, lit< tt, refl), refl) in
    let basic_void : Fits (want.Among slot.Basic) (Key KEY_VOID) = (KEY_VOID, (0, lit< tt, refl), refl) in (
      record {
        type_token = head.int;
        name = head.name;
        left = head.left;
        void_token = head.void;
        right = head.right;
        is_int = has.0;
        is_void = has.1.1.1.0;
        specs_are = refl;
        declarator_is = refl;
        braces = refl;
        statements = statements.0;
      },
      subst (λ (r : Rest). Stands (item_spelling (function head (body o items c))) r b) (sym whole)
          (subst (λ (s : Symbols). Stands s start b)
          (sym (plain_spelling head.int head.name head.left head.void head.right o items c)) (
            refl,
            basic_int,
            (
              refl,
              refl,
              (
                refl,
                refl,
                (
                  refl,
                  basic_void,
                  (refl, refl, (refl, refl, closed)),
                ),
              ),
            ),
          )),
    )

function_out : (kinds : List Kind) (i : Item) (a b : Rest) → FunctionAt i a b → Agrees kinds a →
    IsFunction kinds i × Stands (item_spelling i) a b
function_out kinds i a b h g =
    let block = h.stands in
    let e : i ≡ function h.head (body block.left block.items block.right) =
    h.is ∙ ap (λ (v : Block). function h.head v) block.is in
    subst (λ (v : Item). IsFunction kinds v × Stands (item_spelling v) a b) (sym e)
    (plain_out kinds h.head block.left block.right block.items a h.between block.inside b h.begins block.opens
    block.statements.0 g)

-- ---- Files

pub items_out : (kinds : List Kind) (items : List Item) (after : Rest) → ItemsAt items (numbered 0 kinds) after →
    All (IsFunction kinds) items × Spells (record { items = items }) kinds
items_out kinds items after h =
    let out = runs_out kinds FunctionAt (IsFunction kinds) item_spelling (function_out kinds) items
    (numbered 0 kinds) after h.0 (agrees_numbered kinds) in
    let spelled = fit_from_stands 0 (flat_map item_spelling items) kinds
    (subst (λ (r : Rest). Stands (flat_map item_spelling items) (numbered 0 kinds) r) h.1 out.1) in
    (out.0, subst (λ (s : Symbols). FitFrom 0 s kinds) (sym (unit_items (record { items = items }))) spelled)
