-- A tree that has the shape and spells its tokens has parts that stand in them.

use Rattle.std.proofs.Common.{◌≡◌, ℕ, List, [], ◌∷◌, ◌++◌, inl, inr, refl, sym, ap, ◌∙◌, subst, Some, slice_get, length, arith}
use Rattle.std.specs.List.{All, flat_map}
use Rattle.std.proofs.lemmas.List.Elements.{All-head, All-tail}
use Rattle.c_lexer.specs.declared.token.Kind.{Kind}
use Rattle.c_lexer.specs.declared.token.Kind.TheVariants.{Word, Key, Number, Mark}
use Rattle.c_lexer.specs.declared.token.Token.{Token}
use Rattle.c_lexer.specs.declared.mark.TheConstants.{MARK_RIGHT_BRACE, MARK_LEFT_BRACE, MARK_LEFT_PAREN, MARK_RIGHT_PAREN, MARK_PLUS, MARK_EQUAL, MARK_SEMICOLON}
use Rattle.c_lexer.specs.declared.keyword.TheConstants.{KEY_INT, KEY_VOID}
use Rattle.c_tree.specs.Fits.{Fits, FitFrom, kinds_of}
use Rattle.c_tree.specs.declared.symbol.Want.{Want}
use Rattle.c_tree.specs.declared.symbol.Want.TheVariants as want
use Rattle.c_tree.specs.declared.symbol.Slot.TheVariants as slot
use Rattle.c_tree.specs.Forms.{basic, parameterless}
use Rattle.c_tree.specs.Spell.{Symbols, wanted, prefixed_spelling, target_spelling, operand_spelling, block_item_spelling, item_spelling}
use Rattle.c_tree.specs.declared.tree.Unit.{Unit}
use Rattle.c_tree.specs.declared.tree.Item.{Item}
use Rattle.c_tree.specs.declared.tree.Item.TheVariants.{Declare, Define}
use Rattle.c_tree.specs.declared.tree.Specs.{Specs}
use Rattle.c_tree.specs.declared.tree.Declarator.{Declarator}
use Rattle.c_tree.specs.declared.tree.BlockItem.{BlockItem}
use Rattle.c_tree.specs.declared.tree.Prefixed.{Prefixed}
use Rattle.c_tree.proofs.Formed.{name_operand_spelling, literal_operand_spelling, statement_spelling, unit_items}
use Rattle.first_grammar.specs.FirstUnit.{HasKind, IsOperand, IsTarget, IsAddend, IsStatement, IsFunction, IsFirstUnit}
use Rattle.first_grammar.specs.Rest.{Rest, IsAt, numbered}
use Rattle.first_grammar.specs.Grammar.{Runs, OperandAt, TargetAt, AddendAt, statement, StatementAt, body, function, FunctionAt, ItemsAt}
use Rattle.first_grammar.proofs.Plain.{plain, plain_spelling, after_int, after_name, after_left, after_void, after_right, after_left_brace}
use Rattle.first_grammar.proofs.Stands.{Stands, Agrees, stands_split, stands_agrees, stands_from_fit, agrees_numbered}

-- ---- Tokens

pub token_is : (n m : ℕ) (k l : Kind) (rest after : Rest) → n ≡ m → l ≡ k → rest ≡ after →
    (m, l) ∷ rest ≡ (n, k) ∷ after
token_is n m k l rest after a b c =
    ap (λ (t : ℕ). (t, l) ∷ rest) (sym a) ∙
    (ap (λ (t : Kind). (n, t) ∷ rest) b ∙ ap (λ (r : Rest). (n, k) ∷ r) c)

same_kind : (kinds : List Kind) (n m : ℕ) (k l : Kind) → HasKind kinds n k → HasKind kinds m l → n ≡ m → k ≡ l
same_kind kinds n m k l h g e = let there : slice_get kinds m ≡ Some k = subst (λ (t : ℕ). HasKind kinds t k) e h in cc

-- ---- Lists

runs_in : {A : Type 0} (kinds : List Kind) (S : A → Rest → Rest → Type 0) (P : A → Type 0) (sp : A → Symbols) →
    ((x : A) (a b : Rest) → P x → Agrees kinds a → Stands (sp x) a b → S x a b) →
    (xs : List A) (a b : Rest) → All P xs → Agrees kinds a → Stands (flat_map sp xs) a b → Runs S xs a b
runs_in kinds S P sp each [] a b all g h = h
runs_in kinds S P sp each (x ∷ xs) a b all g h =
    let cut = stands_split (sp x) (flat_map sp xs) a b h in (
      cut.0,
      each x a cut.0 (All-head P x xs all) g cut.1,
      runs_in kinds S P sp each xs cut.0 b (All-tail P x xs all) (stands_agrees kinds (sp x) a cut.0 cut.1 g) cut.2,
    )

-- ---- One token

fixed_in : (n : ℕ) (w : Want) (kind : Kind) → ((k : Kind) → Fits w k → k ≡ kind) → (a b : Rest) →
    Stands (wanted n w) a b → a ≡ (n, kind) ∷ b
fixed_in n w kind only [] b h = absurd h
fixed_in n w kind only (t ∷ a) b h = token_is n t.0 kind t.1 a b h.0 (only t.1 h.1) h.2

among_in : (kinds : List Kind) (n : ℕ) (w : Want) (kind : Kind) → HasKind kinds n kind → (a b : Rest) →
    Agrees kinds a → Stands (wanted n w) a b → a ≡ (n, kind) ∷ b
among_in kinds n w kind is [] b g h = absurd h
among_in kinds n w kind is (t ∷ a) b g h =
    token_is n t.0 kind t.1 a b h.0 (sym (same_kind kinds n t.0 kind t.1 is g.0 h.0)) h.2

-- ---- Operands

operand_in : (kinds : List Kind) (p : Prefixed) (a b : Rest) → IsOperand kinds p → Agrees kinds a →
    Stands (prefixed_spelling p) a b → OperandAt p a b
operand_in kinds p a b (inl is) g h =
    let spelled = subst (λ (v : Prefixed). Stands (prefixed_spelling v) a b) is.1 h in
    let here = subst (λ (s : Symbols). Stands s a b) (name_operand_spelling is.0) spelled in
    inl (is.0, fixed_in is.0 want.Word Word (λ k e. e) a b here, is.1)
operand_in kinds p a b (inr is) g h =
    let spelled = subst (λ (v : Prefixed). Stands (prefixed_spelling v) a b) is.1 h in
    let here = subst (λ (s : Symbols). Stands s a b) (literal_operand_spelling is.0) spelled in
    inr (is.0, among_in kinds is.0 (want.Among slot.Literal) Number is.2 a b g here, is.1)

-- ---- Statements

target_in : (kinds : List Kind) (t : Prefixed × ℕ) (a b : Rest) → IsTarget kinds t → Agrees kinds a →
    Stands (target_spelling t) a b → TargetAt t a b
target_in kinds t a b is g h =
    let cut = stands_split (prefixed_spelling t.0) (wanted t.1 (want.Among slot.AssignOp)) a b h in
    let mark = among_in kinds t.1 (want.Among slot.AssignOp) (Mark MARK_EQUAL) is.1 cut.0 b
    (stands_agrees kinds (prefixed_spelling t.0) a cut.0 cut.1 g) cut.2 in
    operand_in kinds t.0 a ((t.1, Mark MARK_EQUAL) ∷ b) is.0 g
    (subst (λ (r : Rest). Stands (prefixed_spelling t.0) a r) mark cut.1)

addend_in : (kinds : List Kind) (o : ℕ × Prefixed) (a b : Rest) → IsAddend kinds o → Agrees kinds a →
    Stands (operand_spelling o) a b → AddendAt o a b
addend_in kinds o a b is g h =
    let plus = wanted o.0 (want.Among slot.BinaryOp) in
    let cut = stands_split plus (prefixed_spelling o.1) a b h in (
      cut.0,
      among_in kinds o.0 (want.Among slot.BinaryOp) (Mark MARK_PLUS) is.0 a cut.0 g cut.1,
      operand_in kinds o.1 cut.0 b is.1 (stands_agrees kinds plus a cut.0 cut.1 g) cut.2,
    )

pub is_at_number : (r rest : Rest) (n number other : ℕ) → r ≡ (n, Mark number) ∷ rest → IsAt (Mark other) r →
    number ≡ other
is_at_number r rest n number other e at =
    let k : Mark number ≡ Mark other = subst (IsAt (Mark other)) e at in cc

-- no `=` stands before the other operands and `;`
pub no_equal : (xs : List (ℕ × Prefixed)) (r b : Rest) (m : ℕ) → Runs AddendAt xs r ((m, Mark MARK_SEMICOLON) ∷ b) →
    IsAt (Mark MARK_EQUAL) r → ⊥
no_equal [] r b m h at = let e = is_at_number r b m MARK_SEMICOLON MARK_EQUAL h at in absurd (omega (arith, e))
no_equal (x ∷ xs) r b m h at = let e = is_at_number r h.1.0 x.0 MARK_PLUS MARK_EQUAL h.1.1 at in absurd (omega (arith, e))

statement_in : (kinds : List Kind) (i : BlockItem) (a b : Rest) → IsStatement kinds i → Agrees kinds a →
    Stands (block_item_spelling i) a b → StatementAt i a b
unfolding statement
statement_in kinds i a b is g h =
    let end = wanted is.semicolon (want.Mark MARK_SEMICOLON) in
    let targets = flat_map target_spelling is.targets in
    let added = flat_map operand_spelling is.rest in
    let first = prefixed_spelling is.first in
    let spelled = subst (λ (s : Symbols). Stands s a b) (statement_spelling is.targets is.first is.rest is.semicolon)
    (subst (λ (v : BlockItem). Stands (block_item_spelling v) a b) is.is h) in
    let cut = stands_split targets (first ++ (added ++ end)) a b spelled in
    let begun = stands_split first (added ++ end) cut.0 b cut.2 in
    let ended = stands_split added end begun.0 b begun.2 in
    let g_cut = stands_agrees kinds targets a cut.0 cut.1 g in
    let g_begun = stands_agrees kinds first cut.0 begun.0 begun.1 g_cut in
    let mark = fixed_in is.semicolon (want.Mark MARK_SEMICOLON) (Mark MARK_SEMICOLON) (λ k e. e) ended.0 b ended.2 in
    let rest = subst (λ (r : Rest). Runs AddendAt is.rest begun.0 r) mark
    (runs_in kinds AddendAt (IsAddend kinds) operand_spelling (addend_in kinds) is.rest begun.0 ended.0
    is.rest_are g_begun ended.1) in
    record {
      targets = is.targets;
      first = is.first;
      rest = is.rest;
      semicolon = is.semicolon;
      between = begun.0;
      begun = (
        cut.0,
        runs_in kinds TargetAt (IsTarget kinds) target_spelling (target_in kinds) is.targets a cut.0
            is.targets_are g cut.1,
        operand_in kinds is.first cut.0 begun.0 is.first_is g_cut begun.1,
        no_equal is.rest begun.0 b is.semicolon rest,
      );
      addends = (
        rest,
        λ at. let e = is_at_number ((is.semicolon, Mark MARK_SEMICOLON) ∷ b) b is.semicolon MARK_SEMICOLON MARK_PLUS refl at in
            absurd (omega (arith, e)),
      );
      is = is.is;
    }

pub two_of : (xs : List ℕ) → length xs ≡ 2 → (x : ℕ) × (y : ℕ) × (xs ≡ x ∷ y ∷ [])
two_of [] h = absurd (omega arith)
two_of (x ∷ []) h = absurd (omega arith)
two_of (x ∷ y ∷ []) h = (x, y, refl)
two_of (x ∷ y ∷ z ∷ xs) h = absurd (omega arith)

-- ---- Functions

plain_in : (kinds : List Kind) (t n l v r o c : ℕ) (items : List BlockItem) (a b : Rest) →
    HasKind kinds t (Key KEY_INT) → HasKind kinds v (Key KEY_VOID) → All (IsStatement kinds) items →
    Agrees kinds a → Stands (item_spelling (plain t n l v r o items c)) a b →
    FunctionAt (plain t n l v r o items c) a b
unfolding function body
plain_in kinds t n l v r o c items a b int void each g spelled =
    let h = subst (λ (s : Symbols). Stands s a b) (plain_spelling t n l v r o items c) spelled in
    let c1 = stands_split (wanted t (want.Among slot.Basic)) (after_int n l v r o items c) a b h in
    let c2 = stands_split (wanted n want.Word) (after_name l v r o items c) c1.0 b c1.2 in
    let c3 = stands_split (wanted l (want.Mark MARK_LEFT_PAREN)) (after_left v r o items c) c2.0 b c2.2 in
    let c4 = stands_split (wanted v (want.Among slot.Basic)) (after_void r o items c) c3.0 b c3.2 in
    let c5 = stands_split (wanted r (want.Mark MARK_RIGHT_PAREN)) (after_right o items c) c4.0 b c4.2 in
    let c6 = stands_split (wanted o (want.Mark MARK_LEFT_BRACE)) (after_left_brace items c) c5.0 b c5.2 in
    let c7 = stands_split (flat_map block_item_spelling items) (wanted c (want.Mark MARK_RIGHT_BRACE)) c6.0 b c6.2 in
    let g1 = stands_agrees kinds (wanted t (want.Among slot.Basic)) a c1.0 c1.1 g in
    let g2 = stands_agrees kinds (wanted n want.Word) c1.0 c2.0 c2.1 g1 in
    let g3 = stands_agrees kinds (wanted l (want.Mark MARK_LEFT_PAREN)) c2.0 c3.0 c3.1 g2 in
    let g4 = stands_agrees kinds (wanted v (want.Among slot.Basic)) c3.0 c4.0 c4.1 g3 in
    let g5 = stands_agrees kinds (wanted r (want.Mark MARK_RIGHT_PAREN)) c4.0 c5.0 c5.1 g4 in
    let g6 = stands_agrees kinds (wanted o (want.Mark MARK_LEFT_BRACE)) c5.0 c6.0 c6.1 g5 in
    let e1 = among_in kinds t (want.Among slot.Basic) (Key KEY_INT) int a c1.0 g c1.1 in
    let e2 = fixed_in n want.Word Word (λ k e. e) c1.0 c2.0 c2.1 in
    let e3 = fixed_in l (want.Mark MARK_LEFT_PAREN) (Mark MARK_LEFT_PAREN) (λ k e. e) c2.0 c3.0 c3.1 in
    let e4 = among_in kinds v (want.Among slot.Basic) (Key KEY_VOID) void c3.0 c4.0 g3 c4.1 in
    let e5 = fixed_in r (want.Mark MARK_RIGHT_PAREN) (Mark MARK_RIGHT_PAREN) (λ k e. e) c4.0 c5.0 c5.1 in
    let e6 = fixed_in o (want.Mark MARK_LEFT_BRACE) (Mark MARK_LEFT_BRACE) (λ k e. e) c5.0 c6.0 c6.1 in
    let e7 = fixed_in c (want.Mark MARK_RIGHT_BRACE) (Mark MARK_RIGHT_BRACE) (λ k e. e) c7.0 b c7.2 in
    let run = runs_in kinds StatementAt (IsStatement kinds) block_item_spelling (statement_in kinds) items
    c6.0 c7.0 each g6 c7.1 in
    record {
      head = record { int = t; name = n; left = l; void = v; right = r };
      block = record { items = items; marks = o ∷ c ∷ [] };
      between = c5.0;
      begins = cc (e1, e2, e3, e4, e5);
      stands = record {
        left = o;
        items = items;
        right = c;
        inside = c6.0;
        opens = e6;
        statements = (subst (λ (r : Rest). Runs StatementAt items c6.0 r) e7 run, refl);
        is = refl;
      };
      is = refl;
    }

function_in : (kinds : List Kind) (i : Item) (a b : Rest) → IsFunction kinds i → Agrees kinds a →
    Stands (item_spelling i) a b → FunctionAt i a b
function_in kinds (Declare declaration) a b is g h = absurd is
function_in kinds (Define specs declarator block) a b is g h =
    let marks = two_of block.marks is.braces in
    let built = parameterless is.name is.left is.void_token is.right in
    let e : Define specs declarator block ≡ Define (basic is.type_token) built
    (record { items = block.items; marks = marks.0 ∷ marks.1 ∷ [] }) =
    ap (λ (v : Specs). Define v declarator block) is.specs_are ∙
    (ap (λ (v : Declarator). Define (basic is.type_token) v block) is.declarator_is ∙
    ap (λ (v : List ℕ). Define (basic is.type_token) built (record { items = block.items; marks = v })) marks.2) in
    subst (λ (v : Item). FunctionAt v a b) (sym e)
    (plain_in kinds is.type_token is.name is.left is.void_token is.right marks.0 marks.1 block.items a b
    is.is_int is.is_void is.statements g
    (subst (λ (v : Item). Stands (item_spelling v) a b) e h))

-- ---- Files

pub unit_in : (bytes : List ℕ) (tokens : List Token) (unit : Unit) → IsFirstUnit bytes tokens unit →
    ItemsAt unit.items (numbered 0 (kinds_of tokens)) []
unit_in bytes tokens unit is =
    let kinds = kinds_of tokens in
    let spelled = subst (λ (s : Symbols). FitFrom 0 s kinds) (unit_items unit) is.spells in (
      runs_in kinds FunctionAt (IsFunction kinds) item_spelling (function_in kinds) unit.items
          (numbered 0 kinds) [] is.functions (agrees_numbered kinds)
          (stands_from_fit 0 (flat_map item_spelling unit.items) kinds spelled),
      refl,
    )
