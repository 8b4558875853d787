-- At a place stands at most one part of each form, and it takes a token.

use Rattle.std.proofs.Common.{◌≡◌, ℕ, List, [], ◌∷◌, inl, inr, length, refl, sym, ap, ◌∙◌, subst, arith}
use Rattle.c_lexer.specs.declared.token.Kind.{Kind}
use Rattle.c_lexer.specs.declared.token.Kind.TheVariants.{Word, Key, Number, Mark}
use Rattle.c_lexer.specs.declared.mark.TheConstants.{MARK_LEFT_PAREN, MARK_RIGHT_PAREN, MARK_LEFT_BRACE, MARK_RIGHT_BRACE, MARK_PLUS, MARK_EQUAL, MARK_SEMICOLON}
use Rattle.c_lexer.specs.declared.keyword.TheConstants.{KEY_INT, KEY_VOID}
use Rattle.c_tree.specs.Forms.{name_operand, literal_operand}
use Rattle.c_tree.specs.declared.tree.Prefixed.{Prefixed}
use Rattle.first_grammar.specs.Rest.{Rest, IsAt}
use Rattle.first_grammar.specs.Grammar.{Runs, OperandAt, TargetAt, AddendAt, BegunAt, AddendsAt, statement, StatementAt, StatementsAt, body, BodyAt, HeadAt, function, FunctionAt, ItemsAt}
use Rattle.first_grammar.specs.declared.functions.Head.{Head}
use Rattle.first_grammar.proofs.Runs.{Unique, Stops, Shrinks, runs_one, runs_shrink}

-- ---- Tokens

number_of : Rest → ℕ
number_of [] = 0
number_of (token ∷ rest) = token.0

kind_of : Rest → Kind
kind_of [] = Word
kind_of (token ∷ rest) = token.1

-- Two tokens at the same place are the same.
pub same_token : (n m : ℕ) (k l : Kind) (at a b : Rest) → at ≡ (n, k) ∷ a → at ≡ (m, l) ∷ b →
    (n ≡ m) × (k ≡ l) × (a ≡ b)
unfolding number_of kind_of
same_token n m k l at a b h g =
    let e : (n, k) ∷ a ≡ (m, l) ∷ b = sym h ∙ g in
    (ap number_of e, ap kind_of e, cc)

-- ---- Operands

pub operand_unique : Unique OperandAt
operand_unique x y before a b (inl h) (inl g) =
    let t = same_token h.0 g.0 Word Word before a b h.1 g.1 in
    (h.2 ∙ (ap name_operand t.0 ∙ sym g.2), t.2)
operand_unique x y before a b (inl h) (inr g) =
    let t = same_token h.0 g.0 Word Number before a b h.1 g.1 in absurd (cc (t.1))
operand_unique x y before a b (inr h) (inl g) =
    let t = same_token h.0 g.0 Number Word before a b h.1 g.1 in absurd (cc (t.1))
operand_unique x y before a b (inr h) (inr g) =
    let t = same_token h.0 g.0 Number Number before a b h.1 g.1 in
    (h.2 ∙ (ap literal_operand t.0 ∙ sym g.2), t.2)

pub operand_shrinks : Shrinks OperandAt
operand_shrinks x before after (inl h) = let e = ap length h.1 in omega arith
operand_shrinks x before after (inr h) = let e = ap length h.1 in omega arith

pub at_is : (kind : Kind) (number : ℕ) (before after : Rest) → before ≡ (number, kind) ∷ after → IsAt kind before
at_is kind number before after e = subst (IsAt kind) (sym e) refl

-- an operand is no mark
pub operand_is_no_mark : (x : Prefixed) (before after : Rest) (number : ℕ) → OperandAt x before after →
    IsAt (Mark number) before → ⊥
operand_is_no_mark x before after number (inl h) at =
    let k : Word ≡ Mark number = subst (IsAt (Mark number)) h.1 at in absurd (cc)
operand_is_no_mark x before after number (inr h) at =
    let k : Number ≡ Mark number = subst (IsAt (Mark number)) h.1 at in absurd (cc)

-- ---- Targets

pub target_unique : Unique TargetAt
target_unique x y before a b h g =
    let same = operand_unique x.0 y.0 before ((x.1, Mark MARK_EQUAL) ∷ a) ((y.1, Mark MARK_EQUAL) ∷ b) h g in
    let t = same_token x.1 y.1 (Mark MARK_EQUAL) (Mark MARK_EQUAL) ((x.1, Mark MARK_EQUAL) ∷ a) a b refl same.1 in
    (ap (λ (v : Prefixed). (v, x.1)) same.0 ∙ ap (λ (v : ℕ). (y.0, v)) t.0, t.2)

pub target_shrinks : Shrinks TargetAt
target_shrinks x before after h =
    let e = operand_shrinks x.0 before ((x.1, Mark MARK_EQUAL) ∷ after) h in omega arith

-- after the last target no other begins
pub begun_stops : (first : Prefixed) (between after : Rest) → OperandAt first between after →
    (IsAt (Mark MARK_EQUAL) after → ⊥) → Stops TargetAt between
begun_stops first between after h none x end g =
    let same = operand_unique first x.0 between after ((x.1, Mark MARK_EQUAL) ∷ end) h g in
    none (at_is (Mark MARK_EQUAL) x.1 after end same.1)

pub begun_unique : Unique BegunAt
begun_unique x y before a b h g =
    let stop_x = begun_stops x.1 h.0 a h.2 h.3 in
    let stop_y = begun_stops y.1 g.0 b g.2 g.3 in
    let targets = runs_one TargetAt target_unique x.0 y.0 before h.0 g.0 h.1 g.1 stop_x stop_y in
    let same = operand_unique x.1 y.1 h.0 a b h.2
    (subst (λ (r : Rest). OperandAt y.1 r b) (sym targets.1) g.2) in
    (ap (λ (v : List (Prefixed × ℕ)). (v, x.1)) targets.0 ∙ ap (λ (v : Prefixed). (y.0, v)) same.0, same.1)

pub begun_shrinks : Shrinks BegunAt
begun_shrinks x before after h =
    let e = operand_shrinks x.1 h.0 after h.2 in
    let f = runs_shrink TargetAt target_shrinks x.0 before h.0 h.1 in
    omega arith

-- ---- Sums

pub addend_unique : Unique AddendAt
addend_unique x y before a b h g =
    let t = same_token x.0 y.0 (Mark MARK_PLUS) (Mark MARK_PLUS) before h.0 g.0 h.1 g.1 in
    let same = operand_unique x.1 y.1 h.0 a b h.2
    (subst (λ (r : Rest). OperandAt y.1 r b) (sym t.2) g.2) in
    (ap (λ (v : ℕ). (v, x.1)) t.0 ∙ ap (λ (v : Prefixed). (y.0, v)) same.0, same.1)

pub addend_shrinks : Shrinks AddendAt
addend_shrinks x before after h =
    let e = ap length h.1 in
    let f = operand_shrinks x.1 h.0 after h.2 in
    omega arith

pub addends_stop : (after : Rest) → (IsAt (Mark MARK_PLUS) after → ⊥) → Stops AddendAt after
addends_stop after none x end g = none (at_is (Mark MARK_PLUS) x.0 after g.0 g.1)

pub addends_unique : Unique AddendsAt
addends_unique x y before a b h g =
    runs_one AddendAt addend_unique x y before a b h.0 g.0 (addends_stop a h.1) (addends_stop b g.1)

-- ---- Statements

pub statement_unique : Unique StatementAt
statement_unique x y before a b h g =
    let begun = begun_unique (h.targets, h.first) (g.targets, g.first) before h.between g.between h.begun g.begun in
    let targets = ap (λ (v : List (Prefixed × ℕ) × Prefixed). v.0) begun.0 in
    let first = ap (λ (v : List (Prefixed × ℕ) × Prefixed). v.1) begun.0 in
    let there = subst (λ (r : Rest). AddendsAt g.rest r ((g.semicolon, Mark MARK_SEMICOLON) ∷ b))
    (sym begun.1) g.addends in
    let rest = addends_unique h.rest g.rest h.between
    ((h.semicolon, Mark MARK_SEMICOLON) ∷ a) ((g.semicolon, Mark MARK_SEMICOLON) ∷ b) h.addends there in
    let t = same_token h.semicolon g.semicolon (Mark MARK_SEMICOLON) (Mark MARK_SEMICOLON)
    ((h.semicolon, Mark MARK_SEMICOLON) ∷ a) a b refl rest.1 in
    let same : statement h.targets h.first h.rest h.semicolon ≡ statement g.targets g.first g.rest g.semicolon =
    cc (targets, first, rest.0, t.0) in
    (h.is ∙ (same ∙ sym g.is), t.2)

pub statement_shrinks : Shrinks StatementAt
statement_shrinks x before after h =
    let e = begun_shrinks (h.targets, h.first) before h.between h.begun in
    let f = runs_shrink AddendAt addend_shrinks h.rest h.between
    ((h.semicolon, Mark MARK_SEMICOLON) ∷ after) h.addends.0 in
    omega arith

-- a statement begins with no mark
pub targets_begin : (targets : List (Prefixed × ℕ)) (first : Prefixed) (before between after : Rest) (number : ℕ) →
    Runs TargetAt targets before between → OperandAt first between after → IsAt (Mark number) before → ⊥
targets_begin [] first before between after number h g at =
    operand_is_no_mark first between after number g (subst (IsAt (Mark number)) h at)
targets_begin (t ∷ targets) first before between after number h g at =
    operand_is_no_mark t.0 before ((t.1, Mark MARK_EQUAL) ∷ h.0) number h.1 at

pub statements_stop : (after : Rest) → IsAt (Mark MARK_RIGHT_BRACE) after → Stops StatementAt after
statements_stop after at x end h =
    targets_begin h.targets h.first after h.begun.0 h.between MARK_RIGHT_BRACE h.begun.1 h.begun.2 at

pub statements_unique : Unique StatementsAt
statements_unique x y before a b h g =
    runs_one StatementAt statement_unique x y before a b h.0 g.0 (statements_stop a h.1) (statements_stop b g.1)

-- ---- Functions

pub body_unique : Unique BodyAt
body_unique x y before a b h g =
    let l = same_token h.left g.left (Mark MARK_LEFT_BRACE) (Mark MARK_LEFT_BRACE) before h.inside g.inside
    h.opens g.opens in
    let there = subst (λ (r : Rest). StatementsAt g.items r ((g.right, Mark MARK_RIGHT_BRACE) ∷ b))
    (sym l.2) g.statements in
    let items = statements_unique h.items g.items h.inside
    ((h.right, Mark MARK_RIGHT_BRACE) ∷ a) ((g.right, Mark MARK_RIGHT_BRACE) ∷ b) h.statements there in
    let t = same_token h.right g.right (Mark MARK_RIGHT_BRACE) (Mark MARK_RIGHT_BRACE)
    ((h.right, Mark MARK_RIGHT_BRACE) ∷ a) a b refl items.1 in
    let same : body h.left h.items h.right ≡ body g.left g.items g.right = cc (l.0, items.0, t.0) in
    (h.is ∙ (same ∙ sym g.is), t.2)

pub body_shrinks : Shrinks BodyAt
body_shrinks x before after h =
    let e = ap length h.opens in
    let f = runs_shrink StatementAt statement_shrinks h.items h.inside
    ((h.right, Mark MARK_RIGHT_BRACE) ∷ after) h.statements.0 in
    omega arith

pub head_unique : Unique HeadAt
head_unique x y before a b h g =
    let make : ℕ → ℕ → ℕ → ℕ → ℕ → Head =
    λ int name left void right. record { int = int; name = name; left = left; void = void; right = right } in
    let i = same_token x.int y.int (Key KEY_INT) (Key KEY_INT) before _ _ h g in
    let n = same_token x.name y.name Word Word _ _ _ refl i.2 in
    let l = same_token x.left y.left (Mark MARK_LEFT_PAREN) (Mark MARK_LEFT_PAREN) _ _ _ refl n.2 in
    let v = same_token x.void y.void (Key KEY_VOID) (Key KEY_VOID) _ _ _ refl l.2 in
    let r = same_token x.right y.right (Mark MARK_RIGHT_PAREN) (Mark MARK_RIGHT_PAREN) _ _ _ refl v.2 in
    let same : make x.int x.name x.left x.void x.right ≡ make y.int y.name y.left y.void y.right =
    ap (λ (t : ℕ). make t x.name x.left x.void x.right) i.0 ∙
    (ap (λ (t : ℕ). make y.int t x.left x.void x.right) n.0 ∙
    (ap (λ (t : ℕ). make y.int y.name t x.void x.right) l.0 ∙
    (ap (λ (t : ℕ). make y.int y.name y.left t x.right) v.0 ∙
    ap (λ (t : ℕ). make y.int y.name y.left y.void t) r.0))) in
    (same, r.2)

pub function_unique : Unique FunctionAt
function_unique x y before a b h g =
    let head = head_unique h.head g.head before h.between g.between h.begins g.begins in
    let block = body_unique h.block g.block h.between a b h.stands
    (subst (λ (r : Rest). BodyAt g.block r b) (sym head.1) g.stands) in
    let same : function h.head h.block ≡ function g.head g.block = cc (head.0, block.0) in
    (h.is ∙ (same ∙ sym g.is), block.1)

pub function_shrinks : Shrinks FunctionAt
function_shrinks x before after h =
    let e = ap length h.begins in
    let f = body_shrinks h.block h.between after h.stands in
    omega arith

pub items_stop : (after : Rest) → after ≡ [] → Stops FunctionAt after
items_stop after none x end h = absurd (cc (none, h.begins))

pub items_unique : Unique ItemsAt
items_unique x y before a b h g =
    runs_one FunctionAt function_unique x y before a b h.0 g.0 (items_stop a h.1) (items_stop b g.1)
