-- Where a part of a form does not stand, the form does not.

use Rattle.std.proofs.Common.{◌≡◌, ℕ, List, [], ◌∷◌, ◌++◌, refl, sym, ◌∙◌, subst, Result, Err}
use Rattle.c_lexer.specs.declared.token.Kind.TheVariants.{Mark}
use Rattle.c_lexer.specs.declared.mark.TheConstants.{MARK_RIGHT_BRACE, MARK_PLUS, MARK_EQUAL, MARK_SEMICOLON}
use Rattle.c_tree.specs.declared.tree.Item.{Item}
use Rattle.c_tree.specs.declared.tree.BlockItem.{BlockItem}
use Rattle.c_tree.specs.declared.tree.Prefixed.{Prefixed}
use Rattle.first_grammar.specs.Rest.{Rest, IsAt, TokenAt}
use Rattle.first_grammar.specs.Reads.{Reads}
use Rattle.first_grammar.specs.Grammar.{Runs, OperandAt, TargetAt, AddendAt, BegunAt, AddendsAt, StatementAt, StatementsAt, BodyAt, HeadAt, FunctionAt, ItemsAt}
use Rattle.first_grammar.specs.declared.functions.Head.{Head}
use Rattle.first_grammar.specs.declared.stop.GrammarStop.{GrammarStop}
use Rattle.first_grammar.specs.declared.stop.GrammarStop.TheVariants.{Unbuilt, Memory}
use Rattle.first_grammar.proofs.Runs.{runs_past, runs_push}
use Rattle.first_grammar.proofs.Unique.{same_token, target_unique, begun_stops, begun_unique, addend_unique, addends_stop, addends_unique, statement_unique, statements_stop, head_unique, function_unique, items_stop}

-- Some part of the form stands there.
abbrev pub Begins : {A : Type 0} → (A → Rest → Rest → Type 0) → Rest → Type 0
Begins {A} S at = (x : A) × (end : Rest) × S x at end

-- A refusal of a part is one of the whole, where the whole would have the part.
pub fails : {A B : Type 0} (S : A → Rest → Rest → Type 0) (T : B → Rest → Rest → Type 0)
    (at after before end : Rest) (stop : GrammarStop) (r : Result B GrammarStop) → r ≡ Err stop →
    Reads S at (Err stop) after → ((x : B) (e : Rest) → T x before e → Begins S at) → Reads T before r end
fails {A} {B} S T at after before end Unbuilt r is h part =
    subst (λ (v : Result B GrammarStop). Reads T before v end) (sym is)
    (λ x e t. let here = part x e t in h here.0 here.1 here.2)
fails {A} {B} S T at after before end Memory r is h part =
    subst (λ (v : Result B GrammarStop). Reads T before v end) (sym is) tt

-- ---- Statements

run_operand : (targets : List (Prefixed × ℕ)) (first : Prefixed) (at between end : Rest) →
    Runs TargetAt targets at between → OperandAt first between end → Begins OperandAt at
run_operand [] first at between end h g = (first, end, subst (λ (r : Rest). OperandAt first r end) (sym h) g)
run_operand (t ∷ targets) first at between end h g = (t.0, (t.1, Mark MARK_EQUAL) ∷ h.0, h.1)

pub begun_operand : (x : List (Prefixed × ℕ) × Prefixed) (at end : Rest) → BegunAt x at end → Begins OperandAt at
begun_operand x at end h = run_operand x.0 x.1 at h.0 end h.1 h.2

pub begun_later : (targets : List (Prefixed × ℕ)) (operand : Prefixed) (equal : ℕ) (before between at next : Rest) →
    Runs TargetAt targets before between → OperandAt operand between at → at ≡ (equal, Mark MARK_EQUAL) ∷ next →
    (x : List (Prefixed × ℕ) × Prefixed) (end : Rest) → BegunAt x before end → Begins OperandAt next
begun_later targets operand equal before between at next run here e x end h =
    let target : TargetAt (operand, equal) between next = subst (OperandAt operand between) e here in
    let more = runs_push TargetAt targets (operand, equal) before between next run target in
    let past = runs_past TargetAt target_unique (targets ++ (operand, equal) ∷ []) x.0 before next h.0 more h.1
    (begun_stops x.1 h.0 end h.2 h.3) in
    run_operand past.0 x.1 next h.0 end past.1 h.2

addends_more : (xs : List (ℕ × Prefixed)) (plus : ℕ) (at next end : Rest) → Runs AddendAt xs at end →
    at ≡ (plus, Mark MARK_PLUS) ∷ next → (IsAt (Mark MARK_PLUS) end → ⊥) → Begins OperandAt next
addends_more [] plus at next end h e none =
    absurd (none (subst (IsAt (Mark MARK_PLUS)) (sym e ∙ h) refl))
addends_more (x ∷ xs) plus at next end h e none =
    let t = same_token x.0 plus (Mark MARK_PLUS) (Mark MARK_PLUS) at h.1.0 next h.1.1 e in
    (x.1, h.0, subst (λ (r : Rest). OperandAt x.1 r h.0) t.2 h.1.2)

pub addends_later : (addends : List (ℕ × Prefixed)) (plus : ℕ) (before at next : Rest) →
    Runs AddendAt addends before at → at ≡ (plus, Mark MARK_PLUS) ∷ next →
    (x : List (ℕ × Prefixed)) (end : Rest) → AddendsAt x before end → Begins OperandAt next
addends_later addends plus before at next run e x end h =
    let past = runs_past AddendAt addend_unique addends x before at end run h.0 (addends_stop end h.1) in
    addends_more past.0 plus at next end past.1 e h.1

pub statement_begun : (x : BlockItem) (before end : Rest) → StatementAt x before end → Begins BegunAt before
statement_begun x before end h = ((h.targets, h.first), h.between, h.begun)

pub statement_addends : (begun : List (Prefixed × ℕ) × Prefixed) (before at : Rest) → BegunAt begun before at →
    (x : BlockItem) (end : Rest) → StatementAt x before end → Begins AddendsAt at
statement_addends begun before at here x end h =
    let same = begun_unique begun (h.targets, h.first) before at h.between here h.begun in
    let mark : Rest = (h.semicolon, Mark MARK_SEMICOLON) ∷ end in
    (h.rest, mark, subst (λ (r : Rest). AddendsAt h.rest r mark) (sym same.1) h.addends)

pub statement_mark : (begun : List (Prefixed × ℕ) × Prefixed) (rest : List (ℕ × Prefixed)) (before at mark : Rest) →
    BegunAt begun before at → AddendsAt rest at mark →
    (x : BlockItem) (end : Rest) → StatementAt x before end → Begins (TokenAt (Mark MARK_SEMICOLON)) mark
unfolding statement_addends
statement_mark begun rest before at mark here there x end h =
    let more = statement_addends begun before at here x end h in
    let same = addends_unique rest more.0 at mark more.1 there more.2 in
    (h.semicolon, end, same.1)

-- ---- Functions

statements_more : (xs : List BlockItem) (at end : Rest) → Runs StatementAt xs at end →
    (IsAt (Mark MARK_RIGHT_BRACE) at → ⊥) → IsAt (Mark MARK_RIGHT_BRACE) end → Begins StatementAt at
statements_more [] at end h none ends = absurd (none (subst (IsAt (Mark MARK_RIGHT_BRACE)) (sym h) ends))
statements_more (x ∷ xs) at end h none ends = (x, h.0, h.1)

pub statements_later : (items : List BlockItem) (before at : Rest) → Runs StatementAt items before at →
    (IsAt (Mark MARK_RIGHT_BRACE) at → ⊥) →
    (x : List BlockItem) (end : Rest) → StatementsAt x before end → Begins StatementAt at
statements_later items before at run none x end h =
    let past = runs_past StatementAt statement_unique items x before at end run h.0 (statements_stop end h.1) in
    statements_more past.0 at end past.1 none h.1

pub function_body : (head : Head) (before at : Rest) → HeadAt head before at →
    (x : Item) (end : Rest) → FunctionAt x before end → Begins BodyAt at
function_body head before at here x end h =
    let same = head_unique head h.head before at h.between here h.begins in
    (h.block, end, subst (λ (r : Rest). BodyAt h.block r end) (sym same.1) h.stands)

items_more : (xs : List Item) (at end : Rest) → Runs FunctionAt xs at end → (at ≡ [] → ⊥) → end ≡ [] →
    Begins FunctionAt at
items_more [] at end h none ends = absurd (none (h ∙ ends))
items_more (x ∷ xs) at end h none ends = (x, h.0, h.1)

pub items_later : (items : List Item) (before at : Rest) → Runs FunctionAt items before at → (at ≡ [] → ⊥) →
    (x : List Item) (end : Rest) → ItemsAt x before end → Begins FunctionAt at
items_later items before at run none x end h =
    let past = runs_past FunctionAt function_unique items x before at end run h.0 (items_stop end h.1) in
    items_more past.0 at end past.1 none h.1
