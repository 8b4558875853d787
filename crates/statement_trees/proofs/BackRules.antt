-- Well-formed trees of statements are words of the rules. One term a form.

use Rattle.std.proofs.Common.{◌≡◌, ◌≢◌, ◌⊎◌, inl, inr, ℕ, zero, suc, ◌+◌, ◌≤◌, Bool, true, false, List, [], ◌∷◌, ◌++◌, Option, Some, None, length, refl, sym, ap, ◌∙◌, subst, append_assoc, append-nil, arith}
use Rattle.std.specs.Prelude.{IsSome, IfSome}
use Rattle.c_lexer.specs.declared.token.Kind.{Kind}
use Rattle.c_lexer.specs.declared.keyword.TheConstants.{KEY_BREAK, KEY_CASE, KEY_CONTINUE}
use Rattle.c_lexer.specs.declared.keyword.TheConstants.{KEY_DEFAULT, KEY_DO, KEY_ELSE, KEY_FOR}
use Rattle.c_lexer.specs.declared.keyword.TheConstants.{KEY_GOTO, KEY_IF, KEY_RETURN, KEY_SWITCH}
use Rattle.c_lexer.specs.declared.keyword.TheConstants.{KEY_WHILE}
use Rattle.c_lexer.specs.declared.mark.TheConstants.{MARK_LEFT_PAREN, MARK_RIGHT_PAREN}
use Rattle.c_lexer.specs.declared.mark.TheConstants.{MARK_LEFT_BRACE, MARK_RIGHT_BRACE}
use Rattle.c_lexer.specs.declared.mark.TheConstants.{MARK_COLON, MARK_SEMICOLON}
use Rattle.c_scopes.specs.Scopes.{OpenScopes, entered, left}
use Rattle.c_tree.specs.declared.symbol.Want.TheVariants as want
use Rattle.c_tree.specs.declared.tree.Expr.{Expr}
use Rattle.c_tree.specs.declared.tree.Assign.{Assign}
use Rattle.c_tree.specs.declared.tree.Declaration.{Declaration}
use Rattle.c_tree.specs.declared.tree.Block.{Block}
use Rattle.c_tree.specs.declared.tree.BlockItem.{BlockItem}
use Rattle.c_tree.specs.declared.tree.BlockItem.TheOpen as s
use Rattle.c_tree.specs.declared.tree.Stmt.{Stmt}
use Rattle.c_tree.specs.declared.tree.StmtKind.{StmtKind, roll-StmtKind, out-StmtKind, roll-out-StmtKind}
use Rattle.c_tree.specs.declared.tree.StmtKind.TheVariants as kind
use Rattle.c_tree.specs.declared.tree.Mark.{Mark}
use Rattle.c_tree.specs.Folds.{OpenStmtKind, OpenBlockItem}
use Rattle.c_tree.specs.Expressions.{IsConstant}
use Rattle.c_tree.specs.Depths.{inner_to, IsFormedExpr, IsFormedDeclaration}
use Rattle.c_tree.specs.Statements.{ends_in_if, IsIf, IsLabel, IsForInit, IsIfStatement, IsStmtKind, IsStmt, IsBlockItem, IsFormedStmt, IsFormedBlock}
use Rattle.c_tree.specs.Spell.{Symbols, stmt_spelling}
use Rattle.c_tree.specs.declared.tree.Mark.TheVariants as mark_
use Rattle.c_tree.specs.declared.tree.ForInit.{ForInit}
use Rattle.c_tree.specs.declared.tree.ForInit.TheVariants as init_
use Rattle.c_tree.specs.declared.tree.BlockItem.{roll-BlockItem, out-BlockItem, roll-out-BlockItem}
use Rattle.c_tree.specs.declared.tree.BlockItem.TheVariants as item_
use Rattle.c_tree.specs.declared.tree.StmtKind.{out-roll-StmtKind}
use Rattle.c_tree.specs.declared.tree.Expr.{out-Expr, roll-Expr, roll-out-Expr}
use Rattle.c_tree.specs.Forms.{sole}
use Rattle.c_tree.proofs.Folds as fold
use Rattle.reading.specs.declared.turn.Turn.TheVariants.{Again, Done}
use Rattle.reading.specs.Rules.{changes, repeat}
use Rattle.reading.specs.Terminals.{has}
use Rattle.reading.specs.Readers.{begins}
use Rattle.reading.proofs.Sets.{never}
use Rattle.c_reading.specs.Kept.{KeptToken}
use Rattle.c_syntax.specs.Scoping.{Part, terminal_of}
use Rattle.c_stmt.specs.declared.forms.Kinded.{Kinded}
use Rattle.c_stmt.specs.declared.forms.Ended.{Ended}
use Rattle.c_stmt.specs.declared.forms.BlockItems.{BlockItems}
use Rattle.c_stmt.specs.declared.forms.Arms.{Arms}
use Rattle.c_stmt.specs.Choices.{without}
use Rattle.c_stmt.specs.StatementSets.{a_left_brace, an_if}
use Rattle.c_stmt.specs.StatementForms.{maybe_expr, for_head, for_of, with_label, with_case, with_default, closed, ended_of, stmt_of, with_item, block_of, arm_of, with_arm, arms_to, without_else, with_else, switch_of, while_of, do_of}
use Rattle.c_stmt.specs.Below.{Below, Inside}
use Rattle.c_stmt.specs.StatementRules as lang
use Rattle.c_stmt.specs.StatementRules.{entering, in_scope}
use Rattle.expression_trees.specs.Saying.{Said, ◌and◌, token, FitTokens, AreSaid}
use Rattle.expression_trees.specs.Trees.{of_expr, of_assign}
use Rattle.expression_trees.proofs.FormsSay.{each}
use Rattle.expression_trees.proofs.Lists.{Every, every_of, by_one, by_two}
use Rattle.expression_trees.proofs.Front.{Open}
use Rattle.expression_trees.proofs.Back.{Back, Spins, back_pure, back_then, back_token, back_left, back_right, back_same, back_loop, spins_same, repeat_again, repeat_done}
use Rattle.expression_trees.proofs.Tokens.{hears_mark, hears_key, hears_any}
use Rattle.statement_trees.specs.Trees.{stmt_steps_of, of_declaration, of_stmt, of_kind, of_body, of_block, of_item, of_label, of_for_init}
use Rattle.statement_trees.specs.Forms.{IsFormedConstant, IsFormedItem, IsFormedEnded}
use Rattle.statement_trees.proofs.FormsSay as law
use Rattle.statement_trees.proofs.FormsSay.{opens, closes, maybe}
use Rattle.statement_trees.specs.Innermost.{IsFree}
use Rattle.statement_trees.proofs.Scoped.{IsShut, unwrapped}
use Rattle.statement_trees.proofs.FrontRules.{ends_steps, ends_kind, ends_is, ends_stmt, arms_some}
use Rattle.statement_trees.proofs.Chains.{Branch, Steps, Tail, arm_in, arms_done, marks_done, tail_stmt, arms_in, marks_in, if_tree, arm_said, steps_said, tail_said, arms_snoc, marks_snoc, by_chain, IsFreeBranch, IsFreeTail, flat_if}

-- ---- Marks by their count

pub by_three : (Q : List ℕ → Type 0) → ((a b c : ℕ) → Q (a ∷ b ∷ c ∷ [])) → (ms : List ℕ) → length ms ≡ 3 → Q ms
by_three Q q [] e = absurd (omega arith)
by_three Q q (a ∷ []) e = absurd (omega arith)
by_three Q q (a ∷ b ∷ []) e = absurd (omega arith)
by_three Q q (a ∷ b ∷ c ∷ []) e = q a b c
by_three Q q (a ∷ b ∷ c ∷ m ∷ ms) e = absurd (omega arith)

pub by_four : (Q : List ℕ → Type 0) → ((a b c d : ℕ) → Q (a ∷ b ∷ c ∷ d ∷ [])) → (ms : List ℕ) → length ms ≡ 4 → Q ms
by_four Q q [] e = absurd (omega arith)
by_four Q q (a ∷ ms) e = by_three (λ z. Q (a ∷ z)) (q a) ms (omega (arith, e))

pub by_five : (Q : List ℕ → Type 0) → ((a b c d x : ℕ) → Q (a ∷ b ∷ c ∷ d ∷ x ∷ [])) → (ms : List ℕ) → length ms ≡ 5 → Q ms
by_five Q q [] e = absurd (omega arith)
by_five Q q (a ∷ ms) e = by_four (λ z. Q (a ∷ z)) (q a) ms (omega (arith, e))

by_one_part : (Q : List Assign → List ℕ → Type 0) → ((a : Assign) → Q (a ∷ []) []) → (ps : List Assign) (ms : List ℕ) → length ps ≡ 1 → length ps ≡ 1 + length ms → Q ps ms
by_one_part Q q [] ms e f = absurd (omega arith)
by_one_part Q q (a ∷ []) [] e f = q a
by_one_part Q q (a ∷ []) (m ∷ ms) e f = absurd (omega arith)
by_one_part Q q (a ∷ b ∷ ps) ms e f = absurd (omega arith)

module _ (kind_of : ℕ → Option Kind) (bytes_of : ℕ → List ℕ) where
  -- ---- Scopes

  back_enter : Back kind_of bytes_of (λ d. entering) tt opens
  back_enter = record {
    reads = λ k ts scopes end f. record {
      front = [];
      back = ts;
      middle = entered scopes;
      split = refl;
      begin = record { word = []; turns = 0; is = refl; holds = λ e h. record { none = refl; same = refl } };
      rest = (f.0, f.1.1);
    };
  }

  back_leave : {A : Type 0} (a : A) → Back kind_of bytes_of (λ d. changes left a) a closes
  back_leave a = record {
    reads = λ k ts scopes end f. record {
      front = [];
      back = ts;
      middle = left scopes;
      split = refl;
      begin = record { word = []; turns = 0; is = refl; holds = λ e h. record { none = refl; same = refl } };
      rest = (f.0, f.1.1);
    };
  }

  pub back_scope : {A : Type 0} {X : ℕ → Part A} {a : A} {behind : Open} → Back kind_of bytes_of X a behind → Back kind_of bytes_of (λ d. in_scope (X d)) a (λ k. opens (behind (closes k)))
  back_scope {a = a} p = back_then kind_of bytes_of back_enter (back_then kind_of bytes_of p (back_leave a))

  -- What is said here is said so too.
  back_from : {A : Type 0} {X : ℕ → Part A} {a : A} {before before' : Open} →
      ((k : Said) (ts : List KeptToken) (scopes end : OpenScopes) → AreSaid kind_of bytes_of (before' k) ts scopes end → AreSaid kind_of bytes_of (before k) ts scopes end) →
      Back kind_of bytes_of X a before → Back kind_of bytes_of X a before'
  back_from up p = record { reads = λ k ts scopes end f. p.reads k ts scopes end (up k ts scopes end f) }

  begins_front : (test : KeptToken → Bool) (front back : List KeptToken) → begins test (front ++ back) ≡ false → begins test front ≡ false
  begins_front test [] back e = refl
  begins_front test (t ∷ front) back e = e

  -- What is said begins with no token of the set.
  abbrev pub NoneFirst : List ℕ → Open → Type 0
  NoneFirst set before = (k : Said) (ts : List KeptToken) (scopes end : OpenScopes) → AreSaid kind_of bytes_of (before k) ts scopes end → begins (λ t. has set (terminal_of scopes t)) ts ≡ false

  back_without : {A : Type 0} {X : ℕ → Part A} {a : A} {before : Open} (set : List ℕ) → NoneFirst set before → Back kind_of bytes_of X a before → Back kind_of bytes_of (λ d. without terminal_of set (X d)) a before
  back_without set first p = record {
    reads = λ k ts scopes end f.
        let x = p.reads k ts scopes end f in
        let test : KeptToken → Bool = λ t. has set (terminal_of scopes t) in
        let none : begins test x.front ≡ false = begins_front test x.front x.back (ap (begins test) (sym x.split) ∙ first k ts scopes end f) in record {
          front = x.front;
          back = x.back;
          middle = x.middle;
          split = x.split;
          rest = x.rest;
          begin = record { word = x.begin.word; turns = x.begin.turns; is = x.begin.is; holds = λ e h. (x.begin.holds e h, ap (begins test) x.begin.is ∙ none) };
        };
  }

  -- Tokens of the symbols begin with no token of the set.
  abbrev pub NoneBegins : List ℕ → Symbols → Type 0
  NoneBegins set symbols = (rest : Symbols) (ts : List KeptToken) (scopes : OpenScopes) → FitTokens kind_of bytes_of (symbols ++ rest) ts → begins (λ t. has set (terminal_of scopes t)) ts ≡ false

  -- A block without labels.
  abbrev pub IsBraced : Stmt → Type 0
  IsBraced x = (b : Block) × (x ≡ stmt_of [] (kind.Braced b))

  module _ (free_expr : (depth : ℕ) (e : Expr) → IsFormedExpr kind_of depth e → IsFree (of_expr kind_of bytes_of e).events)
      (free_stmt : (depth : ℕ) (x : Stmt) → IsFormedStmt kind_of depth x → IsFree (of_stmt kind_of bytes_of x).events)
      (shut_block : (depth : ℕ) (b : Block) → IsFormedBlock kind_of depth b → IsShut (of_block kind_of bytes_of b).events)
      (braced_or : (depth : ℕ) (x : Stmt) → IsFormedStmt kind_of depth x → IsBraced x ⊎ NoneBegins a_left_brace (stmt_spelling x))
      (begins_no_if : (depth : ℕ) (x : Stmt) → IsFormedStmt kind_of depth x → (IsIf x → ⊥) → NoneBegins an_if (stmt_spelling x))
      (below : Below) (level n : ℕ) (inner : ℕ → Inside)
      (expr : (at depth : ℕ) (e : Expr) → IsFormedExpr kind_of depth e → Back kind_of bytes_of (λ d. below.expr d at) e (λ k. of_expr kind_of bytes_of e and k))
      (constant : (at depth : ℕ) (a : Assign) → IsFormedConstant kind_of bytes_of depth a → Back kind_of bytes_of (λ d. below.constant d at) a (λ k. of_assign kind_of bytes_of a and k))
      (declaration : (at depth : ℕ) (x : Declaration) → IsFormedDeclaration kind_of depth x → Back kind_of bytes_of (λ d. below.declaration d at) x (λ k. of_declaration kind_of bytes_of x and k))
      (item : (depth : ℕ) → suc depth ≤ n → (x : BlockItem) → IsFormedItem kind_of bytes_of depth x → Back kind_of bytes_of (λ d. (inner d).item) x (λ k. of_item kind_of bytes_of x and k))
      (statement : (depth : ℕ) → suc depth ≤ n → (e : Ended) → IsFormedEnded kind_of bytes_of depth e → Back kind_of bytes_of (λ d. (inner d).statement) e (λ k. of_stmt kind_of bytes_of e.stmt and k)) where
    -- ---- Blocks (6.8.2)

    abbrev items_at : List BlockItem → ℕ → BlockItems
    items_at list l = record { list = list; marks = l ∷ [] }

    more_items_back : (m l r : ℕ) → suc m ≤ n → (done xs : List BlockItem) → Every (IsFormedItem kind_of bytes_of m) xs →
        Spins kind_of bytes_of (λ t e. repeat t (lang.item_turn below e level (inner e)) (items_at done l)) (block_of (items_at (done ++ xs) l) r) (λ k. each (of_item kind_of bytes_of) xs (token r (want.Mark MARK_RIGHT_BRACE) k))
    unfolding lang.item_turn lang.last_item lang.next_item
    more_items_back m l r h done [] g = spins_same kind_of bytes_of (ap (λ (z : List BlockItem). block_of (items_at z l) r) (sym (append-nil done))) (λ k. refl)
        (repeat_done kind_of bytes_of (λ e. lang.item_turn below e level (inner e))
        (back_left kind_of bytes_of (back_token kind_of bytes_of (hears_mark kind_of bytes_of MARK_RIGHT_BRACE r) (back_pure kind_of bytes_of (Done (block_of (items_at done l) r))))))
    more_items_back m l r h done (x ∷ xs) g = spins_same kind_of bytes_of (ap (λ (z : List BlockItem). block_of (items_at z l) r) (append_assoc done (x ∷ []) xs)) (λ k. refl)
        (repeat_again kind_of bytes_of (λ e. lang.item_turn below e level (inner e))
        (back_right kind_of bytes_of (back_then kind_of bytes_of (item m h x g.0) (back_pure kind_of bytes_of (Again (with_item (items_at done l) x)))))
        (more_items_back m l r h (done ++ x ∷ []) xs g.1))

    abbrev Blocks : Block → Type 0
    Blocks b = Back kind_of bytes_of (λ d. lang.block below d level (inner d)) b (λ k. of_block kind_of bytes_of b and k)

    block_by : (m : ℕ) → suc m ≤ n → (items : List BlockItem) (l r : ℕ) → Every (IsFormedItem kind_of bytes_of m) items → Blocks (record { items = items; marks = l ∷ r ∷ [] })
    unfolding lang.block lang.all_items
    block_by m h items l r g = back_same kind_of bytes_of refl (law.block_before kind_of bytes_of items l r)
        (back_token kind_of bytes_of (hears_mark kind_of bytes_of MARK_LEFT_BRACE l) (back_scope (back_loop kind_of bytes_of (more_items_back m l r h [] items g))))

    pub block_back : (m : ℕ) → suc m ≤ n → (b : Block) → IsFormedBlock kind_of m b → Blocks b
    block_back m h b g = by_two (λ z. Blocks (record { items = b.items; marks = z })) (λ l r. block_by m h b.items l r (every_of (IsFormedItem kind_of bytes_of m) b.items g.items)) b.marks g.marks

    abbrev kinded_of : StmtKind → Kinded
    kinded_of x = record { kind = x; dangles = ends_kind x }

    abbrev Kindeds : StmtKind → Type 0
    Kindeds x = Back kind_of bytes_of (λ d. lang.kinded below d level (inner d)) (kinded_of x) (λ k. of_kind kind_of bytes_of x and k)

    braced_back : (m : ℕ) → suc m ≤ n → (b : Block) → IsFormedBlock kind_of m b → Back kind_of bytes_of (λ d. lang.braced below d level (inner d)) (closed (kind.Braced b)) (λ k. of_kind kind_of bytes_of (kind.Braced b) and k)
    unfolding lang.braced
    braced_back m h b g = back_same kind_of bytes_of refl (law.braced_before kind_of bytes_of b) (back_then kind_of bytes_of (block_back m h b g) (back_pure kind_of bytes_of (closed (kind.Braced b))))

    -- ---- Bodies of statements (6.8.4p3, 6.8.5p5)

    abbrev ended_from : Stmt → Ended
    ended_from x = record { stmt = x; dangles = ends_in_if x }

    abbrev Bodies : Stmt → Type 0
    Bodies x = Back kind_of bytes_of (λ d. lang.body below d level (inner d)) (ended_from x) (λ k. of_body kind_of bytes_of x and k)

    block_stmt_met : (b : Block) → (of_stmt kind_of bytes_of (stmt_of [] (kind.Braced b))).events ≡ (of_block kind_of bytes_of b).events
    block_stmt_met b = fold.stmt_folds (stmt_steps_of kind_of bytes_of) (stmt_of [] (kind.Braced b)) ∙ fold.stmt_kind_braced_folds (stmt_steps_of kind_of bytes_of) b

    block_of_body : (m : ℕ) (b : Block) → IsFormedBlock kind_of m b → (k : Said) (ts : List KeptToken) (scopes end : OpenScopes) →
        AreSaid kind_of bytes_of (of_body kind_of bytes_of (stmt_of [] (kind.Braced b)) and k) ts scopes end → AreSaid kind_of bytes_of (of_kind kind_of bytes_of (kind.Braced b) and k) ts scopes end
    block_of_body m b g k ts scopes end f =
        let x = stmt_of [] (kind.Braced b) in
        let shut = subst IsShut (sym (block_stmt_met b)) (shut_block m b g) in
        let bare : AreSaid kind_of bytes_of (of_stmt kind_of bytes_of x and k) ts scopes end = (f.0, unwrapped (of_stmt kind_of bytes_of x).events shut k.events scopes end f.1) in
        subst (λ (z : Said). AreSaid kind_of bytes_of z ts scopes end) (law.stmt_before kind_of bytes_of x k) bare

    braced_body_back : (m : ℕ) → suc m ≤ n → (b : Block) → IsFormedBlock kind_of m b → Bodies (stmt_of [] (kind.Braced b))
    unfolding lang.body lang.braced_body
    braced_body_back m h b g = back_left kind_of bytes_of (back_same kind_of bytes_of
        (ap (λ z. record { stmt = stmt_of [] (kind.Braced b); dangles = z }) (sym (ends_is (stmt_of [] (kind.Braced b)) ∙ fold.stmt_kind_braced_folds _ b))) (λ k. refl)
        (back_then kind_of bytes_of {before = λ k. of_body kind_of bytes_of (stmt_of [] (kind.Braced b)) and k} (back_from (block_of_body m b g) (braced_back m h b g)) (back_pure kind_of bytes_of (ended_of [] (closed (kind.Braced b))))))

    unbraced_back : (m : ℕ) → suc m ≤ n → (x : Stmt) → IsFormedStmt kind_of m x → NoneBegins a_left_brace (stmt_spelling x) → Bodies x
    unfolding lang.body lang.unbraced
    unbraced_back m h x g first = back_right kind_of bytes_of (back_without a_left_brace (λ k ts scopes end f. first k.symbols ts scopes f.0)
        (back_same kind_of bytes_of refl (law.body_before kind_of bytes_of x) (back_scope (statement m h (ended_from x) (g, refl)))))

    block_in : (m : ℕ) → suc m ≤ n → (b : Block) → IsFormedStmt kind_of m (stmt_of [] (kind.Braced b)) → Bodies (stmt_of [] (kind.Braced b))
    unfolding IsFormedStmt
    block_in zero h b g = absurd g
    block_in (suc m) h b g = braced_body_back m (omega (arith, h)) b
        (subst (IsStmtKind kind_of m (IsFormedStmt kind_of m)) (ap out-StmtKind (sym (kind.rolls-Braced b)) ∙ out-roll-StmtKind (s.StmtKind-F.Braced b)) g.kind)

    body_back : (m : ℕ) → suc m ≤ n → (x : Stmt) → IsFormedStmt kind_of m x → Bodies x
    body_back m h x g = of (braced_or m x g)
      where
        of : IsBraced x ⊎ NoneBegins a_left_brace (stmt_spelling x) → Bodies x
        of (inl b) = subst Bodies (sym b.1) (block_in m h b.0 (subst (IsFormedStmt kind_of m) b.1 g))
        of (inr first) = unbraced_back m h x g first

    -- ---- A condition in parentheses, and its body

    abbrev paren_said : Expr → Stmt → ℕ → ℕ → Open
    paren_said e x l r k = token l (want.Mark MARK_LEFT_PAREN) (of_expr kind_of bytes_of e and token r (want.Mark MARK_RIGHT_PAREN) (of_body kind_of bytes_of x and k))

    arm_back : (m : ℕ) → suc m ≤ n → (e : Expr) (x : Stmt) (l r : ℕ) → IsFormedExpr kind_of m e → IsFormedStmt kind_of m x →
        Back kind_of bytes_of (λ d. lang.arm below d level (inner d)) (arm_of e (ended_from x) l r) (paren_said e x l r)
    unfolding lang.arm
    arm_back m h e x l r g i = back_token kind_of bytes_of (hears_mark kind_of bytes_of MARK_LEFT_PAREN l) (back_then kind_of bytes_of (expr (suc level) m e g)
        (back_token kind_of bytes_of (hears_mark kind_of bytes_of MARK_RIGHT_PAREN r) (back_then kind_of bytes_of (body_back m h x i) (back_pure kind_of bytes_of (arm_of e (ended_from x) l r)))))

    -- ---- `if` (6.8.4.1)

    abbrev arms_at : Steps → ℕ → Arms
    arms_at ss key = record { list = arms_done ss; marks = marks_done ss ++ key ∷ [] }

    abbrev key_of : Steps → Branch → ℕ
    key_of [] last = last.key
    key_of (x ∷ ss) last = x.0.key

    -- Behind the first `if`.
    abbrev rest_said : Steps → Branch → Open
    rest_said [] last k = paren_said last.cond last.body last.left last.right k
    rest_said (x ∷ ss) last k = paren_said x.0.cond x.0.body x.0.left x.0.right (token x.1 (want.Key KEY_ELSE) (token (key_of ss last) (want.Key KEY_IF) (rest_said ss last k)))

    rest_is : (ss : Steps) (last : Branch) (k : Said) → steps_said kind_of bytes_of ss (arm_said kind_of bytes_of last k) ≡ token (key_of ss last) (want.Key KEY_IF) (rest_said ss last k)
    rest_is [] last k = refl
    rest_is (x ∷ ss) last k = ap (λ (z : Said). arm_said kind_of bytes_of x.0 (token x.1 (want.Key KEY_ELSE) z)) (rest_is ss last k)

    behind_again : (b : Bool) → b ≡ false → (arms : Arms) (e key : ℕ) →
        Back kind_of bytes_of (λ d. lang.behind_arm below d level (inner d) b arms) (Again (arms_to arms (e ∷ key ∷ []))) (λ k. token e (want.Key KEY_ELSE) (token key (want.Key KEY_IF) k))
    unfolding lang.else_part lang.next_arm
    behind_again true f arms e key = never (sym f)
    behind_again false f arms e key = back_left kind_of bytes_of (back_token kind_of bytes_of (hears_key kind_of bytes_of KEY_ELSE e)
        (back_left kind_of bytes_of (back_token kind_of bytes_of (hears_key kind_of bytes_of KEY_IF key) (back_pure kind_of bytes_of (Again (arms_to arms (e ∷ key ∷ [])))))))

    behind_other : (m : ℕ) → suc m ≤ n → (b : Bool) → b ≡ false → (arms : Arms) (e : ℕ) (x : Stmt) → IsFormedStmt kind_of m x → (IsIf x → ⊥) →
        Back kind_of bytes_of (λ d. lang.behind_arm below d level (inner d) b arms) (Done (with_else arms e (ended_from x))) (λ k. token e (want.Key KEY_ELSE) (of_body kind_of bytes_of x and k))
    unfolding lang.else_part lang.last_body
    behind_other m h true f arms e x g i = never (sym f)
    behind_other m h false f arms e x g i = back_left kind_of bytes_of (back_token kind_of bytes_of (hears_key kind_of bytes_of KEY_ELSE e)
        (back_right kind_of bytes_of (back_without an_if (λ k ts scopes end f. begins_no_if m x g i k.symbols ts scopes f.0)
        (back_then kind_of bytes_of (body_back m h x g) (back_pure kind_of bytes_of (Done (with_else arms e (ended_from x))))))))

    behind_none : (b : Bool) (arms : Arms) → Back kind_of bytes_of (λ d. lang.behind_arm below d level (inner d) b arms) (Done (without_else arms)) (λ k. k)
    behind_none true arms = back_pure kind_of bytes_of (Done (without_else arms))
    behind_none false arms = back_right kind_of bytes_of (back_pure kind_of bytes_of (Done (without_else arms)))

    abbrev IsStep : ℕ → Branch × ℕ → Type 0
    IsStep m x = (IsFormedExpr kind_of m x.0.cond × IsFormedStmt kind_of m x.0.body) × (ends_in_if x.0.body ≡ false)

    abbrev IsLast : ℕ → Branch → Tail → Type 0
    IsLast m last None = IsFormedExpr kind_of m last.cond × IsFormedStmt kind_of m last.body
    IsLast m last (Some t) = (IsFormedExpr kind_of m last.cond × IsFormedStmt kind_of m last.body) × (ends_in_if last.body ≡ false) × IsFormedStmt kind_of m t.1 × (IsIf t.1 → ⊥)

    turn_again : (m : ℕ) → suc m ≤ n → (done : Steps) (x : Branch × ℕ) (key : ℕ) → IsStep m x →
        Back kind_of bytes_of (λ d. lang.arm_turn below d level (inner d) (arms_at done x.0.key)) (Again (arms_at (done ++ x ∷ []) key))
        (λ k. paren_said x.0.cond x.0.body x.0.left x.0.right (token x.1 (want.Key KEY_ELSE) (token key (want.Key KEY_IF) k)))
    unfolding lang.arm_turn
    turn_again m h done x key g =
        let arms = with_arm (arms_at done x.0.key) (arm_of x.0.cond (ended_from x.0.body) x.0.left x.0.right) in
        let same : arms_to arms (x.1 ∷ key ∷ []) ≡ arms_at (done ++ x ∷ []) key =
        ap (λ z. record { list = z; marks = ((marks_done done ++ x.0.key ∷ []) ++ x.0.left ∷ x.0.right ∷ []) ++ x.1 ∷ key ∷ [] }) (sym (arms_snoc done x)) ∙
        ap (λ z. record { list = arms_done (done ++ x ∷ []); marks = z }) (sym (marks_snoc done x key)) in
        back_same kind_of bytes_of (ap (λ z. Again z) same) (λ k. refl)
        (back_then kind_of bytes_of (arm_back m h x.0.cond x.0.body x.0.left x.0.right g.0.0 g.0.1) (behind_again (ends_in_if x.0.body) g.1 arms x.1 key))

    turn_last : (m : ℕ) → suc m ≤ n → (done : Steps) (last : Branch) (tail : Tail) → IsLast m last tail →
        Back kind_of bytes_of (λ d. lang.arm_turn below d level (inner d) (arms_at done last.key)) (Done (kinded_of (if_tree done last tail)))
        (λ k. paren_said last.cond last.body last.left last.right (tail_said kind_of bytes_of tail k))
    unfolding lang.arm_turn
    turn_last m h done last None g =
        let arms = with_arm (arms_at done last.key) (arm_of last.cond (ended_from last.body) last.left last.right) in
        let same : without_else arms ≡ kinded_of (if_tree done last None) =
        ap (λ z. record { kind = kind.If (arms_in done last) None z; dangles = true }) (append_assoc (marks_done done) (last.key ∷ []) (last.left ∷ last.right ∷ [])) ∙
        ap (λ z. record { kind = if_tree done last None; dangles = z }) (sym (fold.stmt_kind_if_folds ends_steps (arms_in done last) None (marks_in done last None))) in
        back_same kind_of bytes_of (ap (λ z. Done z) same) (λ k. refl)
        (back_then kind_of bytes_of (arm_back m h last.cond last.body last.left last.right g.0 g.1) (behind_none (ends_in_if last.body) arms))
    turn_last m h done last (Some t) g =
        let arms = with_arm (arms_at done last.key) (arm_of last.cond (ended_from last.body) last.left last.right) in
        let same : with_else arms t.0 (ended_from t.1) ≡ kinded_of (if_tree done last (Some t)) =
        ap (λ z. record { kind = kind.If (arms_in done last) (Some t.1) z; dangles = ends_in_if t.1 })
        (append_assoc (marks_done done ++ last.key ∷ []) (last.left ∷ last.right ∷ []) (t.0 ∷ []) ∙ append_assoc (marks_done done) (last.key ∷ []) (last.left ∷ last.right ∷ t.0 ∷ [])) ∙
        ap (λ z. record { kind = if_tree done last (Some t); dangles = z }) (ends_stmt t.1 ∙ sym (fold.stmt_kind_if_folds ends_steps (arms_in done last) (Some t.1) (marks_in done last (Some t)))) in
        back_same kind_of bytes_of (ap (λ z. Done z) same) (λ k. refl)
        (back_then kind_of bytes_of (arm_back m h last.cond last.body last.left last.right g.0.0 g.0.1) (behind_other m h (ends_in_if last.body) g.1 arms t.0 t.1 g.2 g.3))

    more_arms_back : (m : ℕ) → suc m ≤ n → (done ss : Steps) (last : Branch) (tail : Tail) → Every (IsStep m) ss → IsLast m last tail →
        Spins kind_of bytes_of (λ t e. repeat t (lang.arm_turn below e level (inner e)) (arms_at done (key_of ss last))) (kinded_of (if_tree (done ++ ss) last tail)) (λ k. rest_said ss last (tail_said kind_of bytes_of tail k))
    more_arms_back m h done [] last tail g i = spins_same kind_of bytes_of (ap (λ (z : Steps). kinded_of (if_tree z last tail)) (sym (append-nil done))) (λ k. refl)
        (repeat_done kind_of bytes_of (λ e. lang.arm_turn below e level (inner e)) (turn_last m h done last tail i))
    more_arms_back m h done (x ∷ ss) last tail g i = spins_same kind_of bytes_of (ap (λ (z : Steps). kinded_of (if_tree z last tail)) (append_assoc done (x ∷ []) ss)) (λ k. refl)
        (repeat_again kind_of bytes_of (λ e. lang.arm_turn below e level (inner e)) (turn_again m h done x (key_of ss last) g.0) (more_arms_back m h (done ++ x ∷ []) ss last tail g.1 i))

    free_steps : (m : ℕ) (ss : Steps) → Every (IsStep m) ss → Every (λ (x : Branch × ℕ). IsFreeBranch kind_of bytes_of x.0) ss
    free_steps m [] g = tt
    free_steps m (x ∷ ss) g = ((free_expr m x.0.cond g.0.0.0, free_stmt m x.0.body g.0.0.1), free_steps m ss g.1)

    free_last : (m : ℕ) (last : Branch) (tail : Tail) → IsLast m last tail → IsFreeBranch kind_of bytes_of last × IsFreeTail kind_of bytes_of tail
    free_last m last None g = ((free_expr m last.cond g.0, free_stmt m last.body g.1), tt)
    free_last m last (Some t) g = ((free_expr m last.cond g.0.0, free_stmt m last.body g.0.1), free_stmt m t.1 g.2)

    abbrev Ifs : StmtKind → Type 0
    Ifs x = Back kind_of bytes_of (λ d. lang.if_ below d level (inner d)) (kinded_of x) (λ k. of_kind kind_of bytes_of x and k)

    if_by : (m : ℕ) → suc m ≤ n → (ss : Steps) (last : Branch) (tail : Tail) → Every (IsStep m) ss → IsLast m last tail → Ifs (if_tree ss last tail)
    unfolding lang.if_ lang.all_arms
    if_by m h ss last tail g i =
        let f = free_last m last tail i in
        back_from {before = λ k. opens (steps_said kind_of bytes_of ss (arm_said kind_of bytes_of last (tail_said kind_of bytes_of tail (closes k))))}
        (λ k ts scopes end x. flat_if kind_of bytes_of ss last tail (free_steps m ss g) f.0 f.1 k ts scopes end x)
        (back_same kind_of bytes_of refl (λ k. ap opens (rest_is ss last (tail_said kind_of bytes_of tail (closes k))))
        (back_token kind_of bytes_of (hears_key kind_of bytes_of KEY_IF (key_of ss last)) (back_scope (back_loop kind_of bytes_of (more_arms_back m h [] ss last tail g i)))))

    -- What is asked of the arms, by branches.
    steps_asked : (m : ℕ) (ss : Steps) (last : Branch) → Every (λ (x : Expr × Stmt). IsFormedExpr kind_of m x.0) (arms_in ss last) → Every (λ (x : Expr × Stmt). IsFormedStmt kind_of m x.1) (arms_in ss last) →
        (other : Option Stmt) → ((before after : List (Expr × Stmt)) (c : Expr) (b : Stmt) → arms_in ss last ≡ before ++ (c, b) ∷ after → (after ≢ []) ⊎ IsSome other → ends_in_if b ≡ false) →
        Every (IsStep m) ss × (IsFormedExpr kind_of m last.cond × IsFormedStmt kind_of m last.body) × (IsSome other → ends_in_if last.body ≡ false)
    steps_asked m [] last g h other c = (tt, (g.0, h.0), λ i. c [] [] last.cond last.body refl (inr i))
    steps_asked m (x ∷ ss) last g h other c =
        let r = steps_asked m ss last g.1 h.1 other (λ before after e b same i. c (arm_in x.0 ∷ before) after e b (ap (λ (z : List (Expr × Stmt)). arm_in x.0 ∷ z) same) i) in
        ((((g.0, h.0), c [] (arms_in ss last) x.0.cond x.0.body refl (inl (arms_some ss last))), r.0), r.1, r.2)

    if_asked : (m : ℕ) → suc m ≤ n → (ss : Steps) (last : Branch) (tail : Tail) → IsIfStatement kind_of m (IsFormedStmt kind_of m) (arms_in ss last) (tail_stmt tail) (marks_in ss last tail) → Ifs (if_tree ss last tail)
    if_asked m h ss last tail g =
        let r = steps_asked m ss last (every_of (λ (x : Expr × Stmt). IsFormedExpr kind_of m x.0) (arms_in ss last) g.conditions) (every_of (λ (x : Expr × Stmt). IsFormedStmt kind_of m x.1) (arms_in ss last) g.bodies) (tail_stmt tail) g.closed in
        if_by m h ss last tail r.0 (last_asked tail r.1 r.2 g.otherwise)
      where
        last_asked : (tail : Tail) → IsFormedExpr kind_of m last.cond × IsFormedStmt kind_of m last.body → (IsSome (tail_stmt tail) → ends_in_if last.body ≡ false) →
            IfSome (tail_stmt tail) (λ stmt. IsFormedStmt kind_of m stmt × ¬ IsIf stmt) → IsLast m last tail
        last_asked None g c o = g
        last_asked (Some t) g c o = (g, c refl, o.0, o.1)

    if_back : (m : ℕ) → suc m ≤ n → (arms : List (Expr × Stmt)) (other : Option Stmt) (marks : List ℕ) → IsIfStatement kind_of m (IsFormedStmt kind_of m) arms other marks → Ifs (kind.If arms other marks)
    if_back m h arms other marks g =
        by_chain (λ bs o ms. IsIfStatement kind_of m (IsFormedStmt kind_of m) bs o ms → Ifs (kind.If bs o ms)) (if_asked m h) arms other marks g.some g.fixed g

    -- ---- `switch` (6.8.4.2), and loops (6.8.5)

    abbrev Turns : StmtKind → Type 0
    Turns x = (labels : List Mark) → Back kind_of bytes_of (λ d. lang.turn below d level (inner d) labels) (Done (ended_of labels (kinded_of x))) (λ k. of_kind kind_of bytes_of x and k)

    turn_of : (x : StmtKind) (y : Kinded) → y ≡ kinded_of x → Back kind_of bytes_of (λ d. lang.kinded below d level (inner d)) y (λ k. of_kind kind_of bytes_of x and k) → Turns x
    unfolding lang.turn lang.other_turn lang.keyed_turn lang.kinded_turn
    turn_of x y e p labels = back_right kind_of bytes_of (back_left kind_of bytes_of (back_right kind_of bytes_of (back_right kind_of bytes_of
        (back_then kind_of bytes_of (back_same kind_of bytes_of e (λ k. refl) p) (back_pure kind_of bytes_of (Done (ended_of labels (kinded_of x))))))))

    value_back : (m : ℕ) (e : Expr) (c : ℕ) → IsFormedExpr kind_of m e → Turns (kind.Value e (c ∷ []))
    unfolding lang.turn lang.other_turn lang.value_turn lang.value
    value_back m e c g labels = back_right kind_of bytes_of (back_right kind_of bytes_of
        (back_same kind_of bytes_of (ap (λ z. Done (record { stmt = stmt_of labels (kind.Value e (c ∷ [])); dangles = z })) (sym (fold.stmt_kind_value_folds ends_steps e (c ∷ [])))) (law.value_before kind_of bytes_of e c)
        (back_then kind_of bytes_of (back_then kind_of bytes_of (expr level m e g) (back_token kind_of bytes_of (hears_mark kind_of bytes_of MARK_SEMICOLON c) (back_pure kind_of bytes_of (closed (kind.Value e (c ∷ []))))))
        (back_pure kind_of bytes_of (Done (ended_of labels (closed (kind.Value e (c ∷ [])))))))))

    empty_back : (c : ℕ) → Turns (kind.Empty (c ∷ []))
    unfolding lang.kinded lang.empty
    empty_back c = turn_of (kind.Empty (c ∷ [])) (closed (kind.Empty (c ∷ []))) (ap (λ z. record { kind = kind.Empty (c ∷ []); dangles = z }) (sym (fold.stmt_kind_empty_folds ends_steps (c ∷ []))))
        (back_left kind_of bytes_of (back_same kind_of bytes_of refl (law.empty_before kind_of bytes_of c) (back_token kind_of bytes_of (hears_mark kind_of bytes_of MARK_SEMICOLON c) (back_pure kind_of bytes_of (closed (kind.Empty (c ∷ [])))))))

    braced_turn : (m : ℕ) → suc m ≤ n → (b : Block) → IsFormedBlock kind_of m b → Turns (kind.Braced b)
    unfolding lang.kinded
    braced_turn m h b g = turn_of (kind.Braced b) (closed (kind.Braced b)) (ap (λ z. record { kind = kind.Braced b; dangles = z }) (sym (fold.stmt_kind_braced_folds ends_steps b)))
        (back_right kind_of bytes_of (back_left kind_of bytes_of (braced_back m h b g)))

    if_turn : (x : StmtKind) → Ifs x → Turns x
    unfolding lang.kinded
    if_turn x p = turn_of x (kinded_of x) refl (back_right kind_of bytes_of (back_right kind_of bytes_of (back_left kind_of bytes_of p)))

    while_back : (m : ℕ) → suc m ≤ n → (e : Expr) (x : Stmt) (a l r : ℕ) → IsFormedExpr kind_of m e → IsFormedStmt kind_of m x → Turns (kind.While e x (a ∷ l ∷ r ∷ []))
    unfolding lang.kinded lang.while_ lang.while_inside
    while_back m h e x a l r g i =
        let y = arm_of e (ended_from x) l r in
        turn_of (kind.While e x (a ∷ l ∷ r ∷ [])) (while_of a y) (ap (λ z. record { kind = kind.While e x (a ∷ l ∷ r ∷ []); dangles = z }) (ends_stmt x ∙ sym (fold.stmt_kind_while_folds ends_steps e x (a ∷ l ∷ r ∷ []))))
        (back_right kind_of bytes_of (back_right kind_of bytes_of (back_right kind_of bytes_of (back_left kind_of bytes_of (back_same kind_of bytes_of refl (law.while_before kind_of bytes_of e x a l r)
        (back_token kind_of bytes_of (hears_key kind_of bytes_of KEY_WHILE a) (back_scope (back_then kind_of bytes_of (arm_back m h e x l r g i) (back_pure kind_of bytes_of (while_of a y))))))))))

    switch_back : (m : ℕ) → suc m ≤ n → (e : Expr) (x : Stmt) (a l r : ℕ) → IsFormedExpr kind_of m e → IsFormedStmt kind_of m x → Turns (kind.Switch e x (a ∷ l ∷ r ∷ []))
    unfolding lang.kinded lang.switch_ lang.switch_inside
    switch_back m h e x a l r g i =
        let y = arm_of e (ended_from x) l r in
        turn_of (kind.Switch e x (a ∷ l ∷ r ∷ [])) (switch_of a y) (ap (λ z. record { kind = kind.Switch e x (a ∷ l ∷ r ∷ []); dangles = z }) (ends_stmt x ∙ sym (fold.stmt_kind_switch_folds ends_steps e x (a ∷ l ∷ r ∷ []))))
        (back_right kind_of bytes_of (back_right kind_of bytes_of (back_right kind_of bytes_of (back_right kind_of bytes_of (back_right kind_of bytes_of (back_right kind_of bytes_of (back_left kind_of bytes_of
        (back_same kind_of bytes_of refl (law.switch_before kind_of bytes_of e x a l r)
        (back_token kind_of bytes_of (hears_key kind_of bytes_of KEY_SWITCH a) (back_scope (back_then kind_of bytes_of (arm_back m h e x l r g i) (back_pure kind_of bytes_of (switch_of a y)))))))))))))

    do_back : (m : ℕ) → suc m ≤ n → (x : Stmt) (e : Expr) (a w l r c : ℕ) → IsFormedStmt kind_of m x → IsFormedExpr kind_of m e → Turns (kind.DoWhile x e (a ∷ w ∷ l ∷ r ∷ c ∷ []))
    unfolding lang.kinded lang.do_ lang.do_inside
    do_back m h x e a w l r c g i =
        let marks : List ℕ = a ∷ w ∷ l ∷ r ∷ c ∷ [] in
        turn_of (kind.DoWhile x e marks) (do_of (ended_from x) e marks) (ap (λ z. record { kind = kind.DoWhile x e marks; dangles = z }) (sym (fold.stmt_kind_do_while_folds ends_steps x e marks)))
        (back_right kind_of bytes_of (back_right kind_of bytes_of (back_right kind_of bytes_of (back_right kind_of bytes_of (back_left kind_of bytes_of (back_same kind_of bytes_of refl (law.do_while_before kind_of bytes_of x e a w l r c)
        (back_token kind_of bytes_of (hears_key kind_of bytes_of KEY_DO a) (back_scope (back_then kind_of bytes_of (body_back m h x g) (back_token kind_of bytes_of (hears_key kind_of bytes_of KEY_WHILE w)
        (back_token kind_of bytes_of (hears_mark kind_of bytes_of MARK_LEFT_PAREN l) (back_then kind_of bytes_of (expr (suc level) m e i) (back_token kind_of bytes_of (hears_mark kind_of bytes_of MARK_RIGHT_PAREN r)
        (back_token kind_of bytes_of (hears_mark kind_of bytes_of MARK_SEMICOLON c) (back_pure kind_of bytes_of (do_of (ended_from x) e marks))))))))))))))))

    abbrev Inits : ForInit → Type 0
    Inits x = Back kind_of bytes_of (λ d. lang.for_init below d level (inner d)) x (λ k. of_for_init kind_of bytes_of x and k)

    init_back : (m : ℕ) (x : ForInit) → IsForInit kind_of m x → Inits x
    unfolding lang.for_init lang.no_init lang.value_init lang.declared_init
    init_back m (init_.Nothing marks) g = by_one (λ z. Inits (init_.Nothing z)) (λ c. back_left kind_of bytes_of (back_same kind_of bytes_of refl (law.no_init_before kind_of bytes_of c)
        (back_token kind_of bytes_of (hears_mark kind_of bytes_of MARK_SEMICOLON c) (back_pure kind_of bytes_of (init_.Nothing (c ∷ [])))))) marks g
    init_back m (init_.Value e marks) g = by_one (λ z. Inits (init_.Value e z)) (λ c. back_right kind_of bytes_of (back_left kind_of bytes_of (back_same kind_of bytes_of refl (law.value_init_before kind_of bytes_of e c)
        (back_then kind_of bytes_of (expr (suc level) m e g.0) (back_token kind_of bytes_of (hears_mark kind_of bytes_of MARK_SEMICOLON c) (back_pure kind_of bytes_of (init_.Value e (c ∷ [])))))))) marks g.1
    init_back m (init_.Declare x) g = back_right kind_of bytes_of (back_right kind_of bytes_of (back_same kind_of bytes_of refl (law.declared_init_before kind_of bytes_of x)
        (back_then kind_of bytes_of (declaration (suc level) m x g) (back_pure kind_of bytes_of (init_.Declare x)))))

    maybe_back : (m number : ℕ) (x : Option Expr) (c : ℕ) → IfSome x (IsFormedExpr kind_of m) →
        Back kind_of bytes_of (λ d. lang.maybe_to below d level (inner d) number) (maybe_expr x c) (λ k. maybe kind_of bytes_of x (token c (want.Mark number) k))
    unfolding lang.maybe_to lang.nothing_to lang.expr_to
    maybe_back m number None c g = back_left kind_of bytes_of (back_token kind_of bytes_of (hears_mark kind_of bytes_of number c) (back_pure kind_of bytes_of (maybe_expr None c)))
    maybe_back m number (Some e) c g = back_right kind_of bytes_of (back_then kind_of bytes_of (expr (suc level) m e g) (back_token kind_of bytes_of (hears_mark kind_of bytes_of number c) (back_pure kind_of bytes_of (maybe_expr (Some e) c))))

    for_back : (m : ℕ) → suc m ≤ n → (i : ForInit) (c t : Option Expr) (x : Stmt) (a l p r : ℕ) → IsForInit kind_of m i → IfSome c (IsFormedExpr kind_of m) → IfSome t (IsFormedExpr kind_of m) → IsFormedStmt kind_of m x →
        Turns (kind.For i c t x (a ∷ l ∷ p ∷ r ∷ []))
    unfolding lang.kinded lang.for_ lang.for_inside
    for_back m h i c t x a l p r g u v w =
        let marks : List ℕ = a ∷ l ∷ p ∷ r ∷ [] in
        let value = for_of (for_head a l i (maybe_expr c p) (maybe_expr t r)) (ended_from x) in
        turn_of (kind.For i c t x marks) value (ap (λ z. record { kind = kind.For i c t x marks; dangles = z }) (ends_stmt x ∙ sym (fold.stmt_kind_for_folds ends_steps i c t x marks)))
        (back_right kind_of bytes_of (back_right kind_of bytes_of (back_right kind_of bytes_of (back_right kind_of bytes_of (back_right kind_of bytes_of (back_left kind_of bytes_of
        (back_same kind_of bytes_of refl (law.for_before kind_of bytes_of i c t x a l p r)
        (back_token kind_of bytes_of (hears_key kind_of bytes_of KEY_FOR a) (back_scope (back_token kind_of bytes_of (hears_mark kind_of bytes_of MARK_LEFT_PAREN l) (back_then kind_of bytes_of (init_back m i g)
        (back_then kind_of bytes_of (maybe_back m MARK_SEMICOLON c p u) (back_then kind_of bytes_of (maybe_back m MARK_RIGHT_PAREN t r v) (back_then kind_of bytes_of (body_back m h x w) (back_pure kind_of bytes_of value)))))))))))))))

    -- ---- Jumps (6.8.6)

    break_back : (a c : ℕ) → Turns (kind.Break (a ∷ c ∷ []))
    unfolding lang.kinded lang.break_
    break_back a c = turn_of (kind.Break (a ∷ c ∷ [])) (closed (kind.Break (a ∷ c ∷ []))) (ap (λ z. record { kind = kind.Break (a ∷ c ∷ []); dangles = z }) (sym (fold.stmt_kind_break_folds ends_steps (a ∷ c ∷ []))))
        (back_right kind_of bytes_of (back_right kind_of bytes_of (back_right kind_of bytes_of (back_right kind_of bytes_of (back_right kind_of bytes_of (back_right kind_of bytes_of (back_right kind_of bytes_of (back_left kind_of bytes_of
        (back_same kind_of bytes_of refl (law.break_before kind_of bytes_of a c)
        (back_token kind_of bytes_of (hears_key kind_of bytes_of KEY_BREAK a) (back_token kind_of bytes_of (hears_mark kind_of bytes_of MARK_SEMICOLON c) (back_pure kind_of bytes_of (closed (kind.Break (a ∷ c ∷ [])))))))))))))))

    continue_back : (a c : ℕ) → Turns (kind.Continue (a ∷ c ∷ []))
    unfolding lang.kinded lang.continue_
    continue_back a c = turn_of (kind.Continue (a ∷ c ∷ [])) (closed (kind.Continue (a ∷ c ∷ []))) (ap (λ z. record { kind = kind.Continue (a ∷ c ∷ []); dangles = z }) (sym (fold.stmt_kind_continue_folds ends_steps (a ∷ c ∷ []))))
        (back_right kind_of bytes_of (back_right kind_of bytes_of (back_right kind_of bytes_of (back_right kind_of bytes_of (back_right kind_of bytes_of (back_right kind_of bytes_of (back_right kind_of bytes_of (back_right kind_of bytes_of (back_left kind_of bytes_of
        (back_same kind_of bytes_of refl (law.continue_before kind_of bytes_of a c)
        (back_token kind_of bytes_of (hears_key kind_of bytes_of KEY_CONTINUE a) (back_token kind_of bytes_of (hears_mark kind_of bytes_of MARK_SEMICOLON c) (back_pure kind_of bytes_of (closed (kind.Continue (a ∷ c ∷ []))))))))))))))))

    goto_back : (x a c : ℕ) → Turns (kind.Goto x (a ∷ c ∷ []))
    unfolding lang.kinded lang.goto_
    goto_back x a c = turn_of (kind.Goto x (a ∷ c ∷ [])) (closed (kind.Goto x (a ∷ c ∷ []))) (ap (λ z. record { kind = kind.Goto x (a ∷ c ∷ []); dangles = z }) (sym (fold.stmt_kind_goto_folds ends_steps x (a ∷ c ∷ []))))
        (back_right kind_of bytes_of (back_right kind_of bytes_of (back_right kind_of bytes_of (back_right kind_of bytes_of (back_right kind_of bytes_of (back_right kind_of bytes_of (back_right kind_of bytes_of (back_right kind_of bytes_of (back_right kind_of bytes_of
        (back_left kind_of bytes_of (back_same kind_of bytes_of refl (law.goto_before kind_of bytes_of x a c)
        (back_token kind_of bytes_of (hears_key kind_of bytes_of KEY_GOTO a) (back_token kind_of bytes_of (hears_any kind_of bytes_of x) (back_token kind_of bytes_of (hears_mark kind_of bytes_of MARK_SEMICOLON c)
        (back_pure kind_of bytes_of (closed (kind.Goto x (a ∷ c ∷ []))))))))))))))))))

    return_rule : (m : ℕ) (x : Option Expr) (a c : ℕ) → IfSome x (IsFormedExpr kind_of m) →
        Back kind_of bytes_of (λ d. lang.return_ below d level (inner d)) (closed (kind.Return x (a ∷ c ∷ []))) (λ k. token a (want.Key KEY_RETURN) (maybe kind_of bytes_of x (token c (want.Mark MARK_SEMICOLON) k)))
    unfolding lang.return_ lang.return_nothing lang.return_value
    return_rule m None a c g = back_token kind_of bytes_of (hears_key kind_of bytes_of KEY_RETURN a) (back_left kind_of bytes_of
        (back_token kind_of bytes_of (hears_mark kind_of bytes_of MARK_SEMICOLON c) (back_pure kind_of bytes_of (closed (kind.Return None (a ∷ c ∷ []))))))
    return_rule m (Some e) a c g = back_token kind_of bytes_of (hears_key kind_of bytes_of KEY_RETURN a) (back_right kind_of bytes_of
        (back_then kind_of bytes_of (expr level m e g) (back_token kind_of bytes_of (hears_mark kind_of bytes_of MARK_SEMICOLON c) (back_pure kind_of bytes_of (closed (kind.Return (Some e) (a ∷ c ∷ [])))))))

    return_back : (m : ℕ) (x : Option Expr) (a c : ℕ) → IfSome x (IsFormedExpr kind_of m) → Turns (kind.Return x (a ∷ c ∷ []))
    unfolding lang.kinded
    return_back m x a c g = turn_of (kind.Return x (a ∷ c ∷ [])) (closed (kind.Return x (a ∷ c ∷ []))) (ap (λ z. record { kind = kind.Return x (a ∷ c ∷ []); dangles = z }) (sym (fold.stmt_kind_return_folds ends_steps x (a ∷ c ∷ []))))
        (back_right kind_of bytes_of (back_right kind_of bytes_of (back_right kind_of bytes_of (back_right kind_of bytes_of (back_right kind_of bytes_of (back_right kind_of bytes_of (back_right kind_of bytes_of (back_right kind_of bytes_of (back_right kind_of bytes_of
        (back_right kind_of bytes_of (back_same kind_of bytes_of refl (law.return_before kind_of bytes_of x a c) (return_rule m x a c g))))))))))))

    -- ---- Statements (6.8)

    kind_at_back : (m : ℕ) → suc m ≤ n → (x : OpenStmtKind) → IsStmtKind kind_of m (IsFormedStmt kind_of m) x → Turns (roll-StmtKind x)
    kind_at_back m h (s.StmtKind-F.Empty marks) g = subst Turns (sym (kind.rolls-Empty marks)) (by_one (λ z. Turns (kind.Empty z)) empty_back marks g)
    kind_at_back m h (s.StmtKind-F.Value e marks) g = subst Turns (sym (kind.rolls-Value e marks)) (by_one (λ z. Turns (kind.Value e z)) (λ c. value_back m e c g.0) marks g.1)
    kind_at_back m h (s.StmtKind-F.Braced b) g = subst Turns (sym (kind.rolls-Braced b)) (braced_turn m h b g)
    kind_at_back m h (s.StmtKind-F.If arms other marks) g = subst Turns (sym (kind.rolls-If arms other marks)) (if_turn (kind.If arms other marks) (if_back m h arms other marks g))
    kind_at_back m h (s.StmtKind-F.While e x marks) g = subst Turns (sym (kind.rolls-While e x marks)) (by_three (λ z. Turns (kind.While e x z)) (λ a l r. while_back m h e x a l r g.0 g.1) marks g.2)
    kind_at_back m h (s.StmtKind-F.DoWhile x e marks) g = subst Turns (sym (kind.rolls-DoWhile x e marks)) (by_five (λ z. Turns (kind.DoWhile x e z)) (λ a w l r c. do_back m h x e a w l r c g.0 g.1) marks g.2)
    kind_at_back m h (s.StmtKind-F.For i c t x marks) g = subst Turns (sym (kind.rolls-For i c t x marks)) (by_four (λ z. Turns (kind.For i c t x z)) (λ a l p r. for_back m h i c t x a l p r g.0 g.1 g.2 g.3) marks g.4)
    kind_at_back m h (s.StmtKind-F.Switch e x marks) g = subst Turns (sym (kind.rolls-Switch e x marks)) (by_three (λ z. Turns (kind.Switch e x z)) (λ a l r. switch_back m h e x a l r g.0 g.1) marks g.2)
    kind_at_back m h (s.StmtKind-F.Break marks) g = subst Turns (sym (kind.rolls-Break marks)) (by_two (λ z. Turns (kind.Break z)) break_back marks g)
    kind_at_back m h (s.StmtKind-F.Continue marks) g = subst Turns (sym (kind.rolls-Continue marks)) (by_two (λ z. Turns (kind.Continue z)) continue_back marks g)
    kind_at_back m h (s.StmtKind-F.Goto x marks) g = subst Turns (sym (kind.rolls-Goto x marks)) (by_two (λ z. Turns (kind.Goto x z)) (goto_back x) marks g)
    kind_at_back m h (s.StmtKind-F.Return x marks) g = subst Turns (sym (kind.rolls-Return x marks)) (by_two (λ z. Turns (kind.Return x z)) (λ a c. return_back m x a c g.0) marks g.1)

    kind_back : (m : ℕ) → suc m ≤ n → (x : StmtKind) → IsStmtKind kind_of m (IsFormedStmt kind_of m) (out-StmtKind x) → Turns x
    kind_back m h x g = subst Turns (roll-out-StmtKind x) (kind_at_back m h (out-StmtKind x) g)

    -- Labels (6.8.1).
    abbrev Labels : Mark → Type 0
    Labels x = (labels : List Mark) → Back kind_of bytes_of (λ d. lang.turn below d level (inner d) labels) (Again (labels ++ x ∷ [])) (λ k. of_label kind_of bytes_of x and k)

    case_back : (m : ℕ) (a : Assign) (b c : ℕ) → IsFormedConstant kind_of bytes_of m a → Labels (mark_.Case (sole a) (b ∷ c ∷ []))
    unfolding lang.turn lang.other_turn lang.keyed_turn lang.case_turn
    case_back m a b c g labels = back_right kind_of bytes_of (back_left kind_of bytes_of (back_left kind_of bytes_of (back_same kind_of bytes_of refl
        (λ k. law.case_before kind_of bytes_of (sole a) b c k ∙ ap (token b (want.Key KEY_CASE)) (law.sole_before kind_of bytes_of a (token c (want.Mark MARK_COLON) k)))
        (back_token kind_of bytes_of (hears_key kind_of bytes_of KEY_CASE b) (back_then kind_of bytes_of (constant level m a g) (back_token kind_of bytes_of (hears_mark kind_of bytes_of MARK_COLON c)
        (back_pure kind_of bytes_of (Again (with_case labels b a c)))))))))

    label_back : (m : ℕ) (x : Mark) → IsLabel kind_of m x → Labels x
    unfolding lang.turn lang.other_turn lang.keyed_turn lang.name_turn lang.default_turn
    label_back m (mark_.Label b marks) g = by_one (λ z. Labels (mark_.Label b z)) (λ c labels. back_left kind_of bytes_of (back_same kind_of bytes_of refl (law.label_before kind_of bytes_of b c)
        (back_token kind_of bytes_of (hears_any kind_of bytes_of b) (back_token kind_of bytes_of (hears_mark kind_of bytes_of MARK_COLON c) (back_pure kind_of bytes_of (Again (with_label labels b c))))))) marks g
    label_back m (mark_.Case e marks) g = by_two (λ z. Labels (mark_.Case e z)) (λ b c.
        subst (λ z. IsConstant kind_of (inner_to kind_of m) z → Labels (mark_.Case z (b ∷ c ∷ []))) (roll-out-Expr e)
        (by_one_part (λ ps ms. IsConstant kind_of (inner_to kind_of m) (roll-Expr (record { parts = ps; marks = ms })) → Labels (mark_.Case (roll-Expr (record { parts = ps; marks = ms })) (b ∷ c ∷ [])))
        (λ a. case_back m a b c) (out-Expr e).parts (out-Expr e).marks g.0.single.one g.0.single.form.commas)
        g.0) marks g.1
    label_back m (mark_.Default b marks) g = by_one (λ z. Labels (mark_.Default b z)) (λ c labels. back_right kind_of bytes_of (back_left kind_of bytes_of (back_right kind_of bytes_of (back_left kind_of bytes_of
        (back_same kind_of bytes_of refl (law.default_before kind_of bytes_of b c)
        (back_token kind_of bytes_of (hears_key kind_of bytes_of KEY_DEFAULT b) (back_token kind_of bytes_of (hears_mark kind_of bytes_of MARK_COLON c) (back_pure kind_of bytes_of (Again (with_default labels b c)))))))))) marks g

    more_labels_back : (m : ℕ) (x : StmtKind) → Turns x → (done labels : List Mark) → Every (IsLabel kind_of m) labels →
        Spins kind_of bytes_of (λ t e. repeat t (lang.turn below e level (inner e)) done) (ended_of (done ++ labels) (kinded_of x)) (λ k. each (of_label kind_of bytes_of) labels (of_kind kind_of bytes_of x and k))
    more_labels_back m x p done [] g = spins_same kind_of bytes_of (ap (λ (z : List Mark). ended_of z (kinded_of x)) (sym (append-nil done))) (λ k. refl) (repeat_done kind_of bytes_of (λ e. lang.turn below e level (inner e)) (p done))
    more_labels_back m x p done (y ∷ labels) g = spins_same kind_of bytes_of (ap (λ (z : List Mark). ended_of z (kinded_of x)) (append_assoc done (y ∷ []) labels)) (λ k. refl)
        (repeat_again kind_of bytes_of (λ e. lang.turn below e level (inner e)) (label_back m y g.0 done) (more_labels_back m x p (done ++ y ∷ []) labels g.1))

    abbrev Stmts : Stmt → Type 0
    Stmts x = Back kind_of bytes_of (λ d. lang.statement below d level (inner d)) (ended_from x) (λ k. of_stmt kind_of bytes_of x and k)

    stmt_back : (m : ℕ) → suc m ≤ n → (x : Stmt) → IsStmt kind_of m (IsFormedStmt kind_of m) x → Stmts x
    unfolding lang.statement
    stmt_back m h x g = back_same kind_of bytes_of (ap (λ z. record { stmt = x; dangles = z }) (sym (ends_is x))) (law.stmt_before kind_of bytes_of x)
        (back_loop kind_of bytes_of (more_labels_back m x.kind (kind_back m h x.kind g.kind) [] x.labels (every_of (IsLabel kind_of m) x.labels g.labels)))

    pub formed_back : (depth : ℕ) → depth ≤ n → (x : Stmt) → IsFormedStmt kind_of depth x → Stmts x
    unfolding IsFormedStmt
    formed_back zero h x g = absurd g
    formed_back (suc m) h x g = stmt_back m h x g

    pub ended_back : (depth : ℕ) → depth ≤ n → (e : Ended) → IsFormedEnded kind_of bytes_of depth e → Back kind_of bytes_of (λ d. lang.statement below d level (inner d)) e (λ k. of_stmt kind_of bytes_of e.stmt and k)
    ended_back depth h e g = back_same kind_of bytes_of (ap (λ z. record { stmt = e.stmt; dangles = z }) (sym g.1)) (λ k. refl) (formed_back depth h e.stmt g.0)

    -- ---- Items of blocks (6.8.2)

    abbrev Items : BlockItem → Type 0
    Items x = Back kind_of bytes_of (λ d. lang.item below d level (inner d)) x (λ k. of_item kind_of bytes_of x and k)

    item_at_back : (depth : ℕ) → depth ≤ n → (x : OpenBlockItem) → IsBlockItem kind_of depth (IsFormedStmt kind_of depth) x → Items (roll-BlockItem x)
    unfolding lang.item lang.statement_item lang.declaration_item
    item_at_back depth h (s.BlockItem-F.Declare x) g = subst Items (sym (item_.rolls-Declare x)) (back_right kind_of bytes_of (back_same kind_of bytes_of refl (law.declare_before kind_of bytes_of x)
        (back_then kind_of bytes_of (declaration level depth x g) (back_pure kind_of bytes_of (item_.Declare x)))))
    item_at_back depth h (s.BlockItem-F.Do x) g = subst Items (sym (item_.rolls-Do x)) (back_left kind_of bytes_of (back_same kind_of bytes_of refl (law.do_before kind_of bytes_of x)
        (back_then kind_of bytes_of (formed_back depth h x g) (back_pure kind_of bytes_of (item_.Do x)))))

    pub item_back : (depth : ℕ) → depth ≤ n → (x : BlockItem) → IsFormedItem kind_of bytes_of depth x → Items x
    item_back depth h x g = subst Items (roll-out-BlockItem x) (item_at_back depth h (out-BlockItem x) g)
