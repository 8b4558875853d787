-- What the words of the rules of statements are: well-formed trees that say their tokens. One term
-- a rule.

use Rattle.std.proofs.Common.{◌≡◌, ◌≢◌, ◌⊎◌, inl, inr, ℕ, zero, suc, ◌+◌, ◌*◌, ◌≤◌, Bool, true, false, List, [], ◌∷◌, ◌++◌, Option, Some, None, map, length, refl, sym, ap, ◌∙◌, subst, append_assoc, append-nil, arith}
use Rattle.std.specs.Prelude.{IsSome, IfSome}
use Rattle.std.specs.Option.{MatchOption}
use Rattle.c_lexer.specs.declared.token.Kind.{Kind}
use Rattle.c_lexer.specs.declared.keyword.TheConstants.{KEY_BREAK, KEY_CASE, KEY_CONTINUE}
use Rattle.c_lexer.specs.declared.keyword.TheConstants.{KEY_DEFAULT, KEY_DO, KEY_ELSE, KEY_FOR}
use Rattle.c_lexer.specs.declared.keyword.TheConstants.{KEY_GOTO, KEY_IF, KEY_RETURN, KEY_SWITCH}
use Rattle.c_lexer.specs.declared.keyword.TheConstants.{KEY_WHILE}
use Rattle.c_lexer.specs.declared.mark.TheConstants.{MARK_LEFT_PAREN, MARK_RIGHT_PAREN}
use Rattle.c_lexer.specs.declared.mark.TheConstants.{MARK_LEFT_BRACE, MARK_RIGHT_BRACE}
use Rattle.c_lexer.specs.declared.mark.TheConstants.{MARK_COLON, MARK_SEMICOLON}
use Rattle.c_scopes.specs.Scopes.{OpenScopes, entered, left}
use Rattle.c_tree.specs.declared.symbol.Want.TheVariants as want
use Rattle.c_tree.specs.declared.tree.Expr.{Expr}
use Rattle.c_tree.specs.declared.tree.Declaration.{Declaration}
use Rattle.c_tree.specs.declared.tree.Block.{Block}
use Rattle.c_tree.specs.declared.tree.BlockItem.{BlockItem, out-roll-BlockItem}
use Rattle.c_tree.specs.declared.tree.BlockItem.TheOpen as s
use Rattle.c_tree.specs.declared.tree.BlockItem.TheVariants as item_
use Rattle.c_tree.specs.declared.tree.Stmt.{Stmt}
use Rattle.c_tree.specs.declared.tree.StmtKind.{StmtKind, roll-StmtKind, out-StmtKind, out-roll-StmtKind, roll-out-StmtKind}
use Rattle.c_tree.specs.declared.tree.StmtKind.TheVariants as kind
use Rattle.c_tree.specs.declared.tree.Mark.{Mark}
use Rattle.c_tree.specs.declared.tree.Mark.TheVariants as mark_
use Rattle.c_tree.specs.declared.tree.ForInit.{ForInit}
use Rattle.c_tree.specs.declared.tree.ForInit.TheVariants as init_
use Rattle.c_tree.specs.Folds.{StmtSteps, OpenStmtKind, stmt_fold, stmt_kind_fold}
use Rattle.c_tree.specs.Forms.{sole}
use Rattle.c_tree.specs.Depths.{IsFormedExpr, IsFormedDeclaration}
use Rattle.c_tree.specs.Statements.{ends_in_if, ends_in_if_level, IsIf, IsIfKind, IsLabel, IsForInit, IsBlockItem, IsIfStatement, IsStmtKind, IsFormedStmt, IsFormedBlock}
use Rattle.c_tree.specs.Spell.{joined, stmt_spelling, stmt_kind_spelling, label_spelling}
use Rattle.c_tree.proofs.Folds as fold
use Rattle.c_tree.proofs.Spellings as spell
use Rattle.reading.specs.declared.turn.Turn.{Turn}
use Rattle.reading.specs.declared.turn.Turn.TheVariants.{Again, Done}
use Rattle.reading.specs.Languages.{Leveled, tokens_of}
use Rattle.reading.specs.Rules.{◌>>=◌, pure, changes}
use Rattle.reading.specs.Terminals.{has}
use Rattle.reading.proofs.Sets.{never}
use Rattle.reading.specs.Readers.{begins}
use Rattle.c_reading.specs.Kept.{KeptToken}
use Rattle.c_syntax.specs.Scoping.{Part, terminal_of}
use Rattle.c_stmt.specs.declared.forms.Kinded.{Kinded}
use Rattle.c_stmt.specs.declared.forms.Ended.{Ended}
use Rattle.c_stmt.specs.declared.forms.BlockItems.{BlockItems}
use Rattle.c_stmt.specs.declared.forms.Arm.{Arm}
use Rattle.c_stmt.specs.declared.forms.Arms.{Arms}
use Rattle.c_stmt.specs.declared.forms.MaybeExpr.{MaybeExpr}
use Rattle.c_stmt.specs.Choices.{without}
use Rattle.c_stmt.specs.StatementSets.{a_left_brace, an_if}
use Rattle.c_stmt.specs.StatementForms.{closed, ended_of, stmt_of, with_label, with_case, with_default, no_items, with_item, block_of, arm_of, first_arms, with_arm, arms_to, without_else, with_else, switch_of, while_of, do_of, maybe_expr, for_head, for_of}
use Rattle.c_stmt.specs.Below.{Below, Inside}
use Rattle.c_stmt.specs.StatementRules as lang
use Rattle.c_stmt.specs.StatementRules.{entering, in_scope}
use Rattle.expression_trees.specs.Saying.{Said, ◌and◌, token, AreKnown, FitTokens, AreSaid, AreTrees}
use Rattle.expression_trees.specs.Trees.{of_expr, of_assign}
use Rattle.expression_trees.proofs.FormsSay.{each, each_snoc}
use Rattle.expression_trees.proofs.Lists.{Every, all_of, every_snoc}
use Rattle.expression_trees.proofs.Front.{Open, Before, Adds, known_cut, adds_pure, adds_then, adds_or, adds_token, adds_part, adds_looser, adds_same, adds_to, adds_repeat, by_turn}
use Rattle.expression_trees.proofs.Meaning.{adds_of_trees, trees_of_adds}
use Rattle.expression_trees.proofs.FrontRules.{Made}
use Rattle.expression_trees.proofs.Tokens.{says_mark, says_key, says_any, hears_key}
use Rattle.statement_trees.specs.Trees.{stmt_steps_of, of_declaration, of_stmt, of_kind, of_body, of_block, of_item, of_label, of_for_init}
use Rattle.statement_trees.specs.Forms.{IsFrom, twice, IsFormedConstant, IsFormedItem, IsFormedEnded}
use Rattle.statement_trees.proofs.FormsSay as law
use Rattle.statement_trees.proofs.FormsSay.{opens, closes, maybe}
use Rattle.statement_trees.specs.Innermost.{IsFree}
use Rattle.statement_trees.proofs.Scoped.{IsShut, wrapped}
use Rattle.statement_trees.proofs.Chains.{Branch, Steps, Tail, arm_in, arms_done, marks_done, tail_stmt, arms_in, marks_in, if_tree, arm_said, steps_said, tail_said, arms_snoc, marks_snoc, steps_snoc, by_chain, if_begins, IsFreeBranch, IsFreeTail, nested_if}

-- ---- Which statements end in an `if`

abbrev pub ends_steps : StmtSteps Bool
ends_steps = record {
  block_item = λ level. false;
  stmt_kind = ends_in_if_level;
  block = λ level. false;
  stmt = λ level. level.kind;
}

abbrev pub ends_kind : StmtKind → Bool
ends_kind = stmt_kind_fold ends_steps

pub ends_is : (x : Stmt) → ends_in_if x ≡ ends_kind x.kind
unfolding ends_in_if
ends_is x = fold.stmt_folds ends_steps x

pub twice_least : (n : ℕ) → n ≤ twice n
twice_least zero = omega arith
twice_least (suc n) = omega (arith, twice_least n)

pub from_next : (P : ℕ → Type 0) (n : ℕ) → ((m : ℕ) → n ≤ m → P (suc m)) → (depth : ℕ) → suc n ≤ depth → P depth
from_next P n p zero h = absurd (omega arith)
from_next P n p (suc m) h = p m (omega arith)

pub ends_stmt : (x : Stmt) → ends_in_if x ≡ stmt_fold ends_steps x
unfolding ends_in_if
ends_stmt x = refl

-- ---- What is asked of an `if`

-- Each is closed, and so is the last where an `else` stands behind it.
pub arms_closed : (ss : Steps) (last : Branch) (other : Option Stmt) → Every (λ (x : Branch × ℕ). ends_in_if x.0.body ≡ false) ss → (IsSome other → ends_in_if last.body ≡ false) →
    (before after : List (Expr × Stmt)) (condition : Expr) (body : Stmt) → arms_in ss last ≡ before ++ (condition, body) ∷ after → (after ≢ []) ⊎ IsSome other → ends_in_if body ≡ false
arms_closed [] last other g h [] [] c b e (inl i) = absurd (i refl)
arms_closed [] last other g h [] [] c b e (inr i) = subst (λ z. ends_in_if z ≡ false) (let f : arm_in last ≡ (c, b) = cc in ap (λ (z : Expr × Stmt). z.1) f) (h i)
arms_closed [] last other g h [] (a ∷ after) c b e i = absurd (let f : [] ≡ a ∷ after = cc in cc)
arms_closed [] last other g h (x ∷ []) after c b e i = absurd (let f : [] ≡ (c, b) ∷ after = cc in cc)
arms_closed [] last other g h (x ∷ y ∷ before) after c b e i = absurd (let f : [] ≡ y ∷ (before ++ (c, b) ∷ after) = cc in cc)
arms_closed (s ∷ ss) last other g h [] after c b e i = subst (λ z. ends_in_if z ≡ false) (let f : arm_in s.0 ≡ (c, b) = cc in ap (λ (z : Expr × Stmt). z.1) f) g.0
arms_closed (s ∷ ss) last other g h (x ∷ before) after c b e i = arms_closed ss last other g.1 h before after c b (let f : arms_in ss last ≡ before ++ (c, b) ∷ after = cc in f) i

pub arms_some : (ss : Steps) (last : Branch) → arms_in ss last ≢ []
arms_some [] last e = absurd (let f : arm_in last ∷ [] ≡ [] = e in cc)
arms_some (s ∷ ss) last e = absurd (let f : arm_in s.0 ∷ arms_in ss last ≡ [] = e in cc)

marks_none : (ss : Steps) (last : Branch) → 1 + length (marks_in ss last None) ≡ 4 * length (arms_in ss last)
marks_none [] last = refl
marks_none (s ∷ ss) last = omega (arith, marks_none ss last)

marks_some : (ss : Steps) (last : Branch) (t : ℕ × Stmt) → length (marks_in ss last (Some t)) ≡ 4 * length (arms_in ss last)
marks_some [] last t = refl
marks_some (s ∷ ss) last t = omega (arith, marks_some ss last t)

pub marks_fixed : (ss : Steps) (last : Branch) (tail : Tail) →
    MatchOption (tail_stmt tail) (1 + length (marks_in ss last tail) ≡ 4 * length (arms_in ss last)) (λ stmt. length (marks_in ss last tail) ≡ 4 * length (arms_in ss last))
marks_fixed ss last None = marks_none ss last
marks_fixed ss last (Some t) = marks_some ss last t

pub every_arm : (P : Expr × Stmt → Type 0) (ss : Steps) (last : Branch) → Every (λ (x : Branch × ℕ). P (arm_in x.0)) ss → P (arm_in last) → Every P (arms_in ss last)
every_arm P [] last g h = (h, tt)
every_arm P (s ∷ ss) last g h = (g.0, every_arm P ss last g.1 h)

pub every_of_each : {A : Type 0} (P Q : A → Type 0) → ((a : A) → P a → Q a) → (xs : List A) → Every P xs → Every Q xs
every_of_each P Q f [] g = tt
every_of_each P Q f (x ∷ xs) g = (f x g.0, every_of_each P Q f xs g.1)

module _ {A : Type 0} (P : ℕ → A → Type 0) (first depth : ℕ) (h : first ≤ depth) where
  pub every_at : (xs : List A) → Every (IsFrom first P) xs → Every (P depth) xs
  every_at [] g = tt
  every_at (x ∷ xs) g = (g.0 depth h, every_at xs g.1)

module _ (kind_of : ℕ → Option Kind) (bytes_of : ℕ → List ℕ) where
  -- ---- Scopes

  adds_enter : {before : Open} → Adds kind_of bytes_of entering before (λ a f. (k : Said) → f k ≡ before (opens k))
  adds_enter {before = before} = record {
    adds = λ u start scopes w end kn pre x.
        let here : Before kind_of bytes_of (λ k. before (opens k)) u start (entered scopes) = λ k v e f. pre (opens k) v e (f.0, (tt, f.1)) in (
          (λ k. before (opens k)),
          subst (λ z. Before kind_of bytes_of (λ k. before (opens k)) (u ++ tokens_of z) start end.1) (sym x.none)
              (subst (λ z. Before kind_of bytes_of (λ k. before (opens k)) z start end.1) (sym (append-nil u))
              (subst (Before kind_of bytes_of (λ k. before (opens k)) u start) (sym (ap (λ (e : _). e.1) x.same)) here)),
          λ k. refl,
        );
  }

  adds_leave : {A : Type 0} {before : Open} {good : A → Open → Type 0} (a : A) → good a (λ k. before (closes k)) → Adds kind_of bytes_of (changes left a) before good
  adds_leave {before = before} {good = good} a g = record {
    adds = λ u start scopes w end kn pre x.
        let here : Before kind_of bytes_of (λ k. before (closes k)) u start (left scopes) = λ k v e f. pre (closes k) v e (f.0, (tt, f.1)) in (
          (λ k. before (closes k)),
          subst (λ z. Before kind_of bytes_of (λ k. before (closes k)) (u ++ tokens_of z) start end.1) (sym x.none)
              (subst (λ z. Before kind_of bytes_of (λ k. before (closes k)) z start end.1) (sym (append-nil u))
              (subst (Before kind_of bytes_of (λ k. before (closes k)) u start) (sym (ap (λ (e : _). e.1) x.same)) here)),
          subst (λ b. good b (λ k. before (closes k))) (sym (ap (λ (e : _). e.0) x.same)) g,
        );
  }

  -- A part in a scope of its own.
  pub adds_scope : {A : Type 0} {X : Part A} {before : Open} {fine good : A → Open → Type 0} → Adds kind_of bytes_of X (λ k. before (opens k)) fine →
      ((a : A) (f : Open) → fine a f → good a (λ k. f (closes k))) → Adds kind_of bytes_of (in_scope X) before good
  adds_scope p h = adds_then kind_of bytes_of adds_enter (λ a f same. adds_same kind_of bytes_of same (adds_then kind_of bytes_of p (λ b g r. adds_leave b (h b g r))))

  -- Behind what was said.
  adds_under : {A : Type 0} {X : Part A} {before : Open} {fine : A → Open → Type 0} → Adds kind_of bytes_of X (λ k. k) fine →
      Adds kind_of bytes_of X before (λ a f. (g : Open) × fine a g × ((k : Said) → f k ≡ before (g k)))
  adds_under {before = before} p = record {
    adds = λ u start scopes w end kn pre x.
        let l = p.adds [] scopes scopes w end kn (λ k v e f. f) x in (
          (λ k. before (l.0 k)),
          (λ k v e f. subst (λ (z : List KeptToken). AreSaid kind_of bytes_of (before (l.0 k)) z start e) (sym (append_assoc u (tokens_of w) v)) (pre (l.0 k) (tokens_of w ++ v) e (l.1 k v e f))),
          (l.0, l.2, λ k. refl),
        );
  }

  -- Words that do not begin so.
  adds_without : {A : Type 0} {X : Part A} {before : Open} {good : A → Open → Type 0} (set : List ℕ) → Adds kind_of bytes_of X before good → Adds kind_of bytes_of (without terminal_of set X) before good
  adds_without set p = record { adds = λ u start scopes w end kn pre x. p.adds u start scopes w end kn pre x.0 }

  -- What is said does not begin with a token of the set.
  abbrev pub NotFirst : List ℕ → Said → Type 0
  NotFirst set said = (scopes : OpenScopes) × (ts : List KeptToken) × FitTokens kind_of bytes_of said.symbols ts × (begins (λ t. has set (terminal_of scopes t)) ts ≡ false)

  adds_not : {A B : Type 0} {X : Part A} {before : Open} {right : A → Type 0} (said : A → Said) (set : List ℕ) (g : A → B) → AreTrees kind_of bytes_of X right said →
      Adds kind_of bytes_of (without terminal_of set (X >>= (λ a. pure (g a)))) before
      (λ b f. (a : A) × (b ≡ g a) × right a × ((k : Said) → f k ≡ before (said a and k)) × NotFirst set (said a))
  adds_not {X = X} {before = before} {right = right} said set g h = record {
    adds = λ u start scopes w end kn pre x.
        let y = x.0 in
        let k = known_cut kind_of bytes_of y.front y.back (subst (AreKnown kind_of bytes_of) y.split kn) in
        let t = h scopes y.value.1 y.front y.value.0 k.0 y.begin in
        let same : w ≡ y.front = y.split ∙ (ap (λ (z : List (Leveled KeptToken)). y.front ++ z) y.rest.none ∙ append-nil y.front) in
        let p = (adds_under {before = before} (adds_of_trees kind_of bytes_of X right said h)).adds u start scopes y.front y.value k.0 pre y.begin in (
          p.0,
          subst (λ (z : List (Leveled KeptToken)). Before kind_of bytes_of p.0 (u ++ tokens_of z) start end.1) (sym same)
              (subst (Before kind_of bytes_of p.0 (u ++ tokens_of y.front) start) (sym (ap (λ (e : _). e.1) y.rest.same)) p.1),
          (
            y.value.0,
            ap (λ (e : _). e.0) y.rest.same,
            t.0,
            (λ k. p.2.2 k ∙ ap before (sym (p.2.1.1 k))),
            (scopes, tokens_of y.front, t.1.0, subst (λ (z : List (Leveled KeptToken)). begins (λ t. has set (terminal_of scopes t)) (tokens_of z) ≡ false) same x.1),
          ),
        );
  }

  -- ---- Parts of statements

  module _ (free_expr : (depth : ℕ) (e : Expr) → IsFormedExpr kind_of depth e → IsFree (of_expr kind_of bytes_of e).events)
      (free_stmt : (depth : ℕ) (s : Stmt) → IsFormedStmt kind_of depth s → IsFree (of_stmt kind_of bytes_of s).events)
      (shut_block : (depth : ℕ) (b : Block) → IsFormedBlock kind_of depth b → IsShut (of_block kind_of bytes_of b).events) (below : Below) (d level : ℕ) (inner : Inside)
      (expr : (at : ℕ) → Adds kind_of bytes_of (below.expr d at) (λ k. k) (Made kind_of bytes_of (of_expr kind_of bytes_of) (IsFrom d (IsFormedExpr kind_of))))
      (constant : (at : ℕ) → Adds kind_of bytes_of (below.constant d at) (λ k. k) (Made kind_of bytes_of (of_assign kind_of bytes_of) (IsFrom d (IsFormedConstant kind_of bytes_of))))
      (declaration : (at : ℕ) → Adds kind_of bytes_of (below.declaration d at) (λ k. k) (Made kind_of bytes_of (of_declaration kind_of bytes_of) (IsFrom d (IsFormedDeclaration kind_of))))
      (item : Adds kind_of bytes_of (inner.item) (λ k. k) (Made kind_of bytes_of (of_item kind_of bytes_of) (IsFrom (twice d) (IsFormedItem kind_of bytes_of))))
      (statement : Adds kind_of bytes_of (inner.statement) (λ k. k) (Made kind_of bytes_of (λ (e : Ended). of_stmt kind_of bytes_of e.stmt) (IsFrom (twice d) (IsFormedEnded kind_of bytes_of)))) where
    -- ---- Statements without labels

    abbrev IsKind : ℕ → StmtKind → Type 0
    IsKind depth x = IsStmtKind kind_of depth (IsFormedStmt kind_of depth) (out-StmtKind x)

    abbrev IsKinded : Kinded → Type 0
    IsKinded x = IsFrom (suc (twice d)) IsKind x.kind × (x.dangles ≡ ends_kind x.kind)

    abbrev KindIs : Kinded → Open → Type 0
    KindIs = Made kind_of bytes_of (λ (x : Kinded). of_kind kind_of bytes_of x.kind) IsKinded

    kind_right : (x : OpenStmtKind) (p : StmtKind) → roll-StmtKind x ≡ p → ((depth : ℕ) → suc (twice d) ≤ depth → IsStmtKind kind_of depth (IsFormedStmt kind_of depth) x) → IsFrom (suc (twice d)) IsKind p
    kind_right x p e g = λ depth h. subst (IsKind depth) e (subst (IsStmtKind kind_of depth (IsFormedStmt kind_of depth)) (sym (out-roll-StmtKind x)) (g depth h))

    -- A depth at which what is made of this many turns has its form.
    deep : (depth : ℕ) → suc (twice d) ≤ depth → d ≤ depth
    deep depth h = omega (arith, twice_least d, h)

    adds_empty : Adds kind_of bytes_of (lang.empty below d level inner) (λ k. k) KindIs
    unfolding lang.empty
    adds_empty = adds_token kind_of bytes_of (says_mark kind_of bytes_of MARK_SEMICOLON) (λ m h. adds_pure kind_of bytes_of (closed (kind.Empty (m ∷ []))) (
      (kind_right (s.StmtKind-F.Empty (m ∷ [])) _ (kind.rolls-Empty (m ∷ [])) (λ depth i. refl), sym (fold.stmt_kind_empty_folds ends_steps (m ∷ []))),
      law.empty_before kind_of bytes_of m,
    ))

    adds_value : Adds kind_of bytes_of (lang.value below d level inner) (λ k. k) KindIs
    unfolding lang.value
    adds_value = adds_part kind_of bytes_of (expr level) (λ e f made. adds_token kind_of bytes_of (says_mark kind_of bytes_of MARK_SEMICOLON) (λ m h. adds_pure kind_of bytes_of (closed (kind.Value e (m ∷ []))) (
      (kind_right (s.StmtKind-F.Value e (m ∷ [])) _ (kind.rolls-Value e (m ∷ [])) (λ depth i. (made.0 depth (deep depth i), refl)), sym (fold.stmt_kind_value_folds ends_steps e (m ∷ []))),
      λ k. law.value_before kind_of bytes_of e m k ∙ made.1 (token m (want.Mark MARK_SEMICOLON) k),
    )))

    -- ---- Blocks (6.8.2)

    abbrev ItemsAre : ℕ → BlockItems → Open → Type 0
    ItemsAre l x f = (x.marks ≡ l ∷ []) × Every (IsFrom (twice d) (IsFormedItem kind_of bytes_of)) x.list ×
        ((k : Said) → f k ≡ token l (want.Mark MARK_LEFT_BRACE) (opens (each (of_item kind_of bytes_of) x.list k)))

    abbrev IsBlockFrom : Block → Type 0
    IsBlockFrom = IsFrom (twice d) (IsFormedBlock kind_of)

    -- Before its scope ends.
    abbrev BlockInside : Block → Open → Type 0
    BlockInside b f = IsBlockFrom b × ((k : Said) → of_block kind_of bytes_of b and k ≡ f (closes k))

    block_right : (x : BlockItems) (l r : ℕ) (f : Open) → ItemsAre l x f → BlockInside (block_of x r) (λ k. f (token r (want.Mark MARK_RIGHT_BRACE) k))
    block_right x l r f g =
        let same : block_of x r ≡ record { items = x.list; marks = l ∷ r ∷ [] } = ap (λ (z : List ℕ). record { items = x.list; marks = z ++ r ∷ [] }) g.0 in (
          (λ depth h. record {
            items = all_of (IsFormedItem kind_of bytes_of depth) x.list (every_at (IsFormedItem kind_of bytes_of) (twice d) depth h x.list g.1);
            marks = ap (λ (z : Block). length z.marks) same;
          }),
          λ k. ap (λ (z : Block). of_block kind_of bytes_of z and k) same ∙ (law.block_before kind_of bytes_of x.list l r k ∙ sym (g.2 (token r (want.Mark MARK_RIGHT_BRACE) (closes k)))),
        )

    adds_items : (l : ℕ) → Adds kind_of bytes_of (lang.all_items below d level inner (no_items l)) (λ k. token l (want.Mark MARK_LEFT_BRACE) (opens k)) BlockInside
    unfolding lang.all_items lang.item_turn lang.last_item lang.next_item
    adds_items l = adds_repeat kind_of bytes_of d {fine = ItemsAre l}
        (λ x f r. adds_or kind_of bytes_of
        (adds_token kind_of bytes_of (says_mark kind_of bytes_of MARK_RIGHT_BRACE) (λ n h. adds_pure kind_of bytes_of (Done (block_of x n)) (block_right x l n f r)))
        (adds_part kind_of bytes_of item (λ y g m. adds_pure kind_of bytes_of (Again (with_item x y)) (
          r.0,
          every_snoc (IsFrom (twice d) (IsFormedItem kind_of bytes_of)) x.list y r.1 m.0,
          λ k. r.2 (g k) ∙ ap (λ (z : Said). token l (want.Mark MARK_LEFT_BRACE) (opens z)) (ap (each (of_item kind_of bytes_of) x.list) (sym (m.1 k)) ∙ sym (each_snoc (of_item kind_of bytes_of) x.list y k)),
        ))))
        (no_items l) (refl, tt, λ k. refl)

    pub adds_block : Adds kind_of bytes_of (lang.block below d level inner) (λ k. k) (Made kind_of bytes_of (of_block kind_of bytes_of) IsBlockFrom)
    unfolding lang.block
    adds_block = adds_token kind_of bytes_of (says_mark kind_of bytes_of MARK_LEFT_BRACE) (λ l h. adds_scope (adds_items l) (λ b f g. g))

    -- A block as a statement.
    abbrev BracedIs : Kinded → Open → Type 0
    BracedIs x f = (b : Block) × (x ≡ closed (kind.Braced b)) × IsBlockFrom b × ((k : Said) → of_kind kind_of bytes_of (kind.Braced b) and k ≡ f k)

    adds_braced_so : Adds kind_of bytes_of (lang.braced below d level inner) (λ k. k) BracedIs
    unfolding lang.braced
    adds_braced_so = adds_then kind_of bytes_of adds_block (λ b f m. adds_pure kind_of bytes_of (closed (kind.Braced b)) (b, refl, m.0, λ k. law.braced_before kind_of bytes_of b k ∙ m.1 k))

    adds_braced : Adds kind_of bytes_of (lang.braced below d level inner) (λ k. k) KindIs
    adds_braced = adds_to kind_of bytes_of (λ x f r. (
      (
        subst (λ (z : Kinded). IsFrom (suc (twice d)) IsKind z.kind) (sym r.1) (kind_right (s.StmtKind-F.Braced r.0) _ (kind.rolls-Braced r.0) (λ depth i. r.2 depth (omega (arith, i)))),
        subst (λ (z : Kinded). z.dangles ≡ ends_kind z.kind) (sym r.1) (sym (fold.stmt_kind_braced_folds ends_steps r.0)),
      ),
      λ k. ap (λ (z : Kinded). of_kind kind_of bytes_of z.kind and k) r.1 ∙ r.3 k,
    )) adds_braced_so

    -- ---- Bodies of statements (6.8.4p3, 6.8.5p5)

    abbrev IsBodyFrom : Ended → Type 0
    IsBodyFrom = IsFrom (suc (twice d)) (IsFormedEnded kind_of bytes_of)

    abbrev BodyIs : Ended → Open → Type 0
    BodyIs = Made kind_of bytes_of (λ (e : Ended). of_body kind_of bytes_of e.stmt) IsBodyFrom

    stmt_right : (labels : List Mark) (x : StmtKind) (depth : ℕ) → Every (IsLabel kind_of depth) labels → IsKind depth x → IsFormedStmt kind_of (suc depth) (stmt_of labels x)
    unfolding IsFormedStmt
    stmt_right labels x depth g h = record { labels = all_of (IsLabel kind_of depth) labels g; kind = h }

    block_body_right : (b : Block) → IsBlockFrom b → IsBodyFrom (ended_of [] (closed (kind.Braced b)))
    block_body_right b g = from_next (λ depth. IsFormedEnded kind_of bytes_of depth (ended_of [] (closed (kind.Braced b)))) (twice d) (λ m h. (
      stmt_right [] (kind.Braced b) m tt (subst (IsKind m) (kind.rolls-Braced b) (subst (IsStmtKind kind_of m (IsFormedStmt kind_of m)) (sym (out-roll-StmtKind (s.StmtKind-F.Braced b))) (g m h))),
      sym (ends_is (stmt_of [] (kind.Braced b)) ∙ fold.stmt_kind_braced_folds ends_steps b),
    ))

    block_stmt_met : (b : Block) → (of_stmt kind_of bytes_of (stmt_of [] (kind.Braced b))).events ≡ (of_block kind_of bytes_of b).events
    block_stmt_met b = fold.stmt_folds (stmt_steps_of kind_of bytes_of) (stmt_of [] (kind.Braced b)) ∙ fold.stmt_kind_braced_folds (stmt_steps_of kind_of bytes_of) b

    -- Its scope is that of the body too.
    block_body_says : (b : Block) → IsBlockFrom b → (k : Said) (ts : List KeptToken) (scopes end : OpenScopes) → AreSaid kind_of bytes_of (of_stmt kind_of bytes_of (stmt_of [] (kind.Braced b)) and k) ts scopes end →
        AreSaid kind_of bytes_of (of_body kind_of bytes_of (stmt_of [] (kind.Braced b)) and k) ts scopes end
    block_body_says b g k ts scopes end f =
        let shut = subst IsShut (sym (block_stmt_met b)) (shut_block (twice d) b (g (twice d) (omega arith))) in
        (f.0, wrapped (of_stmt kind_of bytes_of (stmt_of [] (kind.Braced b))).events shut k.events scopes end f.1)

    adds_braced_body : Adds kind_of bytes_of (lang.braced_body below d level inner) (λ k. k) BodyIs
    unfolding lang.braced_body
    adds_braced_body = adds_looser kind_of bytes_of {fine = λ e f. (b : Block) × (e ≡ ended_of [] (closed (kind.Braced b))) × IsBlockFrom b × ((k : Said) → of_kind kind_of bytes_of (kind.Braced b) and k ≡ f k)}
        (λ e f r. (
          (λ k. of_body kind_of bytes_of e.stmt and k),
          (λ k ts scopes end m.
              subst (λ (z : Ended). AreSaid kind_of bytes_of (of_body kind_of bytes_of z.stmt and k) ts scopes end) (sym r.1) (block_body_says r.0 r.2 k ts scopes end
              (subst (λ (z : Said). AreSaid kind_of bytes_of z ts scopes end) (sym (law.stmt_before kind_of bytes_of (stmt_of [] (kind.Braced r.0)) k ∙ r.3 k)) m))),
          (subst IsBodyFrom (sym r.1) (block_body_right r.0 r.2), λ k. refl),
        ))
        (adds_then kind_of bytes_of adds_braced_so (λ x f r. adds_pure kind_of bytes_of (ended_of [] x) (r.0, ap (ended_of []) r.1, r.2, r.3)))

    adds_unbraced : Adds kind_of bytes_of (lang.unbraced below d level inner) (λ k. k) BodyIs
    unfolding lang.unbraced
    adds_unbraced = adds_scope (adds_under statement) (λ e f r. (
      (λ depth h. r.1.0 depth (omega (arith, h))),
      λ k. law.body_before kind_of bytes_of e.stmt k ∙ (ap opens (r.1.1 (closes k)) ∙ sym (r.2 (closes k))),
    ))

    adds_body : Adds kind_of bytes_of (lang.body below d level inner) (λ k. k) BodyIs
    unfolding lang.body
    adds_body = adds_or kind_of bytes_of adds_braced_body (adds_without a_left_brace adds_unbraced)

    body_trees : AreTrees kind_of bytes_of (lang.body below d level inner) IsBodyFrom (λ (e : Ended). of_body kind_of bytes_of e.stmt)
    body_trees = trees_of_adds kind_of bytes_of (λ (e : Ended). of_body kind_of bytes_of e.stmt) adds_body

    -- ---- A condition in parentheses, and its body

    abbrev ArmIs : Arm → Open → Type 0
    ArmIs x f = IsFrom d (IsFormedExpr kind_of) x.cond × IsBodyFrom x.body ×
        ((k : Said) → f k ≡ token x.left (want.Mark MARK_LEFT_PAREN) (of_expr kind_of bytes_of x.cond and token x.right (want.Mark MARK_RIGHT_PAREN) (of_body kind_of bytes_of x.body.stmt and k)))

    adds_arm : Adds kind_of bytes_of (lang.arm below d level inner) (λ k. k) ArmIs
    unfolding lang.arm
    adds_arm = adds_token kind_of bytes_of (says_mark kind_of bytes_of MARK_LEFT_PAREN) (λ l h. adds_part kind_of bytes_of (expr (suc level)) (λ e f m.
        adds_token kind_of bytes_of (says_mark kind_of bytes_of MARK_RIGHT_PAREN) (λ r i. adds_part kind_of bytes_of adds_body (λ b g n. adds_pure kind_of bytes_of (arm_of e b l r) (
          m.0,
          n.0,
          λ k. ap (token l (want.Mark MARK_LEFT_PAREN)) (sym (m.1 (token r (want.Mark MARK_RIGHT_PAREN) (g k))) ∙ ap (λ (z : Said). of_expr kind_of bytes_of e and token r (want.Mark MARK_RIGHT_PAREN) z) (sym (n.1 k))),
        )))))

    body_ends : (e : Ended) → IsBodyFrom e → e.dangles ≡ ends_in_if e.stmt
    body_ends e g = (g (suc (twice d)) (omega arith)).1

    body_formed : (e : Ended) → IsBodyFrom e → IsFrom (suc (twice d)) (IsFormedStmt kind_of) e.stmt
    body_formed e g = λ depth h. (g depth h).0

    -- ---- `if` (6.8.4.1)

    abbrev IsBranch : Branch → Type 0
    IsBranch b = IsFrom d (IsFormedExpr kind_of) b.cond × IsFrom (suc (twice d)) (IsFormedStmt kind_of) b.body

    -- With an `else` behind it.
    abbrev IsStep : Branch × ℕ → Type 0
    IsStep x = IsBranch x.0 × (ends_in_if x.0.body ≡ false)

    -- Up to the next `if`.
    abbrev ArmsAre : Arms → Open → Type 0
    ArmsAre x f = (ss : Steps) × (key : ℕ) × (x.list ≡ arms_done ss) × (x.marks ≡ marks_done ss ++ key ∷ []) × Every IsStep ss ×
        ((k : Said) → f k ≡ opens (steps_said kind_of bytes_of ss (token key (want.Key KEY_IF) k)))

    abbrev IsTail : Branch → Tail → Type 0
    IsTail last None = Prim.Unit {0}
    IsTail last (Some t) = (ends_in_if last.body ≡ false) × IsFrom (suc (twice d)) (IsFormedStmt kind_of) t.1 × (IsIf t.1 → ⊥)

    -- Before its scope ends.
    abbrev IfInside : Kinded → Open → Type 0
    IfInside x f = (ss : Steps) × (last : Branch) × (tail : Tail) × (x.kind ≡ if_tree ss last tail) × (x.dangles ≡ ends_kind x.kind) × Every IsStep ss × IsBranch last × IsTail last tail ×
        ((k : Said) → f k ≡ opens (steps_said kind_of bytes_of ss (arm_said kind_of bytes_of last (tail_said kind_of bytes_of tail k))))

    if_statement : (ss : Steps) (last : Branch) (tail : Tail) → Every IsStep ss → IsBranch last → IsTail last tail → (depth : ℕ) → suc (twice d) ≤ depth →
        IsIfStatement kind_of depth (IsFormedStmt kind_of depth) (arms_in ss last) (tail_stmt tail) (marks_in ss last tail)
    if_statement ss last tail g b t depth h = record {
      some = arms_some ss last;
      conditions = all_of (λ (arm : Expr × Stmt). IsFormedExpr kind_of depth arm.0) (arms_in ss last)
          (every_arm (λ (arm : Expr × Stmt). IsFormedExpr kind_of depth arm.0) ss last (every_of_each IsStep (λ (x : Branch × ℕ). IsFormedExpr kind_of depth x.0.cond) (λ x i. i.0.0 depth (deep depth h)) ss g) (b.0 depth (deep depth h)));
      bodies = all_of (λ (arm : Expr × Stmt). IsFormedStmt kind_of depth arm.1) (arms_in ss last)
          (every_arm (λ (arm : Expr × Stmt). IsFormedStmt kind_of depth arm.1) ss last (every_of_each IsStep (λ (x : Branch × ℕ). IsFormedStmt kind_of depth x.0.body) (λ x i. i.0.1 depth h) ss g) (b.1 depth h));
      otherwise = other_is tail t;
      fixed = marks_fixed ss last tail;
      closed = arms_closed ss last (tail_stmt tail) (every_of_each IsStep (λ (x : Branch × ℕ). ends_in_if x.0.body ≡ false) (λ x i. i.1) ss g) (last_is tail t);
    }
      where
        other_is : (tail : Tail) → IsTail last tail → IfSome (tail_stmt tail) (λ stmt. IsFormedStmt kind_of depth stmt × ¬ IsIf stmt)
        other_is None t = tt
        other_is (Some x) t = (t.1 depth h, t.2)

        last_is : (tail : Tail) → IsTail last tail → IsSome (tail_stmt tail) → ends_in_if last.body ≡ false
        last_is None t i = never i
        last_is (Some x) t i = t.0

    free_branch : (b : Branch) → IsBranch b → IsFreeBranch kind_of bytes_of b
    free_branch b g = (free_expr d b.cond (g.0 d (omega arith)), free_stmt (suc (twice d)) b.body (g.1 (suc (twice d)) (omega arith)))

    free_tail : (last : Branch) (tail : Tail) → IsTail last tail → IsFreeTail kind_of bytes_of tail
    free_tail last None g = tt
    free_tail last (Some t) g = free_stmt (suc (twice d)) t.1 (g.1 (suc (twice d)) (omega arith))

    abbrev branch_of : Arm → ℕ → Branch
    branch_of x key = record { cond = x.cond; body = x.body.stmt; key = key; left = x.left; right = x.right }

    -- With one arm more, behind which nothing stands.
    ended_without : (arms : Arms) (x : Arm) (f g : Open) → ArmsAre arms f → ArmIs x g → IfInside (without_else (with_arm arms x)) (λ k. f (g k))
    ended_without arms x f g r a =
        let last = branch_of x r.1 in
        let marks : arms.marks ++ x.left ∷ x.right ∷ [] ≡ marks_in r.0 last None = ap (λ (z : List ℕ). z ++ x.left ∷ x.right ∷ []) r.3 ∙ append_assoc (marks_done r.0) (r.1 ∷ []) (x.left ∷ x.right ∷ []) in (
          r.0,
          last,
          None,
          ap (λ (z : List (Expr × Stmt)). kind.If (z ++ arm_in last ∷ []) None (arms.marks ++ x.left ∷ x.right ∷ [])) r.2 ∙ ap (λ (z : List ℕ). kind.If (arms_in r.0 last) None z) marks,
          sym (fold.stmt_kind_if_folds ends_steps (arms.list ++ arm_in last ∷ []) None (arms.marks ++ x.left ∷ x.right ∷ [])),
          r.4,
          (a.0, body_formed x.body a.1),
          tt,
          λ k. r.5 (g k) ∙ ap (λ (z : Said). opens (steps_said kind_of bytes_of r.0 (token r.1 (want.Key KEY_IF) z))) (a.2 k),
        )

    -- With `else` and `if` behind it.
    another_arm : (arms : Arms) (x : Arm) (f g : Open) → ArmsAre arms f → ArmIs x g → ends_in_if x.body.stmt ≡ false → (e key : ℕ) →
        ArmsAre (arms_to (with_arm arms x) (e ∷ key ∷ [])) (λ k. f (g (token e (want.Key KEY_ELSE) (token key (want.Key KEY_IF) k))))
    another_arm arms x f g r a c e key =
        let last = branch_of x r.1 in (
          r.0 ++ (last, e) ∷ [],
          key,
          ap (λ (z : List (Expr × Stmt)). z ++ arm_in last ∷ []) r.2 ∙ sym (arms_snoc r.0 (last, e)),
          ap (λ (z : List ℕ). (z ++ x.left ∷ x.right ∷ []) ++ e ∷ key ∷ []) r.3 ∙ sym (marks_snoc r.0 (last, e) key),
          every_snoc IsStep r.0 (last, e) r.4 ((a.0, body_formed x.body a.1), c),
          λ k. let rest = token e (want.Key KEY_ELSE) (token key (want.Key KEY_IF) k) in
              r.5 (g rest) ∙ (ap (λ (z : Said). opens (steps_said kind_of bytes_of r.0 (token r.1 (want.Key KEY_IF) z))) (a.2 rest) ∙
              ap opens (sym (steps_snoc kind_of bytes_of r.0 (last, e) (token key (want.Key KEY_IF) k)))),
        )

    -- With `else` and another statement behind it.
    ended_with : (arms : Arms) (x : Arm) (f g : Open) → ArmsAre arms f → ArmIs x g → ends_in_if x.body.stmt ≡ false → (e : ℕ) (o : Ended) → IsBodyFrom o → (IsIf o.stmt → ⊥) →
        IfInside (with_else (with_arm arms x) e o) (λ k. f (g (token e (want.Key KEY_ELSE) (of_body kind_of bytes_of o.stmt and k))))
    ended_with arms x f g r a c e o h i =
        let last = branch_of x r.1 in
        let all : List ℕ = (arms.marks ++ x.left ∷ x.right ∷ []) ++ e ∷ [] in
        let marks : all ≡ marks_in r.0 last (Some (e, o.stmt)) =
        ap (λ (z : List ℕ). (z ++ x.left ∷ x.right ∷ []) ++ e ∷ []) r.3 ∙ (append_assoc (marks_done r.0 ++ r.1 ∷ []) (x.left ∷ x.right ∷ []) (e ∷ []) ∙ append_assoc (marks_done r.0) (r.1 ∷ []) (x.left ∷ x.right ∷ e ∷ [])) in (
          r.0,
          last,
          Some (e, o.stmt),
          ap (λ (z : List (Expr × Stmt)). kind.If (z ++ arm_in last ∷ []) (Some o.stmt) all) r.2 ∙ ap (λ (z : List ℕ). kind.If (arms_in r.0 last) (Some o.stmt) z) marks,
          body_ends o h ∙ (ends_stmt o.stmt ∙ sym (fold.stmt_kind_if_folds ends_steps (arms.list ++ arm_in last ∷ []) (Some o.stmt) all)),
          r.4,
          (a.0, body_formed x.body a.1),
          (c, body_formed o h, i),
          λ k. let rest = token e (want.Key KEY_ELSE) (of_body kind_of bytes_of o.stmt and k) in
              r.5 (g rest) ∙ ap (λ (z : Said). opens (steps_said kind_of bytes_of r.0 (token r.1 (want.Key KEY_IF) z))) (a.2 rest),
        )

    -- An `if` without labels begins with `if`.
    not_if_kind : (x : OpenStmtKind) → IsStmtKind kind_of (suc (twice d)) (IsFormedStmt kind_of (suc (twice d))) x → (scopes : OpenScopes) (ts : List KeptToken) →
        FitTokens kind_of bytes_of (stmt_kind_spelling (roll-StmtKind x)) ts → begins (λ t. has an_if (terminal_of scopes t)) ts ≡ false → IsIfKind x → ⊥
    not_if_kind (s.StmtKind-F.Empty m) g scopes ts f e i = i
    not_if_kind (s.StmtKind-F.Value x m) g scopes ts f e i = i
    not_if_kind (s.StmtKind-F.Braced b) g scopes ts f e i = i
    not_if_kind (s.StmtKind-F.If arms other marks) g scopes ts f e i =
        by_chain (λ bs o ms. FitTokens kind_of bytes_of (stmt_kind_spelling (kind.If bs o ms)) ts → ⊥)
        (λ ss last tail h.
        let b = if_begins kind_of bytes_of ss last tail in
        let y = (hears_key kind_of bytes_of KEY_IF b.0).hears scopes scopes (record { symbols = b.1; events = [] }) ts (subst (λ z. FitTokens kind_of bytes_of z ts) b.2 h, refl) in
        never (sym e ∙ (ap (begins (λ t. has an_if (terminal_of scopes t))) y.2 ∙ y.4)))
        arms other marks g.some g.fixed (subst (λ z. FitTokens kind_of bytes_of (stmt_kind_spelling z) ts) (kind.rolls-If arms other marks) f)
    not_if_kind (s.StmtKind-F.While x b m) g scopes ts f e i = i
    not_if_kind (s.StmtKind-F.DoWhile b x m) g scopes ts f e i = i
    not_if_kind (s.StmtKind-F.For a b c x m) g scopes ts f e i = i
    not_if_kind (s.StmtKind-F.Switch x b m) g scopes ts f e i = i
    not_if_kind (s.StmtKind-F.Break m) g scopes ts f e i = i
    not_if_kind (s.StmtKind-F.Continue m) g scopes ts f e i = i
    not_if_kind (s.StmtKind-F.Goto x m) g scopes ts f e i = i
    not_if_kind (s.StmtKind-F.Return x m) g scopes ts f e i = i

    formed_kind : (x : Stmt) → IsFrom (suc (twice d)) (IsFormedStmt kind_of) x → IsKind (suc (twice d)) x.kind
    unfolding IsFormedStmt
    formed_kind x g = (g (suc (suc (twice d))) (omega arith)).kind

    not_if : (o : Ended) → IsBodyFrom o → NotFirst an_if (of_body kind_of bytes_of o.stmt) → IsIf o.stmt → ⊥
    not_if o g n i =
        let out = roll-out-StmtKind o.stmt.kind in
        let spelled : stmt_spelling o.stmt ≡ stmt_kind_spelling o.stmt.kind = spell.stmt_spelling_lem o.stmt ∙ ap (λ (z : List Mark). joined (map label_spelling z) ++ stmt_kind_spelling o.stmt.kind) i.0 in
        not_if_kind (out-StmtKind o.stmt.kind) (formed_kind o.stmt (body_formed o g)) n.0 n.1
        (subst (λ z. FitTokens kind_of bytes_of (stmt_kind_spelling z) n.1) (sym out) (subst (λ z. FitTokens kind_of bytes_of z n.1) spelled n.2)) n.3 i.1

    adds_behind : (b : Bool) (arms : Arms) (x : Arm) (f g : Open) → b ≡ ends_in_if x.body.stmt → ArmsAre arms f → ArmIs x g →
        Adds kind_of bytes_of (lang.behind_arm below d level inner b (with_arm arms x)) (λ k. f (g k)) (by_turn kind_of bytes_of ArmsAre IfInside)
    unfolding lang.else_part lang.next_arm lang.last_body
    adds_behind true arms x f g e r a = adds_pure kind_of bytes_of (Done (without_else (with_arm arms x))) (ended_without arms x f g r a)
    adds_behind false arms x f g c r a = adds_or kind_of bytes_of
        (adds_token kind_of bytes_of (says_key kind_of bytes_of KEY_ELSE) (λ e h. adds_or kind_of bytes_of
        (adds_token kind_of bytes_of (says_key kind_of bytes_of KEY_IF) (λ key i. adds_pure kind_of bytes_of (Again (arms_to (with_arm arms x) (e ∷ key ∷ []))) (another_arm arms x f g r a (sym c) e key)))
        (adds_to kind_of bytes_of {fine = λ t h. (o : Ended) × (t ≡ Done (with_else (with_arm arms x) e o)) × IsBodyFrom o × ((k : Said) → h k ≡ f (g (token e (want.Key KEY_ELSE) (of_body kind_of bytes_of o.stmt and k)))) × NotFirst an_if (of_body kind_of bytes_of o.stmt)}
        (λ t h y. subst (λ z. by_turn kind_of bytes_of ArmsAre IfInside z h) (sym y.1)
        (let w = ended_with arms x f g r a (sym c) e y.0 y.2 (not_if y.0 y.2 y.4) in (w.0, w.1, w.2, w.3, w.4, w.5, w.6, w.7, λ k. y.3 k ∙ w.8 k)))
        (adds_not (λ (o : Ended). of_body kind_of bytes_of o.stmt) an_if (λ o. Done (with_else (with_arm arms x) e o)) body_trees))))
        (adds_pure kind_of bytes_of (Done (without_else (with_arm arms x))) (ended_without arms x f g r a))

    adds_arms : (key : ℕ) → Adds kind_of bytes_of (lang.all_arms below d level inner (first_arms key)) (λ k. token key (want.Key KEY_IF) (opens k)) IfInside
    unfolding lang.all_arms lang.arm_turn
    adds_arms key = adds_repeat kind_of bytes_of d {fine = ArmsAre}
        (λ arms f r. adds_part kind_of bytes_of adds_arm (λ x g a. adds_behind x.body.dangles arms x f g (body_ends x.body a.1) r a))
        (first_arms key) ([], key, refl, refl, tt, λ k. refl)

    adds_if : Adds kind_of bytes_of (lang.if_ below d level inner) (λ k. k) KindIs
    unfolding lang.if_
    adds_if = adds_looser kind_of bytes_of {fine = λ x f. (ss : Steps) × (last : Branch) × (tail : Tail) × (x.kind ≡ if_tree ss last tail) × (x.dangles ≡ ends_kind x.kind) × Every IsStep ss × IsBranch last × IsTail last tail ×
        ((k : Said) → f k ≡ opens (steps_said kind_of bytes_of ss (arm_said kind_of bytes_of last (tail_said kind_of bytes_of tail (closes k)))))}
        (λ x f r. (
          (λ k. of_kind kind_of bytes_of x.kind and k),
          (λ k ts scopes end m. subst (λ z. AreSaid kind_of bytes_of (of_kind kind_of bytes_of z and k) ts scopes end) (sym r.3)
              (nested_if kind_of bytes_of r.0 r.1 r.2 (every_of_each IsStep (λ (x : Branch × ℕ). IsFreeBranch kind_of bytes_of x.0) (λ x g. free_branch x.0 g.0) r.0 r.5) (free_branch r.1 r.6) (free_tail r.1 r.2 r.7) k ts scopes end (subst (λ (z : Said). AreSaid kind_of bytes_of z ts scopes end) (r.8 k) m))),
          (
            (
              subst (IsFrom (suc (twice d)) IsKind) (sym r.3) (kind_right (s.StmtKind-F.If (arms_in r.0 r.1) (tail_stmt r.2) (marks_in r.0 r.1 r.2)) _
                  (kind.rolls-If (arms_in r.0 r.1) (tail_stmt r.2) (marks_in r.0 r.1 r.2)) (if_statement r.0 r.1 r.2 r.5 r.6 r.7)),
              r.4,
            ),
            λ k. refl,
          ),
        ))
        (adds_token kind_of bytes_of (says_key kind_of bytes_of KEY_IF) (λ key h. adds_scope (adds_arms key) (λ x f r. (r.0, r.1, r.2, r.3, r.4, r.5, r.6, r.7, λ k. r.8 (closes k)))))

    -- ---- `switch` (6.8.4.2), and loops (6.8.5)

    -- Before its scope ends.
    abbrev KindInside : Kinded → Open → Type 0
    KindInside x f = IsKinded x × ((k : Said) → of_kind kind_of bytes_of x.kind and k ≡ f (closes k))

    adds_switch : Adds kind_of bytes_of (lang.switch_ below d level inner) (λ k. k) KindIs
    unfolding lang.switch_ lang.switch_inside
    adds_switch = adds_token kind_of bytes_of (says_key kind_of bytes_of KEY_SWITCH) (λ n h. adds_scope {fine = KindInside}
        (adds_part kind_of bytes_of adds_arm (λ x g a. adds_pure kind_of bytes_of (switch_of n x) (
          (
            kind_right (s.StmtKind-F.Switch x.cond x.body.stmt (n ∷ x.left ∷ x.right ∷ [])) _ (kind.rolls-Switch x.cond x.body.stmt (n ∷ x.left ∷ x.right ∷ []))
                (λ depth i. (a.0 depth (deep depth i), body_formed x.body a.1 depth i, refl)),
            body_ends x.body a.1 ∙ (ends_stmt x.body.stmt ∙ sym (fold.stmt_kind_switch_folds ends_steps x.cond x.body.stmt (n ∷ x.left ∷ x.right ∷ []))),
          ),
          λ k. law.switch_before kind_of bytes_of x.cond x.body.stmt n x.left x.right k ∙ ap (λ (z : Said). token n (want.Key KEY_SWITCH) (opens z)) (sym (a.2 (closes k))),
        )))
        (λ x f r. r))

    adds_while : Adds kind_of bytes_of (lang.while_ below d level inner) (λ k. k) KindIs
    unfolding lang.while_ lang.while_inside
    adds_while = adds_token kind_of bytes_of (says_key kind_of bytes_of KEY_WHILE) (λ n h. adds_scope {fine = KindInside}
        (adds_part kind_of bytes_of adds_arm (λ x g a. adds_pure kind_of bytes_of (while_of n x) (
          (
            kind_right (s.StmtKind-F.While x.cond x.body.stmt (n ∷ x.left ∷ x.right ∷ [])) _ (kind.rolls-While x.cond x.body.stmt (n ∷ x.left ∷ x.right ∷ []))
                (λ depth i. (a.0 depth (deep depth i), body_formed x.body a.1 depth i, refl)),
            body_ends x.body a.1 ∙ (ends_stmt x.body.stmt ∙ sym (fold.stmt_kind_while_folds ends_steps x.cond x.body.stmt (n ∷ x.left ∷ x.right ∷ []))),
          ),
          λ k. law.while_before kind_of bytes_of x.cond x.body.stmt n x.left x.right k ∙ ap (λ (z : Said). token n (want.Key KEY_WHILE) (opens z)) (sym (a.2 (closes k))),
        )))
        (λ x f r. r))

    adds_do : Adds kind_of bytes_of (lang.do_ below d level inner) (λ k. k) KindIs
    unfolding lang.do_ lang.do_inside
    adds_do = adds_token kind_of bytes_of (says_key kind_of bytes_of KEY_DO) (λ n h. adds_scope {fine = KindInside}
        (adds_part kind_of bytes_of adds_body (λ b g a. adds_token kind_of bytes_of (says_key kind_of bytes_of KEY_WHILE) (λ w i. adds_token kind_of bytes_of (says_mark kind_of bytes_of MARK_LEFT_PAREN) (λ l j.
        adds_part kind_of bytes_of (expr (suc level)) (λ e f m. adds_token kind_of bytes_of (says_mark kind_of bytes_of MARK_RIGHT_PAREN) (λ r o. adds_token kind_of bytes_of (says_mark kind_of bytes_of MARK_SEMICOLON) (λ t p.
        adds_pure kind_of bytes_of (do_of b e (n ∷ w ∷ l ∷ r ∷ t ∷ [])) (
          (
            kind_right (s.StmtKind-F.DoWhile b.stmt e (n ∷ w ∷ l ∷ r ∷ t ∷ [])) _ (kind.rolls-DoWhile b.stmt e (n ∷ w ∷ l ∷ r ∷ t ∷ []))
                (λ depth i. (body_formed b a.0 depth i, m.0 depth (deep depth i), refl)),
            sym (fold.stmt_kind_do_while_folds ends_steps b.stmt e (n ∷ w ∷ l ∷ r ∷ t ∷ [])),
          ),
          λ k. let rest = token r (want.Mark MARK_RIGHT_PAREN) (token t (want.Mark MARK_SEMICOLON) (closes k)) in
              law.do_while_before kind_of bytes_of b.stmt e n w l r t k ∙
              (ap (λ (z : Said). token n (want.Key KEY_DO) (opens z)) (a.1 (token w (want.Key KEY_WHILE) (token l (want.Mark MARK_LEFT_PAREN) (of_expr kind_of bytes_of e and rest)))) ∙
              ap (λ (z : Said). token n (want.Key KEY_DO) (opens (g (token w (want.Key KEY_WHILE) (token l (want.Mark MARK_LEFT_PAREN) z))))) (m.1 rest)),
        ))))))))
        (λ x f r. r))

    abbrev InitIs : ForInit → Open → Type 0
    InitIs = Made kind_of bytes_of (of_for_init kind_of bytes_of) (IsFrom d (IsForInit kind_of))

    adds_no_init : Adds kind_of bytes_of (lang.no_init below d level inner) (λ k. k) InitIs
    unfolding lang.no_init
    adds_no_init = adds_token kind_of bytes_of (says_mark kind_of bytes_of MARK_SEMICOLON) (λ m h. adds_pure kind_of bytes_of (init_.Nothing (m ∷ [])) ((λ depth i. refl), law.no_init_before kind_of bytes_of m))

    adds_value_init : Adds kind_of bytes_of (lang.value_init below d level inner) (λ k. k) InitIs
    unfolding lang.value_init
    adds_value_init = adds_part kind_of bytes_of (expr (suc level)) (λ e f made. adds_token kind_of bytes_of (says_mark kind_of bytes_of MARK_SEMICOLON) (λ m h. adds_pure kind_of bytes_of (init_.Value e (m ∷ []))
        ((λ depth i. (made.0 depth i, refl)), λ k. law.value_init_before kind_of bytes_of e m k ∙ made.1 (token m (want.Mark MARK_SEMICOLON) k))))

    adds_declared_init : Adds kind_of bytes_of (lang.declared_init below d level inner) (λ k. k) InitIs
    unfolding lang.declared_init
    adds_declared_init = adds_part kind_of bytes_of (declaration (suc level)) (λ x f made. adds_pure kind_of bytes_of (init_.Declare x) (made.0, λ k. law.declared_init_before kind_of bytes_of x k ∙ made.1 k))

    adds_init : Adds kind_of bytes_of (lang.for_init below d level inner) (λ k. k) InitIs
    unfolding lang.for_init
    adds_init = adds_or kind_of bytes_of adds_no_init (adds_or kind_of bytes_of adds_value_init adds_declared_init)

    abbrev MaybeIs : ℕ → MaybeExpr → Open → Type 0
    MaybeIs number x f = IsFrom d (λ depth y. IfSome y (IsFormedExpr kind_of depth)) x.expr × ((k : Said) → maybe kind_of bytes_of x.expr (token x.mark (want.Mark number) k) ≡ f k)

    adds_maybe : (number : ℕ) → Adds kind_of bytes_of (lang.maybe_to below d level inner number) (λ k. k) (MaybeIs number)
    unfolding lang.maybe_to lang.nothing_to lang.expr_to
    adds_maybe number = adds_or kind_of bytes_of
        (adds_token kind_of bytes_of (says_mark kind_of bytes_of number) (λ m h. adds_pure kind_of bytes_of (maybe_expr None m) ((λ depth i. tt), λ k. refl)))
        (adds_part kind_of bytes_of (expr (suc level)) (λ e f made. adds_token kind_of bytes_of (says_mark kind_of bytes_of number) (λ m h. adds_pure kind_of bytes_of (maybe_expr (Some e) m) (made.0, λ k. made.1 (token m (want.Mark number) k)))))

    adds_for : Adds kind_of bytes_of (lang.for_ below d level inner) (λ k. k) KindIs
    unfolding lang.for_ lang.for_inside
    adds_for = adds_token kind_of bytes_of (says_key kind_of bytes_of KEY_FOR) (λ n h. adds_scope {fine = KindInside}
        (adds_token kind_of bytes_of (says_mark kind_of bytes_of MARK_LEFT_PAREN) (λ l j. adds_part kind_of bytes_of adds_init (λ i f im. adds_part kind_of bytes_of (adds_maybe MARK_SEMICOLON) (λ c g cm.
        adds_part kind_of bytes_of (adds_maybe MARK_RIGHT_PAREN) (λ t o tm. adds_part kind_of bytes_of adds_body (λ b p a. adds_pure kind_of bytes_of (for_of (for_head n l i c t) b) (
          let marks : List ℕ = n ∷ l ∷ c.mark ∷ t.mark ∷ [] in (
            kind_right (s.StmtKind-F.For i c.expr t.expr b.stmt marks) _ (kind.rolls-For i c.expr t.expr b.stmt marks)
                (λ depth q. (im.0 depth (deep depth q), cm.0 depth (deep depth q), tm.0 depth (deep depth q), body_formed b a.0 depth q, refl)),
            body_ends b a.0 ∙ (ends_stmt b.stmt ∙ sym (fold.stmt_kind_for_folds ends_steps i c.expr t.expr b.stmt marks)),
          ),
          λ k. let rest = of_body kind_of bytes_of b.stmt and closes k in
              let step = maybe kind_of bytes_of t.expr (token t.mark (want.Mark MARK_RIGHT_PAREN) rest) in
              let cond = maybe kind_of bytes_of c.expr (token c.mark (want.Mark MARK_SEMICOLON) step) in
              law.for_before kind_of bytes_of i c.expr t.expr b.stmt n l c.mark t.mark k ∙
              ap (λ (z : Said). token n (want.Key KEY_FOR) (opens (token l (want.Mark MARK_LEFT_PAREN) z))) (im.1 cond ∙ ap f (cm.1 step ∙ ap g (tm.1 rest ∙ ap o (a.1 (closes k))))),
        )))))))
        (λ x f r. r))

    -- ---- Jumps (6.8.6)

    adds_break : Adds kind_of bytes_of (lang.break_ below d level inner) (λ k. k) KindIs
    unfolding lang.break_
    adds_break = adds_token kind_of bytes_of (says_key kind_of bytes_of KEY_BREAK) (λ n h. adds_token kind_of bytes_of (says_mark kind_of bytes_of MARK_SEMICOLON) (λ m i. adds_pure kind_of bytes_of (closed (kind.Break (n ∷ m ∷ []))) (
      (kind_right (s.StmtKind-F.Break (n ∷ m ∷ [])) _ (kind.rolls-Break (n ∷ m ∷ [])) (λ depth j. refl), sym (fold.stmt_kind_break_folds ends_steps (n ∷ m ∷ []))),
      law.break_before kind_of bytes_of n m,
    )))

    adds_continue : Adds kind_of bytes_of (lang.continue_ below d level inner) (λ k. k) KindIs
    unfolding lang.continue_
    adds_continue = adds_token kind_of bytes_of (says_key kind_of bytes_of KEY_CONTINUE) (λ n h. adds_token kind_of bytes_of (says_mark kind_of bytes_of MARK_SEMICOLON) (λ m i. adds_pure kind_of bytes_of (closed (kind.Continue (n ∷ m ∷ []))) (
      (kind_right (s.StmtKind-F.Continue (n ∷ m ∷ [])) _ (kind.rolls-Continue (n ∷ m ∷ [])) (λ depth j. refl), sym (fold.stmt_kind_continue_folds ends_steps (n ∷ m ∷ []))),
      law.continue_before kind_of bytes_of n m,
    )))

    adds_goto : Adds kind_of bytes_of (lang.goto_ below d level inner) (λ k. k) KindIs
    unfolding lang.goto_
    adds_goto = adds_token kind_of bytes_of (says_key kind_of bytes_of KEY_GOTO) (λ n h. adds_token kind_of bytes_of (says_any kind_of bytes_of) (λ x j. adds_token kind_of bytes_of (says_mark kind_of bytes_of MARK_SEMICOLON) (λ m i.
        adds_pure kind_of bytes_of (closed (kind.Goto x (n ∷ m ∷ []))) (
          (kind_right (s.StmtKind-F.Goto x (n ∷ m ∷ [])) _ (kind.rolls-Goto x (n ∷ m ∷ [])) (λ depth o. refl), sym (fold.stmt_kind_goto_folds ends_steps x (n ∷ m ∷ []))),
          law.goto_before kind_of bytes_of x n m,
        ))))

    adds_return : Adds kind_of bytes_of (lang.return_ below d level inner) (λ k. k) KindIs
    unfolding lang.return_ lang.return_nothing lang.return_value
    adds_return = adds_token kind_of bytes_of (says_key kind_of bytes_of KEY_RETURN) (λ n h. adds_or kind_of bytes_of
        (adds_token kind_of bytes_of (says_mark kind_of bytes_of MARK_SEMICOLON) (λ m i. adds_pure kind_of bytes_of (closed (kind.Return None (n ∷ m ∷ []))) (
          (kind_right (s.StmtKind-F.Return None (n ∷ m ∷ [])) _ (kind.rolls-Return None (n ∷ m ∷ [])) (λ depth j. (tt, refl)), sym (fold.stmt_kind_return_folds ends_steps None (n ∷ m ∷ []))),
          law.return_before kind_of bytes_of None n m,
        )))
        (adds_part kind_of bytes_of (expr level) (λ e f made. adds_token kind_of bytes_of (says_mark kind_of bytes_of MARK_SEMICOLON) (λ m i. adds_pure kind_of bytes_of (closed (kind.Return (Some e) (n ∷ m ∷ []))) (
          (kind_right (s.StmtKind-F.Return (Some e) (n ∷ m ∷ [])) _ (kind.rolls-Return (Some e) (n ∷ m ∷ [])) (λ depth j. (made.0 depth (deep depth j), refl)), sym (fold.stmt_kind_return_folds ends_steps (Some e) (n ∷ m ∷ []))),
          λ k. law.return_before kind_of bytes_of (Some e) n m k ∙ ap (token n (want.Key KEY_RETURN)) (made.1 (token m (want.Mark MARK_SEMICOLON) k)),
        )))))

    -- ---- Statements (6.8)

    adds_kinded : Adds kind_of bytes_of (lang.kinded below d level inner) (λ k. k) KindIs
    unfolding lang.kinded
    adds_kinded = adds_or kind_of bytes_of adds_empty (adds_or kind_of bytes_of adds_braced (adds_or kind_of bytes_of adds_if (adds_or kind_of bytes_of adds_while (adds_or kind_of bytes_of adds_do
        (adds_or kind_of bytes_of adds_for (adds_or kind_of bytes_of adds_switch (adds_or kind_of bytes_of adds_break (adds_or kind_of bytes_of adds_continue (adds_or kind_of bytes_of adds_goto adds_return)))))))))

    abbrev LabelsAre : List Mark → Open → Type 0
    LabelsAre xs f = Every (IsFrom d (IsLabel kind_of)) xs × ((k : Said) → f k ≡ each (of_label kind_of bytes_of) xs k)

    abbrev EndedIs : Ended → Open → Type 0
    EndedIs = Made kind_of bytes_of (λ (e : Ended). of_stmt kind_of bytes_of e.stmt) (IsFrom (suc (suc (twice d))) (IsFormedEnded kind_of bytes_of))

    abbrev TurnIs : Turn (List Mark) Ended → Open → Type 0
    TurnIs = by_turn kind_of bytes_of LabelsAre EndedIs

    ended_right : (labels : List Mark) (x : Kinded) (f g : Open) → LabelsAre labels f → KindIs x g → EndedIs (ended_of labels x) (λ k. f (g k))
    ended_right labels x f g r m = (
      from_next (λ depth. IsFormedEnded kind_of bytes_of depth (ended_of labels x)) (suc (twice d)) (λ n h. (
        stmt_right labels x.kind n (every_at (IsLabel kind_of) d n (deep n h) labels r.0) (m.0.0 n h),
        m.0.1 ∙ sym (ends_is (stmt_of labels x.kind)),
      )),
      λ k. law.stmt_before kind_of bytes_of (stmt_of labels x.kind) k ∙ (ap (each (of_label kind_of bytes_of) labels) (m.1 k) ∙ sym (r.1 (g k))),
    )

    label_more : (labels : List Mark) (x : Mark) (f g : Open) → LabelsAre labels f → IsFrom d (IsLabel kind_of) x → ((k : Said) → of_label kind_of bytes_of x and k ≡ g k) → LabelsAre (labels ++ x ∷ []) (λ k. f (g k))
    label_more labels x f g r i e = (
      every_snoc (IsFrom d (IsLabel kind_of)) labels x r.0 i,
      λ k. r.1 (g k) ∙ (ap (each (of_label kind_of bytes_of) labels) (sym (e k)) ∙ sym (each_snoc (of_label kind_of bytes_of) labels x k)),
    )

    adds_turn : (labels : List Mark) (f : Open) → LabelsAre labels f → Adds kind_of bytes_of (lang.turn below d level inner labels) f TurnIs
    unfolding lang.turn lang.other_turn lang.keyed_turn lang.name_turn lang.case_turn lang.default_turn lang.kinded_turn lang.value_turn
    adds_turn labels f r = adds_or kind_of bytes_of
        (adds_token kind_of bytes_of (says_any kind_of bytes_of) (λ n h. adds_token kind_of bytes_of (says_mark kind_of bytes_of MARK_COLON) (λ c i. adds_pure kind_of bytes_of (Again (with_label labels n c))
        (label_more labels (mark_.Label n (c ∷ [])) f (λ k. token n want.Word (token c (want.Mark MARK_COLON) k)) r (λ depth j. refl) (law.label_before kind_of bytes_of n c)))))
        (adds_or kind_of bytes_of
        (adds_or kind_of bytes_of
        (adds_token kind_of bytes_of (says_key kind_of bytes_of KEY_CASE) (λ n h. adds_part kind_of bytes_of (constant level) (λ a g m. adds_token kind_of bytes_of (says_mark kind_of bytes_of MARK_COLON) (λ c i.
        adds_pure kind_of bytes_of (Again (with_case labels n a c))
        (label_more labels (mark_.Case (sole a) (n ∷ c ∷ [])) f (λ k. token n (want.Key KEY_CASE) (g (token c (want.Mark MARK_COLON) k))) r (λ depth j. (m.0 depth j, refl))
        (λ k. law.case_before kind_of bytes_of (sole a) n c k ∙ ap (token n (want.Key KEY_CASE)) (law.sole_before kind_of bytes_of a (token c (want.Mark MARK_COLON) k) ∙ m.1 (token c (want.Mark MARK_COLON) k))))))))
        (adds_or kind_of bytes_of
        (adds_token kind_of bytes_of (says_key kind_of bytes_of KEY_DEFAULT) (λ n h. adds_token kind_of bytes_of (says_mark kind_of bytes_of MARK_COLON) (λ c i. adds_pure kind_of bytes_of (Again (with_default labels n c))
        (label_more labels (mark_.Default n (c ∷ [])) f (λ k. token n (want.Key KEY_DEFAULT) (token c (want.Mark MARK_COLON) k)) r (λ depth j. refl) (law.default_before kind_of bytes_of n c)))))
        (adds_part kind_of bytes_of adds_kinded (λ x g m. adds_pure kind_of bytes_of (Done (ended_of labels x)) (ended_right labels x f g r m)))))
        (adds_part kind_of bytes_of adds_value (λ x g m. adds_pure kind_of bytes_of (Done (ended_of labels x)) (ended_right labels x f g r m))))

    pub adds_statement : Adds kind_of bytes_of (lang.statement below d level inner) (λ k. k) EndedIs
    unfolding lang.statement
    adds_statement = adds_repeat kind_of bytes_of d {fine = LabelsAre} (λ labels f r. adds_turn labels f r) [] (tt, λ k. refl)

    -- ---- Items of blocks (6.8.2)

    abbrev ItemIs : BlockItem → Open → Type 0
    ItemIs = Made kind_of bytes_of (of_item kind_of bytes_of) (IsFrom (suc (suc (twice d))) (IsFormedItem kind_of bytes_of))

    do_right : (e : Ended) → IsFrom (suc (suc (twice d))) (IsFormedEnded kind_of bytes_of) e → IsFrom (suc (suc (twice d))) (IsFormedItem kind_of bytes_of) (item_.Do e.stmt)
    do_right e g = λ depth h. subst (IsFormedItem kind_of bytes_of depth) (item_.rolls-Do e.stmt)
        (subst (λ z. IsBlockItem kind_of depth (IsFormedStmt kind_of depth) z) (sym (out-roll-BlockItem (s.BlockItem-F.Do e.stmt))) (g depth h).0)

    declare_right : (x : Declaration) → IsFrom d (IsFormedDeclaration kind_of) x → IsFrom (suc (suc (twice d))) (IsFormedItem kind_of bytes_of) (item_.Declare x)
    declare_right x g = λ depth h. subst (IsFormedItem kind_of bytes_of depth) (item_.rolls-Declare x)
        (subst (λ z. IsBlockItem kind_of depth (IsFormedStmt kind_of depth) z) (sym (out-roll-BlockItem (s.BlockItem-F.Declare x))) (g depth (omega (arith, twice_least d, h))))

    pub adds_item : Adds kind_of bytes_of (lang.item below d level inner) (λ k. k) ItemIs
    unfolding lang.item lang.statement_item lang.declaration_item
    adds_item = adds_or kind_of bytes_of
        (adds_part kind_of bytes_of adds_statement (λ e f m. adds_pure kind_of bytes_of (item_.Do e.stmt) (do_right e m.0, λ k. law.do_before kind_of bytes_of e.stmt k ∙ m.1 k)))
        (adds_part kind_of bytes_of (declaration level) (λ x f m. adds_pure kind_of bytes_of (item_.Declare x) (declare_right x m.0, λ k. law.declare_before kind_of bytes_of x k ∙ m.1 k)))
