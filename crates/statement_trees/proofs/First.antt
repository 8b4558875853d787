-- With what statements begin: a block alone with `{`, and an `if` alone with `if`.

use Rattle.std.proofs.Common.{◌≡◌, ◌⊎◌, inl, inr, ℕ, zero, suc, Bool, true, false, List, [], ◌∷◌, ◌++◌, Option, map, length, refl, sym, ap, ◌∙◌, subst, append_assoc}
use Rattle.c_lexer.specs.declared.token.Kind.{Kind}
use Rattle.c_lexer.specs.declared.token.Kind.TheVariants as k
use Rattle.c_lexer.specs.declared.keyword.TheConstants.{KEY_BREAK, KEY_CASE, KEY_CONTINUE, KEY_DEFAULT, KEY_DO, KEY_FOR, KEY_GOTO, KEY_IF, KEY_RETURN, KEY_SWITCH, KEY_WHILE}
use Rattle.c_lexer.specs.declared.mark.TheConstants.{MARK_LEFT_BRACE, MARK_SEMICOLON}
use Rattle.c_tree.specs.declared.symbol.Want.{Want}
use Rattle.c_tree.specs.declared.symbol.Want.TheVariants as want
use Rattle.c_tree.specs.declared.tree.Expr.{Expr}
use Rattle.c_tree.specs.declared.tree.Block.{Block}
use Rattle.c_tree.specs.declared.tree.BlockItem.TheOpen as s
use Rattle.c_tree.specs.declared.tree.Stmt.{Stmt}
use Rattle.c_tree.specs.declared.tree.StmtKind.{StmtKind, roll-StmtKind, out-StmtKind, roll-out-StmtKind}
use Rattle.c_tree.specs.declared.tree.StmtKind.TheVariants as kind
use Rattle.c_tree.specs.declared.tree.Mark.{Mark}
use Rattle.c_tree.specs.declared.tree.Mark.TheVariants as mark_
use Rattle.c_tree.specs.Folds.{OpenStmtKind}
use Rattle.c_tree.specs.Fits.{Fits}
use Rattle.c_tree.specs.Spell.{Symbols, joined, expr_spelling, stmt_spelling, stmt_kind_spelling, label_spelling, block_level, block_item_spelling}
use Rattle.c_tree.specs.Depths.{IsFormedExpr}
use Rattle.c_tree.specs.Statements.{IsIf, IsIfKind, IsLabel, IsStmtKind, IsFormedStmt}
use Rattle.c_tree.proofs.Spellings as spell
use Rattle.reading.specs.Terminals.{has}
use Rattle.c_reading.specs.Cursors.{terminal_in}
use Rattle.c_reading.specs.Terminals.{key, terminal_where, word_terminal}
use Rattle.c_syntax.specs.Scoping.{is_typedef_name}
use Rattle.c_stmt.specs.StatementSets.{a_left_brace, an_if}
use Rattle.c_stmt.specs.StatementForms.{stmt_of}
use Rattle.expression_trees.specs.Saying.{FitTokens}
use Rattle.expression_trees.proofs.Lists.{Every, every_of, by_one, by_two}
use Rattle.statement_trees.proofs.Chains.{by_chain, if_begins}
use Rattle.statement_trees.proofs.BackRules.{by_three, by_four, by_five, IsBraced, NoneBegins}

-- No token of which this is wanted is of the set.
abbrev pub Avoids : List ℕ → Want → Type 0
Avoids set wanted = (t : List ℕ → Bool) (kind : Kind) (bytes : List ℕ) → Fits wanted kind → has set (terminal_where t kind bytes) ≡ false

pub avoids_kind : (set : List ℕ) (kind : Kind) → ((t : List ℕ → Bool) (bytes : List ℕ) → has set (terminal_where t kind bytes) ≡ false) →
    (t : List ℕ → Bool) (other : Kind) (bytes : List ℕ) → other ≡ kind → has set (terminal_where t other bytes) ≡ false
avoids_kind set kind h t other bytes e = subst (λ z. has set (terminal_where t z bytes) ≡ false) (sym e) (h t bytes)

-- But for blocks and `if`.
abbrev pub IsOther : OpenStmtKind → Type 0
IsOther (s.StmtKind-F.Empty marks) = Prim.Unit {0}
IsOther (s.StmtKind-F.Value e marks) = Prim.Unit {0}
IsOther (s.StmtKind-F.Braced b) = ⊥
IsOther (s.StmtKind-F.If arms other marks) = ⊥
IsOther (s.StmtKind-F.While e x marks) = Prim.Unit {0}
IsOther (s.StmtKind-F.DoWhile x e marks) = Prim.Unit {0}
IsOther (s.StmtKind-F.For i c t x marks) = Prim.Unit {0}
IsOther (s.StmtKind-F.Switch e x marks) = Prim.Unit {0}
IsOther (s.StmtKind-F.Break marks) = Prim.Unit {0}
IsOther (s.StmtKind-F.Continue marks) = Prim.Unit {0}
IsOther (s.StmtKind-F.Goto x marks) = Prim.Unit {0}
IsOther (s.StmtKind-F.Return e marks) = Prim.Unit {0}

-- A block, an `if`, or another.
other_or : (x : OpenStmtKind) → IsOther x ⊎ (((b : Block) × (x ≡ s.StmtKind-F.Braced b)) ⊎ IsIfKind x)
other_or (s.StmtKind-F.Empty marks) = inl tt
other_or (s.StmtKind-F.Value e marks) = inl tt
other_or (s.StmtKind-F.Braced b) = inr (inl (b, refl))
other_or (s.StmtKind-F.If arms other marks) = inr (inr tt)
other_or (s.StmtKind-F.While e x marks) = inl tt
other_or (s.StmtKind-F.DoWhile x e marks) = inl tt
other_or (s.StmtKind-F.For i c t x marks) = inl tt
other_or (s.StmtKind-F.Switch e x marks) = inl tt
other_or (s.StmtKind-F.Break marks) = inl tt
other_or (s.StmtKind-F.Continue marks) = inl tt
other_or (s.StmtKind-F.Goto x marks) = inl tt
other_or (s.StmtKind-F.Return e marks) = inl tt

avoids_key : (set : List ℕ) (c : ℕ) → has set (key c) ≡ false → Avoids set (want.Key c)
avoids_key set c h = avoids_kind set (k.Key c) (λ t bytes. h)

brace_word : (b : Bool) → has a_left_brace (word_terminal b) ≡ false
brace_word true = refl
brace_word false = refl

if_word : (b : Bool) → has an_if (word_terminal b) ≡ false
if_word true = refl
if_word false = refl

module _ (kind_of : ℕ → Option Kind) (bytes_of : ℕ → List ℕ) where
  pub none_token : (set : List ℕ) (n : ℕ) (wanted : Want) (rest : Symbols) → Avoids set wanted → NoneBegins kind_of bytes_of set (record { token = n; want = wanted } ∷ rest)
  unfolding terminal_in
  none_token set n wanted rest h more [] scopes f = absurd f
  none_token set n wanted rest h more (t ∷ ts) scopes f = h (is_typedef_name scopes) t.lexeme.kind t.lexeme.spelling f.0.1

  pub none_then : (set : List ℕ) (first second : Symbols) → NoneBegins kind_of bytes_of set first → NoneBegins kind_of bytes_of set (first ++ second)
  none_then set first second h more ts scopes f = h (second ++ more) ts scopes (subst (λ z. FitTokens kind_of bytes_of z ts) (append_assoc first second more) f)

  -- What a statement without labels begins with.
  abbrev Starts : Want → StmtKind → Type 0
  Starts wanted x = (n : ℕ) × (rest : Symbols) × (stmt_kind_spelling x ≡ record { token = n; want = wanted } ∷ rest)

  from_start : (set : List ℕ) (wanted : Want) (x : StmtKind) → Avoids set wanted → Starts wanted x → NoneBegins kind_of bytes_of set (stmt_kind_spelling x)
  from_start set wanted x h g = subst (NoneBegins kind_of bytes_of set) (sym g.2) (none_token set g.0 wanted g.1 h)

  module _ (set : List ℕ) (m : ℕ) (expr : (e : Expr) → IsFormedExpr kind_of m e → NoneBegins kind_of bytes_of set (expr_spelling e))
      (semicolon : Avoids set (want.Mark MARK_SEMICOLON)) (word : Avoids set want.Word) (case_ : Avoids set (want.Key KEY_CASE)) (default_ : Avoids set (want.Key KEY_DEFAULT))
      (while_ : Avoids set (want.Key KEY_WHILE)) (do_ : Avoids set (want.Key KEY_DO)) (for_ : Avoids set (want.Key KEY_FOR)) (switch_ : Avoids set (want.Key KEY_SWITCH))
      (break_ : Avoids set (want.Key KEY_BREAK)) (continue_ : Avoids set (want.Key KEY_CONTINUE)) (goto_ : Avoids set (want.Key KEY_GOTO)) (return_ : Avoids set (want.Key KEY_RETURN)) where
    abbrev None_ : StmtKind → Type 0
    None_ x = NoneBegins kind_of bytes_of set (stmt_kind_spelling x)

    pub other_none : (x : OpenStmtKind) → IsStmtKind kind_of m (IsFormedStmt kind_of m) x → IsOther x → None_ (roll-StmtKind x)
    other_none (s.StmtKind-F.Empty marks) g o = subst None_ (sym (kind.rolls-Empty marks)) (by_one (λ z. None_ (kind.Empty z)) (λ c. from_start set (want.Mark MARK_SEMICOLON) (kind.Empty (c ∷ [])) semicolon (c, [], spell.stmt_kind_empty_spelling_lem (c ∷ []))) marks g)
    other_none (s.StmtKind-F.Value e marks) g o = subst None_ (sym (kind.rolls-Value e marks)) (subst (NoneBegins kind_of bytes_of set) (sym (spell.stmt_kind_value_spelling_lem e marks)) (none_then set (expr_spelling e) _ (expr e g.0)))
    other_none (s.StmtKind-F.Braced b) g o = absurd o
    other_none (s.StmtKind-F.If arms other marks) g o = absurd o
    other_none (s.StmtKind-F.While e x marks) g o = subst None_ (sym (kind.rolls-While e x marks)) (by_three (λ z. None_ (kind.While e x z)) (λ a l r. from_start set (want.Key KEY_WHILE) (kind.While e x (a ∷ l ∷ r ∷ [])) while_ (a, _, spell.stmt_kind_while_spelling_lem e x (a ∷ l ∷ r ∷ []))) marks g.2)
    other_none (s.StmtKind-F.DoWhile x e marks) g o = subst None_ (sym (kind.rolls-DoWhile x e marks)) (by_five (λ z. None_ (kind.DoWhile x e z)) (λ a w l r c. from_start set (want.Key KEY_DO) (kind.DoWhile x e (a ∷ w ∷ l ∷ r ∷ c ∷ [])) do_ (a, _, spell.stmt_kind_do_while_spelling_lem x e (a ∷ w ∷ l ∷ r ∷ c ∷ []))) marks g.2)
    other_none (s.StmtKind-F.For i c t x marks) g o = subst None_ (sym (kind.rolls-For i c t x marks)) (by_four (λ z. None_ (kind.For i c t x z)) (λ a l p r. from_start set (want.Key KEY_FOR) (kind.For i c t x (a ∷ l ∷ p ∷ r ∷ [])) for_ (a, _, spell.stmt_kind_for_spelling_lem i c t x (a ∷ l ∷ p ∷ r ∷ []))) marks g.4)
    other_none (s.StmtKind-F.Switch e x marks) g o = subst None_ (sym (kind.rolls-Switch e x marks)) (by_three (λ z. None_ (kind.Switch e x z)) (λ a l r. from_start set (want.Key KEY_SWITCH) (kind.Switch e x (a ∷ l ∷ r ∷ [])) switch_ (a, _, spell.stmt_kind_switch_spelling_lem e x (a ∷ l ∷ r ∷ []))) marks g.2)
    other_none (s.StmtKind-F.Break marks) g o = subst None_ (sym (kind.rolls-Break marks)) (by_two (λ z. None_ (kind.Break z)) (λ a c. from_start set (want.Key KEY_BREAK) (kind.Break (a ∷ c ∷ [])) break_ (a, _, spell.stmt_kind_break_spelling_lem (a ∷ c ∷ []))) marks g)
    other_none (s.StmtKind-F.Continue marks) g o = subst None_ (sym (kind.rolls-Continue marks)) (by_two (λ z. None_ (kind.Continue z)) (λ a c. from_start set (want.Key KEY_CONTINUE) (kind.Continue (a ∷ c ∷ [])) continue_ (a, _, spell.stmt_kind_continue_spelling_lem (a ∷ c ∷ []))) marks g)
    other_none (s.StmtKind-F.Goto x marks) g o = subst None_ (sym (kind.rolls-Goto x marks)) (by_two (λ z. None_ (kind.Goto x z)) (λ a c. from_start set (want.Key KEY_GOTO) (kind.Goto x (a ∷ c ∷ [])) goto_ (a, _, spell.stmt_kind_goto_spelling_lem x (a ∷ c ∷ []))) marks g)
    other_none (s.StmtKind-F.Return e marks) g o = subst None_ (sym (kind.rolls-Return e marks)) (by_two (λ z. None_ (kind.Return e z)) (λ a c. from_start set (want.Key KEY_RETURN) (kind.Return e (a ∷ c ∷ [])) return_ (a, _, spell.stmt_kind_return_spelling_lem e (a ∷ c ∷ []))) marks g.1)

    label_none : (x : Mark) → IsLabel kind_of m x → NoneBegins kind_of bytes_of set (label_spelling x)
    label_none (mark_.Label n marks) g = subst (NoneBegins kind_of bytes_of set) (sym (spell.label_label_spelling_lem n marks)) (none_token set n want.Word _ word)
    label_none (mark_.Case e marks) g = by_two (λ z. NoneBegins kind_of bytes_of set (label_spelling (mark_.Case e z))) (λ a c. subst (NoneBegins kind_of bytes_of set) (sym (spell.label_case_spelling_lem e (a ∷ c ∷ []))) (none_token set a (want.Key KEY_CASE) _ case_)) marks g.1
    label_none (mark_.Default n marks) g = subst (NoneBegins kind_of bytes_of set) (sym (spell.label_default_spelling_lem n marks)) (none_token set n (want.Key KEY_DEFAULT) _ default_)

    -- By its first label, or without one.
    pub stmt_none : (labels : List Mark) (x : StmtKind) → Every (IsLabel kind_of m) labels → (labels ≡ [] → None_ x) → NoneBegins kind_of bytes_of set (stmt_spelling (stmt_of labels x))
    stmt_none [] x g h = subst (NoneBegins kind_of bytes_of set) (sym (spell.stmt_spelling_lem (stmt_of [] x))) (h refl)
    stmt_none (y ∷ labels) x g h = subst (NoneBegins kind_of bytes_of set) (sym (spell.stmt_spelling_lem (stmt_of (y ∷ labels) x) ∙ append_assoc (label_spelling y) (joined (map label_spelling labels)) (stmt_kind_spelling x)))
        (none_then set (label_spelling y) _ (label_none y g.0))

  module _ (expr_brace : (depth : ℕ) (e : Expr) → IsFormedExpr kind_of depth e → NoneBegins kind_of bytes_of a_left_brace (expr_spelling e))
      (expr_if : (depth : ℕ) (e : Expr) → IsFormedExpr kind_of depth e → NoneBegins kind_of bytes_of an_if (expr_spelling e)) where
    module _ (m : ℕ) where
      brace_other : (x : OpenStmtKind) → IsStmtKind kind_of m (IsFormedStmt kind_of m) x → IsOther x → NoneBegins kind_of bytes_of a_left_brace (stmt_kind_spelling (roll-StmtKind x))
      brace_other = other_none a_left_brace m (expr_brace m) (avoids_kind a_left_brace (k.Mark MARK_SEMICOLON) (λ t bytes. refl)) (avoids_kind a_left_brace k.Word (λ t bytes. brace_word (t bytes)))
          (avoids_key a_left_brace KEY_CASE refl) (avoids_key a_left_brace KEY_DEFAULT refl) (avoids_key a_left_brace KEY_WHILE refl) (avoids_key a_left_brace KEY_DO refl) (avoids_key a_left_brace KEY_FOR refl)
          (avoids_key a_left_brace KEY_SWITCH refl) (avoids_key a_left_brace KEY_BREAK refl) (avoids_key a_left_brace KEY_CONTINUE refl) (avoids_key a_left_brace KEY_GOTO refl) (avoids_key a_left_brace KEY_RETURN refl)

      brace_labels : (labels : List Mark) (x : StmtKind) → Every (IsLabel kind_of m) labels → (labels ≡ [] → NoneBegins kind_of bytes_of a_left_brace (stmt_kind_spelling x)) → NoneBegins kind_of bytes_of a_left_brace (stmt_spelling (stmt_of labels x))
      brace_labels = stmt_none a_left_brace m (expr_brace m) (avoids_kind a_left_brace (k.Mark MARK_SEMICOLON) (λ t bytes. refl)) (avoids_kind a_left_brace k.Word (λ t bytes. brace_word (t bytes)))
          (avoids_key a_left_brace KEY_CASE refl) (avoids_key a_left_brace KEY_DEFAULT refl) (avoids_key a_left_brace KEY_WHILE refl) (avoids_key a_left_brace KEY_DO refl) (avoids_key a_left_brace KEY_FOR refl)
          (avoids_key a_left_brace KEY_SWITCH refl) (avoids_key a_left_brace KEY_BREAK refl) (avoids_key a_left_brace KEY_CONTINUE refl) (avoids_key a_left_brace KEY_GOTO refl) (avoids_key a_left_brace KEY_RETURN refl)

      if_other : (x : OpenStmtKind) → IsStmtKind kind_of m (IsFormedStmt kind_of m) x → IsOther x → NoneBegins kind_of bytes_of an_if (stmt_kind_spelling (roll-StmtKind x))
      if_other = other_none an_if m (expr_if m) (avoids_kind an_if (k.Mark MARK_SEMICOLON) (λ t bytes. refl)) (avoids_kind an_if k.Word (λ t bytes. if_word (t bytes)))
          (avoids_key an_if KEY_CASE refl) (avoids_key an_if KEY_DEFAULT refl) (avoids_key an_if KEY_WHILE refl) (avoids_key an_if KEY_DO refl) (avoids_key an_if KEY_FOR refl)
          (avoids_key an_if KEY_SWITCH refl) (avoids_key an_if KEY_BREAK refl) (avoids_key an_if KEY_CONTINUE refl) (avoids_key an_if KEY_GOTO refl) (avoids_key an_if KEY_RETURN refl)

      if_labels : (labels : List Mark) (x : StmtKind) → Every (IsLabel kind_of m) labels → (labels ≡ [] → NoneBegins kind_of bytes_of an_if (stmt_kind_spelling x)) → NoneBegins kind_of bytes_of an_if (stmt_spelling (stmt_of labels x))
      if_labels = stmt_none an_if m (expr_if m) (avoids_kind an_if (k.Mark MARK_SEMICOLON) (λ t bytes. refl)) (avoids_kind an_if k.Word (λ t bytes. if_word (t bytes)))
          (avoids_key an_if KEY_CASE refl) (avoids_key an_if KEY_DEFAULT refl) (avoids_key an_if KEY_WHILE refl) (avoids_key an_if KEY_DO refl) (avoids_key an_if KEY_FOR refl)
          (avoids_key an_if KEY_SWITCH refl) (avoids_key an_if KEY_BREAK refl) (avoids_key an_if KEY_CONTINUE refl) (avoids_key an_if KEY_GOTO refl) (avoids_key an_if KEY_RETURN refl)

      brace_if : (x : OpenStmtKind) → IsStmtKind kind_of m (IsFormedStmt kind_of m) x → IsIfKind x → NoneBegins kind_of bytes_of a_left_brace (stmt_kind_spelling (roll-StmtKind x))
      brace_if (s.StmtKind-F.Empty marks) g i = absurd i
      brace_if (s.StmtKind-F.Value e marks) g i = absurd i
      brace_if (s.StmtKind-F.Braced b) g i = absurd i
      brace_if (s.StmtKind-F.If arms other marks) g i = subst (λ z. NoneBegins kind_of bytes_of a_left_brace (stmt_kind_spelling z)) (sym (kind.rolls-If arms other marks))
          (by_chain (λ bs o ms. NoneBegins kind_of bytes_of a_left_brace (stmt_kind_spelling (kind.If bs o ms)))
          (λ ss last tail. from_start a_left_brace (want.Key KEY_IF) _ (avoids_key a_left_brace KEY_IF refl) (if_begins kind_of bytes_of ss last tail)) arms other marks g.some g.fixed)
      brace_if (s.StmtKind-F.While e x marks) g i = absurd i
      brace_if (s.StmtKind-F.DoWhile x e marks) g i = absurd i
      brace_if (s.StmtKind-F.For a c t x marks) g i = absurd i
      brace_if (s.StmtKind-F.Switch e x marks) g i = absurd i
      brace_if (s.StmtKind-F.Break marks) g i = absurd i
      brace_if (s.StmtKind-F.Continue marks) g i = absurd i
      brace_if (s.StmtKind-F.Goto x marks) g i = absurd i
      brace_if (s.StmtKind-F.Return e marks) g i = absurd i

      rolled : (set : List ℕ) (x : StmtKind) → NoneBegins kind_of bytes_of set (stmt_kind_spelling (roll-StmtKind (out-StmtKind x))) → NoneBegins kind_of bytes_of set (stmt_kind_spelling x)
      rolled set x h = subst (λ z. NoneBegins kind_of bytes_of set (stmt_kind_spelling z)) (roll-out-StmtKind x) h

      braced_kind : (x : StmtKind) (b : Block) → out-StmtKind x ≡ s.StmtKind-F.Braced b → x ≡ kind.Braced b
      braced_kind x b e = sym (roll-out-StmtKind x) ∙ (ap roll-StmtKind e ∙ kind.rolls-Braced b)

      braced_at : (labels : List Mark) (x : StmtKind) → Every (IsLabel kind_of m) labels → IsStmtKind kind_of m (IsFormedStmt kind_of m) (out-StmtKind x) →
          IsBraced kind_of bytes_of (stmt_of labels x) ⊎ NoneBegins kind_of bytes_of a_left_brace (stmt_spelling (stmt_of labels x))
      braced_at (y ∷ labels) x g h = inr (brace_labels (y ∷ labels) x g (λ e. absurd (let f : y ∷ labels ≡ [] = e in cc)))
      braced_at [] x g h = of (other_or (out-StmtKind x))
        where
          of : IsOther (out-StmtKind x) ⊎ (((b : Block) × (out-StmtKind x ≡ s.StmtKind-F.Braced b)) ⊎ IsIfKind (out-StmtKind x)) →
              IsBraced kind_of bytes_of (stmt_of [] x) ⊎ NoneBegins kind_of bytes_of a_left_brace (stmt_spelling (stmt_of [] x))
          of (inl o) = inr (brace_labels [] x tt (λ e. rolled a_left_brace x (brace_other (out-StmtKind x) h o)))
          of (inr (inl b)) = inl (b.0, ap (stmt_of []) (braced_kind x b.0 b.1))
          of (inr (inr i)) = inr (brace_labels [] x tt (λ e. rolled a_left_brace x (brace_if (out-StmtKind x) h i)))

      braced_if : (b : Block) (x : OpenStmtKind) → x ≡ s.StmtKind-F.Braced b → NoneBegins kind_of bytes_of an_if (stmt_kind_spelling (kind.Braced b)) → NoneBegins kind_of bytes_of an_if (stmt_kind_spelling (roll-StmtKind x))
      braced_if b x e h = subst (λ z. NoneBegins kind_of bytes_of an_if (stmt_kind_spelling z)) (sym (ap roll-StmtKind e ∙ kind.rolls-Braced b)) h

      block_none : (b : Block) → length b.marks ≡ 2 → NoneBegins kind_of bytes_of an_if (stmt_kind_spelling (kind.Braced b))
      block_none b h = subst (NoneBegins kind_of bytes_of an_if) (sym (spell.stmt_kind_braced_spelling_lem b ∙ spell.block_spelling_lem b))
          (by_two (λ z. NoneBegins kind_of bytes_of an_if (block_level (record { items = map block_item_spelling b.items; marks = z })))
          (λ l r. none_token an_if l (want.Mark MARK_LEFT_BRACE) _ (avoids_kind an_if (k.Mark MARK_LEFT_BRACE) (λ t bytes. refl))) b.marks h)

      no_if_at : (labels : List Mark) (x : StmtKind) → Every (IsLabel kind_of m) labels → IsStmtKind kind_of m (IsFormedStmt kind_of m) (out-StmtKind x) → (IsIf (stmt_of labels x) → ⊥) →
          NoneBegins kind_of bytes_of an_if (stmt_spelling (stmt_of labels x))
      no_if_at labels x g h n = if_labels labels x g (λ e. rolled an_if x (of e (other_or (out-StmtKind x))))
        where
          of : labels ≡ [] → IsOther (out-StmtKind x) ⊎ (((b : Block) × (out-StmtKind x ≡ s.StmtKind-F.Braced b)) ⊎ IsIfKind (out-StmtKind x)) → NoneBegins kind_of bytes_of an_if (stmt_kind_spelling (roll-StmtKind (out-StmtKind x)))
          of e (inl o) = if_other (out-StmtKind x) h o
          of e (inr (inl b)) = braced_if b.0 (out-StmtKind x) b.1 (block_none b.0 (subst (IsStmtKind kind_of m (IsFormedStmt kind_of m)) b.1 h).marks)
          of e (inr (inr i)) = absurd (n (e, i))

    pub braced_or : (depth : ℕ) (x : Stmt) → IsFormedStmt kind_of depth x → IsBraced kind_of bytes_of x ⊎ NoneBegins kind_of bytes_of a_left_brace (stmt_spelling x)
    unfolding IsFormedStmt
    braced_or zero x g = absurd g
    braced_or (suc m) x g = braced_at m x.labels x.kind (every_of (IsLabel kind_of m) x.labels g.labels) g.kind

    pub begins_no_if : (depth : ℕ) (x : Stmt) → IsFormedStmt kind_of depth x → (IsIf x → ⊥) → NoneBegins kind_of bytes_of an_if (stmt_spelling x)
    unfolding IsFormedStmt
    begins_no_if zero x g n = absurd g
    begins_no_if (suc m) x g n = no_if_at m x.labels x.kind (every_of (IsLabel kind_of m) x.labels g.labels) g.kind n
