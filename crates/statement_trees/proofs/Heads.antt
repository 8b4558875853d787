-- No expression begins with `{` or `if`.

use Rattle.std.proofs.Common.{◌≡◌, ◌⊎◌, inl, inr, ℕ, zero, suc, ◌+◌, Bool, true, false, List, [], ◌∷◌, ◌++◌, Option, map, length, refl, sym, ap, ◌∙◌, subst, arith}
use Rattle.std.specs.List.{Contains}
use Rattle.c_lexer.specs.declared.token.Kind.{Kind}
use Rattle.c_lexer.specs.declared.token.Kind.TheVariants as k
use Rattle.c_lexer.specs.declared.keyword.TheConstants.{KEY_IF, KEY_SIZEOF, KEY_ALIGNOF}
use Rattle.c_lexer.specs.declared.mark.TheConstants.{MARK_LEFT_BRACE, MARK_LEFT_PAREN}
use Rattle.c_tree.specs.declared.symbol.Want.TheVariants as want
use Rattle.c_tree.specs.declared.symbol.Slot.TheVariants as slot
use Rattle.c_tree.specs.declared.tree.Expr.{Expr, out-Expr}
use Rattle.c_tree.specs.declared.tree.Assign.{Assign, out-Assign}
use Rattle.c_tree.specs.declared.tree.Cond.{Cond, out-Cond}
use Rattle.c_tree.specs.declared.tree.Arm.{Arm, out-Arm}
use Rattle.c_tree.specs.declared.tree.Binary.{Binary, out-Binary}
use Rattle.c_tree.specs.declared.tree.Prefixed.{Prefixed}
use Rattle.c_tree.specs.declared.tree.Prefix.{Prefix, roll-Prefix, out-Prefix, roll-out-Prefix}
use Rattle.c_tree.specs.declared.tree.Prefix.TheVariants as prefix
use Rattle.c_tree.specs.declared.tree.BaseForm.{roll-BaseForm, out-BaseForm, roll-out-BaseForm}
use Rattle.c_tree.specs.declared.tree.BaseForm.TheOpen as o
use Rattle.c_tree.specs.declared.tree.BaseForm.TheVariants as form
use Rattle.c_tree.specs.Folds.{OpenPrefix, OpenBaseForm}
use Rattle.c_tree.specs.Fits.{Fits, prefix_operators}
use Rattle.c_tree.specs.declared.symbol.Want.{Want}
use Rattle.c_tree.specs.Shape.{Inner}
use Rattle.c_tree.specs.Spell.{Symbols, all_wanted, joined, separated, no_end, expr_spelling, assign_spelling, cond_spelling, arm_spelling, binary_spelling, prefixed_spelling, prefix_spelling, base_form_spelling, target_spelling}
use Rattle.c_tree.specs.Depths.{inner_to, IsFormedExpr}
use Rattle.c_tree.specs.Expressions.{IsAssign, IsCond, IsArm, IsBinary, IsPrefixed, IsPrefix, IsBaseForm, IsTarget}
use Rattle.c_tree.proofs.Spellings as spell
use Rattle.c_stmt.specs.StatementSets.{a_left_brace, an_if}
use Rattle.expression_trees.proofs.Lists.{Every, every_of, by_two}
use Rattle.expression_trees.proofs.Tokens.{mark_is, key_is, contains_cases, contains_none}
use Rattle.statement_trees.proofs.BackRules.{NoneBegins}
use Rattle.statement_trees.proofs.First.{Avoids, none_token, none_then}

not_true : (b : Bool) → (b ≡ true → ⊥) → b ≡ false
not_true true h = absurd (h refl)
not_true false h = refl

not_in : (x : ℕ) (list : List ℕ) → Every (λ (y : ℕ). y ≡ x → ⊥) list → Contains list x → ⊥
not_in x [] g h = contains_none x h
not_in x (y ∷ list) g h = of (not_in x list g.1) (contains_cases y x list h)
  where
    of : (Contains list x → ⊥) → (y ≡ x) ⊎ Contains list x → ⊥
    of go (inl e) = g.0 e
    of go (inr c) = go c

module _ (kind_of : ℕ → Option Kind) (bytes_of : ℕ → List ℕ) (set : List ℕ) (word : Avoids set want.Word) (text : Avoids set want.Text) (literal : Avoids set (want.Among slot.Literal))
    (operator : Avoids set (want.Among slot.PrefixOp)) (size : Avoids set (want.Among slot.SizeKey)) (paren : Avoids set (want.Mark MARK_LEFT_PAREN)) where
  abbrev None_ : Symbols → Type 0
  None_ x = NoneBegins kind_of bytes_of set x

  module _ (inner : Inner) where
    form_none : (x : OpenBaseForm) → IsBaseForm kind_of inner x → None_ (base_form_spelling (roll-BaseForm x))
    form_none (o.BaseForm-F.BaseForm::Name n) g = subst None_ (sym (ap base_form_spelling (form.rolls-Name n) ∙ spell.base_form_name_spelling_lem n)) (none_token kind_of bytes_of set n want.Word [] word)
    form_none (o.BaseForm-F.Literal []) g = absurd (g refl)
    form_none (o.BaseForm-F.Literal (n ∷ [])) g = subst None_ (sym (ap base_form_spelling (form.rolls-Literal (n ∷ [])) ∙ spell.base_form_literal_spelling_lem (n ∷ []))) (none_token kind_of bytes_of set n (want.Among slot.Literal) [] literal)
    form_none (o.BaseForm-F.Literal (n ∷ p ∷ ns)) g = subst None_ (sym (ap base_form_spelling (form.rolls-Literal (n ∷ p ∷ ns)) ∙ spell.base_form_literal_spelling_lem (n ∷ p ∷ ns))) (none_token kind_of bytes_of set n want.Text (all_wanted want.Text (p ∷ ns)) text)
    form_none (o.BaseForm-F.BaseForm::Group e marks) g = subst (λ z. None_ (base_form_spelling z)) (sym (form.rolls-Group e marks))
        (by_two (λ z. None_ (base_form_spelling (form.Group e z))) (λ l r. subst None_ (sym (spell.base_form_group_spelling_lem e (l ∷ r ∷ []))) (none_token kind_of bytes_of set l (want.Mark MARK_LEFT_PAREN) _ paren)) marks g.1)
    form_none (o.BaseForm-F.Compound t items []) g = absurd (of g.2.count)
      where
        of : (0 ≡ 1 + length items) ⊎ (0 ≡ 2 + length items) → ⊥
        of (inl e) = omega (arith, e)
        of (inr e) = omega (arith, e)
    form_none (o.BaseForm-F.Compound t items (l ∷ marks)) g = subst None_ (sym (ap base_form_spelling (form.rolls-Compound t items (l ∷ marks)) ∙ spell.base_form_compound_spelling_lem t items (l ∷ marks))) (none_token kind_of bytes_of set l (want.Mark MARK_LEFT_PAREN) _ paren)
    form_none (o.BaseForm-F.SizeType n t marks) g = subst None_ (sym (ap base_form_spelling (form.rolls-SizeType n t marks) ∙ spell.base_form_size_type_spelling_lem n t marks)) (none_token kind_of bytes_of set n (want.Among slot.SizeKey) _ size)

    prefix_none : (x : OpenPrefix) → IsPrefix kind_of inner x → None_ (prefix_spelling (roll-Prefix x))
    prefix_none (o.Prefix-F.Op n) g = subst None_ (sym (ap prefix_spelling (prefix.rolls-Op n) ∙ spell.prefix_op_spelling_lem n)) (none_token kind_of bytes_of set n (want.Among slot.PrefixOp) [] operator)
    prefix_none (o.Prefix-F.Cast t marks) g = subst (λ z. None_ (prefix_spelling z)) (sym (prefix.rolls-Cast t marks))
        (by_two (λ z. None_ (prefix_spelling (prefix.Cast t z))) (λ l r. subst None_ (sym (spell.prefix_cast_spelling_lem t (l ∷ r ∷ []))) (none_token kind_of bytes_of set l (want.Mark MARK_LEFT_PAREN) _ paren)) marks g.1)

    prefixes_none : (ps : List Prefix) (rest : Symbols) → Every (λ (p : Prefix). IsPrefix kind_of inner (out-Prefix p)) ps → None_ rest → None_ (joined (map prefix_spelling ps) ++ rest)
    prefixes_none [] rest g h = h
    prefixes_none (p ∷ ps) rest g h = none_then kind_of bytes_of set (joined (map prefix_spelling (p ∷ ps))) rest
        (none_then kind_of bytes_of set (prefix_spelling p) (joined (map prefix_spelling ps)) (subst (λ z. None_ (prefix_spelling z)) (roll-out-Prefix p) (prefix_none (out-Prefix p) g.0)))

    prefixed_none : (p : Prefixed) → IsPrefixed kind_of inner p → None_ (prefixed_spelling p)
    prefixed_none p g = subst None_ (sym (spell.prefixed_spelling_lem p ∙ ap (λ (z : Symbols). joined (map prefix_spelling p.prefixes) ++ z) (spell.base_spelling_lem p.base)))
        (prefixes_none p.prefixes _ (every_of (λ (q : Prefix). IsPrefix kind_of inner (out-Prefix q)) p.prefixes g.prefixes)
        (none_then kind_of bytes_of set (base_form_spelling p.base.form) _ (subst (λ z. None_ (base_form_spelling z)) (roll-out-BaseForm p.base.form) (form_none (out-BaseForm p.base.form) g.base.form))))

    binary_none : (b : Binary) → IsBinary kind_of inner b → None_ (binary_spelling b)
    binary_none b g = subst None_ (sym (spell.binary_spelling_lem b)) (none_then kind_of bytes_of set (prefixed_spelling (out-Binary b).first) _ (prefixed_none (out-Binary b).first g.first))

    arm_none : (a : Arm) → IsArm kind_of inner a → None_ (arm_spelling a)
    arm_none a g = subst None_ (sym (spell.arm_spelling_lem a)) (none_then kind_of bytes_of set (binary_spelling (out-Arm a).test) _ (binary_none (out-Arm a).test g.test))

    arms_none : (xs : List Arm) (rest : Symbols) → Every (IsArm kind_of inner) xs → None_ rest → None_ (joined (map arm_spelling xs) ++ rest)
    arms_none [] rest g h = h
    arms_none (a ∷ xs) rest g h = none_then kind_of bytes_of set (joined (map arm_spelling (a ∷ xs))) rest (none_then kind_of bytes_of set (arm_spelling a) (joined (map arm_spelling xs)) (arm_none a g.0))

    cond_none : (c : Cond) → IsCond kind_of inner c → None_ (cond_spelling c)
    cond_none c g = subst None_ (sym (spell.cond_spelling_lem c)) (arms_none (out-Cond c).arms _ (every_of (IsArm kind_of inner) (out-Cond c).arms g.arms) (binary_none (out-Cond c).last g.last))

    targets_none : (ts : List (Prefixed × ℕ)) (rest : Symbols) → Every (IsTarget kind_of inner) ts → None_ rest → None_ (joined (map target_spelling ts) ++ rest)
    targets_none [] rest g h = h
    targets_none (t ∷ ts) rest g h = none_then kind_of bytes_of set (joined (map target_spelling (t ∷ ts))) rest (none_then kind_of bytes_of set (target_spelling t) (joined (map target_spelling ts))
        (none_then kind_of bytes_of set (prefixed_spelling t.0) _ (prefixed_none t.0 g.0.prefixed)))

    assign_none : (a : Assign) → IsAssign kind_of inner a → None_ (assign_spelling a)
    assign_none a g = subst None_ (sym (spell.assign_spelling_lem a)) (targets_none (out-Assign a).targets _ (every_of (IsTarget kind_of inner) (out-Assign a).targets g.targets) (cond_none (out-Assign a).value g.value))

  parts_none : (P : Assign → Type 0) → ((a : Assign) → P a → None_ (assign_spelling a)) → (ps : List Assign) (ms : List ℕ) → length ps ≡ 1 + length ms → Every P ps → None_ (separated no_end (map assign_spelling ps) ms)
  parts_none P h [] ms e g = absurd (omega (arith, e))
  parts_none P h (p ∷ ps) ms e g = none_then kind_of bytes_of set (assign_spelling p) _ (h p g.0)

  assign_at : (depth : ℕ) (a : Assign) → (inner_to kind_of depth).IsAssign a → None_ (assign_spelling a)
  unfolding inner_to
  assign_at zero a g = absurd g
  assign_at (suc depth) a g = assign_none (inner_to kind_of depth) a g

  expr_none : (depth : ℕ) (e : Expr) → IsFormedExpr kind_of depth e → None_ (expr_spelling e)
  expr_none depth e g = subst None_ (sym (spell.expr_spelling_lem e))
      (parts_none (inner_to kind_of depth).IsAssign (assign_at depth) (out-Expr e).parts (out-Expr e).marks g.commas (every_of (inner_to kind_of depth).IsAssign (out-Expr e).parts g.parts))

-- ---- The two sets

abbrev IsNot : Kind → Want → Type 0
IsNot other wanted = (kind : Kind) → Fits wanted kind → kind ≡ other → ⊥

no_brace : (wanted : Want) → IsNot (k.Mark MARK_LEFT_BRACE) wanted → Avoids a_left_brace wanted
no_brace wanted h t kind bytes f = not_true _ (λ e. h kind f (mark_is MARK_LEFT_BRACE t kind bytes e))

no_if : (wanted : Want) → IsNot (k.Key KEY_IF) wanted → Avoids an_if wanted
no_if wanted h t kind bytes f = not_true _ (λ e. h kind f (key_is KEY_IF t kind bytes e))

word_no : IsNot (k.Mark MARK_LEFT_BRACE) want.Word
word_no kind f e = absurd (let g : k.Word ≡ k.Mark MARK_LEFT_BRACE = sym f ∙ e in cc)

text_no : IsNot (k.Mark MARK_LEFT_BRACE) want.Text
text_no kind f e = absurd (let g : k.Text ≡ k.Mark MARK_LEFT_BRACE = sym f ∙ e in cc)

literal_no : IsNot (k.Mark MARK_LEFT_BRACE) (want.Among slot.Literal)
literal_no kind (inl f) e = absurd (let g : k.Number ≡ k.Mark MARK_LEFT_BRACE = sym f ∙ e in cc)
literal_no kind (inr (inl f)) e = absurd (let g : k.Char ≡ k.Mark MARK_LEFT_BRACE = sym f ∙ e in cc)
literal_no kind (inr (inr f)) e = absurd (let g : k.Text ≡ k.Mark MARK_LEFT_BRACE = sym f ∙ e in cc)

one_number : (a b : ℕ) → k.Mark a ≡ k.Mark b → a ≡ b
one_number a b e = cc

one_keyword : (a b : ℕ) → k.Key a ≡ k.Key b → a ≡ b
one_keyword a b e = cc

no_prefix_brace : Contains prefix_operators MARK_LEFT_BRACE → ⊥
no_prefix_brace = not_in MARK_LEFT_BRACE prefix_operators ((λ e. omega (arith, e)), ((λ e. omega (arith, e)), ((λ e. omega (arith, e)), ((λ e. omega (arith, e)), ((λ e. omega (arith, e)), ((λ e. omega (arith, e)), ((λ e. omega (arith, e)), ((λ e. omega (arith, e)), tt))))))))

operator_no : IsNot (k.Mark MARK_LEFT_BRACE) (want.Among slot.PrefixOp)
operator_no kind (inl f) e = no_prefix_brace (subst (Contains prefix_operators) (one_number f.0 MARK_LEFT_BRACE (sym f.2 ∙ e)) f.1)
operator_no kind (inr f) e = absurd (let g : k.Key KEY_SIZEOF ≡ k.Mark MARK_LEFT_BRACE = sym f ∙ e in cc)

size_no : IsNot (k.Mark MARK_LEFT_BRACE) (want.Among slot.SizeKey)
size_no kind f e = absurd (let g : k.Key f.0 ≡ k.Mark MARK_LEFT_BRACE = sym f.2 ∙ e in cc)

paren_no : IsNot (k.Mark MARK_LEFT_BRACE) (want.Mark MARK_LEFT_PAREN)
paren_no kind f e = omega (arith, one_number MARK_LEFT_PAREN MARK_LEFT_BRACE (sym f ∙ e))

word_nor : IsNot (k.Key KEY_IF) want.Word
word_nor kind f e = absurd (let g : k.Word ≡ k.Key KEY_IF = sym f ∙ e in cc)

text_nor : IsNot (k.Key KEY_IF) want.Text
text_nor kind f e = absurd (let g : k.Text ≡ k.Key KEY_IF = sym f ∙ e in cc)

literal_nor : IsNot (k.Key KEY_IF) (want.Among slot.Literal)
literal_nor kind (inl f) e = absurd (let g : k.Number ≡ k.Key KEY_IF = sym f ∙ e in cc)
literal_nor kind (inr (inl f)) e = absurd (let g : k.Char ≡ k.Key KEY_IF = sym f ∙ e in cc)
literal_nor kind (inr (inr f)) e = absurd (let g : k.Text ≡ k.Key KEY_IF = sym f ∙ e in cc)

operator_nor : IsNot (k.Key KEY_IF) (want.Among slot.PrefixOp)
operator_nor kind (inl f) e = absurd (let g : k.Mark f.0 ≡ k.Key KEY_IF = sym f.2 ∙ e in cc)
operator_nor kind (inr f) e = omega (arith, one_keyword KEY_SIZEOF KEY_IF (sym f ∙ e))

no_size_if : Contains (KEY_SIZEOF ∷ KEY_ALIGNOF ∷ []) KEY_IF → ⊥
no_size_if = not_in KEY_IF (KEY_SIZEOF ∷ KEY_ALIGNOF ∷ []) ((λ e. omega (arith, e)), ((λ e. omega (arith, e)), tt))

size_nor : IsNot (k.Key KEY_IF) (want.Among slot.SizeKey)
size_nor kind f e = no_size_if (subst (Contains (KEY_SIZEOF ∷ KEY_ALIGNOF ∷ [])) (one_keyword f.0 KEY_IF (sym f.2 ∙ e)) f.1)

paren_nor : IsNot (k.Key KEY_IF) (want.Mark MARK_LEFT_PAREN)
paren_nor kind f e = absurd (let g : k.Mark MARK_LEFT_PAREN ≡ k.Key KEY_IF = sym f ∙ e in cc)

module _ (kind_of : ℕ → Option Kind) (bytes_of : ℕ → List ℕ) where
  pub expr_no_brace : (depth : ℕ) (e : Expr) → IsFormedExpr kind_of depth e → NoneBegins kind_of bytes_of a_left_brace (expr_spelling e)
  expr_no_brace = expr_none kind_of bytes_of a_left_brace (no_brace want.Word word_no) (no_brace want.Text text_no) (no_brace (want.Among slot.Literal) literal_no) (no_brace (want.Among slot.PrefixOp) operator_no)
      (no_brace (want.Among slot.SizeKey) size_no) (no_brace (want.Mark MARK_LEFT_PAREN) paren_no)

  pub expr_no_if : (depth : ℕ) (e : Expr) → IsFormedExpr kind_of depth e → NoneBegins kind_of bytes_of an_if (expr_spelling e)
  expr_no_if = expr_none kind_of bytes_of an_if (no_if want.Word word_nor) (no_if want.Text text_nor) (no_if (want.Among slot.Literal) literal_nor) (no_if (want.Among slot.PrefixOp) operator_nor)
      (no_if (want.Among slot.SizeKey) size_nor) (no_if (want.Mark MARK_LEFT_PAREN) paren_nor)
