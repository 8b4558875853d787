-- Well-formed trees are words of the rules of expressions: what fits the symbols of a tree and meets
-- its names rightly is one. One lemma a rule.

use Rattle.std.proofs.Common.{◌≡◌, ◌≢◌, ◌⊎◌, inl, inr, ℕ, zero, suc, ◌+◌, ◌<◌, Bool, true, false, List, [], ◌∷◌, ◌++◌, Option, Some, length, map, drop, refl, sym, ap, ◌∙◌, subst, append_assoc, append-nil, arith}
use Rattle.std.specs.Prelude.{All, Contains}
use Rattle.c_lexer.specs.declared.token.Kind.{Kind}
use Rattle.c_lexer.specs.declared.token.Kind.TheVariants as k
use Rattle.c_lexer.specs.declared.keyword.TheConstants.{KEY_SIZEOF, KEY_ALIGNOF}
use Rattle.c_lexer.specs.declared.mark.TheConstants.{MARK_LEFT_BRACKET, MARK_RIGHT_BRACKET}
use Rattle.c_lexer.specs.declared.mark.TheConstants.{MARK_LEFT_PAREN, MARK_RIGHT_PAREN}
use Rattle.c_lexer.specs.declared.mark.TheConstants.{MARK_LEFT_BRACE, MARK_RIGHT_BRACE}
use Rattle.c_lexer.specs.declared.mark.TheConstants.{MARK_DOT, MARK_ARROW, MARK_COMMA}
use Rattle.c_lexer.specs.declared.mark.TheConstants.{MARK_QUESTION, MARK_COLON, MARK_PLUS_PLUS, MARK_MINUS_MINUS}
use Rattle.c_tree.specs.declared.symbol.Want.{Want}
use Rattle.c_tree.specs.declared.symbol.Want.TheVariants as want
use Rattle.c_tree.specs.declared.symbol.Slot.TheVariants as slot
use Rattle.c_tree.specs.declared.tree.TypeName.{TypeName}
use Rattle.c_tree.specs.declared.tree.InitItem.{InitItem}
use Rattle.c_tree.specs.declared.tree.Expr.{Expr, roll-Expr, out-Expr, roll-out-Expr}
use Rattle.c_tree.specs.declared.tree.Assign.{Assign, roll-Assign, out-Assign, roll-out-Assign}
use Rattle.c_tree.specs.declared.tree.Cond.{Cond, roll-Cond, out-Cond, roll-out-Cond}
use Rattle.c_tree.specs.declared.tree.Arm.{Arm, roll-Arm, out-Arm, roll-out-Arm}
use Rattle.c_tree.specs.declared.tree.Binary.{Binary, roll-Binary, out-Binary, roll-out-Binary}
use Rattle.c_tree.specs.declared.tree.Prefixed.{Prefixed}
use Rattle.c_tree.specs.declared.tree.Prefix.{Prefix, out-Prefix, roll-Prefix, roll-out-Prefix}
use Rattle.c_tree.specs.declared.tree.Prefix.TheVariants as prefix
use Rattle.c_tree.specs.declared.tree.BaseForm.{BaseForm, roll-BaseForm, out-BaseForm, roll-out-BaseForm}
use Rattle.c_tree.specs.declared.tree.BaseForm.TheOpen as o
use Rattle.c_tree.specs.declared.tree.BaseForm.TheVariants as form
use Rattle.c_tree.specs.declared.tree.Post.{Post, roll-Post, out-Post, roll-out-Post}
use Rattle.c_tree.specs.declared.tree.Post.TheVariants as post
use Rattle.c_tree.specs.Folds.{OpenPrefix, OpenBaseForm, OpenPost}
use Rattle.c_tree.specs.Fits.{Fits, IsMarkAmong, steps}
use Rattle.c_tree.specs.Shape.{Inner as Contents, HasMarks, HasBraces, bracketed}
use Rattle.c_tree.specs.Expressions.{IsExpr, IsArguments, IsPost, IsBaseForm, IsPrefix, IsPrefixed, IsBase, IsBinary, IsArm, IsCond, IsAssign, IsTarget, IsCast, IsSizeOfType, TakesUnary, AreLinked}
use Rattle.reading.specs.declared.turn.Turn.{Turn}
use Rattle.reading.specs.declared.turn.Turn.TheVariants.{Again, Done}
use Rattle.reading.specs.Rules.{pure, many, repeat}
use Rattle.reading.specs.Terminals.{has}
use Rattle.reading.proofs.Sets.{never}
use Rattle.c_reading.specs.Terminals.{TEXT, mark, key, terminal_where}
use Rattle.c_syntax.specs.declared.forms.Parts.{Parts}
use Rattle.c_syntax.specs.declared.forms.Items.{Items}
use Rattle.c_syntax.specs.declared.forms.Arms.{Arms}
use Rattle.c_syntax.specs.declared.forms.Begun.{Begun}
use Rattle.c_syntax.specs.declared.forms.Mode.{Mode}
use Rattle.c_syntax.specs.declared.forms.Mode.TheVariants.{Cast, Literal, Size}
use Rattle.c_syntax.specs.declared.forms.Chain.{Chain}
use Rattle.c_syntax.specs.declared.forms.Found.{Found}
use Rattle.c_syntax.specs.declared.forms.Found.TheVariants.{Operand, Sized}
use Rattle.c_syntax.specs.Scoping.{Part}
use Rattle.c_syntax.specs.Sets.{a_unary, a_step, a_constant, unary_operators}
use Rattle.c_syntax.specs.Forms.{one_part, with_part, expr_of, call_of, one_item, with_item, with_mark, compound_of, flushed, chain_start, with_op, with_size, with_cast, prefixed_of, is_target, is_operator, no_cast_first, begun_of, binary_of, arms_start, with_arm, assign_of}
use Rattle.c_syntax.specs.Inner.{Inner}
use Rattle.c_syntax.specs.ExpressionRules as lang
use Rattle.expression_trees.specs.Saying.{Said, ◌and◌, token, uses}
use Rattle.expression_trees.specs.Trees.{of_expr, of_assign, of_arm, of_binary, of_prefixed, of_target, of_operand, of_prefix, of_base_form, of_post, of_type_name, of_item}
use Rattle.expression_trees.proofs.FormsSay as law
use Rattle.expression_trees.proofs.FormsSay.{texts, each, pairs, values, commas, brace_ends, arm_of}
use Rattle.expression_trees.proofs.Lists.{Every, every_of, by_none, by_one, by_two, by_pairs}
use Rattle.expression_trees.proofs.Front.{Open}
use Rattle.expression_trees.proofs.Back.{Back, Spins, Hears, back_pure, back_then, back_token, back_left, back_right, back_same, back_look, back_loop, spins_same, spins_look, many_stop, many_step, repeat_again, repeat_done}
use Rattle.expression_trees.proofs.Tokens.{Seen, seen, hears_known, hears_mark, hears_key, hears_step, hears_binary, hears_assignment, hears_text, hears_any, hears_name, among_marks, is_key, contains_cases, contains_here, contains_later, contains_none}

same_lists : {A B C : Type 0} (f : A → B → C) {a b : A} {c d : B} → a ≡ b → c ≡ d → f a c ≡ f b d
same_lists f {b = b} {c = c} p q = ap (λ x. f x c) p ∙ ap (f b) q

-- What is found where a form stands behind prefixes.
abbrev found : OpenBaseForm → List Prefix → BaseForm → Found
found (o.BaseForm-F.BaseForm::Name n) ps f = Operand ps f
found (o.BaseForm-F.Literal ns) ps f = Operand ps f
found (o.BaseForm-F.BaseForm::Group e ms) ps f = Operand ps f
found (o.BaseForm-F.Compound t items ms) ps f = Operand ps f
found (o.BaseForm-F.SizeType key t ms) ps f = Sized ps f

-- No cast stands first.
abbrev NoCast : List Prefix → Type 0
NoCast [] = Prim.Unit {0}
NoCast (p ∷ ps) = ¬ IsCast (out-Prefix p)

abbrev Allowed : Mode → List Prefix → Type 0
Allowed Cast ps = Prim.Unit {0}
Allowed Literal ps = NoCast ps
Allowed (Size n) ps = NoCast ps

module _ (kind_of : ℕ → Option Kind) (bytes_of : ℕ → List ℕ) where
  module _ (level : ℕ) where
    more_texts_back : (done ns : List ℕ) → Spins kind_of bytes_of (λ m e. many m (lang.one_more_text e level) done) (done ++ ns) (texts ns)
    unfolding lang.one_more_text
    more_texts_back done [] = spins_same kind_of bytes_of (sym (append-nil done)) (λ k. refl) (many_stop kind_of bytes_of (λ e. lang.one_more_text e level) done)
    more_texts_back done (n ∷ ns) = spins_same kind_of bytes_of (append_assoc done (n ∷ []) ns) (λ k. refl)
        (many_step kind_of bytes_of (λ e. lang.one_more_text e level) (back_token kind_of bytes_of (hears_text kind_of bytes_of n) (back_pure kind_of bytes_of (done ++ n ∷ []))) (more_texts_back (done ++ n ∷ []) ns))

    texts_back : (done ns : List ℕ) → Back kind_of bytes_of (λ d. lang.more_texts d level done) (done ++ ns) (texts ns)
    unfolding lang.more_texts
    texts_back done ns = back_loop kind_of bytes_of (more_texts_back done ns)

  module _ (inner : Contents) where
    module _ (level : ℕ) (X : ℕ → Part Assign) (bi : (a : Assign) → inner.IsAssign a → Back kind_of bytes_of X a (λ k. of_assign kind_of bytes_of a and k)) where
      part_back : (p : Parts) (m : ℕ) (a : Assign) → inner.IsAssign a → Back kind_of bytes_of (λ d. lang.more_parts d level (X d) p) (with_part p m a) (λ k. token m (want.Mark MARK_COMMA) (of_assign kind_of bytes_of a and k))
      unfolding lang.more_parts
      part_back p m a g = back_token kind_of bytes_of (hears_mark kind_of bytes_of MARK_COMMA m) (back_then kind_of bytes_of (bi a g) (back_pure kind_of bytes_of (with_part p m a)))

      abbrev parts_of : List Assign → List ℕ → Parts
      parts_of parts marks = record { parts = parts; marks = marks }

      pairs_back : (parts : List Assign) (marks : List ℕ) (ps : List (ℕ × Assign)) → Every inner.IsAssign (values ps) →
          Spins kind_of bytes_of (λ m e. many m (lang.more_parts e level (X e)) (parts_of parts marks)) (parts_of (parts ++ values ps) (marks ++ commas ps)) (pairs (of_assign kind_of bytes_of) ps)
      pairs_back parts marks [] g = spins_same kind_of bytes_of (same_lists parts_of (sym (append-nil parts)) (sym (append-nil marks))) (λ k. refl)
          (many_stop kind_of bytes_of (λ e. lang.more_parts e level (X e)) (parts_of parts marks))
      pairs_back parts marks (p ∷ ps) g = spins_same kind_of bytes_of (same_lists parts_of (append_assoc parts (p.1 ∷ []) (values ps)) (append_assoc marks (p.0 ∷ []) (commas ps))) (λ k. refl)
          (many_step kind_of bytes_of (λ e. lang.more_parts e level (X e)) (part_back (parts_of parts marks) p.0 p.1 g.0) (pairs_back (parts ++ p.1 ∷ []) (marks ++ p.0 ∷ []) ps g.1))

      parts_back : (marks : List ℕ) (a : Assign) (ps : List (ℕ × Assign)) → inner.IsAssign a → Every inner.IsAssign (values ps) →
          Back kind_of bytes_of (λ d. lang.parts d level (X d) marks) (parts_of (a ∷ values ps) (marks ++ commas ps)) (λ k. of_assign kind_of bytes_of a and pairs (of_assign kind_of bytes_of) ps k)
      unfolding lang.parts lang.all_parts
      parts_back marks a ps g h = back_then kind_of bytes_of (bi a g) (back_loop kind_of bytes_of (pairs_back (a ∷ []) marks ps h))

      abbrev Exprs : List Assign → List ℕ → Type 0
      Exprs parts marks = Back kind_of bytes_of (λ d. lang.inner_expr d level (X d)) (roll-Expr (record { parts = parts; marks = marks })) (λ k. of_expr kind_of bytes_of (roll-Expr (record { parts = parts; marks = marks })) and k)

      expr_back_pairs : (a : Assign) (ps : List (ℕ × Assign)) → inner.IsAssign a → Every inner.IsAssign (values ps) → Exprs (a ∷ values ps) (commas ps)
      unfolding lang.inner_expr
      expr_back_pairs a ps g h = back_same kind_of bytes_of refl (law.expr_before kind_of bytes_of a ps)
          (back_then kind_of bytes_of (parts_back [] a ps g h) (back_pure kind_of bytes_of (expr_of (parts_of (a ∷ values ps) (commas ps)))))

      expr_back_at : (parts : List Assign) (marks : List ℕ) → Every inner.IsAssign parts → length parts ≡ 1 + length marks → Exprs parts marks
      expr_back_at [] marks g e = absurd (omega arith)
      expr_back_at (a ∷ parts) marks g e = by_pairs inner.IsAssign 0 (λ more ms. Exprs (a ∷ more) ms)
          (λ ps rs n h. by_none (λ z. Exprs (a ∷ values ps) (commas ps ++ z)) (subst (Exprs (a ∷ values ps)) (sym (append-nil (commas ps))) (expr_back_pairs a ps g.0 h)) rs n) parts marks (omega arith) g.1

      pub expr_back : (e : Expr) → IsExpr kind_of inner e → Back kind_of bytes_of (λ d. lang.inner_expr d level (X d)) e (λ k. of_expr kind_of bytes_of e and k)
      expr_back e g = subst (λ (z : Expr). Back kind_of bytes_of (λ d. lang.inner_expr d level (X d)) z (λ k. of_expr kind_of bytes_of z and k)) (roll-out-Expr e)
          (expr_back_at (out-Expr e).parts (out-Expr e).marks (every_of inner.IsAssign (out-Expr e).parts g.parts) g.commas)

    -- What the contents of brackets are.
    pub record InnerBack (rules : ℕ → Inner) : Type 0 where
      pub assign : (a : Assign) → inner.IsAssign a → Back kind_of bytes_of (λ d. (rules d).assign) a (λ k. of_assign kind_of bytes_of a and k)
      pub type_name : (t : TypeName) → inner.IsTypeName t → Back kind_of bytes_of (λ d. (rules d).type_name) t (λ k. of_type_name kind_of bytes_of t and k)
      pub item : (i : InitItem) → inner.IsItem i → Back kind_of bytes_of (λ d. (rules d).item) i (λ k. of_item kind_of bytes_of i and k)

    module _ (level : ℕ) (rules : ℕ → Inner) (bi : InnerBack rules) where
      -- ---- Suffixes (6.5.2)

      inside : (e : Expr) → IsExpr kind_of inner e → Back kind_of bytes_of (λ d. lang.inner_expr d (suc level) ((rules d).assign)) e (λ k. of_expr kind_of bytes_of e and k)
      inside = expr_back (suc level) (λ d. (rules d).assign) bi.assign

      abbrev Suffixes : Post → Type 0
      Suffixes p = Back kind_of bytes_of (λ d. lang.suffix d level (rules d)) p (λ k. of_post kind_of bytes_of p and k)

      index_back : (e : Expr) (l r : ℕ) → IsExpr kind_of inner e → Suffixes (post.Index e (l ∷ r ∷ []))
      unfolding lang.suffix lang.index
      index_back e l r g = back_left kind_of bytes_of (back_same kind_of bytes_of refl (law.index_before kind_of bytes_of e l r)
          (back_token kind_of bytes_of (hears_mark kind_of bytes_of MARK_LEFT_BRACKET l) (back_then kind_of bytes_of (inside e g)
          (back_token kind_of bytes_of (hears_mark kind_of bytes_of MARK_RIGHT_BRACKET r) (back_pure kind_of bytes_of (post.Index e (l ∷ r ∷ [])))))))

      call_none_back : (l r : ℕ) → Suffixes (post.Call [] (l ∷ r ∷ []))
      unfolding lang.suffix lang.call lang.no_arguments
      call_none_back l r = back_right kind_of bytes_of (back_left kind_of bytes_of (back_same kind_of bytes_of refl (law.call_none_before kind_of bytes_of l r)
          (back_token kind_of bytes_of (hears_mark kind_of bytes_of MARK_LEFT_PAREN l) (back_left kind_of bytes_of
          (back_token kind_of bytes_of (hears_mark kind_of bytes_of MARK_RIGHT_PAREN r) (back_pure kind_of bytes_of (post.Call [] (l ∷ r ∷ []))))))))

      call_some_back : (a : Assign) (ps : List (ℕ × Assign)) (l r : ℕ) → inner.IsAssign a → Every inner.IsAssign (values ps) → Suffixes (post.Call (a ∷ values ps) (l ∷ (commas ps ++ r ∷ [])))
      unfolding lang.suffix lang.call lang.some_arguments
      call_some_back a ps l r g h = back_right kind_of bytes_of (back_left kind_of bytes_of (back_same kind_of bytes_of refl (law.call_some_before kind_of bytes_of a ps l r)
          (back_token kind_of bytes_of (hears_mark kind_of bytes_of MARK_LEFT_PAREN l) (back_right kind_of bytes_of
          (back_then kind_of bytes_of (parts_back (suc level) (λ d. (rules d).assign) bi.assign (l ∷ []) a ps g h)
          (back_token kind_of bytes_of (hears_mark kind_of bytes_of MARK_RIGHT_PAREN r) (back_pure kind_of bytes_of (call_of (record { parts = a ∷ values ps; marks = l ∷ commas ps }) r))))))))

      call_back : (arguments : List Assign) (marks : List ℕ) → Every inner.IsAssign arguments → length marks ≡ bracketed (length arguments) → Suffixes (post.Call arguments marks)
      call_back [] marks g e = by_two (λ ms. Suffixes (post.Call [] ms)) call_none_back marks e
      call_back (a ∷ more) [] g e = absurd (omega arith)
      call_back (a ∷ more) (l ∷ marks) g e = by_pairs inner.IsAssign 1 (λ rest ms. Suffixes (post.Call (a ∷ rest) (l ∷ ms)))
          (λ ps rs n h. by_one (λ z. Suffixes (post.Call (a ∷ values ps) (l ∷ (commas ps ++ z)))) (λ r. call_some_back a ps l r g.0 h) rs n) more marks (omega arith) g.1

      dot_back : (n m : ℕ) → Suffixes (post.Dot n (m ∷ []))
      unfolding lang.suffix lang.dot
      dot_back n m = back_right kind_of bytes_of (back_right kind_of bytes_of (back_left kind_of bytes_of (back_same kind_of bytes_of refl (law.dot_before kind_of bytes_of n m)
          (back_token kind_of bytes_of (hears_mark kind_of bytes_of MARK_DOT m) (back_token kind_of bytes_of (hears_any kind_of bytes_of n) (back_pure kind_of bytes_of (post.Dot n (m ∷ []))))))))

      arrow_back : (n m : ℕ) → Suffixes (post.Arrow n (m ∷ []))
      unfolding lang.suffix lang.arrow
      arrow_back n m = back_right kind_of bytes_of (back_right kind_of bytes_of (back_right kind_of bytes_of (back_left kind_of bytes_of (back_same kind_of bytes_of refl (law.arrow_before kind_of bytes_of n m)
          (back_token kind_of bytes_of (hears_mark kind_of bytes_of MARK_ARROW m) (back_token kind_of bytes_of (hears_any kind_of bytes_of n) (back_pure kind_of bytes_of (post.Arrow n (m ∷ [])))))))))

      step_back : (n : ℕ) → Suffixes (post.Step n)
      unfolding lang.suffix lang.step
      step_back n = back_right kind_of bytes_of (back_right kind_of bytes_of (back_right kind_of bytes_of (back_right kind_of bytes_of (back_same kind_of bytes_of refl (law.step_before kind_of bytes_of n)
          (back_token kind_of bytes_of (hears_step kind_of bytes_of n) (back_pure kind_of bytes_of (post.Step n)))))))

      post_back : (x : OpenPost) → IsPost kind_of inner x → Suffixes (roll-Post x)
      post_back (o.Post-F.Post::Index e marks) g = subst Suffixes (sym (post.rolls-Index e marks)) (by_two (λ ms. Suffixes (post.Index e ms)) (λ l r. index_back e l r g.0) marks g.1)
      post_back (o.Post-F.Call arguments marks) g = subst Suffixes (sym (post.rolls-Call arguments marks)) (call_back arguments marks (every_of inner.IsAssign arguments g.each) g.commas)
      post_back (o.Post-F.Dot n marks) g = subst Suffixes (sym (post.rolls-Dot n marks)) (by_one (λ ms. Suffixes (post.Dot n ms)) (λ m. dot_back n m) marks g)
      post_back (o.Post-F.Arrow n marks) g = subst Suffixes (sym (post.rolls-Arrow n marks)) (by_one (λ ms. Suffixes (post.Arrow n ms)) (λ m. arrow_back n m) marks g)
      post_back (o.Post-F.Step n) g = subst Suffixes (sym (post.rolls-Step n)) (step_back n)

      abbrev IsSuffix : Post → Type 0
      IsSuffix p = IsPost kind_of inner (out-Post p)

      one_suffix_back : (done : List Post) (p : Post) → IsSuffix p → Back kind_of bytes_of (λ d. lang.more_suffixes d level (rules d) done) (done ++ p ∷ []) (λ k. of_post kind_of bytes_of p and k)
      unfolding lang.more_suffixes
      one_suffix_back done p g = back_then kind_of bytes_of (subst Suffixes (roll-out-Post p) (post_back (out-Post p) g)) (back_pure kind_of bytes_of (done ++ p ∷ []))

      more_suffixes_back : (done ps : List Post) → Every IsSuffix ps → Spins kind_of bytes_of (λ m e. many m (lang.more_suffixes e level (rules e)) done) (done ++ ps) (each (of_post kind_of bytes_of) ps)
      more_suffixes_back done [] g = spins_same kind_of bytes_of (sym (append-nil done)) (λ k. refl) (many_stop kind_of bytes_of (λ e. lang.more_suffixes e level (rules e)) done)
      more_suffixes_back done (p ∷ ps) g = spins_same kind_of bytes_of (append_assoc done (p ∷ []) ps) (λ k. refl)
          (many_step kind_of bytes_of (λ e. lang.more_suffixes e level (rules e)) (one_suffix_back done p g.0) (more_suffixes_back (done ++ p ∷ []) ps g.1))

      suffixes_back : (ps : List Post) → Every IsSuffix ps → Back kind_of bytes_of (λ d. lang.all_suffixes d level (rules d)) ps (each (of_post kind_of bytes_of) ps)
      unfolding lang.all_suffixes
      suffixes_back ps g = back_loop kind_of bytes_of (more_suffixes_back [] ps g)

      -- ---- Compound literals (6.5.2.5)

      abbrev items_of : List InitItem → List ℕ → Items
      items_of items marks = record { items = items; marks = marks }

      last_item_back : (p : Items) (r : ℕ) → Back kind_of bytes_of (λ d. lang.last_item d level (rules d) p) (Done (with_mark p r)) (token r (want.Mark MARK_RIGHT_BRACE))
      unfolding lang.last_item
      last_item_back p r = back_token kind_of bytes_of (hears_mark kind_of bytes_of MARK_RIGHT_BRACE r) (back_pure kind_of bytes_of (Done (with_mark p r)))

      next_item_back : (p : Items) (m : ℕ) (i : InitItem) → inner.IsItem i → Back kind_of bytes_of (λ d. lang.next_item d level (rules d) p m) (Again (with_item p m i)) (λ k. of_item kind_of bytes_of i and k)
      unfolding lang.next_item
      next_item_back p m i g = back_then kind_of bytes_of (bi.item i g) (back_pure kind_of bytes_of (Again (with_item p m i)))

      ends_back : (p : Items) (rs : List ℕ) → (length rs ≡ 1) ⊎ (length rs ≡ 2) →
          Spins kind_of bytes_of (λ m e. repeat m (lang.item e level (rules e)) p) (items_of p.items (p.marks ++ rs)) (brace_ends rs)
      unfolding lang.item lang.comma_item
      ends_back p rs (inl e) = by_one (λ z. Spins kind_of bytes_of (λ m e. repeat m (lang.item e level (rules e)) p) (items_of p.items (p.marks ++ z)) (brace_ends z))
          (λ r. repeat_done kind_of bytes_of (λ d. lang.item d level (rules d)) (back_right kind_of bytes_of (last_item_back p r))) rs e
      ends_back p rs (inr e) = by_two (λ z. Spins kind_of bytes_of (λ m e. repeat m (lang.item e level (rules e)) p) (items_of p.items (p.marks ++ z)) (brace_ends z))
          (λ c r. spins_same kind_of bytes_of (ap (items_of p.items) (append_assoc p.marks (c ∷ []) (r ∷ []))) (λ k. refl)
          (repeat_done kind_of bytes_of (λ d. lang.item d level (rules d)) (back_left kind_of bytes_of (back_token kind_of bytes_of (hears_mark kind_of bytes_of MARK_COMMA c)
          (back_left kind_of bytes_of (last_item_back (with_mark p c) r)))))) rs e

      items_back : (items : List InitItem) (marks : List ℕ) (ps : List (ℕ × InitItem)) (rs : List ℕ) → Every inner.IsItem (values ps) → (length rs ≡ 1) ⊎ (length rs ≡ 2) →
          Spins kind_of bytes_of (λ m e. repeat m (lang.item e level (rules e)) (items_of items marks)) (items_of (items ++ values ps) (marks ++ (commas ps ++ rs))) (λ k. pairs (of_item kind_of bytes_of) ps (brace_ends rs k))
      unfolding lang.item lang.comma_item
      items_back items marks [] rs g e = spins_same kind_of bytes_of (ap (λ z. items_of z (marks ++ rs)) (sym (append-nil items))) (λ k. refl) (ends_back (items_of items marks) rs e)
      items_back items marks (p ∷ ps) rs g e = spins_same kind_of bytes_of (same_lists items_of (append_assoc items (p.1 ∷ []) (values ps)) (append_assoc marks (p.0 ∷ []) (commas ps ++ rs))) (λ k. refl)
          (repeat_again kind_of bytes_of (λ d. lang.item d level (rules d)) (back_left kind_of bytes_of (back_token kind_of bytes_of (hears_mark kind_of bytes_of MARK_COMMA p.0)
          (back_right kind_of bytes_of (next_item_back (items_of items marks) p.0 p.1 g.0)))) (items_back (items ++ p.1 ∷ []) (marks ++ p.0 ∷ []) ps rs g.1 e))

      compound_back : (t : TypeName) (l r b : ℕ) (a : InitItem) (ps : List (ℕ × InitItem)) (rs : List ℕ) → inner.IsItem a → Every inner.IsItem (values ps) → (length rs ≡ 1) ⊎ (length rs ≡ 2) →
          Back kind_of bytes_of (λ d. lang.compound d level (rules d) t (l ∷ r ∷ [])) (form.Compound t (a ∷ values ps) (l ∷ r ∷ b ∷ (commas ps ++ rs)))
          (λ k. token b (want.Mark MARK_LEFT_BRACE) (of_item kind_of bytes_of a and pairs (of_item kind_of bytes_of) ps (brace_ends rs k)))
      unfolding lang.compound lang.all_items
      compound_back t l r b a ps rs g h e = back_token kind_of bytes_of (hears_mark kind_of bytes_of MARK_LEFT_BRACE b) (back_then kind_of bytes_of (bi.item a g)
          (back_then kind_of bytes_of (back_loop kind_of bytes_of (items_back (a ∷ []) (l ∷ r ∷ b ∷ []) ps rs h e))
          (back_pure kind_of bytes_of (compound_of t (items_of (a ∷ values ps) (l ∷ r ∷ b ∷ (commas ps ++ rs)))))))

      -- ---- Operands (6.5.1, 6.5.3, 6.5.4)

      abbrev Link : Chain → Turn Chain Found → Open → Type 0
      Link c t before = Back kind_of bytes_of (λ d. lang.link d level (rules d) c) t before

      abbrev Links : Chain → Found → Open → Type 0
      Links c f before = Spins kind_of bytes_of (λ m e. repeat m (lang.link e level (rules e)) c) f before

      operator_back : (c : Chain) (n : ℕ) (kind : Kind) → kind_of n ≡ Some kind → IsMarkAmong unary_operators kind → Link c (Again (with_op c n Cast)) (token n (want.Among slot.PrefixOp))
      unfolding lang.link lang.operator
      operator_back c n kind e g = back_left kind_of bytes_of (back_token kind_of bytes_of (hears_known kind_of bytes_of a_unary (want.Among slot.PrefixOp) n kind e (λ t bytes. among_marks unary_operators t kind bytes g))
          (back_pure kind_of bytes_of (Again (with_op c n Cast))))

      stepped_back : (c : Chain) (n : ℕ) (kind : Kind) → kind_of n ≡ Some kind → IsMarkAmong steps kind → Link c (Again (with_op c n Literal)) (token n (want.Among slot.PrefixOp))
      unfolding lang.link lang.stepped
      stepped_back c n kind e g = back_right kind_of bytes_of (back_left kind_of bytes_of (back_token kind_of bytes_of (hears_known kind_of bytes_of a_step (want.Among slot.PrefixOp) n kind e (λ t bytes. among_marks steps t kind bytes g))
          (back_pure kind_of bytes_of (Again (with_op c n Literal)))))

      sized_back : (c : Chain) (n : ℕ) (wanted : Want) → kind_of n ≡ Some (k.Key KEY_SIZEOF) → Link c (Again (with_size c n)) (token n wanted)
      unfolding lang.link lang.sized
      sized_back c n wanted e = back_right kind_of bytes_of (back_right kind_of bytes_of (back_left kind_of bytes_of
          (back_token kind_of bytes_of (hears_known kind_of bytes_of (key KEY_SIZEOF ∷ []) wanted n (k.Key KEY_SIZEOF) e (λ t bytes. is_key KEY_SIZEOF t (k.Key KEY_SIZEOF) bytes refl))
          (back_pure kind_of bytes_of (Again (with_size c n))))))

      -- A type name in parentheses, and then the rest.
      abbrev in_parens : TypeName → ℕ → ℕ → Open
      in_parens t l r k = token l (want.Mark MARK_LEFT_PAREN) (of_type_name kind_of bytes_of t and token r (want.Mark MARK_RIGHT_PAREN) k)

      aligned_back : (c : Chain) (n : ℕ) (t : TypeName) (l r : ℕ) → kind_of n ≡ Some (k.Key KEY_ALIGNOF) → inner.IsTypeName t →
          Link c (Done (Sized (flushed c.mode c.prefixes) (form.SizeType n t (l ∷ r ∷ [])))) (λ k. token n (want.Among slot.SizeKey) (in_parens t l r k))
      unfolding lang.link lang.aligned
      aligned_back c n t l r e g = back_right kind_of bytes_of (back_right kind_of bytes_of (back_right kind_of bytes_of (back_left kind_of bytes_of
          (back_token kind_of bytes_of (hears_known kind_of bytes_of (key KEY_ALIGNOF ∷ []) (want.Among slot.SizeKey) n (k.Key KEY_ALIGNOF) e (λ t bytes. is_key KEY_ALIGNOF t (k.Key KEY_ALIGNOF) bytes refl))
          (back_token kind_of bytes_of (hears_mark kind_of bytes_of MARK_LEFT_PAREN l) (back_then kind_of bytes_of (bi.type_name t g)
          (back_token kind_of bytes_of (hears_mark kind_of bytes_of MARK_RIGHT_PAREN r) (back_pure kind_of bytes_of (Done (Sized (flushed c.mode c.prefixes) (form.SizeType n t (l ∷ r ∷ []))))))))))))

      typed_back : (c : Chain) (t : TypeName) (l r : ℕ) (x : Turn Chain Found) (behind : Open) → inner.IsTypeName t →
          Back kind_of bytes_of (λ d. lang.typed_at d level (rules d) c t (l ∷ r ∷ []) c.mode) x behind → Link c x (λ k. in_parens t l r (behind k))
      unfolding lang.link lang.paren lang.typed
      typed_back c t l r x behind g q = back_right kind_of bytes_of (back_right kind_of bytes_of (back_right kind_of bytes_of (back_right kind_of bytes_of (back_left kind_of bytes_of
          (back_token kind_of bytes_of (hears_mark kind_of bytes_of MARK_LEFT_PAREN l) (back_left kind_of bytes_of (back_then kind_of bytes_of (bi.type_name t g)
          (back_token kind_of bytes_of (hears_mark kind_of bytes_of MARK_RIGHT_PAREN r) q))))))))

      grouped_back : (c : Chain) (e : Expr) (l r : ℕ) → IsExpr kind_of inner e →
          Link c (Done (Operand (flushed c.mode c.prefixes) (form.Group e (l ∷ r ∷ [])))) (λ k. of_base_form kind_of bytes_of (form.Group e (l ∷ r ∷ [])) and k)
      unfolding lang.link lang.paren lang.grouped
      grouped_back c e l r g = back_same kind_of bytes_of refl (law.group_before kind_of bytes_of e l r)
          (back_right kind_of bytes_of (back_right kind_of bytes_of (back_right kind_of bytes_of (back_right kind_of bytes_of (back_left kind_of bytes_of
          (back_token kind_of bytes_of (hears_mark kind_of bytes_of MARK_LEFT_PAREN l) (back_right kind_of bytes_of (back_then kind_of bytes_of (inside e g)
          (back_token kind_of bytes_of (hears_mark kind_of bytes_of MARK_RIGHT_PAREN r) (back_pure kind_of bytes_of (Done (Operand (flushed c.mode c.prefixes) (form.Group e (l ∷ r ∷ []))))))))))))))

      name_back : (c : Chain) (n : ℕ) → Link c (Done (Operand (flushed c.mode c.prefixes) (form.Name n))) (λ k. of_base_form kind_of bytes_of (form.Name n) and k)
      unfolding lang.link lang.name
      name_back c n = back_same kind_of bytes_of refl (law.name_before kind_of bytes_of n)
          (back_right kind_of bytes_of (back_right kind_of bytes_of (back_right kind_of bytes_of (back_right kind_of bytes_of (back_right kind_of bytes_of (back_left kind_of bytes_of
          (back_token kind_of bytes_of (hears_name kind_of bytes_of n) (back_pure kind_of bytes_of (Done (Operand (flushed c.mode c.prefixes) (form.Name n)))))))))))

      constant_back : (c : Chain) (n : ℕ) (kind : Kind) → kind_of n ≡ Some kind → ((t : List ℕ → Bool) (bytes : List ℕ) → has a_constant (terminal_where t kind bytes) ≡ true) →
          Link c (Done (Operand (flushed c.mode c.prefixes) (form.Literal (n ∷ [])))) (token n (want.Among slot.Literal))
      unfolding lang.link lang.constant
      constant_back c n kind e g =
          back_right kind_of bytes_of (back_right kind_of bytes_of (back_right kind_of bytes_of (back_right kind_of bytes_of (back_right kind_of bytes_of (back_right kind_of bytes_of (back_left kind_of bytes_of
          (back_token kind_of bytes_of (hears_known kind_of bytes_of a_constant (want.Among slot.Literal) n kind e g) (back_pure kind_of bytes_of (Done (Operand (flushed c.mode c.prefixes) (form.Literal (n ∷ []))))))))))))

      text_back : (c : Chain) (n : ℕ) (ns : List ℕ) (wanted : Want) → Hears kind_of bytes_of (TEXT ∷ []) n (token n wanted) →
          Link c (Done (Operand (flushed c.mode c.prefixes) (form.Literal (n ∷ ns)))) (λ k. token n wanted (texts ns k))
      unfolding lang.link lang.text
      text_back c n ns wanted h =
          back_right kind_of bytes_of (back_right kind_of bytes_of (back_right kind_of bytes_of (back_right kind_of bytes_of (back_right kind_of bytes_of (back_right kind_of bytes_of (back_right kind_of bytes_of
          (back_token kind_of bytes_of h (back_then kind_of bytes_of (texts_back level (n ∷ []) ns) (back_pure kind_of bytes_of (Done (Operand (flushed c.mode c.prefixes) (form.Literal (n ∷ ns)))))))))))))

      one_literal_back : (c : Chain) (n : ℕ) (kind : Kind) → kind_of n ≡ Some kind → Fits (want.Among slot.Literal) kind →
          Link c (Done (Operand (flushed c.mode c.prefixes) (form.Literal (n ∷ [])))) (token n (want.Among slot.Literal))
      one_literal_back c n kind e (inl g) = constant_back c n k.Number (e ∙ ap (λ x. Some x) g) (λ t bytes. refl)
      one_literal_back c n kind e (inr (inl g)) = constant_back c n k.Char (e ∙ ap (λ x. Some x) g) (λ t bytes. refl)
      one_literal_back c n kind e (inr (inr g)) = text_back c n [] (want.Among slot.Literal) (hears_known kind_of bytes_of (TEXT ∷ []) (want.Among slot.Literal) n k.Text (e ∙ ap (λ x. Some x) g) (λ t bytes. refl))

      literal_back : (c : Chain) (ns : List ℕ) → ns ≢ [] → Link c (Done (Operand (flushed c.mode c.prefixes) (form.Literal ns))) (λ k. of_base_form kind_of bytes_of (form.Literal ns) and k)
      literal_back c [] g = absurd (g refl)
      literal_back c (n ∷ []) g = back_same kind_of bytes_of refl (law.literal_before kind_of bytes_of n)
          (back_look kind_of bytes_of (λ k ts scopes end f. let s = seen kind_of bytes_of n (want.Among slot.Literal) k ts scopes end f in one_literal_back c n s.kind s.is s.fits))
      literal_back c (n ∷ m ∷ ns) g = back_same kind_of bytes_of refl (law.literals_before kind_of bytes_of n m ns) (text_back c n (m ∷ ns) want.Text (hears_text kind_of bytes_of n))

      -- A compound literal behind any prefixes.
      with_compound_back : (ps : List Prefix) (t : TypeName) (l r b : ℕ) (a : InitItem) (qs : List (ℕ × InitItem)) (rs : List ℕ) → inner.IsItem a → Every inner.IsItem (values qs) → (length rs ≡ 1) ⊎ (length rs ≡ 2) →
          Back kind_of bytes_of (λ d. lang.with_compound d level (rules d) ps t (l ∷ r ∷ [])) (Done (Operand ps (form.Compound t (a ∷ values qs) (l ∷ r ∷ b ∷ (commas qs ++ rs)))))
          (λ k. token b (want.Mark MARK_LEFT_BRACE) (of_item kind_of bytes_of a and pairs (of_item kind_of bytes_of) qs (brace_ends rs k)))
      unfolding lang.with_compound
      with_compound_back ps t l r b a qs rs g h e = back_then kind_of bytes_of (compound_back t l r b a qs rs g h e) (back_pure kind_of bytes_of (Done (Operand ps (form.Compound t (a ∷ values qs) (l ∷ r ∷ b ∷ (commas qs ++ rs))))))

      mode_back : (c : Chain) (m : Mode) (t : TypeName) (l r b : ℕ) (a : InitItem) (qs : List (ℕ × InitItem)) (rs : List ℕ) → inner.IsItem a → Every inner.IsItem (values qs) → (length rs ≡ 1) ⊎ (length rs ≡ 2) →
          Back kind_of bytes_of (λ d. lang.typed_at d level (rules d) c t (l ∷ r ∷ []) m) (Done (Operand (flushed m c.prefixes) (form.Compound t (a ∷ values qs) (l ∷ r ∷ b ∷ (commas qs ++ rs)))))
          (λ k. token b (want.Mark MARK_LEFT_BRACE) (of_item kind_of bytes_of a and pairs (of_item kind_of bytes_of) qs (brace_ends rs k)))
      mode_back c Cast t l r b a qs rs g h e = back_left kind_of bytes_of (with_compound_back c.prefixes t l r b a qs rs g h e)
      mode_back c Literal t l r b a qs rs g h e = with_compound_back c.prefixes t l r b a qs rs g h e
      mode_back c (Size n) t l r b a qs rs g h e = back_left kind_of bytes_of (with_compound_back (flushed (Size n) c.prefixes) t l r b a qs rs g h e)

      abbrev Compounds : Chain → TypeName → List InitItem → List ℕ → Type 0
      Compounds c t items marks = Link c (Done (Operand (flushed c.mode c.prefixes) (form.Compound t items marks))) (λ k. of_base_form kind_of bytes_of (form.Compound t items marks) and k)

      compounds_by : (c : Chain) (t : TypeName) (l r b : ℕ) (a : InitItem) (items : List InitItem) (marks : List ℕ) (n : ℕ) → inner.IsTypeName t → inner.IsItem a → Every inner.IsItem items →
          ((rs : List ℕ) → length rs ≡ n → (length rs ≡ 1) ⊎ (length rs ≡ 2)) → length marks ≡ length items + n → Compounds c t (a ∷ items) (l ∷ r ∷ b ∷ marks)
      compounds_by c t l r b a items marks n g h i last e = by_pairs inner.IsItem n (λ more ms. Compounds c t (a ∷ more) (l ∷ r ∷ b ∷ ms))
          (λ ps rs f j. back_same kind_of bytes_of refl (law.compound_before kind_of bytes_of t l r b a ps rs)
          (typed_back c t l r _ (λ k. token b (want.Mark MARK_LEFT_BRACE) (of_item kind_of bytes_of a and pairs (of_item kind_of bytes_of) ps (brace_ends rs k))) g (mode_back c c.mode t l r b a ps rs h j (last rs f))))
          items marks e i

      compounds_back : (c : Chain) (t : TypeName) (items : List InitItem) (marks : List ℕ) → inner.IsTypeName t → Every inner.IsItem items → 0 < length items →
          (length (drop 2 marks) ≡ 1 + length items) ⊎ (length (drop 2 marks) ≡ 2 + length items) → Compounds c t items marks
      compounds_back c t [] marks g h s e = absurd (omega arith)
      compounds_back c t (a ∷ items) (l ∷ r ∷ b ∷ marks) g h s (inl e) = compounds_by c t l r b a items marks 1 g h.0 h.1 (λ rs f. inl f) (omega arith)
      compounds_back c t (a ∷ items) (l ∷ r ∷ b ∷ marks) g h s (inr e) = compounds_by c t l r b a items marks 2 g h.0 h.1 (λ rs f. inr f) (omega arith)
      compounds_back c t (a ∷ items) [] g h s (inl e) = absurd (omega arith)
      compounds_back c t (a ∷ items) [] g h s (inr e) = absurd (omega arith)
      compounds_back c t (a ∷ items) (l ∷ []) g h s (inl e) = absurd (omega arith)
      compounds_back c t (a ∷ items) (l ∷ []) g h s (inr e) = absurd (omega arith)
      compounds_back c t (a ∷ items) (l ∷ r ∷ []) g h s (inl e) = absurd (omega arith)
      compounds_back c t (a ∷ items) (l ∷ r ∷ []) g h s (inr e) = absurd (omega arith)

      size_at : (c : Chain) (n : ℕ) (t : TypeName) (l r key : ℕ) → kind_of n ≡ Some (k.Key key) → (KEY_SIZEOF ≡ key) ⊎ Contains (KEY_ALIGNOF ∷ []) key → inner.IsTypeName t →
          Links c (Sized (flushed c.mode c.prefixes) (form.SizeType n t (l ∷ r ∷ []))) (λ k. token n (want.Among slot.SizeKey) (in_parens t l r k))
      size_at c n t l r key e (inl same) g = repeat_again kind_of bytes_of (λ d. lang.link d level (rules d)) (sized_back c n (want.Among slot.SizeKey) (e ∙ ap (λ x. Some (k.Key x)) (sym same)))
          (repeat_done kind_of bytes_of (λ d. lang.link d level (rules d)) (typed_back (with_size c n) t l r _ (λ k. k) g (back_right kind_of bytes_of (back_pure kind_of bytes_of (Done (Sized (flushed c.mode c.prefixes) (form.SizeType n t (l ∷ r ∷ []))))))))
      size_at c n t l r key e (inr h) g = repeat_done kind_of bytes_of (λ d. lang.link d level (rules d)) (aligned_back c n t l r (e ∙ ap (λ x. Some (k.Key x)) (of (contains_cases KEY_ALIGNOF key [] h))) g)
        where
          of : (KEY_ALIGNOF ≡ key) ⊎ Contains [] key → key ≡ KEY_ALIGNOF
          of (inl s) = sym s
          of (inr s) = absurd (contains_none key s)

      abbrev Finds : OpenBaseForm → Chain → BaseForm → Type 0
      Finds x c f = Links c (found x (flushed c.mode c.prefixes) f) (λ k. of_base_form kind_of bytes_of f and k)

      form_back : (c : Chain) (x : OpenBaseForm) → IsBaseForm kind_of inner x → Finds x c (roll-BaseForm x)
      form_back c (o.BaseForm-F.BaseForm::Name n) g = subst (Finds (o.BaseForm-F.BaseForm::Name n) c) (sym (form.rolls-Name n)) (repeat_done kind_of bytes_of (λ d. lang.link d level (rules d)) (name_back c n))
      form_back c (o.BaseForm-F.Literal ns) g = subst (Finds (o.BaseForm-F.Literal ns) c) (sym (form.rolls-Literal ns)) (repeat_done kind_of bytes_of (λ d. lang.link d level (rules d)) (literal_back c ns g))
      form_back c (o.BaseForm-F.BaseForm::Group e marks) g = subst (Finds (o.BaseForm-F.BaseForm::Group e marks) c) (sym (form.rolls-Group e marks))
          (by_two (λ ms. Finds (o.BaseForm-F.BaseForm::Group e marks) c (form.Group e ms)) (λ l r. repeat_done kind_of bytes_of (λ d. lang.link d level (rules d)) (grouped_back c e l r g.0)) marks g.1)
      form_back c (o.BaseForm-F.Compound t items marks) g = subst (Finds (o.BaseForm-F.Compound t items marks) c) (sym (form.rolls-Compound t items marks))
          (repeat_done kind_of bytes_of (λ d. lang.link d level (rules d)) (compounds_back c t items marks g.0 (every_of inner.IsItem items g.1) g.2.some g.2.count))
      form_back c (o.BaseForm-F.SizeType n t marks) g = subst (Finds (o.BaseForm-F.SizeType n t marks) c) (sym (form.rolls-SizeType n t marks))
          (by_two (λ ms. Finds (o.BaseForm-F.SizeType n t marks) c (form.SizeType n t ms)) (λ l r. spins_same kind_of bytes_of refl (law.size_before kind_of bytes_of n t l r)
          (spins_look kind_of bytes_of (λ k ts scopes end f. let s = seen kind_of bytes_of n (want.Among slot.SizeKey) (in_parens t l r k) ts scopes end f in
          size_at c n t l r s.fits.0 (s.is ∙ ap (λ x. Some x) s.fits.2) (contains_cases KEY_SIZEOF s.fits.0 (KEY_ALIGNOF ∷ []) s.fits.1) g.0))) marks g.1)

      -- ---- Prefixes

      -- The prefixes that are left, and what ends the chain.
      abbrev Ends : (List Prefix → Found) → Open → Type 0
      Ends f last = (c : Chain) → Links c (f (flushed c.mode c.prefixes)) last

      abbrev Linked : OpenPrefix → List Prefix → Type 0
      Linked x ps = TakesUnary kind_of inner x → NoCast ps

      linked_next : (p : Prefix) (ps : List Prefix) → AreLinked kind_of inner (p ∷ ps) → Linked (out-Prefix p) ps
      linked_next p [] g = λ h. tt
      linked_next p (q ∷ ps) g = g.0

      linked_rest : (p : Prefix) (ps : List Prefix) → AreLinked kind_of inner (p ∷ ps) → AreLinked kind_of inner ps
      linked_rest p [] g = tt
      linked_rest p (q ∷ ps) g = g.1

      abbrev AllowedFirst : Mode → OpenPrefix → Type 0
      AllowedFirst Cast x = Prim.Unit {0}
      AllowedFirst Literal x = ¬ IsCast x
      AllowedFirst (Size n) x = ¬ IsCast x

      allowed_first : (m : Mode) (p : Prefix) (ps : List Prefix) → Allowed m (p ∷ ps) → AllowedFirst m (out-Prefix p)
      allowed_first Cast p ps g = tt
      allowed_first Literal p ps g = g
      allowed_first (Size n) p ps g = g

      module _ (f : List Prefix → Found) (last : Open) (ends : Ends f last) where
        abbrev Chains : List Prefix → Type 0
        Chains ps = (c : Chain) → Allowed c.mode ps → Links c (f (flushed c.mode c.prefixes ++ ps)) (λ k. each (of_prefix kind_of bytes_of) ps (last k))

        step_next : (c : Chain) (n : ℕ) (ps : List Prefix) (kind : Kind) → Chains ps → Linked (o.Prefix-F.Op n) ps → kind_of n ≡ Some kind → (m : ℕ) → kind ≡ k.Mark m → (MARK_PLUS_PLUS ≡ m) ⊎ (MARK_MINUS_MINUS ≡ m) → Contains steps m →
            Links c (f (flushed c.mode c.prefixes ++ prefix.Op n ∷ ps)) (λ k. token n (want.Among slot.PrefixOp) (each (of_prefix kind_of bytes_of) ps (last k)))
        step_next c n ps kind q l e m g h i = spins_same kind_of bytes_of (ap f (append_assoc (flushed c.mode c.prefixes) (prefix.Op n ∷ []) ps)) (λ k. refl)
            (repeat_again kind_of bytes_of (λ d. lang.link d level (rules d)) (stepped_back c n kind e (m, i, g)) (q (with_op c n Literal) (l (of h))))
          where
            of : (MARK_PLUS_PLUS ≡ m) ⊎ (MARK_MINUS_MINUS ≡ m) → (kind_of n ≡ Some (k.Key KEY_SIZEOF)) ⊎ (kind_of n ≡ Some (k.Mark MARK_PLUS_PLUS)) ⊎ (kind_of n ≡ Some (k.Mark MARK_MINUS_MINUS))
            of (inl s) = inr (inl (e ∙ ap (λ x. Some x) (g ∙ ap (λ x. k.Mark x) (sym s))))
            of (inr s) = inr (inr (e ∙ ap (λ x. Some x) (g ∙ ap (λ x. k.Mark x) (sym s))))

        op_next : (c : Chain) (n : ℕ) (ps : List Prefix) (kind : Kind) → Chains ps → Linked (o.Prefix-F.Op n) ps → kind_of n ≡ Some kind → Fits (want.Among slot.PrefixOp) kind →
            Links c (f (flushed c.mode c.prefixes ++ prefix.Op n ∷ ps)) (λ k. token n (want.Among slot.PrefixOp) (each (of_prefix kind_of bytes_of) ps (last k)))
        op_next c n ps kind q l e (inr g) = spins_same kind_of bytes_of (ap f (append_assoc (flushed c.mode c.prefixes) (prefix.Op n ∷ []) ps)) (λ k. refl)
            (repeat_again kind_of bytes_of (λ d. lang.link d level (rules d)) (sized_back c n (want.Among slot.PrefixOp) (e ∙ ap (λ x. Some x) g)) (q (with_size c n) (l (inl (e ∙ ap (λ x. Some x) g)))))
        op_next c n ps kind q l e (inl (m, h, g)) = of (contains_cases MARK_PLUS_PLUS m (MARK_MINUS_MINUS ∷ unary_operators) h)
          where
            Goal : Type 0
            Goal = Links c (f (flushed c.mode c.prefixes ++ prefix.Op n ∷ ps)) (λ k. token n (want.Among slot.PrefixOp) (each (of_prefix kind_of bytes_of) ps (last k)))

            later : (MARK_MINUS_MINUS ≡ m) ⊎ Contains unary_operators m → Links c (f (flushed c.mode c.prefixes ++ prefix.Op n ∷ ps)) (λ k. token n (want.Among slot.PrefixOp) (each (of_prefix kind_of bytes_of) ps (last k)))
            later (inl s) = step_next c n ps kind q l e m g (inr s) (subst (Contains steps) s (contains_later MARK_PLUS_PLUS MARK_MINUS_MINUS (MARK_MINUS_MINUS ∷ []) (contains_here MARK_MINUS_MINUS [])))
            later (inr u) = spins_same kind_of bytes_of (ap f (append_assoc (flushed c.mode c.prefixes) (prefix.Op n ∷ []) ps)) (λ k. refl)
                (repeat_again kind_of bytes_of (λ d. lang.link d level (rules d)) (operator_back c n kind e (m, u, g)) (q (with_op c n Cast) tt))

            of : (MARK_PLUS_PLUS ≡ m) ⊎ Contains (MARK_MINUS_MINUS ∷ unary_operators) m → Links c (f (flushed c.mode c.prefixes ++ prefix.Op n ∷ ps)) (λ k. token n (want.Among slot.PrefixOp) (each (of_prefix kind_of bytes_of) ps (last k)))
            of (inl s) = step_next c n ps kind q l e m g (inl s) (subst (Contains steps) s (contains_here MARK_PLUS_PLUS (MARK_MINUS_MINUS ∷ [])))
            of (inr u) = later (contains_cases MARK_MINUS_MINUS m unary_operators u)

        cast_next : (qs : List Prefix) (m : Mode) (t : TypeName) (l r : ℕ) (ps : List Prefix) → Chains ps → AllowedFirst m (o.Prefix-F.Cast t (l ∷ r ∷ [])) → inner.IsTypeName t →
            Links (record { prefixes = qs; mode = m }) (f (flushed m qs ++ prefix.Cast t (l ∷ r ∷ []) ∷ ps)) (λ k. in_parens t l r (each (of_prefix kind_of bytes_of) ps (last k)))
        cast_next qs Cast t l r ps q g h = spins_same kind_of bytes_of (ap f (append_assoc qs (prefix.Cast t (l ∷ r ∷ []) ∷ []) ps)) (λ k. refl)
            (repeat_again kind_of bytes_of (λ d. lang.link d level (rules d)) (typed_back (record { prefixes = qs; mode = Cast }) t l r (Again (with_cast qs t (l ∷ r ∷ []))) (λ k. k) h (back_right kind_of bytes_of (back_pure kind_of bytes_of (Again (with_cast qs t (l ∷ r ∷ []))))))
            (q (with_cast qs t (l ∷ r ∷ [])) tt))
        cast_next qs Literal t l r ps q g h = absurd (g tt)
        cast_next qs (Size n) t l r ps q g h = absurd (g tt)

        abbrev Nexts : Chain → Prefix → List Prefix → Type 0
        Nexts c p ps = Links c (f (flushed c.mode c.prefixes ++ p ∷ ps)) (λ k. of_prefix kind_of bytes_of p and each (of_prefix kind_of bytes_of) ps (last k))

        prefix_back : (x : OpenPrefix) (ps : List Prefix) → Chains ps → (c : Chain) → AllowedFirst c.mode x → IsPrefix kind_of inner x → Linked x ps → Nexts c (roll-Prefix x) ps
        prefix_back (o.Prefix-F.Op n) ps q c g h l = subst (λ p. Nexts c p ps) (sym (prefix.rolls-Op n)) (spins_same kind_of bytes_of refl (λ k. law.op_before kind_of bytes_of n (each (of_prefix kind_of bytes_of) ps (last k)))
            (spins_look kind_of bytes_of (λ k ts scopes end y. let s = seen kind_of bytes_of n (want.Among slot.PrefixOp) (each (of_prefix kind_of bytes_of) ps (last k)) ts scopes end y in op_next c n ps s.kind q l s.is s.fits)))
        prefix_back (o.Prefix-F.Cast t marks) ps q c g h l = subst (λ p. Nexts c p ps) (sym (prefix.rolls-Cast t marks))
            (by_two (λ ms. Nexts c (prefix.Cast t ms) ps) (λ a b. spins_same kind_of bytes_of refl (λ k. law.cast_before kind_of bytes_of t a b (each (of_prefix kind_of bytes_of) ps (last k)))
            (cast_next c.prefixes c.mode t a b ps q (allowed_cast c.mode marks (a ∷ b ∷ []) g) h.0)) marks h.1)
          where
            allowed_cast : (m : Mode) (ms ns : List ℕ) → AllowedFirst m (o.Prefix-F.Cast t ms) → AllowedFirst m (o.Prefix-F.Cast t ns)
            allowed_cast Cast ms ns a = tt
            allowed_cast Literal ms ns a = a
            allowed_cast (Size n) ms ns a = a

        chain_back : (ps : List Prefix) → Every (λ p. IsPrefix kind_of inner (out-Prefix p)) ps → AreLinked kind_of inner ps → Chains ps
        chain_back [] g l c a = spins_same kind_of bytes_of (ap f (sym (append-nil (flushed c.mode c.prefixes)))) (λ k. refl) (ends c)
        chain_back (p ∷ ps) g l c a = subst (λ x. Nexts c x ps) (roll-out-Prefix p)
            (prefix_back (out-Prefix p) ps (chain_back ps g.1 (linked_rest p ps l)) c (allowed_first c.mode p ps a) g.0 (linked_next p ps l))

      -- ---- Operands

      finish_back : (x : OpenBaseForm) (ps : List Prefix) (f : BaseForm) (s : List Post) → Every IsSuffix s → (IsSizeOfType x → s ≡ []) →
          Back kind_of bytes_of (λ d. lang.finished d level (rules d) (found x ps f)) (prefixed_of ps f s) (each (of_post kind_of bytes_of) s)
      finish_back (o.BaseForm-F.BaseForm::Name n) ps f s g h = back_then kind_of bytes_of (suffixes_back s g) (back_pure kind_of bytes_of (prefixed_of ps f s))
      finish_back (o.BaseForm-F.Literal ns) ps f s g h = back_then kind_of bytes_of (suffixes_back s g) (back_pure kind_of bytes_of (prefixed_of ps f s))
      finish_back (o.BaseForm-F.BaseForm::Group e marks) ps f s g h = back_then kind_of bytes_of (suffixes_back s g) (back_pure kind_of bytes_of (prefixed_of ps f s))
      finish_back (o.BaseForm-F.Compound t items marks) ps f s g h = back_then kind_of bytes_of (suffixes_back s g) (back_pure kind_of bytes_of (prefixed_of ps f s))
      finish_back (o.BaseForm-F.SizeType n t marks) ps f s g h =
          subst (λ z. Back kind_of bytes_of (λ d. lang.finished d level (rules d) (Sized ps f)) (prefixed_of ps f z) (each (of_post kind_of bytes_of) z)) (sym (h tt)) (back_pure kind_of bytes_of (prefixed_of ps f []))

      abbrev Prefixes : Prefixed → Type 0
      Prefixes p = Back kind_of bytes_of (λ d. lang.prefixed d level (rules d)) p (λ k. of_prefixed kind_of bytes_of p and k)

      prefixed_back_at : (ps : List Prefix) (x : OpenBaseForm) (s : List Post) → Every (λ p. IsPrefix kind_of inner (out-Prefix p)) ps → AreLinked kind_of inner ps → IsBaseForm kind_of inner x →
          Every IsSuffix s → (IsSizeOfType x → s ≡ []) → Prefixes (prefixed_of ps (roll-BaseForm x) s)
      unfolding lang.prefixed lang.links
      prefixed_back_at ps x s g l h i j = back_same kind_of bytes_of refl (law.prefixed_before kind_of bytes_of ps (roll-BaseForm x) s)
          (back_then kind_of bytes_of {before = λ k. each (of_prefix kind_of bytes_of) ps (of_base_form kind_of bytes_of (roll-BaseForm x) and k)}
          (back_loop kind_of bytes_of (chain_back (λ qs. found x qs (roll-BaseForm x)) (λ k. of_base_form kind_of bytes_of (roll-BaseForm x) and k) (λ c. form_back c x h) ps g l chain_start tt))
          (finish_back x ps (roll-BaseForm x) s i j))

      pub prefixed_back : (p : Prefixed) → IsPrefixed kind_of inner p → Prefixes p
      prefixed_back p g = subst (λ (f : BaseForm). Prefixes (prefixed_of p.prefixes f p.base.suffixes)) (roll-out-BaseForm p.base.form)
          (prefixed_back_at p.prefixes (out-BaseForm p.base.form) p.base.suffixes (every_of (λ q. IsPrefix kind_of inner (out-Prefix q)) p.prefixes g.prefixes) g.linked g.base.form
          (every_of IsSuffix p.base.suffixes g.base.suffixes) g.base.bare)

      -- ---- Operators (6.5.5 to 6.5.15)

      abbrev AreOperands : List (ℕ × Prefixed) → Type 0
      AreOperands xs = Every (λ (x : ℕ × Prefixed). IsPrefixed kind_of inner x.1) xs

      operand_back : (done : List (ℕ × Prefixed)) (x : ℕ × Prefixed) → IsPrefixed kind_of inner x.1 →
          Back kind_of bytes_of (λ d. lang.more_operands d level (rules d) done) (done ++ x ∷ []) (λ k. of_operand kind_of bytes_of x and k)
      unfolding lang.more_operands
      operand_back done x g = back_token kind_of bytes_of (hears_binary kind_of bytes_of x.0) (back_then kind_of bytes_of (prefixed_back x.1 g) (back_pure kind_of bytes_of (done ++ x ∷ [])))

      operands_back : (done xs : List (ℕ × Prefixed)) → AreOperands xs → Spins kind_of bytes_of (λ m e. many m (lang.more_operands e level (rules e)) done) (done ++ xs) (each (of_operand kind_of bytes_of) xs)
      operands_back done [] g = spins_same kind_of bytes_of (sym (append-nil done)) (λ k. refl) (many_stop kind_of bytes_of (λ e. lang.more_operands e level (rules e)) done)
      operands_back done (x ∷ xs) g = spins_same kind_of bytes_of (append_assoc done (x ∷ []) xs) (λ k. refl)
          (many_step kind_of bytes_of (λ e. lang.more_operands e level (rules e)) (operand_back done x g.0) (operands_back (done ++ x ∷ []) xs g.1))

      -- Behind its first operand.
      abbrev rest_said : Binary → Open
      rest_said b = each (of_operand kind_of bytes_of) (out-Binary b).rest

      binary_rest_back : (p : Prefixed) (xs : List (ℕ × Prefixed)) → AreOperands xs → Back kind_of bytes_of (λ d. lang.binary d level (rules d) p) (binary_of p xs) (each (of_operand kind_of bytes_of) xs)
      unfolding lang.binary lang.all_operands
      binary_rest_back p xs g = back_then kind_of bytes_of (back_loop kind_of bytes_of (operands_back [] xs g)) (back_pure kind_of bytes_of (binary_of p xs))

      binary_back : (b : Binary) → IsBinary kind_of inner b → Back kind_of bytes_of (λ d. lang.binary d level (rules d) (out-Binary b).first) b (rest_said b)
      binary_back b g = back_same kind_of bytes_of (roll-out-Binary b) (λ k. refl) (binary_rest_back (out-Binary b).first (out-Binary b).rest (every_of (λ (x : ℕ × Prefixed). IsPrefixed kind_of inner x.1) (out-Binary b).rest g.rest))

      binary_is : (b : Binary) (k : Said) → of_binary kind_of bytes_of b and k ≡ of_prefixed kind_of bytes_of (out-Binary b).first and rest_said b k
      binary_is b k = ap (λ (z : Binary). of_binary kind_of bytes_of z and k) (sym (roll-out-Binary b)) ∙ law.binary_before kind_of bytes_of (out-Binary b).first (out-Binary b).rest k

      -- ---- Conditions, each with the operands before its `?`, and what stands behind each

      record Quad : Type 0 where
        test : Binary
        value : Expr
        question : ℕ
        colon : ℕ
        right : IsBinary kind_of inner test
        value_right : IsExpr kind_of inner value

      abbrev arm_in : Quad → Arm
      arm_in q = arm_of q.test q.value q.question q.colon

      abbrev arms_in : List Quad → List Arm
      arms_in [] = []
      arms_in (q ∷ qs) = arm_in q ∷ arms_in qs

      abbrev head_of : List Quad → Binary → Binary
      head_of [] last = last
      head_of (q ∷ qs) last = q.test

      abbrev tail_said : List Quad → Binary → Open
      tail_said [] last k = k
      tail_said (q ∷ qs) last k = token q.question (want.Mark MARK_QUESTION) (of_expr kind_of bytes_of q.value and token q.colon (want.Mark MARK_COLON)
          (of_prefixed kind_of bytes_of (out-Binary (head_of qs last)).first and rest_said (head_of qs last) (tail_said qs last k)))

      arms_before : (qs : List Quad) (last : Binary) (k : Said) → each (of_arm kind_of bytes_of) (arms_in qs) (of_binary kind_of bytes_of last and k) ≡ of_binary kind_of bytes_of (head_of qs last) and tail_said qs last k
      arms_before [] last k = refl
      arms_before (q ∷ qs) last k =
          ap (λ (z : Said). of_arm kind_of bytes_of (arm_in q) and z) (arms_before qs last k) ∙
          (law.arm_before kind_of bytes_of q.test q.value q.question q.colon (of_binary kind_of bytes_of (head_of qs last) and tail_said qs last k) ∙
          ap (λ (z : Said). of_binary kind_of bytes_of q.test and token q.question (want.Mark MARK_QUESTION) (of_expr kind_of bytes_of q.value and token q.colon (want.Mark MARK_COLON) z)) (binary_is (head_of qs last) (tail_said qs last k)))

      by_quads : (Q : List Arm → Type 0) → ((qs : List Quad) → Q (arms_in qs)) → (arms : List Arm) → Every (IsArm kind_of inner) arms → Q arms
      by_quads Q q [] g = q []
      by_quads Q q (a ∷ arms) g = by_quads (λ more. Q (a ∷ more)) (λ qs. subst (λ x. Q (x ∷ arms_in qs)) (roll-out-Arm a)
          (by_two (λ ms. Q (roll-Arm (record { test = (out-Arm a).test; then = (out-Arm a).then; marks = ms }) ∷ arms_in qs))
          (λ l r. q (record { test = (out-Arm a).test; value = (out-Arm a).then; question = l; colon = r; right = g.0.test; value_right = g.0.then } ∷ qs)) (out-Arm a).marks g.0.marks)) arms g.1

      head_right : (qs : List Quad) (last : Binary) → IsBinary kind_of inner last → IsBinary kind_of inner (head_of qs last)
      head_right [] last g = g
      head_right (q ∷ qs) last g = q.right

      abbrev arms_at : List Arm → Binary → Arms
      arms_at arms last = record { arms = arms; last = last }

      arm_back : (done : List Arm) (q : Quad) (b : Binary) → IsBinary kind_of inner b → Back kind_of bytes_of (λ d. lang.more_arms d level (rules d) (arms_at done q.test)) (arms_at (done ++ arm_in q ∷ []) b)
          (λ k. token q.question (want.Mark MARK_QUESTION) (of_expr kind_of bytes_of q.value and token q.colon (want.Mark MARK_COLON) (of_prefixed kind_of bytes_of (out-Binary b).first and rest_said b k)))
      unfolding lang.more_arms
      arm_back done q b g = back_token kind_of bytes_of (hears_mark kind_of bytes_of MARK_QUESTION q.question) (back_then kind_of bytes_of (inside q.value q.value_right)
          (back_token kind_of bytes_of (hears_mark kind_of bytes_of MARK_COLON q.colon) (back_then kind_of bytes_of (prefixed_back (out-Binary b).first g.first)
          (back_then kind_of bytes_of (binary_back b g) (back_pure kind_of bytes_of (with_arm (arms_at done q.test) q.value (q.question ∷ q.colon ∷ []) b))))))

      arms_back : (done : List Arm) (qs : List Quad) (last : Binary) → IsBinary kind_of inner last →
          Spins kind_of bytes_of (λ m e. many m (lang.more_arms e level (rules e)) (arms_at done (head_of qs last))) (arms_at (done ++ arms_in qs) last) (tail_said qs last)
      arms_back done [] last g = spins_same kind_of bytes_of (ap (λ z. arms_at z last) (sym (append-nil done))) (λ k. refl) (many_stop kind_of bytes_of (λ e. lang.more_arms e level (rules e)) (arms_at done last))
      arms_back done (q ∷ qs) last g = spins_same kind_of bytes_of (ap (λ z. arms_at z last) (append_assoc done (arm_in q ∷ []) (arms_in qs))) (λ k. refl)
          (many_step kind_of bytes_of (λ e. lang.more_arms e level (rules e)) (arm_back done q (head_of qs last) (head_right qs last g)) (arms_back (done ++ arm_in q ∷ []) qs last g))

      all_arms_back : (qs : List Quad) (last : Binary) → IsBinary kind_of inner last → Back kind_of bytes_of (λ d. lang.all_arms d level (rules d) (arms_start (head_of qs last))) (arms_at (arms_in qs) last) (tail_said qs last)
      unfolding lang.all_arms
      all_arms_back qs last g = back_loop kind_of bytes_of (arms_back [] qs last g)

      -- ---- Targets (6.5.16)

      operator_or : (x : OpenPrefix) → ¬ IsCast x → is_operator x ≡ true
      operator_or (o.Prefix-F.Op n) h = refl
      operator_or (o.Prefix-F.Cast t ms) h = absurd (h tt)

      no_cast_at : (ps : List Prefix) → ((cast : Prefix) (others : List Prefix) → ps ≡ cast ∷ others → ¬ IsCast (out-Prefix cast)) → no_cast_first ps ≡ true
      no_cast_at [] h = refl
      no_cast_at (p ∷ ps) h = operator_or (out-Prefix p) (h p ps refl)

      target_at_back : (done : List (Prefixed × ℕ)) (t : Prefixed × ℕ) (b : Bool) → b ≡ true →
          Back kind_of bytes_of (λ d. lang.target_at d level (rules d) done t.0 b) (Again (done ++ t ∷ [])) (token t.1 (want.Among slot.AssignOp))
      unfolding lang.set_target
      target_at_back done t true e = back_left kind_of bytes_of (back_token kind_of bytes_of (hears_assignment kind_of bytes_of t.1) (back_pure kind_of bytes_of (Again (done ++ t ∷ []))))
      target_at_back done t false e = never e

      last_at_back : (done : List (Prefixed × ℕ)) (p : Prefixed) (b : Bool) → Back kind_of bytes_of (λ d. lang.target_at d level (rules d) done p b) (Done (begun_of done p)) (λ k. k)
      last_at_back done p true = back_right kind_of bytes_of (back_pure kind_of bytes_of (Done (begun_of done p)))
      last_at_back done p false = back_pure kind_of bytes_of (Done (begun_of done p))

      target_back : (done : List (Prefixed × ℕ)) (t : Prefixed × ℕ) → IsTarget kind_of inner t →
          Back kind_of bytes_of (λ d. lang.target d level (rules d) done) (Again (done ++ t ∷ [])) (λ k. of_target kind_of bytes_of t and k)
      unfolding lang.target
      target_back done t g = back_same kind_of bytes_of refl (law.target_before kind_of bytes_of t)
          (back_then kind_of bytes_of (prefixed_back t.0 g.prefixed) (target_at_back done t (is_target t.0) (no_cast_at t.0.prefixes g.unary)))

      last_back : (done : List (Prefixed × ℕ)) (p : Prefixed) → IsPrefixed kind_of inner p →
          Back kind_of bytes_of (λ d. lang.target d level (rules d) done) (Done (begun_of done p)) (λ k. of_prefixed kind_of bytes_of p and k)
      unfolding lang.target
      last_back done p g = back_then kind_of bytes_of (prefixed_back p g) (last_at_back done p (is_target p))

      more_targets_back : (done ts : List (Prefixed × ℕ)) (p : Prefixed) → Every (IsTarget kind_of inner) ts → IsPrefixed kind_of inner p →
          Spins kind_of bytes_of (λ m e. repeat m (lang.target e level (rules e)) done) (begun_of (done ++ ts) p) (λ k. each (of_target kind_of bytes_of) ts (of_prefixed kind_of bytes_of p and k))
      more_targets_back done [] p g h = spins_same kind_of bytes_of (ap (λ z. begun_of z p) (sym (append-nil done))) (λ k. refl) (repeat_done kind_of bytes_of (λ e. lang.target e level (rules e)) (last_back done p h))
      more_targets_back done (t ∷ ts) p g h = spins_same kind_of bytes_of (ap (λ z. begun_of z p) (append_assoc done (t ∷ []) ts)) (λ k. refl)
          (repeat_again kind_of bytes_of (λ e. lang.target e level (rules e)) (target_back done t g.0) (more_targets_back (done ++ t ∷ []) ts p g.1 h))

      targets_back : (ts : List (Prefixed × ℕ)) (p : Prefixed) → Every (IsTarget kind_of inner) ts → IsPrefixed kind_of inner p →
          Back kind_of bytes_of (λ d. lang.targets d level (rules d) []) (begun_of ts p) (λ k. each (of_target kind_of bytes_of) ts (of_prefixed kind_of bytes_of p and k))
      unfolding lang.targets
      targets_back ts p g h = back_loop kind_of bytes_of (more_targets_back [] ts p g h)

      -- ---- Assignment expressions (6.5.16)

      abbrev Wholes : Assign → Type 0
      Wholes a = Back kind_of bytes_of (λ d. lang.whole d level (rules d)) a (λ k. of_assign kind_of bytes_of a and k)

      whole_by : (ts : List (Prefixed × ℕ)) (qs : List Quad) (last : Binary) → Every (IsTarget kind_of inner) ts → IsBinary kind_of inner last → Wholes (assign_of ts (arms_at (arms_in qs) last))
      unfolding lang.whole lang.rest_of
      whole_by ts qs last g h =
          let b = head_of qs last in
          let right = head_right qs last h in
          back_same kind_of bytes_of refl
          (λ k. law.assign_before kind_of bytes_of ts (arms_at (arms_in qs) last) k ∙ ap (each (of_target kind_of bytes_of) ts) (arms_before qs last k ∙ binary_is b (tail_said qs last k)))
          (back_then kind_of bytes_of {before = λ k. each (of_target kind_of bytes_of) ts (of_prefixed kind_of bytes_of (out-Binary b).first and k)} (targets_back ts (out-Binary b).first g right.first)
          (back_then kind_of bytes_of (binary_back b right) (back_then kind_of bytes_of (all_arms_back qs last h) (back_pure kind_of bytes_of (assign_of ts (arms_at (arms_in qs) last))))))

      cond_by : (ts : List (Prefixed × ℕ)) (c : Cond) → Every (IsTarget kind_of inner) ts → IsCond kind_of inner c → Wholes (roll-Assign (record { targets = ts; value = c }))
      cond_by ts c g h = subst (λ x. Wholes (roll-Assign (record { targets = ts; value = x }))) (roll-out-Cond c)
          (by_quads (λ arms. Wholes (assign_of ts (arms_at arms (out-Cond c).last))) (λ qs. whole_by ts qs (out-Cond c).last g h.last) (out-Cond c).arms (every_of (IsArm kind_of inner) (out-Cond c).arms h.arms))

      pub whole_back : (a : Assign) → IsAssign kind_of inner a → Wholes a
      whole_back a g = subst Wholes (roll-out-Assign a) (cond_by (out-Assign a).targets (out-Assign a).value (every_of (IsTarget kind_of inner) (out-Assign a).targets g.targets) g.value)
