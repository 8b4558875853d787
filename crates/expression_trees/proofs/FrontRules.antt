-- What the words of the rules of expressions are: well-formed trees that say their tokens. One term
-- a rule.

use Rattle.std.proofs.Common.{◌≡◌, ◌≢◌, ◌⊎◌, inl, inr, ℕ, zero, suc, ◌+◌, ◌<◌, Bool, true, false, List, [], ◌∷◌, ◌++◌, Option, Some, length, refl, sym, ap, ◌∙◌, subst, append_assoc, append-nil, arith}
use Rattle.std.specs.Prelude.{All, Contains}
use Rattle.c_lexer.specs.declared.token.Kind.{Kind}
use Rattle.c_lexer.specs.declared.token.Kind.TheVariants as k
use Rattle.c_lexer.specs.declared.keyword.TheConstants.{KEY_SIZEOF, KEY_ALIGNOF}
use Rattle.c_lexer.specs.declared.mark.TheConstants.{MARK_LEFT_BRACKET, MARK_RIGHT_BRACKET}
use Rattle.c_lexer.specs.declared.mark.TheConstants.{MARK_LEFT_PAREN, MARK_RIGHT_PAREN}
use Rattle.c_lexer.specs.declared.mark.TheConstants.{MARK_LEFT_BRACE, MARK_RIGHT_BRACE}
use Rattle.c_lexer.specs.declared.mark.TheConstants.{MARK_DOT, MARK_ARROW, MARK_COMMA}
use Rattle.c_lexer.specs.declared.mark.TheConstants.{MARK_QUESTION, MARK_COLON, MARK_PLUS_PLUS, MARK_MINUS_MINUS}
use Rattle.c_scopes.specs.Scopes.{OpenScopes}
use Rattle.c_tree.specs.declared.symbol.Symbol.{Symbol}
use Rattle.c_tree.specs.declared.symbol.Want.TheVariants as want
use Rattle.c_tree.specs.declared.symbol.Slot.TheVariants as slot
use Rattle.c_tree.specs.declared.tree.TypeName.{TypeName}
use Rattle.c_tree.specs.declared.tree.InitItem.{InitItem}
use Rattle.c_tree.specs.declared.tree.Expr.{Expr, roll-Expr, out-Expr, out-roll-Expr}
use Rattle.c_tree.specs.declared.tree.Assign.{Assign, roll-Assign, out-Assign, out-roll-Assign}
use Rattle.c_tree.specs.declared.tree.Cond.{Cond, roll-Cond, out-Cond, out-roll-Cond}
use Rattle.c_tree.specs.declared.tree.Arm.{Arm, roll-Arm, out-Arm, out-roll-Arm}
use Rattle.c_tree.specs.declared.tree.Binary.{Binary, roll-Binary, out-Binary, out-roll-Binary}
use Rattle.c_tree.specs.declared.tree.Prefixed.{Prefixed}
use Rattle.c_tree.specs.declared.tree.Prefix.{Prefix, out-Prefix}
use Rattle.c_tree.specs.declared.tree.Prefix.TheVariants as prefix
use Rattle.c_tree.specs.declared.tree.BaseForm.{BaseForm, roll-BaseForm, out-BaseForm, out-roll-BaseForm}
use Rattle.c_tree.specs.declared.tree.BaseForm.TheOpen as o
use Rattle.c_tree.specs.declared.tree.BaseForm.TheVariants as form
use Rattle.c_tree.specs.declared.tree.Post.{Post, roll-Post, out-Post, out-roll-Post}
use Rattle.c_tree.specs.declared.tree.Post.TheVariants as post
use Rattle.c_tree.specs.Folds.{OpenPrefix, OpenBaseForm, OpenPost}
use Rattle.c_tree.specs.Fits.{Fits}
use Rattle.c_tree.specs.Spell.{Symbols}
use Rattle.c_tree.specs.Shape.{Inner as Contents, HasMarks, HasBraces, bracketed}
use Rattle.c_tree.specs.Expressions.{IsExpr, IsPost, IsBaseForm, IsPrefix, IsPrefixed, IsBase, IsBinary, IsArm, IsCond, IsAssign, IsTarget, IsCast, IsSizeOfType, TakesUnary, AreLinked}
use Rattle.reading.specs.declared.turn.Turn.{Turn}
use Rattle.reading.specs.declared.turn.Turn.TheVariants.{Again, Done}
use Rattle.reading.specs.Rules.{pure}
use Rattle.reading.specs.Terminals.{has}
use Rattle.reading.proofs.Sets.{never}
use Rattle.c_reading.specs.Kept.{KeptToken}
use Rattle.c_reading.specs.Terminals.{TEXT, mark, key, terminal_where}
use Rattle.c_syntax.specs.declared.forms.Parts.{Parts}
use Rattle.c_syntax.specs.declared.forms.Items.{Items}
use Rattle.c_syntax.specs.declared.forms.Arms.{Arms}
use Rattle.c_syntax.specs.declared.forms.Begun.{Begun}
use Rattle.c_syntax.specs.declared.forms.Mode.{Mode}
use Rattle.c_syntax.specs.declared.forms.Mode.TheVariants.{Cast, Literal, Size}
use Rattle.c_syntax.specs.declared.forms.Chain.{Chain}
use Rattle.c_syntax.specs.declared.forms.Found.{Found}
use Rattle.c_syntax.specs.declared.forms.Found.TheVariants.{Operand, Sized}
use Rattle.c_syntax.specs.Scoping.{Part, is_typedef_name}
use Rattle.c_syntax.specs.Sets.{a_unary}
use Rattle.c_syntax.specs.Forms.{one_part, with_part, expr_of, call_of, one_item, with_item, with_mark, compound_of, flushed, chain_start, with_op, with_size, with_cast, prefixed_of, is_target, is_operator, no_cast_first, begun_of, binary_of, arms_start, with_arm, assign_of}
use Rattle.c_syntax.specs.Inner.{Inner}
use Rattle.c_syntax.specs.ExpressionRules as lang
use Rattle.expression_trees.specs.Saying.{Said, ◌and◌, token, uses, FitTokens, AreMet, AreSaid}
use Rattle.expression_trees.specs.Trees.{of_expr, of_assign, of_arm, of_binary, of_prefixed, of_target, of_operand, of_prefix, of_base_form, of_post, of_type_name, of_item}
use Rattle.expression_trees.proofs.FormsSay as law
use Rattle.expression_trees.proofs.FormsSay.{texts, each, pairs, values, commas, brace_ends, arm_of}
use Rattle.expression_trees.proofs.Lists.{Every, all_of, every_snoc, length_commas, length_marks}
use Rattle.expression_trees.proofs.Links.{out_op, out_cast, not_cast, Allows, linked_snoc, allows_last, allows_op}
use Rattle.expression_trees.proofs.Front.{Open, Adds, IsOf, adds_pure, adds_then, adds_or, adds_token, adds_part, adds_from, adds_looser, adds_same, adds_many, adds_repeat, adds_after, adds_none, by_turn}
use Rattle.expression_trees.proofs.Tokens.{says_mark, says_key, says_step, says_binary, says_assignment, says_constant, says_text, says_any, says_name, says_unary, says_prefix_step, contains_here, contains_later}

module _ (kind_of : ℕ → Option Kind) (bytes_of : ℕ → List ℕ) where
  -- The value is right, and this is what it says.
  abbrev pub Made : {A : Type 0} → (A → Said) → (A → Type 0) → A → Open → Type 0
  Made said right a f = right a × ((k : Said) → said a and k ≡ f k)

  -- ---- What wants less

  pub record Looser (given wanted : Said) : Type 0 where
    pub events : given.events ≡ wanted.events
    pub fit : (ts : List KeptToken) → FitTokens kind_of bytes_of given.symbols ts → FitTokens kind_of bytes_of wanted.symbols ts

  said_looser : (a b : Said) → Looser a b → (ts : List KeptToken) (scopes end : OpenScopes) → AreSaid kind_of bytes_of a ts scopes end → AreSaid kind_of bytes_of b ts scopes end
  said_looser a b l ts scopes end f = (l.fit ts f.0, subst (λ e. AreMet scopes e end) l.events f.1)

  fit_under : (a s t : Symbols) → ((ts : List KeptToken) → FitTokens kind_of bytes_of s ts → FitTokens kind_of bytes_of t ts) → (ts : List KeptToken) →
      FitTokens kind_of bytes_of (a ++ s) ts → FitTokens kind_of bytes_of (a ++ t) ts
  fit_under [] s t h ts f = h ts f
  fit_under (x ∷ a) s t h [] f = absurd f
  fit_under (x ∷ a) s t h (y ∷ ts) f = (f.0, fit_under a s t h ts f.1)

  looser_each : {A : Type 0} (f : A → Said) (xs : List A) (a b : Said) → Looser a b → Looser (each f xs a) (each f xs b)
  looser_each f [] a b l = l
  looser_each f (x ∷ xs) a b l =
      let r = looser_each f xs a b l in
      record { events = ap (λ e. (f x).events ++ e) r.events; fit = fit_under (f x).symbols (each f xs a).symbols (each f xs b).symbols r.fit }

  fit_sizeof : (n : ℕ) (s : Symbols) (ts : List KeptToken) → FitTokens kind_of bytes_of (record { token = n; want = want.Key KEY_SIZEOF } ∷ s) ts →
      FitTokens kind_of bytes_of (record { token = n; want = want.Among slot.PrefixOp } ∷ s) ts
  fit_sizeof n s [] f = absurd f
  fit_sizeof n s (t ∷ ts) f = ((f.0.0, inr f.0.1, f.0.2), f.1)

  fit_size_key : (key : ℕ) → Contains (KEY_SIZEOF ∷ KEY_ALIGNOF ∷ []) key → (n : ℕ) (s : Symbols) (ts : List KeptToken) → FitTokens kind_of bytes_of (record { token = n; want = want.Key key } ∷ s) ts →
      FitTokens kind_of bytes_of (record { token = n; want = want.Among slot.SizeKey } ∷ s) ts
  fit_size_key key h n s [] f = absurd f
  fit_size_key key h n s (t ∷ ts) f = ((f.0.0, (key, h, f.0.1), f.0.2), f.1)

  fit_text : (n : ℕ) (s : Symbols) (ts : List KeptToken) → FitTokens kind_of bytes_of (record { token = n; want = want.Text } ∷ s) ts →
      FitTokens kind_of bytes_of (record { token = n; want = want.Among slot.Literal } ∷ s) ts
  fit_text n s [] f = absurd f
  fit_text n s (t ∷ ts) f = ((f.0.0, inr (inr f.0.1), f.0.2), f.1)

  -- ---- Lists with commas

  -- A list with these marks before it, of which one part at least was written.
  pub record ListIs {A : Type 0} (said : A → Said) (IsGood : A → Type 0) (marks : List ℕ) (start : Open) (parts : List A) (all_marks : List ℕ) (f : Open) : Type 0 where
    pub head : A
    pub others : List (ℕ × A)
    pub parts_are : parts ≡ head ∷ values others
    pub marks_are : all_marks ≡ marks ++ commas others
    pub good : IsGood head
    pub goods : Every IsGood (values others)
    pub writes : (k : Said) → f k ≡ start (said head and pairs said others k)

  list_more : {A : Type 0} {said : A → Said} {IsGood : A → Type 0} {marks : List ℕ} {start : Open} (parts : List A) (all_marks : List ℕ) (f : Open) →
      ListIs said IsGood marks start parts all_marks f → (m : ℕ) (a : A) (g : Open) → Made said IsGood a g →
      ListIs said IsGood marks start (parts ++ a ∷ []) (all_marks ++ m ∷ []) (λ k. f (token m (want.Mark MARK_COMMA) (g k)))
  list_more {said = said} {IsGood = IsGood} {marks = marks} {start = start} parts all_marks f r m a g made = record {
    head = r.head;
    others = r.others ++ (m, a) ∷ [];
    parts_are = ap (λ (z : List _). z ++ a ∷ []) r.parts_are ∙ ap (λ (z : List _). r.head ∷ z) (sym (law.values_snoc r.others (m, a)));
    marks_are = ap (λ (z : List ℕ). z ++ m ∷ []) r.marks_are ∙ (append_assoc marks (commas r.others) (m ∷ []) ∙ ap (λ (z : List ℕ). marks ++ z) (sym (law.commas_snoc r.others (m, a))));
    good = r.good;
    goods = subst (Every IsGood) (sym (law.values_snoc r.others (m, a))) (every_snoc IsGood (values r.others) a r.goods made.0);
    writes = λ k. r.writes (token m (want.Mark MARK_COMMA) (g k)) ∙ ap (λ (z : Said). start (said r.head and z))
        (ap (λ (z : Said). pairs said r.others (token m (want.Mark MARK_COMMA) z)) (sym (made.1 k)) ∙ sym (law.pairs_snoc said r.others (m, a) k));
  }

  list_one : {A : Type 0} {said : A → Said} {IsGood : A → Type 0} (marks : List ℕ) (start : Open) (a : A) (f : Open) → Made said IsGood a f → ListIs said IsGood marks start (a ∷ []) marks (λ k. start (f k))
  list_one marks start a f made = record {
    head = a;
    others = [];
    parts_are = refl;
    marks_are = sym (append-nil marks);
    good = made.0;
    goods = tt;
    writes = λ k. ap start (sym (made.1 k));
  }

  module _ (inner : Contents) where
    abbrev PartsAre : List ℕ → Open → Parts → Open → Type 0
    PartsAre marks start p f = ListIs (of_assign kind_of bytes_of) inner.IsAssign marks start p.parts p.marks f

    expr_is : (p : Parts) (f : Open) → PartsAre [] (λ k. k) p f → Made (of_expr kind_of bytes_of) (IsExpr kind_of inner) (expr_of p) f
    expr_is p f r =
        let out = out-roll-Expr (record { parts = r.head ∷ values r.others; marks = commas r.others }) in
        let same : expr_of p ≡ roll-Expr (record { parts = r.head ∷ values r.others; marks = commas r.others }) =
        ap (λ (z : List Assign). roll-Expr (record { parts = z; marks = p.marks })) r.parts_are ∙ ap (λ (z : List ℕ). roll-Expr (record { parts = r.head ∷ values r.others; marks = z })) r.marks_are in
        let right : IsExpr kind_of inner (roll-Expr (record { parts = r.head ∷ values r.others; marks = commas r.others })) = record {
          parts = subst (λ (y : _). All inner.IsAssign y.parts) (sym out) (all_of inner.IsAssign (r.head ∷ values r.others) (r.good, r.goods));
          commas = subst (λ (y : _). length y.parts ≡ 1 + length y.marks) (sym out) (omega (arith, length_commas r.others));
        } in (
          subst (IsExpr kind_of inner) (sym same) right,
          λ k. ap (λ (z : Expr). of_expr kind_of bytes_of z and k) same ∙ (law.expr_before kind_of bytes_of r.head r.others k ∙ sym (r.writes k)),
        )

    module _ (d level : ℕ) (X : Part Assign) (fi : Adds kind_of bytes_of X (λ k. k) (Made (of_assign kind_of bytes_of) inner.IsAssign)) where
      adds_parts : (marks : List ℕ) → Adds kind_of bytes_of (lang.parts d level X marks) (λ k. k) (PartsAre marks (λ k. k))
      unfolding lang.parts lang.all_parts lang.more_parts
      adds_parts marks = adds_part kind_of bytes_of fi (λ a f made. adds_many kind_of bytes_of d {good = PartsAre marks (λ k. k)}
          (λ p g r. adds_token kind_of bytes_of (says_mark kind_of bytes_of MARK_COMMA) (λ m h. adds_part kind_of bytes_of fi (λ b q more. adds_pure kind_of bytes_of (with_part p m b) (list_more p.parts p.marks g r m b q more))))
          (one_part a marks) (list_one marks (λ k. k) a f made))

      pub adds_expr : Adds kind_of bytes_of (lang.inner_expr d level X) (λ k. k) (Made (of_expr kind_of bytes_of) (IsExpr kind_of inner))
      unfolding lang.inner_expr
      adds_expr = adds_then kind_of bytes_of (adds_parts []) (λ p f r. adds_pure kind_of bytes_of (expr_of p) (expr_is p f r))

    -- ---- Suffixes (6.5.2)

    abbrev IsSuffix : Post → Type 0
    IsSuffix p = IsPost kind_of inner (out-Post p)

    post_right : (x : OpenPost) (p : Post) → roll-Post x ≡ p → IsPost kind_of inner x → IsSuffix p
    post_right x p e g = subst IsSuffix e (subst (IsPost kind_of inner) (sym (out-roll-Post x)) g)

    abbrev IsForm : BaseForm → Type 0
    IsForm f = IsBaseForm kind_of inner (out-BaseForm f)

    form_right : (x : OpenBaseForm) (f : BaseForm) → roll-BaseForm x ≡ f → IsBaseForm kind_of inner x → IsForm f
    form_right x f e g = subst IsForm e (subst (IsBaseForm kind_of inner) (sym (out-roll-BaseForm x)) g)

    no_size : (x : OpenBaseForm) (f : BaseForm) → roll-BaseForm x ≡ f → (IsSizeOfType x → ⊥) → IsSizeOfType (out-BaseForm f) → ⊥
    no_size x f e g h = g (subst IsSizeOfType (out-roll-BaseForm x) (subst (λ z. IsSizeOfType (out-BaseForm z)) (sym e) h))

    -- What the contents of brackets are.
    pub record InnerAdds (rules : Inner) : Type 0 where
      pub assign : Adds kind_of bytes_of (rules.assign) (λ k. k) (Made (of_assign kind_of bytes_of) inner.IsAssign)
      pub type_name : Adds kind_of bytes_of (rules.type_name) (λ k. k) (Made (of_type_name kind_of bytes_of) inner.IsTypeName)
      pub item : Adds kind_of bytes_of (rules.item) (λ k. k) (Made (of_item kind_of bytes_of) inner.IsItem)

    module _ (d level : ℕ) (rules : Inner) (fi : InnerAdds rules) where
      adds_inside : Adds kind_of bytes_of (lang.inner_expr d (suc level) (rules.assign)) (λ k. k) (Made (of_expr kind_of bytes_of) (IsExpr kind_of inner))
      adds_inside = adds_expr d (suc level) (rules.assign) fi.assign

      adds_index : Adds kind_of bytes_of (lang.index d level rules) (λ k. k) (Made (of_post kind_of bytes_of) IsSuffix)
      unfolding lang.index
      adds_index = adds_token kind_of bytes_of (says_mark kind_of bytes_of MARK_LEFT_BRACKET) (λ l h. adds_part kind_of bytes_of adds_inside (λ e f m.
          adds_token kind_of bytes_of (says_mark kind_of bytes_of MARK_RIGHT_BRACKET) (λ r i. adds_pure kind_of bytes_of (post.Index e (l ∷ r ∷ [])) (
            post_right (o.Post-F.Post::Index e (l ∷ r ∷ [])) _ (post.rolls-Index e (l ∷ r ∷ [])) (m.0, refl),
            λ k. law.index_before kind_of bytes_of e l r k ∙ ap (token l (want.Mark MARK_LEFT_BRACKET)) (m.1 (token r (want.Mark MARK_RIGHT_BRACKET) k)),
          ))))

      call_is : (l r : ℕ) (p : Parts) (f : Open) → PartsAre (l ∷ []) (λ k. k) p f →
          Made (of_post kind_of bytes_of) IsSuffix (call_of p r) (λ k. token l (want.Mark MARK_LEFT_PAREN) (f (token r (want.Mark MARK_RIGHT_PAREN) k)))
      call_is l r p f x =
          let same : call_of p r ≡ post.Call (x.head ∷ values x.others) (l ∷ (commas x.others ++ r ∷ [])) =
          ap (λ (z : List Assign). post.Call z (p.marks ++ r ∷ [])) x.parts_are ∙ ap (λ (z : List ℕ). post.Call (x.head ∷ values x.others) (z ++ r ∷ [])) x.marks_are in (
            subst IsSuffix (sym same) (post_right (o.Post-F.Call (x.head ∷ values x.others) (l ∷ (commas x.others ++ r ∷ []))) _ (post.rolls-Call (x.head ∷ values x.others) (l ∷ (commas x.others ++ r ∷ [])))
                (record { each = all_of inner.IsAssign (x.head ∷ values x.others) (x.good, x.goods); commas = omega (arith, length_marks x.others (r ∷ [])) })),
            λ k. ap (λ (z : Post). of_post kind_of bytes_of z and k) same ∙ (law.call_some_before kind_of bytes_of x.head x.others l r k ∙
                ap (token l (want.Mark MARK_LEFT_PAREN)) (sym (x.writes (token r (want.Mark MARK_RIGHT_PAREN) k)))),
          )

      adds_call : Adds kind_of bytes_of (lang.call d level rules) (λ k. k) (Made (of_post kind_of bytes_of) IsSuffix)
      unfolding lang.call lang.no_arguments lang.some_arguments
      adds_call = adds_token kind_of bytes_of (says_mark kind_of bytes_of MARK_LEFT_PAREN) (λ l h. adds_or kind_of bytes_of
          (adds_token kind_of bytes_of (says_mark kind_of bytes_of MARK_RIGHT_PAREN) (λ r i. adds_pure kind_of bytes_of (post.Call [] (l ∷ r ∷ []))
          (post_right (o.Post-F.Call [] (l ∷ r ∷ [])) _ (post.rolls-Call [] (l ∷ r ∷ [])) (record { each = all_of inner.IsAssign [] tt; commas = refl }), law.call_none_before kind_of bytes_of l r)))
          (adds_part kind_of bytes_of (adds_parts d (suc level) (rules.assign) fi.assign (l ∷ [])) (λ p f x.
          adds_token kind_of bytes_of (says_mark kind_of bytes_of MARK_RIGHT_PAREN) (λ r i. adds_pure kind_of bytes_of (call_of p r) (call_is l r p f x)))))

      adds_dot : Adds kind_of bytes_of (lang.dot d level rules) (λ k. k) (Made (of_post kind_of bytes_of) IsSuffix)
      unfolding lang.dot
      adds_dot = adds_token kind_of bytes_of (says_mark kind_of bytes_of MARK_DOT) (λ m h. adds_token kind_of bytes_of (says_any kind_of bytes_of) (λ n i. adds_pure kind_of bytes_of (post.Dot n (m ∷ []))
          (post_right (o.Post-F.Dot n (m ∷ [])) _ (post.rolls-Dot n (m ∷ [])) refl, law.dot_before kind_of bytes_of n m)))

      adds_arrow : Adds kind_of bytes_of (lang.arrow d level rules) (λ k. k) (Made (of_post kind_of bytes_of) IsSuffix)
      unfolding lang.arrow
      adds_arrow = adds_token kind_of bytes_of (says_mark kind_of bytes_of MARK_ARROW) (λ m h. adds_token kind_of bytes_of (says_any kind_of bytes_of) (λ n i. adds_pure kind_of bytes_of (post.Arrow n (m ∷ []))
          (post_right (o.Post-F.Arrow n (m ∷ [])) _ (post.rolls-Arrow n (m ∷ [])) refl, law.arrow_before kind_of bytes_of n m)))

      adds_step : Adds kind_of bytes_of (lang.step d level rules) (λ k. k) (Made (of_post kind_of bytes_of) IsSuffix)
      unfolding lang.step
      adds_step = adds_token kind_of bytes_of (says_step kind_of bytes_of) (λ n h. adds_pure kind_of bytes_of (post.Step n)
          (post_right (o.Post-F.Step n) _ (post.rolls-Step n) tt, law.step_before kind_of bytes_of n))

      abbrev SuffixesAre : List Post → Open → Type 0
      SuffixesAre ps f = Every IsSuffix ps × ((k : Said) → f k ≡ each (of_post kind_of bytes_of) ps k)

      adds_suffixes : Adds kind_of bytes_of (lang.all_suffixes d level rules) (λ k. k) SuffixesAre
      unfolding lang.all_suffixes lang.more_suffixes lang.suffix
      adds_suffixes = adds_many kind_of bytes_of d {good = SuffixesAre}
          (λ ps f r. adds_part kind_of bytes_of (adds_or kind_of bytes_of adds_index (adds_or kind_of bytes_of adds_call (adds_or kind_of bytes_of adds_dot (adds_or kind_of bytes_of adds_arrow adds_step))))
          (λ p g m. adds_pure kind_of bytes_of (ps ++ p ∷ []) (
            every_snoc IsSuffix ps p r.0 m.0,
            λ k. r.1 (g k) ∙ (ap (each (of_post kind_of bytes_of) ps) (sym (m.1 k)) ∙ sym (law.each_snoc (of_post kind_of bytes_of) ps p k)),
          )))
          [] (tt, λ k. refl)

      -- ---- Compound literals (6.5.2.5)

      abbrev ItemsAre : List ℕ → Open → Items → Open → Type 0
      ItemsAre marks start p f = ListIs (of_item kind_of bytes_of) inner.IsItem marks start p.items p.marks f

      -- With what ends it: a comma or none, and the brace.
      record AllItems (marks : List ℕ) (start : Open) (p : Items) (f : Open) : Type 0 where
        before : Items
        open_ : Open
        list : ItemsAre marks start before open_
        ends : List ℕ
        ending : (length ends ≡ 1) ⊎ (length ends ≡ 2)
        items_are : p.items ≡ before.items
        marks_are : p.marks ≡ before.marks ++ ends
        writes : (k : Said) → f k ≡ open_ (brace_ends ends k)

      adds_items : (marks : List ℕ) {start : Open} (p : Items) {f : Open} → ItemsAre marks start p f → Adds kind_of bytes_of (lang.all_items d level rules p) f (AllItems marks start)
      unfolding lang.all_items lang.item lang.comma_item lang.last_item lang.next_item
      adds_items marks {start = start} p x = adds_repeat kind_of bytes_of d {fine = ItemsAre marks start}
          (λ q g r. adds_or kind_of bytes_of
          (adds_token kind_of bytes_of (says_mark kind_of bytes_of MARK_COMMA) (λ m h. adds_or kind_of bytes_of
          (adds_token kind_of bytes_of (says_mark kind_of bytes_of MARK_RIGHT_BRACE) (λ n i. adds_pure kind_of bytes_of (Done (with_mark (with_mark q m) n))
          (record { before = q; open_ = g; list = r; ends = m ∷ n ∷ []; ending = inr refl; items_are = refl; marks_are = append_assoc q.marks (m ∷ []) (n ∷ []); writes = λ k. refl })))
          (adds_part kind_of bytes_of fi.item (λ b t more. adds_pure kind_of bytes_of (Again (with_item q m b)) (list_more q.items q.marks g r m b t more)))))
          (adds_token kind_of bytes_of (says_mark kind_of bytes_of MARK_RIGHT_BRACE) (λ n i. adds_pure kind_of bytes_of (Done (with_mark q n))
          (record { before = q; open_ = g; list = r; ends = n ∷ []; ending = inl refl; items_are = refl; marks_are = refl; writes = λ k. refl }))))
          p x

      -- ---- Operands and what stands before them (6.5.3, 6.5.4)

      abbrev ArePrefixes : List Prefix → Type 0
      ArePrefixes ps = Every (λ p. IsPrefix kind_of inner (out-Prefix p)) ps × AreLinked kind_of inner ps

      abbrev ModeIs : Mode → List Prefix → Type 0
      ModeIs Cast ps = (t : TypeName) (ms : List ℕ) → Allows kind_of inner ps (prefix.Cast t ms)
      ModeIs Literal ps = Prim.Unit {0}
      ModeIs (Size n) ps = Prim.Unit {0}

      -- What is said of prefixes with a `sizeof` that is left open.
      abbrev raw : Mode → List Prefix → Open
      raw Cast ps k = each (of_prefix kind_of bytes_of) ps k
      raw Literal ps k = each (of_prefix kind_of bytes_of) ps k
      raw (Size n) ps k = each (of_prefix kind_of bytes_of) ps (token n (want.Key KEY_SIZEOF) k)

      abbrev ChainIs : Chain → Open → Type 0
      ChainIs c f = ArePrefixes c.prefixes × ModeIs c.mode c.prefixes × ((k : Said) → f k ≡ raw c.mode c.prefixes k)

      abbrev FoundIs : Found → Open → Type 0
      FoundIs (Operand ps x) f = (ArePrefixes ps × IsForm x × (IsSizeOfType (out-BaseForm x) → ⊥)) × ((k : Said) → f k ≡ each (of_prefix kind_of bytes_of) ps (of_base_form kind_of bytes_of x and k))
      FoundIs (Sized ps x) f = (ArePrefixes ps × IsForm x) × ((k : Said) → f k ≡ each (of_prefix kind_of bytes_of) ps (of_base_form kind_of bytes_of x and k))

      abbrev TurnIs : Turn Chain Found → Open → Type 0
      TurnIs = by_turn kind_of bytes_of ChainIs FoundIs

      op_right : (n : ℕ) → IsPrefix kind_of inner (out-Prefix (prefix.Op n))
      op_right n = subst (IsPrefix kind_of inner) (sym (out_op n)) tt

      cast_right : (t : TypeName) (l r : ℕ) → inner.IsTypeName t → IsPrefix kind_of inner (out-Prefix (prefix.Cast t (l ∷ r ∷ [])))
      cast_right t l r g = subst (IsPrefix kind_of inner) (sym (out_cast t (l ∷ r ∷ []))) (g, refl)

      op_more : (ps : List Prefix) (n : ℕ) → ArePrefixes ps → ArePrefixes (ps ++ prefix.Op n ∷ [])
      op_more ps n g = (every_snoc (λ p. IsPrefix kind_of inner (out-Prefix p)) ps (prefix.Op n) g.0 (op_right n), linked_snoc kind_of inner ps (prefix.Op n) g.1 (allows_op kind_of inner ps n))

      cast_more : (ps : List Prefix) (t : TypeName) (l r : ℕ) → ArePrefixes ps → ModeIs Cast ps → inner.IsTypeName t → ArePrefixes (ps ++ prefix.Cast t (l ∷ r ∷ []) ∷ [])
      cast_more ps t l r g m h = (every_snoc (λ p. IsPrefix kind_of inner (out-Prefix p)) ps (prefix.Cast t (l ∷ r ∷ [])) g.0 (cast_right t l r h), linked_snoc kind_of inner ps (prefix.Cast t (l ∷ r ∷ [])) g.1 (m t (l ∷ r ∷ [])))

      cast_allows : (ps : List Prefix) (t : TypeName) (ms : List ℕ) → ModeIs Cast (ps ++ prefix.Cast t ms ∷ [])
      cast_allows ps t ms = λ u ns. allows_last kind_of inner ps (prefix.Cast t ms) (prefix.Cast u ns) (λ h. absurd (subst (TakesUnary kind_of inner) (out_cast t ms) h))

      takes_none : (n : ℕ) → IsOf kind_of bytes_of a_unary n → TakesUnary kind_of inner (out-Prefix (prefix.Op n)) → ⊥
      takes_none n i h = of (subst (TakesUnary kind_of inner) (out_op n) h)
        where
          is_no : (kind : Kind) → kind_of n ≡ Some kind → (has a_unary (terminal_where (is_typedef_name i.scopes) kind i.spelling) ≡ true → ⊥) → ⊥
          is_no kind e g = g (let f : Some i.kind ≡ Some kind = sym i.is ∙ e in let same : i.kind ≡ kind = cc in subst (λ x. has a_unary (terminal_where (is_typedef_name i.scopes) x i.spelling) ≡ true) same i.fits)

          of : (kind_of n ≡ Some (k.Key KEY_SIZEOF)) ⊎ (kind_of n ≡ Some (k.Mark MARK_PLUS_PLUS)) ⊎ (kind_of n ≡ Some (k.Mark MARK_MINUS_MINUS)) → ⊥
          of (inl e) = is_no (k.Key KEY_SIZEOF) e never
          of (inr (inl e)) = is_no (k.Mark MARK_PLUS_PLUS) e never
          of (inr (inr e)) = is_no (k.Mark MARK_MINUS_MINUS) e never

      unary_allows : (ps : List Prefix) (n : ℕ) → IsOf kind_of bytes_of a_unary n → ModeIs Cast (ps ++ prefix.Op n ∷ [])
      unary_allows ps n i = λ t ms. allows_last kind_of inner ps (prefix.Op n) (prefix.Cast t ms) (λ h. absurd (takes_none n i h))

      op_says : (ps : List Prefix) (n : ℕ) (k : Said) → each (of_prefix kind_of bytes_of) ps (token n (want.Among slot.PrefixOp) k) ≡ each (of_prefix kind_of bytes_of) (ps ++ prefix.Op n ∷ []) k
      op_says ps n k = ap (each (of_prefix kind_of bytes_of) ps) (sym (law.op_before kind_of bytes_of n k)) ∙ sym (law.each_snoc (of_prefix kind_of bytes_of) ps (prefix.Op n) k)

      flush : (m : Mode) (ps : List Prefix) (k : Said) (ts : List KeptToken) (scopes end : OpenScopes) → AreSaid kind_of bytes_of (raw m ps k) ts scopes end →
          AreSaid kind_of bytes_of (each (of_prefix kind_of bytes_of) (flushed m ps) k) ts scopes end
      flush Cast ps k ts scopes end f = f
      flush Literal ps k ts scopes end f = f
      flush (Size n) ps k ts scopes end f =
          subst (λ (z : Said). AreSaid kind_of bytes_of z ts scopes end) (op_says ps n k)
          (said_looser _ _ (looser_each (of_prefix kind_of bytes_of) ps (token n (want.Key KEY_SIZEOF) k) (token n (want.Among slot.PrefixOp) k) (record { events = refl; fit = fit_sizeof n k.symbols })) ts scopes end f)

      flushed_right : (m : Mode) (ps : List Prefix) → ArePrefixes ps → ArePrefixes (flushed m ps)
      flushed_right Cast ps g = g
      flushed_right Literal ps g = g
      flushed_right (Size n) ps g = op_more ps n g

      abbrev Goes : Part (Turn Chain Found) → List Prefix → Type 0
      Goes X ps = Adds kind_of bytes_of X (each (of_prefix kind_of bytes_of) ps) TurnIs

      module _ (c : Chain) (g : ArePrefixes (flushed c.mode c.prefixes)) where
        abbrev ps : List Prefix
        ps = flushed c.mode c.prefixes

        adds_operator : Goes (lang.operator d level rules c) ps
        unfolding lang.operator
        adds_operator = adds_token kind_of bytes_of (says_unary kind_of bytes_of) (λ n i. adds_pure kind_of bytes_of (Again (with_op c n Cast)) (op_more ps n g, unary_allows ps n i, op_says ps n))

        adds_stepped : Goes (lang.stepped d level rules c) ps
        unfolding lang.stepped
        adds_stepped = adds_token kind_of bytes_of (says_prefix_step kind_of bytes_of) (λ n i. adds_pure kind_of bytes_of (Again (with_op c n Literal)) (op_more ps n g, tt, op_says ps n))

        adds_sized : Goes (lang.sized d level rules c) ps
        unfolding lang.sized
        adds_sized = adds_token kind_of bytes_of (says_key kind_of bytes_of KEY_SIZEOF) (λ n i. adds_pure kind_of bytes_of (Again (with_size c n)) (g, tt, λ k. refl))

        says_form : (x : BaseForm) (f : Open) → ((k : Said) → of_base_form kind_of bytes_of x and k ≡ f k) → (k : Said) →
            each (of_prefix kind_of bytes_of) ps (f k) ≡ each (of_prefix kind_of bytes_of) ps (of_base_form kind_of bytes_of x and k)
        says_form x f h k = ap (each (of_prefix kind_of bytes_of) ps) (sym (h k))

        adds_name : Goes (lang.name d level rules c) ps
        unfolding lang.name
        adds_name = adds_token kind_of bytes_of (says_name kind_of bytes_of) (λ n i. adds_pure kind_of bytes_of (Done (Operand ps (form.Name n))) (
          (g, form_right (o.BaseForm-F.BaseForm::Name n) _ (form.rolls-Name n) tt, no_size (o.BaseForm-F.BaseForm::Name n) _ (form.rolls-Name n) (λ h. h)),
          says_form (form.Name n) _ (law.name_before kind_of bytes_of n),
        ))

        literal_right : (n : ℕ) (ns : List ℕ) → IsForm (form.Literal (n ∷ ns)) × (IsSizeOfType (out-BaseForm (form.Literal (n ∷ ns))) → ⊥)
        literal_right n ns = (form_right (o.BaseForm-F.Literal (n ∷ ns)) _ (form.rolls-Literal (n ∷ ns)) (λ e. cc), no_size (o.BaseForm-F.Literal (n ∷ ns)) _ (form.rolls-Literal (n ∷ ns)) (λ h. h))

        adds_constant : Goes (lang.constant d level rules c) ps
        unfolding lang.constant
        adds_constant = adds_token kind_of bytes_of (says_constant kind_of bytes_of) (λ n i. adds_pure kind_of bytes_of (Done (Operand ps (form.Literal (n ∷ []))))
            ((g, (literal_right n []).0, (literal_right n []).1), says_form (form.Literal (n ∷ [])) _ (law.literal_before kind_of bytes_of n)))

        -- String literals behind the first one.
        record Row (n : ℕ) (ms : List ℕ) (f : Open) : Type 0 where
          extra : List ℕ
          is : ms ≡ n ∷ extra
          writes : (k : Said) → f k ≡ each (of_prefix kind_of bytes_of) ps (token n want.Text (texts extra k))

        adds_row : (n : ℕ) → Adds kind_of bytes_of (lang.more_texts d level (n ∷ [])) (λ k. each (of_prefix kind_of bytes_of) ps (token n want.Text k)) (Row n)
        unfolding lang.more_texts lang.one_more_text
        adds_row n = adds_many kind_of bytes_of d {good = Row n}
            (λ ms f r. adds_token kind_of bytes_of (says_text kind_of bytes_of) (λ m h. adds_pure kind_of bytes_of (ms ++ m ∷ [])
            (record {
              extra = r.extra ++ m ∷ [];
              is = ap (λ (z : List ℕ). z ++ m ∷ []) r.is;
              writes = λ k. r.writes (token m want.Text k) ∙ ap (λ (z : Said). each (of_prefix kind_of bytes_of) ps (token n want.Text z)) (sym (law.texts_snoc r.extra m k));
            })))
            (n ∷ []) (record { extra = []; is = refl; writes = λ k. refl })

        unfoldable LiteralIs : List ℕ → Open → Type 0
        LiteralIs ms f = (IsForm (form.Literal ms) × (IsSizeOfType (out-BaseForm (form.Literal ms)) → ⊥)) ×
            ((k : Said) → f k ≡ each (of_prefix kind_of bytes_of) ps (of_base_form kind_of bytes_of (form.Literal ms) and k))

        row_literal : (n : ℕ) (ms : List ℕ) (f : Open) (extra : List ℕ) → ms ≡ n ∷ extra → ((k : Said) → f k ≡ each (of_prefix kind_of bytes_of) ps (token n want.Text (texts extra k))) →
            (f' : Open) × ((k : Said) (ts : List KeptToken) (scopes end : OpenScopes) → AreSaid kind_of bytes_of (f k) ts scopes end → AreSaid kind_of bytes_of (f' k) ts scopes end) × LiteralIs ms f'
        unfolding LiteralIs
        row_literal n ms f [] e w = (
          (λ k. each (of_prefix kind_of bytes_of) ps (token n (want.Among slot.Literal) k)),
          (λ k ts scopes end h. said_looser _ _ (looser_each (of_prefix kind_of bytes_of) ps (token n want.Text k) (token n (want.Among slot.Literal) k) (record { events = refl; fit = fit_text n k.symbols })) ts scopes end
              (subst (λ (z : Said). AreSaid kind_of bytes_of z ts scopes end) (w k) h)),
          subst (λ (z : List ℕ). (IsForm (form.Literal z) × (IsSizeOfType (out-BaseForm (form.Literal z)) → ⊥)) ×
              ((k : Said) → each (of_prefix kind_of bytes_of) ps (token n (want.Among slot.Literal) k) ≡ each (of_prefix kind_of bytes_of) ps (of_base_form kind_of bytes_of (form.Literal z) and k))) (sym e)
              (literal_right n [], says_form (form.Literal (n ∷ [])) _ (law.literal_before kind_of bytes_of n)),
        )
        row_literal n ms f (m ∷ extra) e w = (
          f,
          (λ k ts scopes end h. h),
          subst (λ (z : List ℕ). (IsForm (form.Literal z) × (IsSizeOfType (out-BaseForm (form.Literal z)) → ⊥)) ×
              ((k : Said) → f k ≡ each (of_prefix kind_of bytes_of) ps (of_base_form kind_of bytes_of (form.Literal z) and k))) (sym e)
              (literal_right n (m ∷ extra), λ k. w k ∙ says_form (form.Literal (n ∷ m ∷ extra)) _ (law.literals_before kind_of bytes_of n m extra) k),
        )

        adds_text : Goes (lang.text d level rules c) ps
        unfolding lang.text LiteralIs
        adds_text = adds_token kind_of bytes_of (says_text kind_of bytes_of) (λ n i. adds_then kind_of bytes_of (adds_looser kind_of bytes_of {good = LiteralIs} (λ ms f r. row_literal n ms f r.extra r.is r.writes) (adds_row n))
            (λ ms f r. adds_pure kind_of bytes_of (Done (Operand ps (form.Literal ms))) ((g, r.0.0, r.0.1), r.1)))

        adds_grouped : (l : ℕ) → Adds kind_of bytes_of (lang.grouped d level rules c l) (λ k. each (of_prefix kind_of bytes_of) ps (token l (want.Mark MARK_LEFT_PAREN) k)) TurnIs
        unfolding lang.grouped
        adds_grouped l = adds_part kind_of bytes_of adds_inside (λ e f m. adds_token kind_of bytes_of (says_mark kind_of bytes_of MARK_RIGHT_PAREN) (λ r i.
            adds_pure kind_of bytes_of (Done (Operand ps (form.Group e (l ∷ r ∷ [])))) (
              (g, form_right (o.BaseForm-F.BaseForm::Group e (l ∷ r ∷ [])) _ (form.rolls-Group e (l ∷ r ∷ [])) (m.0, refl), no_size (o.BaseForm-F.BaseForm::Group e (l ∷ r ∷ [])) _ (form.rolls-Group e (l ∷ r ∷ [])) (λ h. h)),
              says_form (form.Group e (l ∷ r ∷ [])) (λ k. token l (want.Mark MARK_LEFT_PAREN) (f (token r (want.Mark MARK_RIGHT_PAREN) k)))
                  (λ k. law.group_before kind_of bytes_of e l r k ∙ ap (token l (want.Mark MARK_LEFT_PAREN)) (m.1 (token r (want.Mark MARK_RIGHT_PAREN) k))),
            )))

      -- A type name in parentheses, and then the rest.
      abbrev in_parens : TypeName → ℕ → ℕ → Open
      in_parens t l r k = token l (want.Mark MARK_LEFT_PAREN) (of_type_name kind_of bytes_of t and token r (want.Mark MARK_RIGHT_PAREN) k)

      size_right : (n : ℕ) (t : TypeName) (l r : ℕ) → inner.IsTypeName t → IsForm (form.SizeType n t (l ∷ r ∷ []))
      size_right n t l r g = form_right (o.BaseForm-F.SizeType n t (l ∷ r ∷ [])) _ (form.rolls-SizeType n t (l ∷ r ∷ [])) (g, refl)

      size_found : (key : ℕ) → Contains (KEY_SIZEOF ∷ KEY_ALIGNOF ∷ []) key → (ps : List Prefix) (n : ℕ) (t : TypeName) (l r : ℕ) → ArePrefixes ps → inner.IsTypeName t →
          Adds kind_of bytes_of (pure (Done (Sized ps (form.SizeType n t (l ∷ r ∷ []))))) (λ k. each (of_prefix kind_of bytes_of) ps (token n (want.Key key) (in_parens t l r k))) TurnIs
      size_found key h ps n t l r g m = adds_from kind_of bytes_of
          (λ k ts scopes end f. said_looser _ _ (looser_each (of_prefix kind_of bytes_of) ps (token n (want.Key key) (in_parens t l r k)) (token n (want.Among slot.SizeKey) (in_parens t l r k))
          (record { events = refl; fit = fit_size_key key h n (in_parens t l r k).symbols })) ts scopes end f)
          (adds_pure kind_of bytes_of (Done (Sized ps (form.SizeType n t (l ∷ r ∷ []))))
          ((g, size_right n t l r m), λ k. ap (each (of_prefix kind_of bytes_of) ps) (sym (law.size_before kind_of bytes_of n t l r k))))

      record CompoundIs (ps : List Prefix) (x : BaseForm) (f : Open) : Type 0 where
        right : IsForm x
        no_size_type : IsSizeOfType (out-BaseForm x) → ⊥
        writes : (k : Said) → f k ≡ each (of_prefix kind_of bytes_of) ps (of_base_form kind_of bytes_of x and k)

      compound_right : (t : TypeName) (l r b : ℕ) (a : InitItem) (qs : List (ℕ × InitItem)) (ends : List ℕ) → inner.IsTypeName t → Every inner.IsItem (a ∷ values qs) → (length ends ≡ 1) ⊎ (length ends ≡ 2) →
          IsBaseForm kind_of inner (o.BaseForm-F.Compound t (a ∷ values qs) (l ∷ r ∷ b ∷ (commas qs ++ ends)))
      compound_right t l r b a qs ends m g h = (m, all_of inner.IsItem (a ∷ values qs) g, record { some = omega arith; count = of h })
        where
          of : (length ends ≡ 1) ⊎ (length ends ≡ 2) → (length (b ∷ (commas qs ++ ends)) ≡ 1 + length (a ∷ values qs)) ⊎ (length (b ∷ (commas qs ++ ends)) ≡ 2 + length (a ∷ values qs))
          of (inl e) = inl (omega (arith, length_marks qs ends))
          of (inr e) = inr (omega (arith, length_marks qs ends))

      compound_is : (ps : List Prefix) (t : TypeName) (l r b : ℕ) (p : Items) (f : Open) → inner.IsTypeName t →
          AllItems (l ∷ r ∷ b ∷ []) (λ k. each (of_prefix kind_of bytes_of) ps (in_parens t l r (token b (want.Mark MARK_LEFT_BRACE) k))) p f → CompoundIs ps (compound_of t p) f
      compound_is ps t l r b p f m x =
          let y = x.list in
          let same : compound_of t p ≡ form.Compound t (y.head ∷ values y.others) (l ∷ r ∷ b ∷ (commas y.others ++ x.ends)) =
          ap (λ (z : List InitItem). form.Compound t z p.marks) (x.items_are ∙ y.parts_are) ∙ ap (form.Compound t (y.head ∷ values y.others)) (x.marks_are ∙ ap (λ (z : List ℕ). z ++ x.ends) y.marks_are) in
          let open_ = o.BaseForm-F.Compound t (y.head ∷ values y.others) (l ∷ r ∷ b ∷ (commas y.others ++ x.ends)) in
          let rolls = form.rolls-Compound t (y.head ∷ values y.others) (l ∷ r ∷ b ∷ (commas y.others ++ x.ends)) in
          record {
            right = subst IsForm (sym same) (form_right open_ _ rolls (compound_right t l r b y.head y.others x.ends m (y.good, y.goods) x.ending));
            no_size_type = subst (λ (z : BaseForm). IsSizeOfType (out-BaseForm z) → ⊥) (sym same) (no_size open_ _ rolls (λ h. h));
            writes = λ k. x.writes k ∙ (y.writes (brace_ends x.ends k) ∙
                (ap (each (of_prefix kind_of bytes_of) ps) (sym (law.compound_before kind_of bytes_of t l r b y.head y.others x.ends k)) ∙
                ap (λ (z : BaseForm). each (of_prefix kind_of bytes_of) ps (of_base_form kind_of bytes_of z and k)) (sym same)));
          }

      adds_with_compound : (ps : List Prefix) (t : TypeName) (l r : ℕ) → ArePrefixes ps → inner.IsTypeName t →
          Adds kind_of bytes_of (lang.with_compound d level rules ps t (l ∷ r ∷ [])) (λ k. each (of_prefix kind_of bytes_of) ps (in_parens t l r k)) TurnIs
      unfolding lang.with_compound lang.compound
      adds_with_compound ps t l r g m = adds_then kind_of bytes_of {fine = CompoundIs ps}
          (adds_token kind_of bytes_of (says_mark kind_of bytes_of MARK_LEFT_BRACE) (λ b h. adds_part kind_of bytes_of fi.item (λ a f made.
          adds_then kind_of bytes_of (adds_items (l ∷ r ∷ b ∷ []) (one_item a (l ∷ r ∷ b ∷ []))
          (list_one (l ∷ r ∷ b ∷ []) (λ k. each (of_prefix kind_of bytes_of) ps (in_parens t l r (token b (want.Mark MARK_LEFT_BRACE) k))) a f made))
          (λ p q x. adds_pure kind_of bytes_of (compound_of t p) (compound_is ps t l r b p q m x)))))
          (λ x f y. adds_pure kind_of bytes_of (Done (Operand ps x)) ((g, y.right, y.no_size_type), y.writes))

      -- Behind a type name in parentheses.
      adds_typed_at : (c : Chain) (t : TypeName) (l r : ℕ) (m : Mode) → ArePrefixes c.prefixes → ModeIs m c.prefixes → inner.IsTypeName t →
          Adds kind_of bytes_of (lang.typed_at d level rules c t (l ∷ r ∷ []) m) (λ k. raw m c.prefixes (in_parens t l r k)) TurnIs
      adds_typed_at c t l r Cast g h i = adds_or kind_of bytes_of (adds_with_compound c.prefixes t l r g i)
          (adds_pure kind_of bytes_of (Again (with_cast c.prefixes t (l ∷ r ∷ []))) (
            cast_more c.prefixes t l r g h i,
            cast_allows c.prefixes t (l ∷ r ∷ []),
            λ k. ap (each (of_prefix kind_of bytes_of) c.prefixes) (sym (law.cast_before kind_of bytes_of t l r k)) ∙ sym (law.each_snoc (of_prefix kind_of bytes_of) c.prefixes (prefix.Cast t (l ∷ r ∷ [])) k),
          ))
      adds_typed_at c t l r Literal g h i = adds_with_compound c.prefixes t l r g i
      adds_typed_at c t l r (Size n) g h i = adds_or kind_of bytes_of
          (adds_from kind_of bytes_of (λ k. flush (Size n) c.prefixes (in_parens t l r k)) (adds_with_compound (flushed (Size n) c.prefixes) t l r (op_more c.prefixes n g) i))
          (size_found KEY_SIZEOF (contains_here KEY_SIZEOF (KEY_ALIGNOF ∷ [])) c.prefixes n t l r g i)

      adds_typed : (c : Chain) (l : ℕ) → ArePrefixes c.prefixes → ModeIs c.mode c.prefixes →
          Adds kind_of bytes_of (lang.typed d level rules c l) (λ k. raw c.mode c.prefixes (token l (want.Mark MARK_LEFT_PAREN) k)) TurnIs
      unfolding lang.typed
      adds_typed c l g h = adds_part kind_of bytes_of fi.type_name (λ t f m. adds_token kind_of bytes_of (says_mark kind_of bytes_of MARK_RIGHT_PAREN) (λ r i.
          adds_same kind_of bytes_of (λ k. ap (λ (z : Said). raw c.mode c.prefixes (token l (want.Mark MARK_LEFT_PAREN) z)) (sym (m.1 (token r (want.Mark MARK_RIGHT_PAREN) k))))
          (adds_typed_at c t l r c.mode g h m.0)))

      adds_paren : (c : Chain) → ArePrefixes c.prefixes → ModeIs c.mode c.prefixes → Adds kind_of bytes_of (lang.paren d level rules c) (raw c.mode c.prefixes) TurnIs
      unfolding lang.paren
      adds_paren c g h = adds_token kind_of bytes_of (says_mark kind_of bytes_of MARK_LEFT_PAREN) (λ l i. adds_or kind_of bytes_of (adds_typed c l g h)
          (adds_from kind_of bytes_of (λ k. flush c.mode c.prefixes (token l (want.Mark MARK_LEFT_PAREN) k)) (adds_grouped c (flushed_right c.mode c.prefixes g) l)))

      adds_aligned : (c : Chain) → ArePrefixes (flushed c.mode c.prefixes) → Goes (lang.aligned d level rules c) (flushed c.mode c.prefixes)
      unfolding lang.aligned
      adds_aligned c g = adds_token kind_of bytes_of (says_key kind_of bytes_of KEY_ALIGNOF) (λ n i. adds_token kind_of bytes_of (says_mark kind_of bytes_of MARK_LEFT_PAREN) (λ l j.
          adds_part kind_of bytes_of fi.type_name (λ t f m. adds_token kind_of bytes_of (says_mark kind_of bytes_of MARK_RIGHT_PAREN) (λ r o.
          adds_same kind_of bytes_of (λ k. ap (λ (z : Said). each (of_prefix kind_of bytes_of) (flushed c.mode c.prefixes) (token n (want.Key KEY_ALIGNOF) (token l (want.Mark MARK_LEFT_PAREN) z))) (sym (m.1 (token r (want.Mark MARK_RIGHT_PAREN) k))))
          (size_found KEY_ALIGNOF (contains_later KEY_SIZEOF KEY_ALIGNOF (KEY_ALIGNOF ∷ []) (contains_here KEY_ALIGNOF [])) (flushed c.mode c.prefixes) n t l r g m.0)))))

      adds_link : (c : Chain) (f : Open) → ChainIs c f → Adds kind_of bytes_of (lang.link d level rules c) f TurnIs
      unfolding lang.link
      adds_link c f g = adds_same kind_of bytes_of {before' = raw c.mode c.prefixes} g.2
          (adds_or kind_of bytes_of (flat (adds_operator c whole)) (adds_or kind_of bytes_of (flat (adds_stepped c whole)) (adds_or kind_of bytes_of (flat (adds_sized c whole)) (adds_or kind_of bytes_of (flat (adds_aligned c whole))
          (adds_or kind_of bytes_of (adds_paren c g.0 g.1) (adds_or kind_of bytes_of (flat (adds_name c whole)) (adds_or kind_of bytes_of (flat (adds_constant c whole)) (flat (adds_text c whole)))))))))
        where
          whole : ArePrefixes (flushed c.mode c.prefixes)
          whole = flushed_right c.mode c.prefixes g.0

          flat : {X : Part (Turn Chain Found)} → Goes X (flushed c.mode c.prefixes) → Adds kind_of bytes_of X (raw c.mode c.prefixes) TurnIs
          flat p = adds_from kind_of bytes_of (flush c.mode c.prefixes) p

      adds_links : (c : Chain) {f : Open} → ChainIs c f → Adds kind_of bytes_of (lang.links d level rules c) f FoundIs
      unfolding lang.links
      adds_links c x = adds_repeat kind_of bytes_of d {fine = ChainIs} adds_link c x

      start_is : ChainIs chain_start (λ k. k)
      start_is = ((tt, tt), (λ t ms. tt), λ k. refl)

      prefixed_right : (ps : List Prefix) (x : BaseForm) (s : List Post) → ArePrefixes ps → IsForm x → Every IsSuffix s → (IsSizeOfType (out-BaseForm x) → s ≡ []) → IsPrefixed kind_of inner (prefixed_of ps x s)
      prefixed_right ps x s g h i j = record {
        prefixes = all_of (λ p. IsPrefix kind_of inner (out-Prefix p)) ps g.0;
        linked = g.1;
        base = record { form = h; suffixes = all_of IsSuffix s i; bare = j };
      }

      adds_finished : (x : Found) (f : Open) → FoundIs x f → Adds kind_of bytes_of (lang.finished d level rules x) f (Made (of_prefixed kind_of bytes_of) (IsPrefixed kind_of inner))
      adds_finished (Operand ps x) f g = adds_part kind_of bytes_of adds_suffixes (λ s h i. adds_pure kind_of bytes_of (prefixed_of ps x s) (
        prefixed_right ps x s g.0.0 g.0.1 i.0 (λ z. absurd (g.0.2 z)),
        λ k. law.prefixed_before kind_of bytes_of ps x s k ∙ (ap (λ (z : Said). each (of_prefix kind_of bytes_of) ps (of_base_form kind_of bytes_of x and z)) (sym (i.1 k)) ∙ sym (g.1 (h k))),
      ))
      adds_finished (Sized ps x) f g = adds_pure kind_of bytes_of (prefixed_of ps x [])
          (prefixed_right ps x [] g.0.0 g.0.1 tt (λ z. refl), λ k. law.prefixed_before kind_of bytes_of ps x [] k ∙ sym (g.1 k))

      pub adds_prefixed : Adds kind_of bytes_of (lang.prefixed d level rules) (λ k. k) (Made (of_prefixed kind_of bytes_of) (IsPrefixed kind_of inner))
      unfolding lang.prefixed
      adds_prefixed = adds_then kind_of bytes_of (adds_links chain_start start_is) adds_finished

      -- ---- Operators (6.5.5 to 6.5.16)

      abbrev AreOperands : List (ℕ × Prefixed) → Type 0
      AreOperands xs = Every (λ (x : ℕ × Prefixed). IsPrefixed kind_of inner x.1) xs

      abbrev OperandsAre : List (ℕ × Prefixed) → Open → Type 0
      OperandsAre xs f = AreOperands xs × ((k : Said) → f k ≡ each (of_operand kind_of bytes_of) xs k)

      adds_operands : Adds kind_of bytes_of (lang.all_operands d level rules) (λ k. k) OperandsAre
      unfolding lang.all_operands lang.more_operands
      adds_operands = adds_many kind_of bytes_of d {good = OperandsAre}
          (λ xs f r. adds_token kind_of bytes_of (says_binary kind_of bytes_of) (λ n h. adds_part kind_of bytes_of adds_prefixed (λ p g m. adds_pure kind_of bytes_of (xs ++ (n, p) ∷ []) (
            every_snoc (λ (x : ℕ × Prefixed). IsPrefixed kind_of inner x.1) xs (n, p) r.0 m.0,
            λ k. r.1 (token n (want.Among slot.BinaryOp) (g k)) ∙ (ap (λ (z : Said). each (of_operand kind_of bytes_of) xs (token n (want.Among slot.BinaryOp) z)) (sym (m.1 k)) ∙
                sym (law.each_snoc (of_operand kind_of bytes_of) xs (n, p) k)),
          ))))
          [] (tt, λ k. refl)

      -- Behind its first operand.
      adds_binary : (p : Prefixed) (start : Open) → IsPrefixed kind_of inner p → Adds kind_of bytes_of (lang.binary d level rules p) (λ k. start (of_prefixed kind_of bytes_of p and k))
          (λ b f. IsBinary kind_of inner b × ((k : Said) → f k ≡ start (of_binary kind_of bytes_of b and k)))
      unfolding lang.binary
      adds_binary p start g = adds_part kind_of bytes_of adds_operands (λ xs f r. adds_pure kind_of bytes_of (binary_of p xs) (
        let out = out-roll-Binary (record { first = p; rest = xs }) in record {
          first = subst (λ (y : _). IsPrefixed kind_of inner y.first) (sym out) g;
          rest = subst (λ (y : _). All (λ (x : ℕ × Prefixed). IsPrefixed kind_of inner x.1) y.rest) (sym out) (all_of (λ (x : ℕ × Prefixed). IsPrefixed kind_of inner x.1) xs r.0);
        },
        λ k. ap (λ (z : Said). start (of_prefixed kind_of bytes_of p and z)) (r.1 k) ∙ ap start (sym (law.binary_before kind_of bytes_of p xs k)),
      ))

      abbrev ArmsAre : Open → Arms → Open → Type 0
      ArmsAre start s f = Every (IsArm kind_of inner) s.arms × IsBinary kind_of inner s.last × ((k : Said) → f k ≡ start (each (of_arm kind_of bytes_of) s.arms (of_binary kind_of bytes_of s.last and k)))

      arm_right : (t : Binary) (e : Expr) (q c : ℕ) → IsBinary kind_of inner t → IsExpr kind_of inner e → IsArm kind_of inner (arm_of t e q c)
      arm_right t e q c g h = let out = out-roll-Arm (record { test = t; then = e; marks = q ∷ c ∷ [] }) in record {
        test = subst (λ (y : _). IsBinary kind_of inner y.test) (sym out) g;
        then = subst (λ (y : _). IsExpr kind_of inner y.then) (sym out) h;
        marks = subst (λ (y : _). length y.marks ≡ 2) (sym out) refl;
      }

      armed : (start : Open) (s : Arms) (f g h : Open) (e : Expr) (q c : ℕ) → ArmsAre start s f → Made (of_expr kind_of bytes_of) (IsExpr kind_of inner) e g → (b : Binary) → IsBinary kind_of inner b →
          ((k : Said) → h k ≡ f (token q (want.Mark MARK_QUESTION) (g (token c (want.Mark MARK_COLON) (of_binary kind_of bytes_of b and k))))) → ArmsAre start (with_arm s e (q ∷ c ∷ []) b) h
      armed start s f g h e q c r m b i writes = (
        every_snoc (IsArm kind_of inner) s.arms (arm_of s.last e q c) r.0 (arm_right s.last e q c r.1 m.0),
        i,
        λ k. let z : Said = token c (want.Mark MARK_COLON) (of_binary kind_of bytes_of b and k) in
            writes k ∙ (r.2 (token q (want.Mark MARK_QUESTION) (g z)) ∙
            (ap (λ (y : Said). start (each (of_arm kind_of bytes_of) s.arms (of_binary kind_of bytes_of s.last and token q (want.Mark MARK_QUESTION) y))) (sym (m.1 z)) ∙
            (ap (λ (y : Said). start (each (of_arm kind_of bytes_of) s.arms y)) (sym (law.arm_before kind_of bytes_of s.last e q c (of_binary kind_of bytes_of b and k))) ∙
            ap start (sym (law.each_snoc (of_arm kind_of bytes_of) s.arms (arm_of s.last e q c) (of_binary kind_of bytes_of b and k)))))),
      )

      adds_arms : (start : Open) (s : Arms) {f : Open} → ArmsAre start s f → Adds kind_of bytes_of (lang.all_arms d level rules s) f (ArmsAre start)
      unfolding lang.all_arms lang.more_arms
      adds_arms start s x = adds_many kind_of bytes_of d {good = ArmsAre start}
          (λ s f r. adds_token kind_of bytes_of (says_mark kind_of bytes_of MARK_QUESTION) (λ q h. adds_part kind_of bytes_of adds_inside (λ e g m. adds_token kind_of bytes_of (says_mark kind_of bytes_of MARK_COLON) (λ c i.
          adds_part kind_of bytes_of adds_prefixed (λ p j n.
          adds_same kind_of bytes_of (λ k. ap (λ (z : Said). f (token q (want.Mark MARK_QUESTION) (g (token c (want.Mark MARK_COLON) z)))) (sym (n.1 k)))
          (adds_then kind_of bytes_of (adds_binary p (λ k. f (token q (want.Mark MARK_QUESTION) (g (token c (want.Mark MARK_COLON) k)))) n.0)
          (λ b l o. adds_pure kind_of bytes_of (with_arm s e (q ∷ c ∷ []) b) (armed start s f g l e q c r m b o.0 o.1))))))))
          s x

      -- ---- Targets (6.5.16)

      abbrev TargetsAre : List (Prefixed × ℕ) → Open → Type 0
      TargetsAre ts f = Every (IsTarget kind_of inner) ts × ((k : Said) → f k ≡ each (of_target kind_of bytes_of) ts k)

      abbrev BegunIs : Begun → Open → Type 0
      BegunIs b f = Every (IsTarget kind_of inner) b.targets × IsPrefixed kind_of inner b.first × ((k : Said) → f k ≡ each (of_target kind_of bytes_of) b.targets (of_prefixed kind_of bytes_of b.first and k))

      op_no_cast : (x : OpenPrefix) → is_operator x ≡ true → IsCast x → ⊥
      op_no_cast (o.Prefix-F.Op n) e h = h
      op_no_cast (o.Prefix-F.Cast t ms) e h = never e

      first_no_cast : (ps : List Prefix) → no_cast_first ps ≡ true → (cast : Prefix) (others : List Prefix) → ps ≡ cast ∷ others → IsCast (out-Prefix cast) → ⊥
      first_no_cast [] e cast others same h = absurd (cc)
      first_no_cast (p ∷ ps) e cast others same h = op_no_cast (out-Prefix p) e (subst (λ z. IsCast (out-Prefix z)) (let f : cast ≡ p = cc in f) h)

      target_right : (p : Prefixed) (n : ℕ) → IsPrefixed kind_of inner p → is_target p ≡ true → IsTarget kind_of inner (p, n)
      target_right p n g e = record { prefixed = g; unary = first_no_cast p.prefixes e }

      adds_target_at : (ts : List (Prefixed × ℕ)) (p : Prefixed) (f : Open) (b : Bool) → b ≡ is_target p → Every (IsTarget kind_of inner) ts → IsPrefixed kind_of inner p →
          ((k : Said) → f k ≡ each (of_target kind_of bytes_of) ts (of_prefixed kind_of bytes_of p and k)) → Adds kind_of bytes_of (lang.target_at d level rules ts p b) f (by_turn kind_of bytes_of TargetsAre BegunIs)
      unfolding lang.set_target
      adds_target_at ts p f true e g h writes = adds_or kind_of bytes_of
          (adds_token kind_of bytes_of (says_assignment kind_of bytes_of) (λ n i. adds_pure kind_of bytes_of (Again (ts ++ (p, n) ∷ [])) (
            every_snoc (IsTarget kind_of inner) ts (p, n) g (target_right p n h (sym e)),
            λ k. writes (token n (want.Among slot.AssignOp) k) ∙ (ap (each (of_target kind_of bytes_of) ts) (sym (law.target_before kind_of bytes_of (p, n) k)) ∙ sym (law.each_snoc (of_target kind_of bytes_of) ts (p, n) k)),
          )))
          (adds_pure kind_of bytes_of (Done (begun_of ts p)) (g, h, writes))
      adds_target_at ts p f false e g h writes = adds_pure kind_of bytes_of (Done (begun_of ts p)) (g, h, writes)

      adds_targets : (ts : List (Prefixed × ℕ)) {f : Open} → TargetsAre ts f → Adds kind_of bytes_of (lang.targets d level rules ts) f BegunIs
      unfolding lang.targets lang.target
      adds_targets ts x = adds_repeat kind_of bytes_of d {fine = TargetsAre}
          (λ ts f r. adds_part kind_of bytes_of adds_prefixed (λ p g m. adds_target_at ts p _ (is_target p) refl r.0 m.0 (λ k. r.1 (g k) ∙ ap (each (of_target kind_of bytes_of) ts) (sym (m.1 k)))))
          ts x

      cond_right : (s : Arms) → Every (IsArm kind_of inner) s.arms → IsBinary kind_of inner s.last → IsCond kind_of inner (roll-Cond (record { arms = s.arms; last = s.last }))
      cond_right s g h = let out = out-roll-Cond (record { arms = s.arms; last = s.last }) in record {
        arms = subst (λ (y : _). All (IsArm kind_of inner) y.arms) (sym out) (all_of (IsArm kind_of inner) s.arms g);
        last = subst (λ (y : _). IsBinary kind_of inner y.last) (sym out) h;
      }

      assign_right : (ts : List (Prefixed × ℕ)) (s : Arms) → Every (IsTarget kind_of inner) ts → Every (IsArm kind_of inner) s.arms → IsBinary kind_of inner s.last → IsAssign kind_of inner (assign_of ts s)
      assign_right ts s e g h = let out = out-roll-Assign (record { targets = ts; value = roll-Cond (record { arms = s.arms; last = s.last }) }) in record {
        targets = subst (λ (y : _). All (IsTarget kind_of inner) y.targets) (sym out) (all_of (IsTarget kind_of inner) ts e);
        value = subst (λ (y : _). IsCond kind_of inner y.value) (sym out) (cond_right s g h);
      }

      adds_rest : (b : Begun) {f : Open} → BegunIs b f → Adds kind_of bytes_of (lang.rest_of d level rules b) f (Made (of_assign kind_of bytes_of) (IsAssign kind_of inner))
      unfolding lang.rest_of
      adds_rest b r = adds_same kind_of bytes_of r.2
          (adds_then kind_of bytes_of (adds_binary b.first (each (of_target kind_of bytes_of) b.targets) r.1) (λ x g m.
          adds_then kind_of bytes_of (adds_arms (each (of_target kind_of bytes_of) b.targets) (arms_start x) (tt, m.0, m.1)) (λ s h n. adds_pure kind_of bytes_of (assign_of b.targets s)
          (assign_right b.targets s r.0 n.0 n.1, λ k. law.assign_before kind_of bytes_of b.targets s k ∙ sym (n.2 k)))))

      pub adds_whole : Adds kind_of bytes_of (lang.whole d level rules) (λ k. k) (Made (of_assign kind_of bytes_of) (IsAssign kind_of inner))
      unfolding lang.whole
      adds_whole = adds_then kind_of bytes_of (adds_targets [] (tt, λ k. refl)) (λ b f r. adds_rest b r)
