-- What the forms of expressions say, by their fields, before the rest.

use Rattle.std.proofs.Common.{◌≡◌, ℕ, true, false, List, [], ◌∷◌, ◌++◌, Option, None, map, refl, sym, ap, ◌∙◌, append_assoc, append-nil}
use Rattle.std.specs.List.{flat_map}
use Rattle.c_lexer.specs.declared.token.Kind.{Kind}
use Rattle.c_lexer.specs.declared.mark.TheConstants.{MARK_LEFT_BRACKET, MARK_RIGHT_BRACKET}
use Rattle.c_lexer.specs.declared.mark.TheConstants.{MARK_LEFT_PAREN, MARK_RIGHT_PAREN}
use Rattle.c_lexer.specs.declared.mark.TheConstants.{MARK_LEFT_BRACE, MARK_RIGHT_BRACE}
use Rattle.c_lexer.specs.declared.mark.TheConstants.{MARK_DOT, MARK_ARROW, MARK_COMMA}
use Rattle.c_lexer.specs.declared.mark.TheConstants.{MARK_QUESTION, MARK_COLON, MARK_STAR}
use Rattle.c_scopes.specs.Events.{Event}
use Rattle.c_tree.specs.declared.symbol.Want.{Want}
use Rattle.c_tree.specs.declared.symbol.Want.TheVariants as want
use Rattle.c_tree.specs.declared.symbol.Slot.TheVariants as slot
use Rattle.c_tree.specs.declared.tree.TypeName.{TypeName, roll-TypeName, out-TypeName, out-roll-TypeName}
use Rattle.c_tree.specs.declared.tree.Spec.{Spec}
use Rattle.c_tree.specs.declared.tree.Spec.TheVariants as spec
use Rattle.c_tree.specs.declared.tree.Declarator.{roll-Declarator, out-Declarator, out-roll-Declarator}
use Rattle.c_tree.specs.declared.tree.Core.TheVariants as core
use Rattle.c_tree.specs.declared.tree.Pointer.{Pointer}
use Rattle.c_tree.specs.declared.tree.InitItem.{InitItem}
use Rattle.c_tree.specs.declared.tree.Init.TheVariants as init
use Rattle.c_tree.specs.declared.tree.Expr.{Expr, roll-Expr, out-Expr, out-roll-Expr}
use Rattle.c_tree.specs.declared.tree.Assign.{Assign, roll-Assign, out-Assign, out-roll-Assign}
use Rattle.c_tree.specs.declared.tree.Cond.{Cond, roll-Cond, out-Cond, out-roll-Cond}
use Rattle.c_tree.specs.declared.tree.Arm.{Arm, roll-Arm, out-Arm, out-roll-Arm}
use Rattle.c_tree.specs.declared.tree.Binary.{Binary, roll-Binary, out-Binary, out-roll-Binary}
use Rattle.c_tree.specs.declared.tree.Prefixed.{Prefixed}
use Rattle.c_tree.specs.declared.tree.Prefix.{Prefix}
use Rattle.c_tree.specs.declared.tree.Prefix.TheVariants as prefix
use Rattle.c_tree.specs.declared.tree.BaseForm.{BaseForm}
use Rattle.c_tree.specs.declared.tree.BaseForm.TheVariants as form
use Rattle.c_tree.specs.declared.tree.Post.{Post}
use Rattle.c_tree.specs.declared.tree.Post.TheVariants as post
use Rattle.c_tree.specs.Folds.{expr_fold, assign_fold, cond_fold, arm_fold, binary_fold, prefixed_fold, prefix_fold, base_fold, base_form_fold, post_fold, type_name_fold, specs_fold, spec_fold, declarator_fold, init_item_fold, init_fold}
use Rattle.c_tree.specs.Spell.{Symbols, expr_spelling, assign_spelling, cond_spelling, arm_spelling, binary_spelling, prefixed_spelling, prefix_spelling, base_form_spelling, post_spelling, type_name_spelling, spec_spelling, pointer_spelling, init_item_spelling, target_spelling, operand_spelling}
use Rattle.c_tree.specs.Spell.{all_wanted, joined, others, no_end, closed_by, brace_end, expr_level, assign_level, cond_level, arm_level, binary_level, type_name_level, declarator_level}
use Rattle.c_tree.specs.TreeEvents.{Met, all_met}
use Rattle.c_tree.proofs.Folds as fold
use Rattle.c_tree.proofs.Spellings as spell
use Rattle.c_syntax.specs.Forms.{prefixed_of, binary_of, assign_of, with_arm, type_name_of, pointing, value_item}
use Rattle.c_syntax.specs.declared.forms.Arms.{Arms}
use Rattle.c_tree.specs.Forms.{sole}
use Rattle.expression_trees.specs.Saying.{Said, ◌and◌, token, uses}
use Rattle.expression_trees.specs.Trees.{steps_of, of_expr, of_assign, of_arm, of_binary, of_prefixed, of_target, of_operand, of_prefix, of_base_form, of_post, of_type_name, of_item, of_spec, of_pointer}

abbrev pub said_of : Symbols → List Event → Said
said_of symbols events = record { symbols = symbols; events = events }

pub same_said : {s t : Symbols} {d e : List Event} → s ≡ t → d ≡ e → said_of s d ≡ said_of t e
same_said {t = t} {d = d} p q = ap (λ (z : Symbols). said_of z d) p ∙ ap (said_of t) q

-- ---- Lists

-- String literals, and then the rest.
abbrev pub texts : List ℕ → Said → Said
texts [] k = k
texts (n ∷ ns) k = token n want.Text (texts ns k)

pub texts_snoc : (ns : List ℕ) (m : ℕ) (k : Said) → texts (ns ++ m ∷ []) k ≡ texts ns (token m want.Text k)
texts_snoc [] m k = refl
texts_snoc (n ∷ ns) m k = ap (token n want.Text) (texts_snoc ns m k)

-- Each of the parts, and then the rest.
abbrev pub each : {A : Type 0} → (A → Said) → List A → Said → Said
each f [] k = k
each f (a ∷ more) k = f a and (each f more k)

pub each_snoc : {A : Type 0} (f : A → Said) (xs : List A) (y : A) (k : Said) → each f (xs ++ y ∷ []) k ≡ each f xs (f y and k)
each_snoc f [] y k = refl
each_snoc f (x ∷ xs) y k = ap (λ (z : Said). f x and z) (each_snoc f xs y k)

-- Each of the parts with a comma before it, and then the rest.
abbrev pub pairs : {A : Type 0} → (A → Said) → List (ℕ × A) → Said → Said
pairs f [] k = k
pairs f (p ∷ more) k = token p.0 (want.Mark MARK_COMMA) (f p.1 and (pairs f more k))

pub pairs_snoc : {A : Type 0} (f : A → Said) (ps : List (ℕ × A)) (p : ℕ × A) (k : Said) →
    pairs f (ps ++ p ∷ []) k ≡ pairs f ps (token p.0 (want.Mark MARK_COMMA) (f p.1 and k))
pairs_snoc f [] p k = refl
pairs_snoc f (q ∷ ps) p k = ap (λ (z : Said). token q.0 (want.Mark MARK_COMMA) (f q.1 and z)) (pairs_snoc f ps p k)

abbrev pub values : {A : Type 0} → List (ℕ × A) → List A
values [] = []
values (p ∷ ps) = p.1 ∷ values ps

abbrev pub commas : {A : Type 0} → List (ℕ × A) → List ℕ
commas [] = []
commas (p ∷ ps) = p.0 ∷ commas ps

pub values_snoc : {A : Type 0} (ps : List (ℕ × A)) (p : ℕ × A) → values (ps ++ p ∷ []) ≡ values ps ++ p.1 ∷ []
values_snoc [] p = refl
values_snoc (q ∷ ps) p = ap (λ (z : List _). q.1 ∷ z) (values_snoc ps p)

pub commas_snoc : {A : Type 0} (ps : List (ℕ × A)) (p : ℕ × A) → commas (ps ++ p ∷ []) ≡ commas ps ++ p.0 ∷ []
commas_snoc [] p = refl
commas_snoc (q ∷ ps) p = ap (λ (z : List ℕ). q.0 ∷ z) (commas_snoc ps p)

-- A comma or none, and a brace, and then the rest.
abbrev pub brace_ends : List ℕ → Said → Said
brace_ends marks k = record { symbols = brace_end marks ++ k.symbols; events = k.events }

module _ {A : Type 0} (symbols : A → Symbols) (met : A → Met) where
  abbrev pub by_parts : A → Said
  by_parts a = record { symbols = symbols a; events = (met a).events }

  pub each_is : (xs : List A) (s : Symbols) (e : List Event) →
      said_of (joined (map symbols xs) ++ s) (all_met (map met xs) ++ e) ≡ each by_parts xs (said_of s e)
  each_is [] s e = refl
  each_is (x ∷ xs) s e =
      same_said (append_assoc (symbols x) (joined (map symbols xs)) s) (append_assoc (met x).events (all_met (map met xs)) e) ∙
      ap (λ (z : Said). by_parts x and z) (each_is xs s e)

  pairs_are : (ends : List ℕ → Symbols) (ps : List (ℕ × A)) (rs : List ℕ) (s : Symbols) (e : List Event) →
      said_of (others ends (map symbols (values ps)) (commas ps ++ rs) ++ s) (all_met (map met (values ps)) ++ e) ≡
      pairs by_parts ps (said_of (ends rs ++ s) e)
  pairs_are ends [] rs s e = refl
  pairs_are ends (p ∷ ps) rs s e =
      same_said (ap (λ (z : Symbols). record { token = p.0; want = want.Mark MARK_COMMA } ∷ z) (append_assoc (symbols p.1) (others ends (map symbols (values ps)) (commas ps ++ rs)) s))
      (append_assoc (met p.1).events (all_met (map met (values ps))) e) ∙
      ap (λ (z : Said). token p.0 (want.Mark MARK_COMMA) (by_parts p.1 and z)) (pairs_are ends ps rs s e)

abbrev pub arm_of : Binary → Expr → ℕ → ℕ → Arm
arm_of test value question colon = roll-Arm (record { test = test; then = value; marks = question ∷ colon ∷ [] })

module _ (kind_of : ℕ → Option Kind) (bytes_of : ℕ → List ℕ) where
  -- ---- What suffixes are applied to (6.5.1, 6.5.2.5, 6.5.3.4)

  pub name_before : (n : ℕ) (k : Said) → of_base_form kind_of bytes_of (form.Name n) and k ≡ uses (bytes_of n) false (token n want.Word k)
  name_before n k = same_said (ap (λ (z : Symbols). z ++ k.symbols) (spell.base_form_name_spelling_lem n))
      (ap (λ (z : Met). z.events ++ k.events) (fold.base_form_name_folds (steps_of kind_of bytes_of) n))

  pub literal_before : (n : ℕ) (k : Said) → of_base_form kind_of bytes_of (form.Literal (n ∷ [])) and k ≡ token n (want.Among slot.Literal) k
  literal_before n k = same_said (ap (λ (z : Symbols). z ++ k.symbols) (spell.base_form_literal_spelling_lem (n ∷ [])))
      (ap (λ (z : Met). z.events ++ k.events) (fold.base_form_literal_folds (steps_of kind_of bytes_of) (n ∷ [])))

  texts_are : (ns : List ℕ) (k : Said) → said_of (all_wanted want.Text ns ++ k.symbols) k.events ≡ texts ns k
  texts_are [] k = refl
  texts_are (n ∷ ns) k = ap (token n want.Text) (texts_are ns k)

  pub literals_before : (n m : ℕ) (ns : List ℕ) (k : Said) → of_base_form kind_of bytes_of (form.Literal (n ∷ m ∷ ns)) and k ≡ texts (n ∷ m ∷ ns) k
  literals_before n m ns k = same_said (ap (λ (z : Symbols). z ++ k.symbols) (spell.base_form_literal_spelling_lem (n ∷ m ∷ ns)))
      (ap (λ (z : Met). z.events ++ k.events) (fold.base_form_literal_folds (steps_of kind_of bytes_of) (n ∷ m ∷ ns))) ∙ texts_are (n ∷ m ∷ ns) k

  pub group_before : (e : Expr) (l r : ℕ) (k : Said) → of_base_form kind_of bytes_of (form.Group e (l ∷ r ∷ [])) and k ≡
      token l (want.Mark MARK_LEFT_PAREN) (of_expr kind_of bytes_of e and token r (want.Mark MARK_RIGHT_PAREN) k)
  group_before e l r k = same_said
      (ap (λ (z : Symbols). z ++ k.symbols) (spell.base_form_group_spelling_lem e (l ∷ r ∷ [])) ∙ ap (λ (z : Symbols). record { token = l; want = want.Mark MARK_LEFT_PAREN } ∷ z) (append_assoc (expr_spelling e) _ k.symbols))
      (ap (λ (z : Met). z.events ++ k.events) (fold.base_form_group_folds (steps_of kind_of bytes_of) e (l ∷ r ∷ [])))

  pub compound_before : (t : TypeName) (l r b : ℕ) (a : InitItem) (ps : List (ℕ × InitItem)) (rs : List ℕ) (k : Said) →
      of_base_form kind_of bytes_of (form.Compound t (a ∷ values ps) (l ∷ r ∷ b ∷ (commas ps ++ rs))) and k ≡
      token l (want.Mark MARK_LEFT_PAREN) (of_type_name kind_of bytes_of t and token r (want.Mark MARK_RIGHT_PAREN) (token b (want.Mark MARK_LEFT_BRACE)
      (of_item kind_of bytes_of a and pairs (of_item kind_of bytes_of) ps (brace_ends rs k))))
  compound_before t l r b a ps rs k =
      let S = steps_of kind_of bytes_of in
      same_said
      (ap (λ (z : Symbols). z ++ k.symbols) (spell.base_form_compound_spelling_lem t (a ∷ values ps) (l ∷ r ∷ b ∷ (commas ps ++ rs))) ∙ simp append_assoc)
      (ap (λ (z : Met). z.events ++ k.events) (fold.base_form_compound_folds S t (a ∷ values ps) (l ∷ r ∷ b ∷ (commas ps ++ rs))) ∙ simp append_assoc) ∙
      ap (λ (z : Said). token l (want.Mark MARK_LEFT_PAREN) (of_type_name kind_of bytes_of t and token r (want.Mark MARK_RIGHT_PAREN) (token b (want.Mark MARK_LEFT_BRACE) (of_item kind_of bytes_of a and z))))
      (pairs_are init_item_spelling (init_item_fold S) brace_end ps rs k.symbols k.events)

  pub size_before : (key : ℕ) (t : TypeName) (l r : ℕ) (k : Said) → of_base_form kind_of bytes_of (form.SizeType key t (l ∷ r ∷ [])) and k ≡
      token key (want.Among slot.SizeKey) (token l (want.Mark MARK_LEFT_PAREN) (of_type_name kind_of bytes_of t and token r (want.Mark MARK_RIGHT_PAREN) k))
  size_before key t l r k = same_said
      (ap (λ (z : Symbols). z ++ k.symbols) (spell.base_form_size_type_spelling_lem key t (l ∷ r ∷ [])) ∙
      ap (λ (z : Symbols). record { token = key; want = want.Among slot.SizeKey } ∷ (record { token = l; want = want.Mark MARK_LEFT_PAREN } ∷ z)) (append_assoc (type_name_spelling t) _ k.symbols))
      (ap (λ (z : Met). z.events ++ k.events) (fold.base_form_size_type_folds (steps_of kind_of bytes_of) key t (l ∷ r ∷ [])))

  -- ---- Suffixes (6.5.2)

  pub index_before : (e : Expr) (l r : ℕ) (k : Said) → of_post kind_of bytes_of (post.Index e (l ∷ r ∷ [])) and k ≡
      token l (want.Mark MARK_LEFT_BRACKET) (of_expr kind_of bytes_of e and token r (want.Mark MARK_RIGHT_BRACKET) k)
  index_before e l r k = same_said
      (ap (λ (z : Symbols). z ++ k.symbols) (spell.post_index_spelling_lem e (l ∷ r ∷ [])) ∙ ap (λ (z : Symbols). record { token = l; want = want.Mark MARK_LEFT_BRACKET } ∷ z) (append_assoc (expr_spelling e) _ k.symbols))
      (ap (λ (z : Met). z.events ++ k.events) (fold.post_index_folds (steps_of kind_of bytes_of) e (l ∷ r ∷ [])))

  pub call_none_before : (l r : ℕ) (k : Said) → of_post kind_of bytes_of (post.Call [] (l ∷ r ∷ [])) and k ≡ token l (want.Mark MARK_LEFT_PAREN) (token r (want.Mark MARK_RIGHT_PAREN) k)
  call_none_before l r k = same_said (ap (λ (z : Symbols). z ++ k.symbols) (spell.post_call_spelling_lem [] (l ∷ r ∷ [])))
      (ap (λ (z : Met). z.events ++ k.events) (fold.post_call_folds (steps_of kind_of bytes_of) [] (l ∷ r ∷ [])))

  pub call_some_before : (a : Assign) (ps : List (ℕ × Assign)) (l r : ℕ) (k : Said) → of_post kind_of bytes_of (post.Call (a ∷ values ps) (l ∷ (commas ps ++ r ∷ []))) and k ≡
      token l (want.Mark MARK_LEFT_PAREN) (of_assign kind_of bytes_of a and pairs (of_assign kind_of bytes_of) ps (token r (want.Mark MARK_RIGHT_PAREN) k))
  call_some_before a ps l r k =
      let S = steps_of kind_of bytes_of in
      same_said
      (ap (λ (z : Symbols). z ++ k.symbols) (spell.post_call_spelling_lem (a ∷ values ps) (l ∷ (commas ps ++ r ∷ []))) ∙
      ap (λ (z : Symbols). record { token = l; want = want.Mark MARK_LEFT_PAREN } ∷ z) (append_assoc (assign_spelling a) _ k.symbols))
      (ap (λ (z : Met). z.events ++ k.events) (fold.post_call_folds S (a ∷ values ps) (l ∷ (commas ps ++ r ∷ []))) ∙ append_assoc (assign_fold S a).events _ k.events) ∙
      ap (λ (z : Said). token l (want.Mark MARK_LEFT_PAREN) (of_assign kind_of bytes_of a and z)) (pairs_are assign_spelling (assign_fold S) (closed_by MARK_RIGHT_PAREN) ps (r ∷ []) k.symbols k.events)

  pub dot_before : (n m : ℕ) (k : Said) → of_post kind_of bytes_of (post.Dot n (m ∷ [])) and k ≡ token m (want.Mark MARK_DOT) (token n want.Word k)
  dot_before n m k = same_said (ap (λ (z : Symbols). z ++ k.symbols) (spell.post_dot_spelling_lem n (m ∷ [])))
      (ap (λ (z : Met). z.events ++ k.events) (fold.post_dot_folds (steps_of kind_of bytes_of) n (m ∷ [])))

  pub arrow_before : (n m : ℕ) (k : Said) → of_post kind_of bytes_of (post.Arrow n (m ∷ [])) and k ≡ token m (want.Mark MARK_ARROW) (token n want.Word k)
  arrow_before n m k = same_said (ap (λ (z : Symbols). z ++ k.symbols) (spell.post_arrow_spelling_lem n (m ∷ [])))
      (ap (λ (z : Met). z.events ++ k.events) (fold.post_arrow_folds (steps_of kind_of bytes_of) n (m ∷ [])))

  pub step_before : (n : ℕ) (k : Said) → of_post kind_of bytes_of (post.Step n) and k ≡ token n (want.Among slot.Step) k
  step_before n k = same_said (ap (λ (z : Symbols). z ++ k.symbols) (spell.post_step_spelling_lem n))
      (ap (λ (z : Met). z.events ++ k.events) (fold.post_step_folds (steps_of kind_of bytes_of) n))

  -- ---- Prefixes (6.5.3, 6.5.4)

  pub op_before : (n : ℕ) (k : Said) → of_prefix kind_of bytes_of (prefix.Op n) and k ≡ token n (want.Among slot.PrefixOp) k
  op_before n k = same_said (ap (λ (z : Symbols). z ++ k.symbols) (spell.prefix_op_spelling_lem n))
      (ap (λ (z : Met). z.events ++ k.events) (fold.prefix_op_folds (steps_of kind_of bytes_of) n))

  pub cast_before : (t : TypeName) (l r : ℕ) (k : Said) → of_prefix kind_of bytes_of (prefix.Cast t (l ∷ r ∷ [])) and k ≡
      token l (want.Mark MARK_LEFT_PAREN) (of_type_name kind_of bytes_of t and token r (want.Mark MARK_RIGHT_PAREN) k)
  cast_before t l r k = same_said
      (ap (λ (z : Symbols). z ++ k.symbols) (spell.prefix_cast_spelling_lem t (l ∷ r ∷ [])) ∙ ap (λ (z : Symbols). record { token = l; want = want.Mark MARK_LEFT_PAREN } ∷ z) (append_assoc (type_name_spelling t) _ k.symbols))
      (ap (λ (z : Met). z.events ++ k.events) (fold.prefix_cast_folds (steps_of kind_of bytes_of) t (l ∷ r ∷ [])))

  pub prefixed_before : (ps : List Prefix) (f : BaseForm) (s : List Post) (k : Said) → of_prefixed kind_of bytes_of (prefixed_of ps f s) and k ≡
      each (of_prefix kind_of bytes_of) ps (of_base_form kind_of bytes_of f and each (of_post kind_of bytes_of) s k)
  prefixed_before ps f s k =
      let S = steps_of kind_of bytes_of in
      let x = prefixed_of ps f s in
      same_said
      (ap (λ (z : Symbols). z ++ k.symbols) (spell.prefixed_spelling_lem x ∙ ap (λ (z : Symbols). joined (map prefix_spelling ps) ++ z) (spell.base_spelling_lem x.base)) ∙ simp append_assoc)
      (ap (λ (z : Met). z.events ++ k.events) (fold.prefixed_folds S x) ∙ (ap (λ (z : Met). (all_met (map (prefix_fold S) ps) ++ z.events) ++ k.events) (fold.base_folds S x.base) ∙ simp append_assoc)) ∙
      (each_is prefix_spelling (prefix_fold S) ps (base_form_spelling f ++ (joined (map post_spelling s) ++ k.symbols)) ((base_form_fold S f).events ++ (all_met (map (post_fold S) s) ++ k.events)) ∙
      ap (λ (z : Said). each (of_prefix kind_of bytes_of) ps (of_base_form kind_of bytes_of f and z)) (each_is post_spelling (post_fold S) s k.symbols k.events))

  -- ---- Operators (6.5.5 to 6.5.17)

  pub target_before : (t : Prefixed × ℕ) (k : Said) → of_target kind_of bytes_of t and k ≡ of_prefixed kind_of bytes_of t.0 and token t.1 (want.Among slot.AssignOp) k
  target_before t k = same_said (append_assoc (prefixed_spelling t.0) _ k.symbols) refl

  pub operand_before : (t : ℕ × Prefixed) (k : Said) → of_operand kind_of bytes_of t and k ≡ token t.0 (want.Among slot.BinaryOp) (of_prefixed kind_of bytes_of t.1 and k)
  operand_before t k = refl

  met_operands : (xs : List (ℕ × Prefixed)) →
      flat_map (λ (r : ℕ × Met). r.1.events) (map (λ (t : ℕ × Prefixed). (t.0, prefixed_fold (steps_of kind_of bytes_of) t.1)) xs) ≡ all_met (map (λ (t : ℕ × Prefixed). prefixed_fold (steps_of kind_of bytes_of) t.1) xs)
  met_operands [] = refl
  met_operands (x ∷ xs) = ap (λ (z : List Event). (prefixed_fold (steps_of kind_of bytes_of) x.1).events ++ z) (met_operands xs)

  met_targets : (xs : List (Prefixed × ℕ)) →
      flat_map (λ (r : Met × ℕ). r.0.events) (map (λ (t : Prefixed × ℕ). (prefixed_fold (steps_of kind_of bytes_of) t.0, t.1)) xs) ≡ all_met (map (λ (t : Prefixed × ℕ). prefixed_fold (steps_of kind_of bytes_of) t.0) xs)
  met_targets [] = refl
  met_targets (x ∷ xs) = ap (λ (z : List Event). (prefixed_fold (steps_of kind_of bytes_of) x.0).events ++ z) (met_targets xs)

  pub binary_before : (p : Prefixed) (xs : List (ℕ × Prefixed)) (k : Said) → of_binary kind_of bytes_of (binary_of p xs) and k ≡
      of_prefixed kind_of bytes_of p and each (of_operand kind_of bytes_of) xs k
  binary_before p xs k =
      let S = steps_of kind_of bytes_of in
      let out = out-roll-Binary (record { first = p; rest = xs }) in
      same_said
      (ap (λ (z : Symbols). z ++ k.symbols) (spell.binary_spelling_lem (binary_of p xs)) ∙
      (ap (λ (y : _). (prefixed_spelling y.first ++ joined (map operand_spelling y.rest)) ++ k.symbols) out ∙ append_assoc (prefixed_spelling p) _ k.symbols))
      (ap (λ (z : Met). z.events ++ k.events) (fold.binary_folds S (binary_of p xs)) ∙
      (ap (λ (y : _). ((prefixed_fold S y.first).events ++ flat_map (λ (r : ℕ × Met). r.1.events) (map (λ (t : ℕ × Prefixed). (t.0, prefixed_fold S t.1)) y.rest)) ++ k.events) out ∙
      (append_assoc (prefixed_fold S p).events _ k.events ∙ ap (λ (z : List Event). (prefixed_fold S p).events ++ (z ++ k.events)) (met_operands xs)))) ∙
      ap (λ (z : Said). of_prefixed kind_of bytes_of p and z) (each_is operand_spelling (λ (t : ℕ × Prefixed). prefixed_fold S t.1) xs k.symbols k.events)

  pub arm_before : (t : Binary) (e : Expr) (q c : ℕ) (k : Said) → of_arm kind_of bytes_of (arm_of t e q c) and k ≡
      of_binary kind_of bytes_of t and token q (want.Mark MARK_QUESTION) (of_expr kind_of bytes_of e and token c (want.Mark MARK_COLON) k)
  arm_before t e q c k =
      let S = steps_of kind_of bytes_of in
      let out = out-roll-Arm (record { test = t; then = e; marks = q ∷ c ∷ [] }) in
      same_said
      (ap (λ (z : Symbols). z ++ k.symbols) (spell.arm_spelling_lem (arm_of t e q c)) ∙
      (ap (λ (y : _). arm_level (record { test = binary_spelling y.test; then = expr_spelling y.then; marks = y.marks }) ++ k.symbols) out ∙ simp append_assoc))
      (ap (λ (z : Met). z.events ++ k.events) (fold.arm_folds S (arm_of t e q c)) ∙
      (ap (λ (y : _). ((binary_fold S y.test).events ++ (expr_fold S y.then).events) ++ k.events) out ∙ append_assoc (binary_fold S t).events _ k.events))

  cond_symbols : (s : Arms) → cond_spelling (roll-Cond (record { arms = s.arms; last = s.last })) ≡ joined (map arm_spelling s.arms) ++ binary_spelling s.last
  cond_symbols s = spell.cond_spelling_lem _ ∙ ap (λ (y : _). joined (map arm_spelling y.arms) ++ binary_spelling y.last) (out-roll-Cond (record { arms = s.arms; last = s.last }))

  cond_events : (s : Arms) → (cond_fold (steps_of kind_of bytes_of) (roll-Cond (record { arms = s.arms; last = s.last }))).events ≡
      all_met (map (arm_fold (steps_of kind_of bytes_of)) s.arms) ++ (binary_fold (steps_of kind_of bytes_of) s.last).events
  cond_events s =
      let S = steps_of kind_of bytes_of in
      ap (λ (z : Met). z.events) (fold.cond_folds S _) ∙ ap (λ (y : _). all_met (map (arm_fold S) y.arms) ++ (binary_fold S y.last).events) (out-roll-Cond (record { arms = s.arms; last = s.last }))

  pub assign_before : (ts : List (Prefixed × ℕ)) (s : Arms) (k : Said) → of_assign kind_of bytes_of (assign_of ts s) and k ≡
      each (of_target kind_of bytes_of) ts (each (of_arm kind_of bytes_of) s.arms (of_binary kind_of bytes_of s.last and k))
  assign_before ts s k =
      let S = steps_of kind_of bytes_of in
      let v = roll-Cond (record { arms = s.arms; last = s.last }) in
      let out = out-roll-Assign (record { targets = ts; value = v }) in
      same_said
      (ap (λ (z : Symbols). z ++ k.symbols) (spell.assign_spelling_lem (assign_of ts s)) ∙
      (ap (λ (y : _). (joined (map target_spelling y.targets) ++ cond_spelling y.value) ++ k.symbols) out ∙
      (ap (λ (z : Symbols). (joined (map target_spelling ts) ++ z) ++ k.symbols) (cond_symbols s) ∙ simp append_assoc)))
      (ap (λ (z : Met). z.events ++ k.events) (fold.assign_folds S (assign_of ts s)) ∙
      (ap (λ (y : _). (flat_map (λ (r : Met × ℕ). r.0.events) (map (λ (t : Prefixed × ℕ). (prefixed_fold S t.0, t.1)) y.targets) ++ (cond_fold S y.value).events) ++ k.events) out ∙
      (ap (λ (z : List Event). (z ++ (cond_fold S v).events) ++ k.events) (met_targets ts) ∙
      (ap (λ (z : List Event). (all_met (map (λ (t : Prefixed × ℕ). prefixed_fold S t.0) ts) ++ z) ++ k.events) (cond_events s) ∙ simp append_assoc)))) ∙
      (each_is target_spelling (λ (t : Prefixed × ℕ). prefixed_fold S t.0) ts _ _ ∙
      ap (λ (z : Said). each (of_target kind_of bytes_of) ts z) (each_is arm_spelling (arm_fold S) s.arms (binary_spelling s.last ++ k.symbols) ((binary_fold S s.last).events ++ k.events)))

  pub expr_before : (a : Assign) (ps : List (ℕ × Assign)) (k : Said) → of_expr kind_of bytes_of (roll-Expr (record { parts = a ∷ values ps; marks = commas ps })) and k ≡
      of_assign kind_of bytes_of a and pairs (of_assign kind_of bytes_of) ps k
  expr_before a ps k =
      let S = steps_of kind_of bytes_of in
      let out = out-roll-Expr (record { parts = a ∷ values ps; marks = commas ps }) in
      let x : Expr = roll-Expr (record { parts = a ∷ values ps; marks = commas ps }) in
      same_said
      (ap (λ (z : Symbols). z ++ k.symbols) (spell.expr_spelling_lem x) ∙
      (ap (λ (y : _). expr_level (record { parts = map assign_spelling y.parts; marks = y.marks }) ++ k.symbols) out ∙
      (append_assoc (assign_spelling a) _ k.symbols ∙
      ap (λ (z : List ℕ). assign_spelling a ++ (others no_end (map assign_spelling (values ps)) z ++ k.symbols)) (sym (append-nil (commas ps))))))
      (ap (λ (z : Met). z.events ++ k.events) (fold.expr_folds S x) ∙
      (ap (λ (y : _). all_met (map (assign_fold S) y.parts) ++ k.events) out ∙ append_assoc (assign_fold S a).events _ k.events)) ∙
      ap (λ (z : Said). of_assign kind_of bytes_of a and z) (pairs_are assign_spelling (assign_fold S) no_end ps [] k.symbols k.events)

  -- ---- Type names of words and stars (6.7.7), and items that are values (6.7.9)

  pub spec_named_before : (n : ℕ) (k : Said) → of_spec kind_of bytes_of (spec.Named n) and k ≡ uses (bytes_of n) true (token n want.Word k)
  spec_named_before n k = same_said (ap (λ (z : Symbols). z ++ k.symbols) (spell.spec_named_spelling_lem n))
      (ap (λ (z : Met). z.events ++ k.events) (fold.spec_named_folds (steps_of kind_of bytes_of) n))

  pub spec_basic_before : (n : ℕ) (k : Said) → of_spec kind_of bytes_of (spec.Basic n) and k ≡ token n (want.Among slot.Basic) k
  spec_basic_before n k = same_said (ap (λ (z : Symbols). z ++ k.symbols) (spell.spec_basic_spelling_lem n))
      (ap (λ (z : Met). z.events ++ k.events) (fold.spec_basic_folds (steps_of kind_of bytes_of) n))
