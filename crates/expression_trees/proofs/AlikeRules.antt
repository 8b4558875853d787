-- What is a word of the rules of expressions is one with any other numbers of tokens too. One term
-- a rule.

use Rattle.std.proofs.Common.{◌≡◌, ℕ, suc, Bool, true, false, List, [], ◌∷◌, ◌++◌, refl, sym, ap, ◌∙◌, subst}
use Rattle.c_tree.specs.declared.tree.TypeName.{TypeName}
use Rattle.c_tree.specs.declared.tree.InitItem.{InitItem}
use Rattle.c_tree.specs.declared.tree.Expr.{Expr}
use Rattle.c_tree.specs.declared.tree.Assign.{Assign}
use Rattle.c_tree.specs.declared.tree.Binary.{Binary}
use Rattle.c_tree.specs.declared.tree.Prefixed.{Prefixed}
use Rattle.c_tree.specs.declared.tree.Prefix.{Prefix, out-Prefix}
use Rattle.c_tree.specs.declared.tree.Prefix.TheVariants as prefix
use Rattle.c_tree.specs.declared.tree.BaseForm.{BaseForm}
use Rattle.c_tree.specs.declared.tree.BaseForm.TheVariants as form
use Rattle.c_tree.specs.declared.tree.Post.{Post}
use Rattle.c_tree.specs.declared.tree.Post.TheVariants as post
use Rattle.reading.specs.declared.turn.Turn.{Turn}
use Rattle.reading.specs.declared.turn.Turn.TheVariants.{Again, Done}
use Rattle.reading.proofs.Sets.{never}
use Rattle.c_syntax.specs.declared.forms.Parts.{Parts}
use Rattle.c_syntax.specs.declared.forms.Items.{Items}
use Rattle.c_syntax.specs.declared.forms.Arms.{Arms}
use Rattle.c_syntax.specs.declared.forms.Begun.{Begun}
use Rattle.c_syntax.specs.declared.forms.Mode.{Mode}
use Rattle.c_syntax.specs.declared.forms.Mode.TheVariants.{Cast, Literal, Size}
use Rattle.c_syntax.specs.declared.forms.Chain.{Chain}
use Rattle.c_syntax.specs.declared.forms.Found.{Found}
use Rattle.c_syntax.specs.declared.forms.Found.TheVariants.{Operand, Sized}
use Rattle.c_syntax.specs.Scoping.{Part}
use Rattle.c_syntax.specs.Forms.{one_part, with_part, expr_of, call_of, one_item, with_item, with_mark, compound_of, flushed, chain_start, with_op, with_size, with_cast, prefixed_of, is_target, is_operator, no_cast_first, begun_of, binary_of, arms_start, with_arm, assign_of}
use Rattle.c_syntax.specs.Inner.{Inner}
use Rattle.c_syntax.specs.ExpressionRules as lang
use Rattle.expression_trees.proofs.Links.{out_op, out_cast}
use Rattle.expression_trees.proofs.Alike.{Alike, any, alike_pure, alike_then, alike_or, alike_token, alike_many, turns_alike, alike_repeat}

-- Both begin with a cast, or with another prefix, or with none.
abbrev Shapes : List Prefix → List Prefix → Type 0
Shapes [] [] = Prim.Unit {0}
Shapes [] (q ∷ qs) = ⊥
Shapes (p ∷ ps) [] = ⊥
Shapes (p ∷ ps) (q ∷ qs) = is_operator (out-Prefix p) ≡ is_operator (out-Prefix q)

shapes_snoc : (ps qs : List Prefix) (x y : Prefix) → Shapes ps qs → is_operator (out-Prefix x) ≡ is_operator (out-Prefix y) → Shapes (ps ++ x ∷ []) (qs ++ y ∷ [])
shapes_snoc [] [] x y g h = h
shapes_snoc [] (q ∷ qs) x y g h = absurd g
shapes_snoc (p ∷ ps) [] x y g h = absurd g
shapes_snoc (p ∷ ps) (q ∷ qs) x y g h = g

ops : (m n : ℕ) → is_operator (out-Prefix (prefix.Op m)) ≡ is_operator (out-Prefix (prefix.Op n))
ops m n = ap is_operator (out_op m) ∙ sym (ap is_operator (out_op n))

casts : (t u : TypeName) (ms ns : List ℕ) → is_operator (out-Prefix (prefix.Cast t ms)) ≡ is_operator (out-Prefix (prefix.Cast u ns))
casts t u ms ns = ap is_operator (out_cast t ms) ∙ sym (ap is_operator (out_cast u ns))

first_same : (ps qs : List Prefix) → Shapes ps qs → no_cast_first ps ≡ no_cast_first qs
first_same [] [] g = refl
first_same [] (q ∷ qs) g = absurd g
first_same (p ∷ ps) [] g = absurd g
first_same (p ∷ ps) (q ∷ qs) g = g

abbrev Modes : Mode → Mode → Type 0
Modes Cast Cast = Prim.Unit {0}
Modes Literal Literal = Prim.Unit {0}
Modes (Size m) (Size n) = Prim.Unit {0}
Modes Cast Literal = ⊥
Modes Cast (Size n) = ⊥
Modes Literal Cast = ⊥
Modes Literal (Size n) = ⊥
Modes (Size m) Cast = ⊥
Modes (Size m) Literal = ⊥

abbrev Chains : Chain → Chain → Type 0
Chains b c = Modes b.mode c.mode × Shapes b.prefixes c.prefixes

flushed_same : (m n : Mode) (ps qs : List Prefix) → Modes m n → Shapes ps qs → Shapes (flushed m ps) (flushed n qs)
flushed_same Cast Cast ps qs g h = h
flushed_same Literal Literal ps qs g h = h
flushed_same (Size m) (Size n) ps qs g h = shapes_snoc ps qs (prefix.Op m) (prefix.Op n) h (ops m n)
flushed_same Cast Literal ps qs g h = absurd g
flushed_same Cast (Size n) ps qs g h = absurd g
flushed_same Literal Cast ps qs g h = absurd g
flushed_same Literal (Size n) ps qs g h = absurd g
flushed_same (Size m) Cast ps qs g h = absurd g
flushed_same (Size m) Literal ps qs g h = absurd g

abbrev Founds : Found → Found → Type 0
Founds (Operand ps f) (Operand qs g) = Shapes ps qs
Founds (Sized ps f) (Sized qs g) = Shapes ps qs
Founds (Operand ps f) (Sized qs g) = ⊥
Founds (Sized ps f) (Operand qs g) = ⊥

abbrev Links : Turn Chain Found → Turn Chain Found → Type 0
Links = turns_alike Chains Founds

abbrev Goals : Prefixed → Prefixed → Type 0
Goals p q = is_target p ≡ is_target q

same_texts : (d level : ℕ) (ms ns : List ℕ) → Alike (lang.more_texts d level ms) (lang.more_texts d level ns) any
unfolding lang.more_texts lang.one_more_text
same_texts d level ms ns = alike_many d (λ s r h. alike_token (λ m n. alike_pure (s ++ m ∷ []) (r ++ n ∷ []) tt)) ms ns tt

module _ (d level : ℕ) (X : Part Assign) (si : Alike X X any) where
  same_parts : (ms ns : List ℕ) → Alike (lang.parts d level X ms) (lang.parts d level X ns) any
  unfolding lang.parts lang.all_parts lang.more_parts
  same_parts ms ns = alike_then si (λ a b h. alike_many d (λ p q g. alike_token (λ m n. alike_then si (λ x y i. alike_pure (with_part p m x) (with_part q n y) tt))) (one_part a ms) (one_part b ns) tt)

  pub same_expr : Alike (lang.inner_expr d level X) (lang.inner_expr d level X) any
  unfolding lang.inner_expr
  same_expr = alike_then (same_parts [] []) (λ p q h. alike_pure (expr_of p) (expr_of q) tt)

-- What stands in brackets has other numbers too.
pub record InnerAlike (rules : Inner) : Type 0 where
  pub assign : Alike (rules.assign) (rules.assign) any
  pub type_name : Alike (rules.type_name) (rules.type_name) any
  pub item : Alike (rules.item) (rules.item) any

module _ (d level : ℕ) (rules : Inner) (si : InnerAlike rules) where
  inside : Alike (lang.inner_expr d (suc level) (rules.assign)) (lang.inner_expr d (suc level) (rules.assign)) any
  inside = same_expr d (suc level) (rules.assign) si.assign

  same_suffix : Alike (lang.suffix d level rules) (lang.suffix d level rules) any
  unfolding lang.suffix lang.index lang.call lang.no_arguments lang.some_arguments lang.dot lang.arrow lang.step
  same_suffix =
      alike_or (alike_token (λ l m. alike_then inside (λ e f h. alike_token (λ r s. alike_pure (post.Index e (l ∷ r ∷ [])) (post.Index f (m ∷ s ∷ [])) tt))))
      (alike_or (alike_token (λ l m. alike_or (alike_token (λ r s. alike_pure (post.Call [] (l ∷ r ∷ [])) (post.Call [] (m ∷ s ∷ [])) tt))
      (alike_then (same_parts d (suc level) (rules.assign) si.assign (l ∷ []) (m ∷ [])) (λ p q h. alike_token (λ r s. alike_pure (call_of p r) (call_of q s) tt)))))
      (alike_or (alike_token (λ l m. alike_token (λ n o. alike_pure (post.Dot n (l ∷ [])) (post.Dot o (m ∷ [])) tt)))
      (alike_or (alike_token (λ l m. alike_token (λ n o. alike_pure (post.Arrow n (l ∷ [])) (post.Arrow o (m ∷ [])) tt)))
      (alike_token (λ l m. alike_pure (post.Step l) (post.Step m) tt)))))

  same_suffixes : Alike (lang.all_suffixes d level rules) (lang.all_suffixes d level rules) any
  unfolding lang.all_suffixes lang.more_suffixes
  same_suffixes = alike_many d (λ ps qs h. alike_then same_suffix (λ p q g. alike_pure (ps ++ p ∷ []) (qs ++ q ∷ []) tt)) [] [] tt

  same_last : (p q : Items) → Alike (lang.last_item d level rules p) (lang.last_item d level rules q) (turns_alike any any)
  unfolding lang.last_item
  same_last p q = alike_token (λ r s. alike_pure (Done (with_mark p r)) (Done (with_mark q s)) tt)

  same_items : (p q : Items) → Alike (lang.all_items d level rules p) (lang.all_items d level rules q) any
  unfolding lang.all_items lang.item lang.comma_item lang.next_item
  same_items p q = alike_repeat d {R = any} (λ s r h. alike_or
      (alike_token (λ m n. alike_or (same_last (with_mark s m) (with_mark r n)) (alike_then si.item (λ a b g. alike_pure (Again (with_item s m a)) (Again (with_item r n b)) tt))))
      (same_last s r)) p q tt

  same_with_compound : (ps qs : List Prefix) (t u : TypeName) (ms ns : List ℕ) → Shapes ps qs → Alike (lang.with_compound d level rules ps t ms) (lang.with_compound d level rules qs u ns) Links
  unfolding lang.with_compound lang.compound
  same_with_compound ps qs t u ms ns h =
      alike_then {R = any} (alike_token (λ b c. alike_then si.item (λ x y g. alike_then (same_items (one_item x (ms ++ b ∷ [])) (one_item y (ns ++ c ∷ []))) (λ p q i. alike_pure (compound_of t p) (compound_of u q) tt))))
      (λ f g i. alike_pure (Done (Operand ps f)) (Done (Operand qs g)) h)

  same_typed_at : (b c : Chain) (t u : TypeName) (ms ns : List ℕ) (m n : Mode) → Modes m n → Shapes b.prefixes c.prefixes → Alike (lang.typed_at d level rules b t ms m) (lang.typed_at d level rules c u ns n) Links
  same_typed_at b c t u ms ns Cast Cast g h = alike_or (same_with_compound b.prefixes c.prefixes t u ms ns h)
      (alike_pure (Again (with_cast b.prefixes t ms)) (Again (with_cast c.prefixes u ns)) (tt, shapes_snoc b.prefixes c.prefixes (prefix.Cast t ms) (prefix.Cast u ns) h (casts t u ms ns)))
  same_typed_at b c t u ms ns Literal Literal g h = same_with_compound b.prefixes c.prefixes t u ms ns h
  same_typed_at b c t u ms ns (Size m) (Size n) g h =
      alike_or (same_with_compound (b.prefixes ++ prefix.Op m ∷ []) (c.prefixes ++ prefix.Op n ∷ []) t u ms ns (shapes_snoc b.prefixes c.prefixes (prefix.Op m) (prefix.Op n) h (ops m n)))
      (alike_pure (Done (Sized b.prefixes (form.SizeType m t ms))) (Done (Sized c.prefixes (form.SizeType n u ns))) h)
  same_typed_at b c t u ms ns Cast Literal g h = absurd g
  same_typed_at b c t u ms ns Cast (Size n) g h = absurd g
  same_typed_at b c t u ms ns Literal Cast g h = absurd g
  same_typed_at b c t u ms ns Literal (Size n) g h = absurd g
  same_typed_at b c t u ms ns (Size m) Cast g h = absurd g
  same_typed_at b c t u ms ns (Size m) Literal g h = absurd g

  module _ (b c : Chain) (h : Chains b c) where
    abbrev before : List Prefix
    before = flushed b.mode b.prefixes

    abbrev others : List Prefix
    others = flushed c.mode c.prefixes

    flat : Shapes before others
    flat = flushed_same b.mode c.mode b.prefixes c.prefixes h.0 h.1

    same_operator : Alike (lang.operator d level rules b) (lang.operator d level rules c) Links
    unfolding lang.operator
    same_operator = alike_token (λ m n. alike_pure (Again (with_op b m Cast)) (Again (with_op c n Cast)) (tt, shapes_snoc before others (prefix.Op m) (prefix.Op n) flat (ops m n)))

    same_stepped : Alike (lang.stepped d level rules b) (lang.stepped d level rules c) Links
    unfolding lang.stepped
    same_stepped = alike_token (λ m n. alike_pure (Again (with_op b m Literal)) (Again (with_op c n Literal)) (tt, shapes_snoc before others (prefix.Op m) (prefix.Op n) flat (ops m n)))

    same_sized : Alike (lang.sized d level rules b) (lang.sized d level rules c) Links
    unfolding lang.sized
    same_sized = alike_token (λ m n. alike_pure (Again (with_size b m)) (Again (with_size c n)) (tt, flat))

    same_aligned : Alike (lang.aligned d level rules b) (lang.aligned d level rules c) Links
    unfolding lang.aligned
    same_aligned = alike_token (λ m n. alike_token (λ l k. alike_then si.type_name (λ t u i. alike_token (λ r s.
        alike_pure (Done (Sized before (form.SizeType m t (l ∷ r ∷ [])))) (Done (Sized others (form.SizeType n u (k ∷ s ∷ [])))) flat))))

    same_paren : Alike (lang.paren d level rules b) (lang.paren d level rules c) Links
    unfolding lang.paren lang.typed lang.grouped
    same_paren = alike_token (λ l k. alike_or
        (alike_then si.type_name (λ t u i. alike_token (λ r s. same_typed_at b c t u (l ∷ r ∷ []) (k ∷ s ∷ []) b.mode c.mode h.0 h.1)))
        (alike_then inside (λ e f i. alike_token (λ r s. alike_pure (Done (Operand before (form.Group e (l ∷ r ∷ [])))) (Done (Operand others (form.Group f (k ∷ s ∷ [])))) flat))))

    same_name : Alike (lang.name d level rules b) (lang.name d level rules c) Links
    unfolding lang.name
    same_name = alike_token (λ m n. alike_pure (Done (Operand before (form.Name m))) (Done (Operand others (form.Name n))) flat)

    same_constant : Alike (lang.constant d level rules b) (lang.constant d level rules c) Links
    unfolding lang.constant
    same_constant = alike_token (λ m n. alike_pure (Done (Operand before (form.Literal (m ∷ [])))) (Done (Operand others (form.Literal (n ∷ [])))) flat)

    same_text : Alike (lang.text d level rules b) (lang.text d level rules c) Links
    unfolding lang.text
    same_text = alike_token (λ m n. alike_then (same_texts d level (m ∷ []) (n ∷ [])) (λ ms ns i. alike_pure (Done (Operand before (form.Literal ms))) (Done (Operand others (form.Literal ns))) flat))

    same_link : Alike (lang.link d level rules b) (lang.link d level rules c) Links
    unfolding lang.link
    same_link = alike_or same_operator (alike_or same_stepped (alike_or same_sized (alike_or same_aligned (alike_or same_paren (alike_or same_name (alike_or same_constant same_text))))))

  same_finished : (x y : Found) → Founds x y → Alike (lang.finished d level rules x) (lang.finished d level rules y) Goals
  same_finished (Operand ps f) (Operand qs g) h = alike_then same_suffixes (λ s r i. alike_pure (prefixed_of ps f s) (prefixed_of qs g r) (first_same ps qs h))
  same_finished (Sized ps f) (Sized qs g) h = alike_pure (prefixed_of ps f []) (prefixed_of qs g []) (first_same ps qs h)
  same_finished (Operand ps f) (Sized qs g) h = absurd h
  same_finished (Sized ps f) (Operand qs g) h = absurd h

  same_prefixed : Alike (lang.prefixed d level rules) (lang.prefixed d level rules) Goals
  unfolding lang.prefixed lang.links
  same_prefixed = alike_then (alike_repeat d {R = Chains} same_link chain_start chain_start (tt, tt)) same_finished

  same_binary : (p q : Prefixed) → Alike (lang.binary d level rules p) (lang.binary d level rules q) any
  unfolding lang.binary lang.all_operands lang.more_operands
  same_binary p q = alike_then (alike_many d {R = any} (λ s r h. alike_token (λ m n. alike_then same_prefixed (λ a b g. alike_pure (s ++ (m, a) ∷ []) (r ++ (n, b) ∷ []) tt))) [] [] tt) (λ s r h. alike_pure (binary_of p s) (binary_of q r) tt)

  same_arms : (s r : Arms) → Alike (lang.all_arms d level rules s) (lang.all_arms d level rules r) any
  unfolding lang.all_arms lang.more_arms
  same_arms s r = alike_many d {R = any} (λ a b h. alike_token (λ m n. alike_then inside (λ e f g. alike_token (λ k l. alike_then same_prefixed (λ p q i. alike_then (same_binary p q) (λ x y j.
      alike_pure (with_arm a e (m ∷ k ∷ []) x) (with_arm b f (n ∷ l ∷ []) y) tt)))))) s r tt

  same_target_at : (ts us : List (Prefixed × ℕ)) (p q : Prefixed) (b c : Bool) → b ≡ c → Alike (lang.target_at d level rules ts p b) (lang.target_at d level rules us q c) (turns_alike any any)
  unfolding lang.set_target
  same_target_at ts us p q true true e = alike_or (alike_token (λ m n. alike_pure (Again (ts ++ (p, m) ∷ [])) (Again (us ++ (q, n) ∷ [])) tt)) (alike_pure (Done (begun_of ts p)) (Done (begun_of us q)) tt)
  same_target_at ts us p q false false e = alike_pure (Done (begun_of ts p)) (Done (begun_of us q)) tt
  same_target_at ts us p q true false e = never (sym e)
  same_target_at ts us p q false true e = never e

  same_targets : (ts us : List (Prefixed × ℕ)) → Alike (lang.targets d level rules ts) (lang.targets d level rules us) any
  unfolding lang.targets lang.target
  same_targets ts us = alike_repeat d {R = any} {Q = any} (λ ts us h. alike_then same_prefixed (λ p q g. same_target_at ts us p q (is_target p) (is_target q) g)) ts us tt

  same_rest : (x y : Begun) → Alike (lang.rest_of d level rules x) (lang.rest_of d level rules y) any
  unfolding lang.rest_of
  same_rest x y = alike_then (same_binary x.first y.first) (λ a b g. alike_then (same_arms (arms_start a) (arms_start b)) (λ s r i. alike_pure (assign_of x.targets s) (assign_of y.targets r) tt))

  pub same_whole : Alike (lang.whole d level rules) (lang.whole d level rules) any
  unfolding lang.whole
  same_whole = alike_then (same_targets [] []) (λ x y h. same_rest x y)
