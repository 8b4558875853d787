-- What the words of the rules of specifiers are: well-formed trees that say their tokens. One term
-- a rule.

use Rattle.std.proofs.Common.{◌≡◌, ℕ, suc, ◌+◌, ◌==◌, ◌||◌, Bool, true, false, List, [], ◌∷◌, ◌++◌, Option, Some, map, length, refl, sym, ap, ◌∙◌, subst}
use Rattle.std.specs.Prelude.{All}
use Rattle.std.specs.List.{list_any}
use Rattle.c_lexer.specs.declared.token.Kind.{Kind}
use Rattle.c_lexer.specs.declared.token.Kind.TheVariants as k
use Rattle.c_lexer.specs.declared.keyword.TheConstants.{KEY_ALIGNAS, KEY_ATOMIC, KEY_TYPEDEF, KEY_REGISTER}
use Rattle.c_lexer.specs.declared.keyword.TheConstants.{KEY_EXTERN, KEY_STATIC, KEY_THREAD_LOCAL, KEY_AUTO, KEY_CONST, KEY_RESTRICT, KEY_VOLATILE}
use Rattle.c_lexer.specs.declared.mark.TheConstants.{MARK_LEFT_PAREN, MARK_RIGHT_PAREN}
use Rattle.c_tree.specs.declared.symbol.Want.TheVariants as want
use Rattle.c_tree.specs.declared.symbol.Slot.TheVariants as slot
use Rattle.c_tree.specs.declared.tree.TypeName.{TypeName}
use Rattle.c_tree.specs.declared.tree.Spec.{Spec, roll-Spec, out-Spec, out-roll-Spec}
use Rattle.c_tree.specs.declared.tree.Spec.TheVariants as spec
use Rattle.c_tree.specs.declared.tree.Expr.{Expr, out-roll-Expr}
use Rattle.c_tree.specs.declared.tree.Assign.{Assign, out-Assign}
use Rattle.c_tree.specs.declared.tree.BaseForm.TheOpen as o
use Rattle.c_tree.specs.Folds.{OpenSpec, spec_fold}
use Rattle.c_tree.specs.Forms.{sole}
use Rattle.c_tree.specs.Shape.{Inner as Contents}
use Rattle.c_tree.specs.Expressions.{IsConstant}
use Rattle.c_tree.specs.Declarations.{IsTypeSpecifier, MayStandIn, IsQualifier, IsSpec}
use Rattle.c_tree.specs.TreeEvents.{Met, is_typedef_key}
use Rattle.c_tree.proofs.Folds as fold
use Rattle.reading.specs.Terminals.{has}
use Rattle.c_reading.specs.Terminals.{mark}
use Rattle.c_syntax.specs.declared.forms.AssignForm.TheVariants.{Constant}
use Rattle.c_specifiers.specs.declared.forms.Place.{Place}
use Rattle.c_specifiers.specs.declared.forms.Place.TheVariants.{Ordinary, Definition, Parameter, Member, Nameless}
use Rattle.c_specifiers.specs.declared.forms.Specified.{Specified}
use Rattle.c_specifiers.specs.SpecifierForms.{with_spec, with_typedef}
use Rattle.c_specifiers.specs.Inside.{Inside}
use Rattle.c_specifiers.specs.SpecifierRules as lang
use Rattle.expression_trees.specs.Saying.{Said, ◌and◌, token}
use Rattle.expression_trees.specs.Trees.{steps_of, of_assign, of_type_name, of_spec}
use Rattle.expression_trees.proofs.FormsSay as law
use Rattle.expression_trees.proofs.FormsSay.{each, pairs, values, commas, brace_ends}
use Rattle.expression_trees.proofs.Lists.{Every, all_of, every_snoc}
use Rattle.expression_trees.proofs.Front.{Open, IsOf}
use Rattle.expression_trees.proofs.Tokens.{says_mark, says_key, says_basic}
use Rattle.declaration_trees.specs.Numbering.{IsNoParen}
use Rattle.declaration_trees.specs.SpecifiersAreTrees.{standing}
use Rattle.declaration_trees.specs.Trees.{of_member}
use Rattle.declaration_trees.proofs.FormsSay as say
use Rattle.declaration_trees.proofs.FormsSay.{tagged}
use Rattle.declaration_trees.proofs.Words.{list_any_snoc, says_storage, says_register, says_typedef_key, says_function, says_plain, seen_key, other_key, no_key}
use Rattle.declaration_trees.proofs.Standing.{Adds, Made, adds_pure, adds_or, adds_part, adds_token, no_paren}

-- A typedef name.
abbrev pub IsName : OpenSpec → Type 0
IsName (o.Spec-F.Storage token) = ⊥
IsName (o.Spec-F.Function token) = ⊥
IsName (o.Spec-F.Qualifier token) = ⊥
IsName (o.Spec-F.Basic token) = ⊥
IsName (o.Spec-F.Named token) = Prim.Unit {0}
IsName (o.Spec-F.Atomic type_name marks) = ⊥
IsName (o.Spec-F.AlignType type_name marks) = ⊥
IsName (o.Spec-F.AlignExpr expr marks) = ⊥
IsName (o.Spec-F.Record key tag body marks) = ⊥
IsName (o.Spec-F.Enumeration key tag body marks) = ⊥

-- What holds of the open form holds of the word.
pub word_from : (P : OpenSpec → Type 0) (x : OpenSpec) (w : Spec) → roll-Spec x ≡ w → P x → P (out-Spec w)
word_from P x w e p = subst (λ (v : Spec). P (out-Spec v)) e (subst P (sym (out-roll-Spec x)) p)

pub word_to : (P : OpenSpec → Type 0) (x : OpenSpec) (w : Spec) → roll-Spec x ≡ w → P (out-Spec w) → P x
word_to P x w e p = subst P (out-roll-Spec x) (subst (λ (v : Spec). P (out-Spec v)) (sym e) p)

-- No typedef name stands behind a type specifier.
abbrev pub Ordered : List Spec → Type 0
Ordered [] = Prim.Unit {0}
Ordered (w ∷ ws) = (IsTypeSpecifier (out-Spec w) → Every (λ v. IsName (out-Spec v) → ⊥) ws) × Ordered ws

abbrev pub AreUntyped : List Spec → Type 0
AreUntyped = Every (λ w. IsTypeSpecifier (out-Spec w) → ⊥)

pub ordered_first : (ws : List Spec) (w : Spec) → AreUntyped ws → Ordered (ws ++ w ∷ [])
ordered_first [] w h = (λ t. tt, tt)
ordered_first (v ∷ ws) w h = (λ t. absurd (h.0 t), ordered_first ws w h.1)

pub ordered_more : (ws : List Spec) (w : Spec) → Ordered ws → (IsName (out-Spec w) → ⊥) → Ordered (ws ++ w ∷ [])
ordered_more [] w h n = (λ t. tt, tt)
ordered_more (v ∷ ws) w h n = ((λ t. every_snoc (λ v. IsName (out-Spec v) → ⊥) ws w (h.0 t) n), ordered_more ws w h.1 n)

pub no_name_in : (before after : List Spec) (n : ℕ) → Every (λ v. IsName (out-Spec v) → ⊥) (before ++ spec.Named n ∷ after) → ⊥
no_name_in [] after n h = h.0 (word_from IsName (o.Spec-F.Named n) _ (spec.rolls-Named n) tt)
no_name_in (v ∷ before) after n h = no_name_in before after n h.1

pub ordered_named : (before after : List Spec) (n : ℕ) → Ordered (before ++ spec.Named n ∷ after) → AreUntyped before
ordered_named [] after n h = tt
ordered_named (v ∷ before) after n h = ((λ t. no_name_in before after n (h.0 t)), ordered_named before after n h.1)

module _ (kind_of : ℕ → Option Kind) (bytes_of : ℕ → List ℕ) (inner : Contents) where
  abbrev pub IsWord : Spec → Type 0
  IsWord w = IsSpec kind_of inner (out-Spec w)

  abbrev pub May : Place → Spec → Type 0
  May at w = MayStandIn kind_of (standing at) (out-Spec w)

  abbrev pub typedef_in : Spec → Bool
  typedef_in w = (spec_fold (steps_of kind_of bytes_of) w).typedef

  abbrev pub is_typedef : Met → Bool
  is_typedef m = m.typedef

  pub is_constant : (a : Assign) → inner.IsAssign a → (out-Assign a).targets ≡ [] → IsConstant kind_of inner (sole a)
  is_constant a g h =
      let out = out-roll-Expr (record { parts = a ∷ []; marks = [] }) in
      record {
        single = record {
          form = record {
            parts = subst (λ (y : _). All inner.IsAssign y.parts) (sym out) (all_of inner.IsAssign (a ∷ []) (g, tt));
            commas = subst (λ (y : _). length y.parts ≡ 1 + length y.marks) (sym out) refl;
          };
          one = subst (λ (y : _). length y.parts ≡ 1) (sym out) refl;
        };
        conditional = subst (λ (y : _). All (λ assign. (out-Assign assign).targets ≡ []) y.parts) (sym out) (all_of (λ assign. (out-Assign assign).targets ≡ []) (a ∷ []) (h, tt));
      }

  -- What stands in the brackets of specifiers is.
  pub record InsideAdds (rules : Inside) : Type 0 where
    pub constant : (at : ℕ) → Adds kind_of bytes_of (rules.assign Constant) at (λ k. k) (Made (of_assign kind_of bytes_of) (λ a stop. inner.IsAssign a × ((out-Assign a).targets ≡ [])))
    pub type_name : (at : ℕ) → Adds kind_of bytes_of (rules.type_name) at (λ k. k) (Made (of_type_name kind_of bytes_of) (λ t stop. IsNoParen kind_of stop → inner.IsTypeName t))
    pub member : (at : ℕ) → Adds kind_of bytes_of (rules.member) at (λ k. k) (Made (of_member kind_of bytes_of) (λ d stop. inner.IsMember d))

  -- ---- Specifiers so far

  pub record Words (at : Place) (s : Specified) (stop : ℕ) (f : Open) : Type 0 where
    -- The last may be an `_Atomic`, which is a qualifier if no `(` follows.
    pub each_ : (s.atomic ≡ true → IsNoParen kind_of stop) → Every IsWord s.words
    pub allowed : Every (May at) s.words
    pub typedef : s.typedef ≡ list_any is_typedef (map (spec_fold (steps_of kind_of bytes_of)) s.words)
    pub writes : (k : Said) → f k ≡ each (of_spec kind_of bytes_of) s.words k

  pub settled : {at : Place} {s : Specified} {stop : ℕ} {f : Open} → Words at s stop f → (set : List ℕ) → has set (mark MARK_LEFT_PAREN) ≡ false → (n : ℕ) → n ≡ stop → IsOf kind_of bytes_of set n → Every IsWord s.words
  settled x set apart n e i = x.each_ (λ h. subst (IsNoParen kind_of) e (no_paren apart i))

  -- One more word.
  pub record Word (at : Place) (IsKind : OpenSpec → Type 0) (w : Spec) (g : Open) : Type 0 where
    pub right : IsWord w
    pub may : May at w
    pub kind : IsKind (out-Spec w)
    pub plain : typedef_in w ≡ false
    pub says : (k : Said) → of_spec kind_of bytes_of w and k ≡ g k

  abbrev pub word : (at : Place) (IsKind : OpenSpec → Type 0) (x : OpenSpec) (w : Spec) (g : Open) → roll-Spec x ≡ w → IsSpec kind_of inner x → MayStandIn kind_of (standing at) x → IsKind x →
      typedef_in w ≡ false → ((k : Said) → of_spec kind_of bytes_of w and k ≡ g k) → Word at IsKind w g
  word at IsKind x w g e a b c d h = record {
    right = word_from (IsSpec kind_of inner) x w e a;
    may = word_from (MayStandIn kind_of (standing at)) x w e b;
    kind = word_from IsKind x w e c;
    plain = d;
    says = h;
  }

  -- The specifiers, to which one of the kind was added.
  pub record Extends (at : Place) (IsKind : OpenSpec → Type 0) (old s : Specified) (stop : ℕ) (f : Open) : Type 0 where
    pub words : Words at s stop f
    pub last : Spec
    pub is : s.words ≡ old.words ++ last ∷ []
    pub kind : IsKind (out-Spec last)

  pub or_none : (a b : Bool) → b ≡ false → a ≡ (a || b)
  or_none true b e = refl
  or_none false b e = sym e

  pub or_some : (a b : Bool) → b ≡ true → true ≡ (a || b)
  or_some true b e = refl
  or_some false b e = sym e

  pub says_more : (s : Specified) (w : Spec) (f g : Open) → ((k : Said) → f k ≡ each (of_spec kind_of bytes_of) s.words k) → ((k : Said) → of_spec kind_of bytes_of w and k ≡ g k) →
      (k : Said) → f (g k) ≡ each (of_spec kind_of bytes_of) (s.words ++ w ∷ []) k
  says_more s w f g x h k = x (g k) ∙ (ap (each (of_spec kind_of bytes_of) s.words) (sym (h k)) ∙ sym (law.each_snoc (of_spec kind_of bytes_of) s.words w k))

  pub extended : {at : Place} {IsKind : OpenSpec → Type 0} (s : Specified) (m stop : ℕ) (f : Open) → Words at s m f → Every IsWord s.words → (w : Spec) (g : Open) → Word at IsKind w g →
      Extends at IsKind s (with_spec s w) stop (λ k. f (g k))
  extended {at = at} s m stop f x h w g y = record {
    words = record {
      each_ = λ q. every_snoc IsWord s.words w h y.right;
      allowed = every_snoc (May at) s.words w x.allowed y.may;
      typedef = x.typedef ∙ (or_none _ (typedef_in w) y.plain ∙ sym (list_any_snoc is_typedef (spec_fold (steps_of kind_of bytes_of)) s.words w));
      writes = says_more s w f g x.writes y.says;
    };
    last = w;
    is = refl;
    kind = y.kind;
  }

  -- ---- Kinds of words

  abbrev pub IsModifier : OpenSpec → Type 0
  IsModifier x = IsTypeSpecifier x → ⊥

  abbrev pub IsTypeWord : OpenSpec → Type 0
  IsTypeWord x = IsTypeSpecifier x × (IsName x → ⊥)

  pub may_qualifier : (at : Place) (n : ℕ) → MayStandIn kind_of (standing at) (o.Spec-F.Qualifier n)
  may_qualifier Ordinary n = tt
  may_qualifier Definition n = tt
  may_qualifier Parameter n = tt
  may_qualifier Member n = tt
  may_qualifier Nameless n = tt

  pub may_basic : (at : Place) (n : ℕ) → MayStandIn kind_of (standing at) (o.Spec-F.Basic n)
  may_basic Ordinary n = tt
  may_basic Definition n = tt
  may_basic Parameter n = tt
  may_basic Member n = tt
  may_basic Nameless n = tt

  pub may_named : (at : Place) (n : ℕ) → MayStandIn kind_of (standing at) (o.Spec-F.Named n)
  may_named Ordinary n = tt
  may_named Definition n = tt
  may_named Parameter n = tt
  may_named Member n = tt
  may_named Nameless n = tt

  pub may_atomic : (at : Place) (t : TypeName) (ms : List ℕ) → MayStandIn kind_of (standing at) (o.Spec-F.Atomic t ms)
  may_atomic Ordinary t ms = tt
  may_atomic Definition t ms = tt
  may_atomic Parameter t ms = tt
  may_atomic Member t ms = tt
  may_atomic Nameless t ms = tt

  pub typedef_basic : (n : ℕ) → typedef_in (spec.Basic n) ≡ false
  typedef_basic n = ap is_typedef (fold.spec_basic_folds (steps_of kind_of bytes_of) n)

  -- ---- Specifiers that are no type specifiers (6.7.1, 6.7.3 to 6.7.5)

  pub is_qualifier : (n m : ℕ) → (m == KEY_ATOMIC) ≡ false → kind_of n ≡ Some (k.Key m) → IsQualifier kind_of n
  is_qualifier n m h e = λ f. absurd (no_key kind_of bytes_of m n KEY_ATOMIC h e f)

  module _ (d level : ℕ) (rules : Inside) (fi : InsideAdds rules) (at : Place) where
    pub adds_qualifier : (s : Specified) (stop : ℕ) (f : Open) → Words at s stop f → Adds kind_of bytes_of (lang.qualifier_word d level rules s) stop f (Extends at IsModifier s)
    unfolding lang.qualifier_word
    adds_qualifier s stop f x = adds_token (says_plain kind_of bytes_of) (λ n e i.
        let key = other_key kind_of bytes_of (KEY_CONST ∷ KEY_RESTRICT ∷ KEY_VOLATILE ∷ []) n KEY_ATOMIC refl i in
        adds_pure (with_spec s (spec.Qualifier n)) (extended s stop (suc n) f x (settled x _ refl n e i) (spec.Qualifier n) (token n (want.Among slot.Qualifier))
        (word at IsModifier (o.Spec-F.Qualifier n) _ _ (spec.rolls-Qualifier n) (is_qualifier n key.0 key.1 key.2) (may_qualifier at n) (λ t. t)
        (ap is_typedef (fold.spec_qualifier_folds (steps_of kind_of bytes_of) n)) (say.qualifier_before kind_of bytes_of n))))

    pub adds_function : ((n : ℕ) → MayStandIn kind_of (standing at) (o.Spec-F.Function n)) → (s : Specified) (stop : ℕ) (f : Open) → Words at s stop f →
        Adds kind_of bytes_of (lang.function_word d level rules s) stop f (Extends at IsModifier s)
    unfolding lang.function_word
    adds_function may s stop f x = adds_token (says_function kind_of bytes_of) (λ n e i.
        adds_pure (with_spec s (spec.Function n)) (extended s stop (suc n) f x (settled x _ refl n e i) (spec.Function n) (token n (want.Among slot.Function))
        (word at IsModifier (o.Spec-F.Function n) _ _ (spec.rolls-Function n) tt (may n) (λ t. t)
        (ap is_typedef (fold.spec_function_folds (steps_of kind_of bytes_of) n)) (say.function_before kind_of bytes_of n))))

    pub storage_plain : (n m : ℕ) → (m == KEY_TYPEDEF) ≡ false → kind_of n ≡ Some (k.Key m) → typedef_in (spec.Storage n) ≡ false
    storage_plain n m h e = ap is_typedef (fold.spec_storage_folds (steps_of kind_of bytes_of) n) ∙ (ap is_typedef_key e ∙ h)

    pub adds_storage : ((n m : ℕ) → (m == KEY_TYPEDEF) ≡ false → kind_of n ≡ Some (k.Key m) → MayStandIn kind_of (standing at) (o.Spec-F.Storage n)) → (s : Specified) (stop : ℕ) (f : Open) → Words at s stop f →
        Adds kind_of bytes_of (lang.storage_word d level rules s) stop f (Extends at IsModifier s)
    unfolding lang.storage_word
    adds_storage may s stop f x = adds_token (says_storage kind_of bytes_of) (λ n e i.
        let key = other_key kind_of bytes_of (KEY_EXTERN ∷ KEY_STATIC ∷ KEY_THREAD_LOCAL ∷ KEY_AUTO ∷ KEY_REGISTER ∷ []) n KEY_TYPEDEF refl i in
        adds_pure (with_spec s (spec.Storage n)) (extended s stop (suc n) f x (settled x _ refl n e i) (spec.Storage n) (token n (want.Among slot.Storage))
        (word at IsModifier (o.Spec-F.Storage n) _ _ (spec.rolls-Storage n) tt (may n key.0 key.1 key.2) (λ t. t)
        (storage_plain n key.0 key.1 key.2) (say.storage_before kind_of bytes_of n))))

    pub adds_register : ((n : ℕ) → kind_of n ≡ Some (k.Key KEY_REGISTER) → MayStandIn kind_of (standing at) (o.Spec-F.Storage n)) → (s : Specified) (stop : ℕ) (f : Open) → Words at s stop f →
        Adds kind_of bytes_of (lang.register_word d level rules s) stop f (Extends at IsModifier s)
    unfolding lang.register_word
    adds_register may s stop f x = adds_token (says_register kind_of bytes_of) (λ n e i.
        let key = seen_key kind_of bytes_of KEY_REGISTER n i in
        adds_pure (with_spec s (spec.Storage n)) (extended s stop (suc n) f x (settled x _ refl n e i) (spec.Storage n) (token n (want.Among slot.Storage))
        (word at IsModifier (o.Spec-F.Storage n) _ _ (spec.rolls-Storage n) tt (may n key) (λ t. t)
        (storage_plain n KEY_REGISTER refl key) (say.storage_before kind_of bytes_of n))))

    pub adds_typedef : ((n : ℕ) → MayStandIn kind_of (standing at) (o.Spec-F.Storage n)) → (s : Specified) (stop : ℕ) (f : Open) → Words at s stop f →
        Adds kind_of bytes_of (lang.typedef_word d level rules s) stop f (Extends at IsModifier s)
    unfolding lang.typedef_word
    adds_typedef may s stop f x = adds_token (says_typedef_key kind_of bytes_of) (λ n e i.
        let key = seen_key kind_of bytes_of KEY_TYPEDEF n i in
        let w = spec.Storage n in
        adds_pure (with_typedef s n) (record {
          words = record {
            each_ = λ q. every_snoc IsWord s.words w (settled x _ refl n e i) (word_from (IsSpec kind_of inner) (o.Spec-F.Storage n) w (spec.rolls-Storage n) tt);
            allowed = every_snoc (May at) s.words w x.allowed (word_from (MayStandIn kind_of (standing at)) (o.Spec-F.Storage n) w (spec.rolls-Storage n) (may n));
            typedef = or_some _ (typedef_in w) (ap is_typedef (fold.spec_storage_folds (steps_of kind_of bytes_of) n) ∙ ap is_typedef_key key) ∙
                sym (list_any_snoc is_typedef (spec_fold (steps_of kind_of bytes_of)) s.words w);
            writes = says_more s w f (token n (want.Among slot.Storage)) x.writes (say.storage_before kind_of bytes_of n);
          };
          last = w;
          is = refl;
          kind = word_from IsModifier (o.Spec-F.Storage n) w (spec.rolls-Storage n) (λ t. t);
        }))

    pub adds_aligned : ((t : TypeName) (ms : List ℕ) → MayStandIn kind_of (standing at) (o.Spec-F.AlignType t ms)) → ((v : Expr) (ms : List ℕ) → MayStandIn kind_of (standing at) (o.Spec-F.AlignExpr v ms)) →
        (s : Specified) (stop : ℕ) (f : Open) → Words at s stop f → Adds kind_of bytes_of (lang.aligned d level rules s) stop f (Extends at IsModifier s)
    unfolding lang.aligned lang.aligned_like lang.aligned_to
    adds_aligned like to s stop f x = adds_token (says_key kind_of bytes_of KEY_ALIGNAS) (λ a e i. adds_token (says_mark kind_of bytes_of MARK_LEFT_PAREN) (λ l e' i'. adds_or
        (adds_part (fi.type_name (suc l)) (λ t m g made. adds_token (says_mark kind_of bytes_of MARK_RIGHT_PAREN) (λ r e'' i''.
        adds_pure (with_spec s (spec.AlignType t (a ∷ l ∷ r ∷ []))) (extended s stop (suc r) f x (settled x _ refl a e i) (spec.AlignType t (a ∷ l ∷ r ∷ []))
        (λ k. token a (want.Key KEY_ALIGNAS) (token l (want.Mark MARK_LEFT_PAREN) (g (token r (want.Mark MARK_RIGHT_PAREN) k))))
        (word at IsModifier (o.Spec-F.AlignType t (a ∷ l ∷ r ∷ [])) _ _ (spec.rolls-AlignType t (a ∷ l ∷ r ∷ [])) (made.0 (subst (IsNoParen kind_of) e'' (no_paren refl i'')), refl) (like t (a ∷ l ∷ r ∷ [])) (λ q. q)
        (ap is_typedef (fold.spec_align_type_folds (steps_of kind_of bytes_of) t (a ∷ l ∷ r ∷ [])))
        (λ k. say.align_type_before kind_of bytes_of t a l r k ∙ ap (λ (z : Said). token a (want.Key KEY_ALIGNAS) (token l (want.Mark MARK_LEFT_PAREN) z)) (made.1 (token r (want.Mark MARK_RIGHT_PAREN) k))))))))
        (adds_part (fi.constant (suc l)) (λ v m g made. adds_token (says_mark kind_of bytes_of MARK_RIGHT_PAREN) (λ r e'' i''.
        adds_pure (with_spec s (spec.AlignExpr (sole v) (a ∷ l ∷ r ∷ []))) (extended s stop (suc r) f x (settled x _ refl a e i) (spec.AlignExpr (sole v) (a ∷ l ∷ r ∷ []))
        (λ k. token a (want.Key KEY_ALIGNAS) (token l (want.Mark MARK_LEFT_PAREN) (g (token r (want.Mark MARK_RIGHT_PAREN) k))))
        (word at IsModifier (o.Spec-F.AlignExpr (sole v) (a ∷ l ∷ r ∷ [])) _ _ (spec.rolls-AlignExpr (sole v) (a ∷ l ∷ r ∷ [])) (is_constant v made.0.0 made.0.1, refl) (to (sole v) (a ∷ l ∷ r ∷ [])) (λ q. q)
        (ap is_typedef (fold.spec_align_expr_folds (steps_of kind_of bytes_of) (sole v) (a ∷ l ∷ r ∷ [])))
        (λ k. say.align_expr_before kind_of bytes_of (sole v) a l r k ∙ ap (λ (z : Said). token a (want.Key KEY_ALIGNAS) (token l (want.Mark MARK_LEFT_PAREN) z))
        (say.sole_before kind_of bytes_of v (token r (want.Mark MARK_RIGHT_PAREN) k) ∙ made.1 (token r (want.Mark MARK_RIGHT_PAREN) k))))))))))

    -- ---- Type specifiers of one keyword (6.7.2)

    pub adds_basic : (s : Specified) (stop : ℕ) (f : Open) → Words at s stop f → Adds kind_of bytes_of (lang.basic_word d level rules s) stop f (Extends at IsTypeWord s)
    unfolding lang.basic_word
    adds_basic s stop f x = adds_token (says_basic kind_of bytes_of) (λ n e i.
        adds_pure (with_spec s (spec.Basic n)) (extended s stop (suc n) f x (settled x _ refl n e i) (spec.Basic n) (token n (want.Among slot.Basic))
        (word at IsTypeWord (o.Spec-F.Basic n) _ _ (spec.rolls-Basic n) tt (may_basic at n) (tt, λ q. q)
        (typedef_basic n) (law.spec_basic_before kind_of bytes_of n))))
