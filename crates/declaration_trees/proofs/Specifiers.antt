-- Whole lists of specifiers (C11 6.7): up to the first type specifier, and behind it.

use Rattle.std.proofs.Common.{◌≡◌, ℕ, suc, ◌+◌, true, List, [], ◌∷◌, Option, Some, refl, sym, ap, ◌∙◌, subst, arith}
use Rattle.c_lexer.specs.declared.token.Kind.{Kind}
use Rattle.c_lexer.specs.declared.token.Kind.TheVariants as k
use Rattle.c_lexer.specs.declared.keyword.TheConstants.{KEY_ATOMIC, KEY_TYPEDEF}
use Rattle.c_lexer.specs.declared.mark.TheConstants.{MARK_LEFT_PAREN, MARK_RIGHT_PAREN}
use Rattle.c_tree.specs.declared.symbol.Want.TheVariants as want
use Rattle.c_tree.specs.declared.symbol.Slot.TheVariants as slot
use Rattle.c_tree.specs.declared.tree.TypeName.{TypeName}
use Rattle.c_tree.specs.declared.tree.Expr.{Expr}
use Rattle.c_tree.specs.declared.tree.Spec.{Spec, out-Spec}
use Rattle.c_tree.specs.declared.tree.Spec.TheVariants as spec
use Rattle.c_tree.specs.declared.tree.BaseForm.TheOpen as o
use Rattle.c_tree.specs.Folds.{OpenSpec, spec_fold}
use Rattle.c_tree.specs.Shape.{Inner as Contents}
use Rattle.c_tree.specs.TreeEvents.{Met}
use Rattle.c_tree.specs.Declarations.{IsTypeSpecifier, MayStandIn, IsSpec, IsSpecs}
use Rattle.c_tree.proofs.Folds as fold
use Rattle.reading.specs.declared.turn.Turn.TheVariants.{Again, Done}
use Rattle.c_scopes.specs.Scopes.{OpenScopes}
use Rattle.c_reading.specs.Kept.{KeptToken}
use Rattle.c_specifiers.specs.declared.forms.Place.{Place}
use Rattle.c_specifiers.specs.declared.forms.Place.TheVariants.{Ordinary, Definition, Parameter, Member, Nameless}
use Rattle.c_specifiers.specs.declared.forms.Specified.{Specified}
use Rattle.c_specifiers.specs.SpecifierForms.{no_specifiers, with_spec, with_atomic, specs_of}
use Rattle.c_specifiers.specs.Inside.{Inside}
use Rattle.c_specifiers.specs.SpecifierRules as lang
use Rattle.expression_trees.specs.Saying.{Said, ◌and◌, token, uses, AreSaid}
use Rattle.expression_trees.specs.Trees.{steps_of, of_spec}
use Rattle.expression_trees.proofs.FormsSay as law
use Rattle.expression_trees.proofs.FormsSay.{each}
use Rattle.expression_trees.proofs.Lists.{Every, all_of, every_snoc}
use Rattle.expression_trees.proofs.Front.{Open}
use Rattle.expression_trees.proofs.Tokens.{says_mark, says_key, says_typedef}
use Rattle.declaration_trees.specs.Numbering.{IsNoParen}
use Rattle.declaration_trees.specs.SpecifiersAreTrees.{standing}
use Rattle.declaration_trees.specs.Trees.{of_specs}
use Rattle.declaration_trees.proofs.FormsSay as say
use Rattle.declaration_trees.proofs.Words.{SomeOf, some_last, some_before, any_of, list_any_snoc, said_each, atomic_looser, no_key}
use Rattle.declaration_trees.proofs.Standing.{Adds, adds_pure, adds_then, adds_or, adds_from, adds_to, adds_part, adds_token, adds_many, adds_repeat, no_paren}
use Rattle.declaration_trees.proofs.SpecifierFront.{IsName, word_from, Ordered, AreUntyped, ordered_first, ordered_more, ordered_named, IsWord, May, typedef_in, InsideAdds, Words, settled, word, Extends, extended, says_more, or_none, IsModifier, IsTypeWord, may_qualifier, may_named, may_atomic, adds_qualifier, adds_function, adds_storage, adds_register, adds_typedef, adds_aligned, adds_basic}
use Rattle.declaration_trees.proofs.SpecifierLists.{adds_record_word, adds_enumeration_word}

name_types : (x : OpenSpec) → IsName x → IsTypeSpecifier x
name_types (o.Spec-F.Storage token) h = absurd h
name_types (o.Spec-F.Function token) h = absurd h
name_types (o.Spec-F.Qualifier token) h = absurd h
name_types (o.Spec-F.Basic token) h = absurd h
name_types (o.Spec-F.Named token) h = tt
name_types (o.Spec-F.Atomic type_name marks) h = absurd h
name_types (o.Spec-F.AlignType type_name marks) h = absurd h
name_types (o.Spec-F.AlignExpr expr marks) h = absurd h
name_types (o.Spec-F.Record key tag body marks) h = absurd h
name_types (o.Spec-F.Enumeration key tag body marks) h = absurd h

plus_one : (n : ℕ) → n + 1 ≡ suc n
plus_one n = omega arith

module _ (kind_of : ℕ → Option Kind) (bytes_of : ℕ → List ℕ) (inner : Contents) (d level : ℕ) (rules : Inside) (fi : InsideAdds kind_of bytes_of inner rules) where
  abbrev HasTypes : List Spec → Type 0
  HasTypes = SomeOf (λ w. IsTypeSpecifier (out-Spec w))

  abbrev pub UntypedIs : Place → Specified → ℕ → Open → Type 0
  UntypedIs at s stop f = Words kind_of bytes_of inner at s stop f × AreUntyped s.words

  -- Specifiers, of which one names a type.
  pub record TypedIs (at : Place) (s : Specified) (stop : ℕ) (f : Open) : Type 0 where
    pub words : Words kind_of bytes_of inner at s stop f
    pub ordered : Ordered s.words
    pub typed : HasTypes s.words

  to_untyped : (at : Place) (old s : Specified) (stop : ℕ) (f : Open) → AreUntyped old.words → Extends kind_of bytes_of inner at (IsModifier kind_of bytes_of inner) old s stop f → UntypedIs at s stop f
  to_untyped at old s stop f h y = (y.words, subst AreUntyped (sym y.is) (every_snoc (λ w. IsTypeSpecifier (out-Spec w) → ⊥) old.words y.last h y.kind))

  to_typed : (at : Place) (IsKind : OpenSpec → Type 0) → ((x : OpenSpec) → IsKind x → IsTypeSpecifier x) → (old s : Specified) (stop : ℕ) (f : Open) → AreUntyped old.words →
      Extends kind_of bytes_of inner at IsKind old s stop f → TypedIs at s stop f
  to_typed at IsKind up old s stop f h y = record {
    words = y.words;
    ordered = subst Ordered (sym y.is) (ordered_first old.words y.last h);
    typed = subst HasTypes (sym y.is) (some_last (λ w. IsTypeSpecifier (out-Spec w)) old.words y.last (up (out-Spec y.last) y.kind));
  }

  more_typed : (at : Place) (IsKind : OpenSpec → Type 0) → ((x : OpenSpec) → IsKind x → IsName x → ⊥) → (old : Specified) (at_old : ℕ) (g : Open) → TypedIs at old at_old g → (s : Specified) (stop : ℕ) (f : Open) →
      Extends kind_of bytes_of inner at IsKind old s stop f → TypedIs at s stop f
  more_typed at IsKind unnamed old at_old g t s stop f y = record {
    words = y.words;
    ordered = subst Ordered (sym y.is) (ordered_more old.words y.last t.ordered (unnamed (out-Spec y.last) y.kind));
    typed = subst HasTypes (sym y.is) (some_before (λ w. IsTypeSpecifier (out-Spec w)) old.words y.last t.typed);
  }

  -- ---- Which specifiers may stand at a place

  adds_aligned_modifier : (at : Place) → ((t : TypeName) (ms : List ℕ) → MayStandIn kind_of (standing at) (o.Spec-F.AlignType t ms)) → ((v : Expr) (ms : List ℕ) → MayStandIn kind_of (standing at) (o.Spec-F.AlignExpr v ms)) →
      (s : Specified) (stop : ℕ) (f : Open) → Words kind_of bytes_of inner at s stop f → Adds kind_of bytes_of (lang.aligned_modifier d level rules s) stop f (Extends kind_of bytes_of inner at (IsModifier kind_of bytes_of inner) s)
  unfolding lang.aligned_modifier
  adds_aligned_modifier at like to s stop f x = adds_or (adds_aligned kind_of bytes_of inner d level rules fi at like to s stop f x) (adds_qualifier kind_of bytes_of inner d level rules fi at s stop f x)

  adds_modifier : (at : Place) (s : Specified) (stop : ℕ) (f : Open) → Words kind_of bytes_of inner at s stop f →
      Adds kind_of bytes_of (lang.modifier d level rules at s) stop f (Extends kind_of bytes_of inner at (IsModifier kind_of bytes_of inner) s)
  unfolding lang.ordinary_modifier lang.definition_modifier lang.function_modifier lang.parameter_modifier
  adds_modifier Ordinary s stop f x = adds_or (adds_typedef kind_of bytes_of inner d level rules fi Ordinary (λ n. tt) s stop f x)
      (adds_or (adds_storage kind_of bytes_of inner d level rules fi Ordinary (λ n m h e. tt) s stop f x)
      (adds_or (adds_function kind_of bytes_of inner d level rules fi Ordinary (λ n. tt) s stop f x) (adds_aligned_modifier Ordinary (λ t ms. tt) (λ v ms. tt) s stop f x)))
  adds_modifier Definition s stop f x =
      adds_or (adds_storage kind_of bytes_of inner d level rules fi Definition (λ n m h e. λ q. no_key kind_of bytes_of m n KEY_TYPEDEF h e q) s stop f x)
      (adds_or (adds_function kind_of bytes_of inner d level rules fi Definition (λ n. tt) s stop f x) (adds_aligned_modifier Definition (λ t ms. tt) (λ v ms. tt) s stop f x))
  adds_modifier Parameter s stop f x =
      adds_or (adds_register kind_of bytes_of inner d level rules fi Parameter (λ n e. e) s stop f x)
      (adds_or (adds_function kind_of bytes_of inner d level rules fi Parameter (λ n. tt) s stop f x) (adds_aligned_modifier Parameter (λ t ms. tt) (λ v ms. tt) s stop f x))
  adds_modifier Member s stop f x = adds_aligned_modifier Member (λ t ms. tt) (λ v ms. tt) s stop f x
  adds_modifier Nameless s stop f x = adds_qualifier kind_of bytes_of inner d level rules fi Nameless s stop f x

  module _ (at : Place) where
    adds_type : (s : Specified) (stop : ℕ) (f : Open) → Words kind_of bytes_of inner at s stop f → Adds kind_of bytes_of (lang.type_word d level rules s) stop f (Extends kind_of bytes_of inner at (IsTypeWord kind_of bytes_of inner) s)
    unfolding lang.type_word
    adds_type s stop f x = adds_or (adds_basic kind_of bytes_of inner d level rules fi at s stop f x)
        (adds_or (adds_record_word kind_of bytes_of inner d level rules fi at s stop f x) (adds_enumeration_word kind_of bytes_of inner d level rules fi at s stop f x))

    -- ---- `_Atomic` (6.7.2.4)

    adds_atomic_type : (s : Specified) (stop : ℕ) (f : Open) → Words kind_of bytes_of inner at s stop f → Every (IsWord kind_of bytes_of inner) s.words → (key : ℕ) →
        Adds kind_of bytes_of (lang.atomic_type d level rules s key) (suc key) (λ k. f (token key (want.Key KEY_ATOMIC) k)) (Extends kind_of bytes_of inner at (IsTypeWord kind_of bytes_of inner) s)
    unfolding lang.atomic_type
    adds_atomic_type s stop f x h a = adds_token (says_mark kind_of bytes_of MARK_LEFT_PAREN) (λ l e i. adds_part (fi.type_name (suc l)) (λ t m g made.
        adds_token (says_mark kind_of bytes_of MARK_RIGHT_PAREN) (λ r e' i'.
        adds_pure (with_spec s (spec.Atomic t (a ∷ l ∷ r ∷ []))) (extended kind_of bytes_of inner s stop (suc r) f x h (spec.Atomic t (a ∷ l ∷ r ∷ []))
        (λ k. token a (want.Key KEY_ATOMIC) (token l (want.Mark MARK_LEFT_PAREN) (g (token r (want.Mark MARK_RIGHT_PAREN) k))))
        (word kind_of bytes_of inner at (IsTypeWord kind_of bytes_of inner) (o.Spec-F.Atomic t (a ∷ l ∷ r ∷ [])) _ _ (spec.rolls-Atomic t (a ∷ l ∷ r ∷ []))
        (made.0 (subst (IsNoParen kind_of) e' (no_paren refl i')), refl) (may_atomic kind_of bytes_of inner at t (a ∷ l ∷ r ∷ [])) (tt, λ q. q)
        (ap (λ (z : Met). z.typedef) (fold.spec_atomic_folds (steps_of kind_of bytes_of) t (a ∷ l ∷ r ∷ [])))
        (λ k. say.atomic_before kind_of bytes_of t a l r k ∙ ap (λ (z : Said). token a (want.Key KEY_ATOMIC) (token l (want.Mark MARK_LEFT_PAREN) z)) (made.1 (token r (want.Mark MARK_RIGHT_PAREN) k))))))))

    -- As a qualifier.
    abbrev qualified : Specified → ℕ → Open
    qualified s key k = each (of_spec kind_of bytes_of) s.words (token key (want.Among slot.Qualifier) k)

    less : (s : Specified) (stop : ℕ) (f : Open) → Words kind_of bytes_of inner at s stop f → (key : ℕ) (k : Said) (ts : List KeptToken) (scopes end : OpenScopes) →
        AreSaid kind_of bytes_of (f (token key (want.Key KEY_ATOMIC) k)) ts scopes end → AreSaid kind_of bytes_of (qualified s key k) ts scopes end
    less s stop f x key k ts scopes end q = said_each kind_of bytes_of (of_spec kind_of bytes_of) s.words (token key (want.Key KEY_ATOMIC) k) (token key (want.Among slot.Qualifier) k)
        (atomic_looser kind_of bytes_of key k) ts scopes end (subst (λ (z : Said). AreSaid kind_of bytes_of z ts scopes end) (x.writes (token key (want.Key KEY_ATOMIC) k)) q)

    atomic_is : (s : Specified) (stop : ℕ) (f : Open) → Words kind_of bytes_of inner at s stop f → Every (IsWord kind_of bytes_of inner) s.words → (key : ℕ) →
        Extends kind_of bytes_of inner at (IsModifier kind_of bytes_of inner) s (with_atomic s key) (suc key) (qualified s key)
    atomic_is s stop f x h key =
        let w = spec.Qualifier key in
        record {
          words = record {
            each_ = λ q. every_snoc (IsWord kind_of bytes_of inner) s.words w h (word_from (IsSpec kind_of inner) (o.Spec-F.Qualifier key) w (spec.rolls-Qualifier key)
                (λ c g. q refl (subst (λ (z : ℕ). kind_of z ≡ Some (k.Mark MARK_LEFT_PAREN)) (plus_one key) g)));
            allowed = every_snoc (May kind_of bytes_of inner at) s.words w x.allowed (word_from (MayStandIn kind_of (standing at)) (o.Spec-F.Qualifier key) w (spec.rolls-Qualifier key) (may_qualifier kind_of bytes_of inner at key));
            typedef = x.typedef ∙ (or_none kind_of bytes_of inner _ (typedef_in kind_of bytes_of inner w) (ap (λ (z : Met). z.typedef) (fold.spec_qualifier_folds (steps_of kind_of bytes_of) key)) ∙
                sym (list_any_snoc (λ (z : Met). z.typedef) (spec_fold (steps_of kind_of bytes_of)) s.words w));
            writes = says_more kind_of bytes_of inner s w (each (of_spec kind_of bytes_of) s.words) (token key (want.Among slot.Qualifier)) (λ k. refl) (say.qualifier_before kind_of bytes_of key);
          };
          last = w;
          is = refl;
          kind = word_from (IsModifier kind_of bytes_of inner) (o.Spec-F.Qualifier key) w (spec.rolls-Qualifier key) (λ t. t);
        }

    -- ---- Up to the first type specifier

    adds_up_to_type : (stop : ℕ) → Adds kind_of bytes_of (lang.up_to_type d level rules at) stop (λ k. k) (TypedIs at)
    unfolding lang.up_to_type lang.untyped_turn lang.typedef_name_turn lang.atomic_turn lang.atomic_type_turn lang.type_turn lang.modifier_turn
    adds_up_to_type stop = adds_repeat d {fine = UntypedIs at} (λ s n f x. adds_or
        (adds_token (says_typedef kind_of bytes_of) (λ t e i. adds_pure (Done (with_spec s (spec.Named t)))
        (to_typed at IsTypeSpecifier (λ y q. q) s (with_spec s (spec.Named t)) (suc t) _ x.1 (extended kind_of bytes_of inner s n (suc t) f x.0 (settled kind_of bytes_of inner x.0 _ refl t e i) (spec.Named t)
        (λ k. uses (bytes_of t) true (token t want.Word k))
        (word kind_of bytes_of inner at IsTypeSpecifier (o.Spec-F.Named t) _ _ (spec.rolls-Named t) tt (may_named kind_of bytes_of inner at t) tt
        (ap (λ (z : Met). z.typedef) (fold.spec_named_folds (steps_of kind_of bytes_of) t)) (law.spec_named_before kind_of bytes_of t))))))
        (adds_or
        (adds_token (says_key kind_of bytes_of KEY_ATOMIC) (λ key e i. adds_or
        (adds_then (adds_atomic_type s n f x.0 (settled kind_of bytes_of inner x.0 _ refl key e i) key) (λ t m g y. adds_pure (Done t) (to_typed at (IsTypeWord kind_of bytes_of inner) (λ z q. q.0) s t m g x.1 y)))
        (adds_from (less s n f x.0 key) (adds_pure (Again (with_atomic s key)) (to_untyped at s (with_atomic s key) (suc key) (qualified s key) x.1
        (atomic_is s n f x.0 (settled kind_of bytes_of inner x.0 _ refl key e i) key))))))
        (adds_or
        (adds_then (adds_type s n f x.0) (λ t m g y. adds_pure (Done t) (to_typed at (IsTypeWord kind_of bytes_of inner) (λ z q. q.0) s t m g x.1 y)))
        (adds_then (adds_modifier at s n f x.0) (λ t m g y. adds_pure (Again t) (to_untyped at s t m g x.1 y))))))
        no_specifiers (record { each_ = λ q. tt; allowed = tt; typedef = refl; writes = λ k. refl }, tt)

    -- ---- Behind it

    adds_all_words : (s : Specified) (stop : ℕ) (f : Open) → TypedIs at s stop f → Adds kind_of bytes_of (lang.all_words d level rules at s) stop f (TypedIs at)
    unfolding lang.all_words lang.more_words lang.atomic_word
    adds_all_words s stop f x = adds_many d {good = TypedIs at} (λ s n f x. adds_or
        (adds_token (says_key kind_of bytes_of KEY_ATOMIC) (λ key e i. adds_or
        (adds_to (λ t m g y. more_typed at (IsTypeWord kind_of bytes_of inner) (λ z q. q.1) s n f x t m g y) (adds_atomic_type s n f x.words (settled kind_of bytes_of inner x.words _ refl key e i) key))
        (adds_from (less s n f x.words key) (adds_pure (with_atomic s key) (more_typed at (IsModifier kind_of bytes_of inner) (λ z q r. q (name_types z r)) s n f x (with_atomic s key) (suc key) (qualified s key)
        (atomic_is s n f x.words (settled kind_of bytes_of inner x.words _ refl key e i) key))))))
        (adds_or
        (adds_to (λ t m g y. more_typed at (IsTypeWord kind_of bytes_of inner) (λ z q. q.1) s n f x t m g y) (adds_type s n f x.words))
        (adds_to (λ t m g y. more_typed at (IsModifier kind_of bytes_of inner) (λ z q r. q (name_types z r)) s n f x t m g y) (adds_modifier at s n f x.words))))
        s x

    -- The specifiers of a declaration, a parameter, a member or a type name.
    pub adds_specifiers : (stop : ℕ) → Adds kind_of bytes_of (lang.specifiers d level rules at) stop (λ k. k) (TypedIs at)
    unfolding lang.specifiers
    adds_specifiers stop = adds_then (adds_up_to_type stop) (λ s n f x. adds_all_words s n f x)

    -- They are well formed, where no `(` stands behind an `_Atomic` at their end.
    pub specs_are : (s : Specified) (stop : ℕ) (f : Open) → TypedIs at s stop f → (s.atomic ≡ true → IsNoParen kind_of stop) →
        IsSpecs kind_of inner (standing at) (specs_of s) × ((k : Said) → of_specs kind_of bytes_of (specs_of s) and k ≡ f k)
    specs_are s stop f x clear = (
      record {
        each = all_of (λ w. IsSpec kind_of inner (out-Spec w)) s.words (x.words.each_ clear);
        allowed = all_of (λ w. MayStandIn kind_of (standing at) (out-Spec w)) s.words x.words.allowed;
        typed = any_of (λ w. IsTypeSpecifier (out-Spec w)) s.words x.typed;
        named = λ before after n e. all_of (λ w. ¬ IsTypeSpecifier (out-Spec w)) before (ordered_named before after n (subst Ordered e x.ordered));
      },
      λ k. say.specs_before kind_of bytes_of s.words k ∙ sym (x.words.writes k),
    )
