-- Expressions with the simplest contents have other numbers of tokens too, and the levels that their
-- brackets give them.

use Rattle.std.proofs.Common.{◌≡◌, ℕ, zero, suc, ◌+◌, List, [], ◌∷◌, ◌++◌, refl, sym, ap, ◌∙◌}
use Rattle.c_tree.specs.declared.tree.Spec.{Spec}
use Rattle.c_tree.specs.declared.tree.Spec.TheVariants as spec
use Rattle.c_tree.specs.declared.tree.Pointer.{Pointer}
use Rattle.c_tree.specs.declared.tree.TypeName.{TypeName}
use Rattle.c_tree.specs.declared.tree.Assign.{Assign}
use Rattle.c_lexer.specs.declared.mark.TheConstants.{MARK_STAR}
use Rattle.c_tree.specs.Levels.{Nesting, nesting_level}
use Rattle.reading.specs.Nesting.{nested}
use Rattle.c_reading.specs.Terminals.{mark}
use Rattle.c_syntax.specs.Scoping.{Part}
use Rattle.c_syntax.specs.Sets.{a_typedef_name, a_basic_type}
use Rattle.c_syntax.specs.Forms.{pointer, type_name_of, value_item}
use Rattle.c_syntax.specs.TypeNameRules as lang
use Rattle.c_syntax.specs.SimplestRules.{item, simplest, assign, assign_body, expr}
use Rattle.expression_trees.proofs.Alike.{Alike, any, alike_pure, alike_then, alike_or, alike_token, alike_many}
use Rattle.expression_trees.proofs.AlikeRules.{InnerAlike, same_whole, same_expr}
use Rattle.expression_trees.proofs.Leveled.{Keeps, InnerKeeps, k_pure, k_then, k_or, k_flat, k_many, k_whole, k_expr}

-- ---- Numbers

same_words : (d level : ℕ) → Alike (lang.words d level) (lang.words d level) any
unfolding lang.words lang.named lang.basic lang.more_words lang.one_more_word
same_words d level = alike_or (alike_token (λ m n. alike_pure (spec.Named m ∷ []) (spec.Named n ∷ []) tt))
    (alike_token (λ m n. alike_many d {R = any} (λ s r h. alike_token (λ a b. alike_pure (s ++ spec.Basic a ∷ []) (r ++ spec.Basic b ∷ []) tt)) (spec.Basic m ∷ []) (spec.Basic n ∷ []) tt))

same_stars : (d level : ℕ) → Alike (lang.stars d level) (lang.stars d level) any
unfolding lang.stars lang.one_more_star
same_stars d level = alike_many d {R = any} (λ s r h. alike_token (λ a b. alike_pure (s ++ pointer a ∷ []) (r ++ pointer b ∷ []) tt)) [] [] tt

same_type_name : (d level : ℕ) → Alike (lang.type_name d level) (lang.type_name d level) any
unfolding lang.type_name
same_type_name d level = alike_then (same_words d level) (λ v w h. alike_then (same_stars d level) (λ s r g. alike_pure (type_name_of v s) (type_name_of w r) tt))

same_item : (X : Part Assign) → Alike X X any → Alike (item X) (item X) any
unfolding item
same_item X p = alike_then p (λ a b h. alike_pure (value_item a) (value_item b) tt)

assign_alike : (d level : ℕ) → Alike (nested assign_body d level tt) (nested assign_body d level tt) any
unfolding nested
assign_alike zero level = record { alike = λ scopes v w h e x. absurd x }
assign_alike (suc d) level = same_whole d level (simplest d level (nested assign_body d (suc level) tt))
    (record { assign = assign_alike d (suc level); type_name = same_type_name d (suc level); item = same_item (nested assign_body d (suc level) tt) (assign_alike d (suc level)) })

pub expr_alike : (d level : ℕ) → Alike (expr d level) (expr d level) any
unfolding expr assign
expr_alike d level = same_expr d level (nested assign_body d level tt) (assign_alike d level)

-- ---- Levels

module _ (base : ℕ) where
  k_words : (d level : ℕ) (n : Nesting) → level ≡ base + nesting_level n → Keeps base (lang.words d level) n (λ a. n)
  unfolding lang.words lang.named lang.basic lang.more_words lang.one_more_word
  k_words d level n e = k_or base (k_flat base a_typedef_name refl e (λ x. k_pure base (spec.Named x ∷ []) refl))
      (k_flat base a_basic_type refl e (λ x. k_many base d (λ ws. k_flat base a_basic_type refl e (λ y. k_pure base (ws ++ spec.Basic y ∷ []) refl)) (spec.Basic x ∷ [])))

  k_stars : (d level : ℕ) (n : Nesting) → level ≡ base + nesting_level n → Keeps base (lang.stars d level) n (λ a. n)
  unfolding lang.stars lang.one_more_star
  k_stars d level n e = k_many base d (λ ps. k_flat base (mark MARK_STAR ∷ []) refl e (λ x. k_pure base (ps ++ pointer x ∷ []) refl)) []

  k_type_name : (d level : ℕ) (n : Nesting) → level ≡ base + nesting_level n → Keeps base (lang.type_name d level) n (λ a. n)
  unfolding lang.type_name
  k_type_name d level n e = k_then base (k_words d level n e) (λ ws. k_then base (k_stars d level n e) (λ ps. k_pure base (type_name_of ws ps) refl))

  k_item : (X : Part Assign) (n : Nesting) → Keeps base X n (λ a. n) → Keeps base (item X) n (λ a. n)
  unfolding item
  k_item X n p = k_then base p (λ a. k_pure base (value_item a) refl)

  k_assign : (d level : ℕ) (n : Nesting) → level ≡ base + nesting_level n → Keeps base (nested assign_body d level tt) n (λ a. n)
  unfolding nested
  k_assign zero level n e = record { keeps = λ scopes w b x. absurd x }
  k_assign (suc d) level n e = k_whole base d level n e (simplest d level (nested assign_body d (suc level) tt)) (record {
    assign = λ m h. k_assign d (suc level) m h;
    type_name = λ m h. k_type_name d (suc level) m h;
    item = λ m h. k_item (nested assign_body d (suc level) tt) m (k_assign d (suc level) m h);
  })

  -- Each token of an expression has the level that what is open gives it.
  pub expr_keeps : (d level : ℕ) (n : Nesting) → level ≡ base + nesting_level n → Keeps base (expr d level) n (λ a. n)
  unfolding expr assign
  expr_keeps d level n e = k_expr base d level n e (nested assign_body d level tt) (k_assign d level n e)
