-- Which prefixes may follow others: no cast stands directly after an operator that takes a unary
-- expression.

use Rattle.std.proofs.Common.{◌≡◌, ℕ, List, [], ◌∷◌, ◌++◌, Option, refl, sym, ap, ◌∙◌, subst}
use Rattle.c_lexer.specs.declared.token.Kind.{Kind}
use Rattle.c_tree.specs.declared.tree.TypeName.{TypeName}
use Rattle.c_tree.specs.declared.tree.Prefix.{Prefix, out-Prefix, roll-Prefix, out-roll-Prefix}
use Rattle.c_tree.specs.declared.tree.Prefix.TheVariants as prefix
use Rattle.c_tree.specs.declared.tree.BaseForm.TheOpen as o
use Rattle.c_tree.specs.Folds.{OpenPrefix}
use Rattle.c_tree.specs.Shape.{Inner}
use Rattle.c_tree.specs.Expressions.{IsCast, TakesUnary, AreLinked}

pub out_op : (n : ℕ) → out-Prefix (prefix.Op n) ≡ o.Prefix-F.Op n
out_op n = ap out-Prefix (sym (prefix.rolls-Op n)) ∙ out-roll-Prefix (o.Prefix-F.Op n)

pub out_cast : (t : TypeName) (ms : List ℕ) → out-Prefix (prefix.Cast t ms) ≡ o.Prefix-F.Cast t ms
out_cast t ms = ap out-Prefix (sym (prefix.rolls-Cast t ms)) ∙ out-roll-Prefix (o.Prefix-F.Cast t ms)

pub not_cast : (n : ℕ) → IsCast (out-Prefix (prefix.Op n)) → ⊥
not_cast n h = subst IsCast (out_op n) h

module _ (kind_of : ℕ → Option Kind) (inner : Inner) where
  -- The last of the prefixes lets the other one follow.
  abbrev pub Allows : List Prefix → Prefix → Type 0
  Allows [] p = Prim.Unit {0}
  Allows (q ∷ []) p = TakesUnary kind_of inner (out-Prefix q) → ¬ IsCast (out-Prefix p)
  Allows (q ∷ r ∷ ps) p = Allows (r ∷ ps) p

  pub linked_snoc : (ps : List Prefix) (p : Prefix) → AreLinked kind_of inner ps → Allows ps p → AreLinked kind_of inner (ps ++ p ∷ [])
  linked_snoc [] p g h = tt
  linked_snoc (q ∷ []) p g h = (h, tt)
  linked_snoc (q ∷ r ∷ ps) p g h = (g.0, linked_snoc (r ∷ ps) p g.1 h)

  pub allows_last : (ps : List Prefix) (q p : Prefix) → (TakesUnary kind_of inner (out-Prefix q) → ¬ IsCast (out-Prefix p)) → Allows (ps ++ q ∷ []) p
  allows_last [] q p h = h
  allows_last (r ∷ []) q p h = h
  allows_last (r ∷ s ∷ ps) q p h = allows_last (s ∷ ps) q p h

  pub allows_op : (ps : List Prefix) (n : ℕ) → Allows ps (prefix.Op n)
  allows_op [] n = tt
  allows_op (q ∷ []) n = λ h. not_cast n
  allows_op (q ∷ r ∷ ps) n = allows_op (r ∷ ps) n
