-- Settings of which there is none, or one, set no key twice; so do the parts of which none sets any.
use Rattle.std.proofs.Common.{◌≡◌, ℕ, zero, suc, ◌<◌, List, [], ◌∷◌, Some, slice_get, refl, subst, arith}
use Rattle.std.specs.List.{Contains}
use Rattle.cpg_schema.specs.Graph.{PlainGraph}
use Rattle.cpg_schema.specs.Deltas.{Setting, PlainDelta}
use Rattle.cpg_schema.specs.Fitting.{AreApart, Fits, PartsFit}

pub apart_none : AreApart []
apart_none = record { same = λ i j one other is there same. absurd (cc) }

pub apart_one : (s : Setting) → AreApart (s ∷ [])
apart_one s = record { same = λ i j one other is there same. by i j one other is there }
  where
    by : (i j : ℕ) (one other : Setting) → slice_get (s ∷ []) i ≡ Some one → slice_get (s ∷ []) j ≡ Some other → i ≡ j
    by zero zero one other is there = refl
    by zero (suc j) one other is there = absurd (cc)
    by (suc i) j one other is there = absurd (cc)

no_settings : (s : Setting) → Contains [] s → ⊥
no_settings s h = let low = h.1 in absurd (omega arith)

-- Where no part sets a property at a node of the graph, it is enough that each fits the start.
pub parts_fit_alone : (start : PlainGraph) (delta_of : ℕ → PlainDelta) (parts : ℕ) → ((k : ℕ) → k < parts → (delta_of k).settings ≡ []) →
    ((k : ℕ) → k < parts → Fits start (delta_of k)) → PartsFit start delta_of parts
parts_fit_alone start delta_of parts none fits = record {
  each = fits;
  apart = λ i j one other low high here there same. absurd (no_settings one (subst (λ (s : List Setting). Contains s one) (none i low) here));
}
