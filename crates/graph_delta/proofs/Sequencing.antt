-- Induction over the parts of a pass.
use Rattle.std.proofs.Common.{◌≡◌, ℕ, zero, suc, ◌<◌, ◌≤◌, Option, Some, None, Result, Ok, Err, refl, subst, arith}
use Rattle.cpg_schema.specs.declared.caps.Caps.{Caps}
use Rattle.cpg_schema.specs.Graph.{PlainGraph}
use Rattle.cpg_schema.specs.Deltas.{PlainDelta, applied}
use Rattle.cpg_schema.specs.Sequence.{Cap, cap_met, grown, seq}

-- a graph that no cap keeps from growing has the delta
applied_from_grown : (caps : Caps) (graph after : PlainGraph) (delta : PlainDelta) (met : Option Cap) → cap_met caps graph delta ≡ met →
    grown caps graph delta ≡ Ok after → applied graph delta ≡ after
applied_from_grown caps graph after delta (Some cap) e is = let bad = rw e at is in absurd (cc)
applied_from_grown caps graph after delta None e is = let reached = rw e at is in cc

-- What holds at the start of no parts, and is kept by each part's delta for one part more, holds after all parts.
module _ (caps : Caps) (start : PlainGraph) (delta_of : ℕ → PlainDelta) (P : ℕ → PlainGraph → Type 0) (n : ℕ) (holds : P 0 start)
    (kept : (k : ℕ) (graph : PlainGraph) → k < n → P k graph → P (suc k) (applied graph (delta_of k))) where
  pub seq_steps : (k : ℕ) → k ≤ n → (graph : PlainGraph) → seq caps start delta_of k ≡ Ok graph → P k graph
  seq_steps zero le graph is = let same : start ≡ graph = cc in subst (P 0) same holds
  seq_steps (suc k) le graph is =
      by (seq caps start delta_of k) refl (λ (g : PlainGraph) (e : seq caps start delta_of k ≡ Ok g). seq_steps k (omega arith) g e) is
    where
      by : (r : Result PlainGraph Cap) → seq caps start delta_of k ≡ r → ((g : PlainGraph) → seq caps start delta_of k ≡ Ok g → P k g) →
          seq caps start delta_of (suc k) ≡ Ok graph → P (suc k) graph
      by (Err met) e before is = let bad = rw e at is in absurd (cc)
      by (Ok g) e before is =
          let step = rw e at is in
          subst (P (suc k)) (applied_from_grown caps g graph (delta_of k) (cap_met caps g (delta_of k)) refl step) (kept k g (omega arith) (before g e))

-- The same, of what does not speak of the parts.
pub seq_keeps : (caps : Caps) (start : PlainGraph) (delta_of : ℕ → PlainDelta) (P : PlainGraph → Type 0) (n : ℕ) → P start →
    ((k : ℕ) (graph : PlainGraph) → k < n → P graph → P (applied graph (delta_of k))) →
    (k : ℕ) → k ≤ n → (graph : PlainGraph) → seq caps start delta_of k ≡ Ok graph → P graph
seq_keeps caps start delta_of P n holds kept = seq_steps caps start delta_of (λ (k : ℕ) (g : PlainGraph). P g) n holds kept
