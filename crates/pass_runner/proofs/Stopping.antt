-- The deltas of a pass one after another.
use Rattle.std.proofs.Common.{◌≡◌, ℕ, zero, suc, ◌<◌, ◌≤◌, Bool, true, false, nat_lt, Some, Ok, Err, refl, subst, arith}
use borrow.Author.Tests.{ltb-true, ltb-false}
use Rattle.cpg_schema.specs.Graph.{PlainGraph}
use Rattle.cpg_schema.specs.Deltas.{PlainDelta}
use Rattle.cpg_schema.specs.declared.caps.Caps.{Caps}
use Rattle.cpg_schema.specs.Sequence.{Cap, cap_met, seq}

module _ (caps : Caps) (start : PlainGraph) (delta_of : ℕ → PlainDelta) where
  -- one part more passes a cap
  part_stops : (part : ℕ) (graph : PlainGraph) (met : Cap) → seq caps start delta_of part ≡ Ok graph → cap_met caps graph (delta_of part) ≡ Some met →
      seq caps start delta_of (suc part) ≡ Err met
  part_stops part graph met so_far is = rw so_far (rw is refl)

  -- once a cap is passed it stays so
  pub seq_stops : (part n : ℕ) (graph : PlainGraph) (met : Cap) → part < n → seq caps start delta_of part ≡ Ok graph →
      cap_met caps graph (delta_of part) ≡ Some met → seq caps start delta_of n ≡ Err met
  seq_stops part zero graph met low so_far is = absurd (omega arith)
  seq_stops part (suc n) graph met low so_far is =
      by (nat_lt part n) refl (λ (h : part < n). seq_stops part n graph met h so_far is)
    where
      by : (t : Bool) → nat_lt part n ≡ t → (part < n → seq caps start delta_of n ≡ Err met) → seq caps start delta_of (suc n) ≡ Err met
      by true t before = let e = before (ltb-true _ _ t) in rw e refl
      by false t before =
          let high : n ≤ part = ltb-false _ _ t in
          let same : part ≡ n = omega arith in
          subst (λ (k : ℕ). seq caps start delta_of (suc k) ≡ Err met) same (part_stops part graph met so_far is)
