-- How many decimal digits a number has, and what stands in a buffer where they are put.
use Rattle.std.proofs.Common.{◌≡◌, ℕ, ◌+◌, ◌/◌, ◌%◌, ◌<◌, ◌≤◌, ◌^◌, [], ◌∷◌, length, ap, ◌∙◌, arith}
use Rattle.std.specs.Fmt.{decimal}
use Rattle.std.proofs.lemmas.Fmt.{decimal_digit, decimal_step}
use Rattle.std.proofs.lemmas.List.{length-append}

pub one : (n : ℕ) → n < 10 → length (decimal n) ≡ 1
one n small = ap length (decimal_digit n small)

-- A digit more than the number without its last digit.
pub one_more : (n k : ℕ) → 10 ≤ n → n < 2 ^ 64 → length (decimal (n / 10)) ≡ k → length (decimal n) ≡ k + 1
one_more n k large fits rest =
    ap length (decimal_step n large fits)
    ∙ length-append (decimal (n / 10)) ((48 + n % 10) ∷ [])
    ∙ ap (λ count. count + 1) rest

pub two : (n : ℕ) → 10 ≤ n → n < 100 → length (decimal n) ≡ 2
two n low high = one_more n 1 low (omega arith) (one (n / 10) (omega arith))

pub three : (n : ℕ) → 100 ≤ n → n < 1000 → length (decimal n) ≡ 3
three n low high = one_more n 2 (omega arith) (omega arith) (two (n / 10) (omega arith) (omega arith))

pub four : (n : ℕ) → 1000 ≤ n → n < 10000 → length (decimal n) ≡ 4
four n low high = one_more n 3 (omega arith) (omega arith) (three (n / 10) (omega arith) (omega arith))

pub five : (n : ℕ) → 10000 ≤ n → n < 100000 → length (decimal n) ≡ 5
five n low high = one_more n 4 (omega arith) (omega arith) (four (n / 10) (omega arith) (omega arith))

pub six : (n : ℕ) → 100000 ≤ n → n < 1000000 → length (decimal n) ≡ 6
six n low high = one_more n 5 (omega arith) (omega arith) (five (n / 10) (omega arith) (omega arith))

pub seven : (n : ℕ) → 1000000 ≤ n → n < 10000000 → length (decimal n) ≡ 7
seven n low high = one_more n 6 (omega arith) (omega arith) (six (n / 10) (omega arith) (omega arith))

pub eight : (n : ℕ) → 10000000 ≤ n → n < 100000000 → length (decimal n) ≡ 8
eight n low high = one_more n 7 (omega arith) (omega arith) (seven (n / 10) (omega arith) (omega arith))

pub nine : (n : ℕ) → 100000000 ≤ n → n < 1000000000 → length (decimal n) ≡ 9
nine n low high = one_more n 8 (omega arith) (omega arith) (eight (n / 10) (omega arith) (omega arith))

pub ten : (n : ℕ) → 1000000000 ≤ n → n < 10000000000 → length (decimal n) ≡ 10
ten n low high = one_more n 9 (omega arith) (omega arith) (nine (n / 10) (omega arith) (omega arith))
