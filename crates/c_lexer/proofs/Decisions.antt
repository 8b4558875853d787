-- Facts that hold or don't.
use Rattle.std.proofs.Common.{◌≡◌, bytes_eq, ℕ, suc, zero, ◌<◌, ◌≤◌, ◌⊎◌, ◌∙◌, List, [], length, get_or, ap, arith, inl, inr}
use Rattle.std.specs.List.{Contains}
use Rattle.std.proofs.lemmas.Bool.{cases_Bool, cases_lt}
use Rattle.std.proofs.lemmas.List.{get_or_default}
use Rattle.std.proofs.lemmas.Slice.Eq.{bytes_eq-Decides}

-- it is known whether the fact holds
abbrev pub Decided : Type 0 → Type 0
Decided P = P ⊎ (P → ⊥)

-- ---- Facts made of others

-- what means the same is known too
pub decided_by : (P Q : Type 0) → (P → Q) → (Q → P) → Decided P → Decided Q
decided_by P Q f g (inl p) = inl (f p)
decided_by P Q f g (inr no_p) = inr (λ q. no_p (g q))

-- both facts hold or not, where the second is known if the first holds
pub both_or_not : (P Q : Type 0) → Decided P → (P → Decided Q) → Decided (P × Q)
both_or_not P Q (inr no_p) second = inr (λ h. no_p h.0)
both_or_not P Q (inl p) second = elim (second p) [ inl q ↦ inl (p, q) | inr no_q ↦ inr (λ h. no_q h.1) ]

-- one of the two holds or not
pub either_or_not : (P Q : Type 0) → Decided P → Decided Q → Decided (P ⊎ Q)
either_or_not P Q (inl p) b = inl (inl p)
either_or_not P Q (inr no_p) (inl q) = inl (inr q)
either_or_not P Q (inr no_p) (inr no_q) = inr (λ h. elim h [ inl p ↦ no_p p | inr q ↦ no_q q ])

-- the second follows from the first or not
pub implied_or_not : (P Q : Type 0) → Decided P → Decided Q → Decided (P → Q)
implied_or_not P Q p (inl q) = inl (λ _. q)
implied_or_not P Q (inl p) (inr no_q) = inr (λ h. no_q (h p))
implied_or_not P Q (inr no_p) (inr no_q) = inl (λ p. absurd (no_p p))

-- it holds that a fact does not, or not
pub no_or_not : (P : Type 0) → Decided P → Decided (P → ⊥)
no_or_not P p = implied_or_not P ⊥ p (inr (λ h. h))

-- ---- Numbers and texts

-- a number is at most another or not
pub most_or_not : (m n : ℕ) → Decided (m ≤ n)
most_or_not m n = elim (cases_lt n m) [ inl more ↦ inr (λ l. omega arith) | inr l ↦ inl l ]

-- a number is less than another or not
pub less_or_not : (m n : ℕ) → Decided (m < n)
less_or_not m n = elim (cases_lt m n) [ inl l ↦ inl l | inr more ↦ inr (λ l. omega arith) ]

-- two texts are the same or not
pub same_or_not : (first second : List ℕ) → Decided (first ≡ second)
same_or_not first second =
    let decides = bytes_eq-Decides first second in
    elim (cases_Bool (bytes_eq first second)) [
      | inl same ↦ inl (decides.0 same)
      | inr other ↦ inr (λ e. let same = decides.1 e in cc)
    ]

-- ---- Offsets

-- the first offset between two at which the fact holds
pub record HasFirst (P : ℕ → Type 0) (from to : ℕ) : Type 0 where
  pub at : ℕ
  pub low : from ≤ at
  pub high : at < to
  pub holds : P at
  pub none : (i : ℕ) → from ≤ i → i < at → P i → ⊥

-- such a offset or none
pub first_or_none : (P : ℕ → Type 0) → ((i : ℕ) → Decided (P i)) → (from to : ℕ) → HasFirst P from to ⊎ ((i : ℕ) → from ≤ i → i < to → P i → ⊥)
first_or_none P decide from zero = inr (λ i low high p. omega arith)
first_or_none P decide from (suc to) =
    elim (first_or_none P decide from to) [
      | inl first ↦ let high = first.high in inl (record { at = first.at; low = first.low; high = omega arith; holds = first.holds; none = first.none })
      | inr none ↦ elim (both_or_not (from ≤ to) (P to) (most_or_not from to) (λ low. decide to)) [
        | inl last ↦ inl (record { at = to; low = last.0; high = omega arith; holds = last.1; none = none })
        | inr not_last ↦ inr (λ i low high p. elim (cases_lt i to) [
          | inl before ↦ none i low before p
          | inr past ↦ let here : i ≡ to = omega arith in not_last (rw here at low, rw here at p)
        ])
      ]
    ]

-- what is known of each offset holds of all between two or not
pub each_or_not : (P : ℕ → Type 0) → ((i : ℕ) → Decided (P i)) → (from to : ℕ) → Decided ((i : ℕ) → from ≤ i → i < to → P i)
each_or_not P decide from to =
    elim (first_or_none (λ i. P i → ⊥) (λ i. no_or_not (P i) (decide i)) from to) [
      | inl first ↦ inr (λ each. first.holds (each first.at first.low first.high))
      | inr none ↦ inl (λ i low high. elim (decide i) [ inl p ↦ p | inr no_p ↦ absurd (none i low high no_p) ])
    ]

-- it holds of some offset or of none, where it holds of none past a bound
pub some_or_not : (P : ℕ → Type 0) → ((i : ℕ) → Decided (P i)) → (n : ℕ) → ((i : ℕ) → P i → i < n) → Decided ((i : ℕ) × P i)
some_or_not P decide n bound =
    elim (first_or_none P decide 0 n) [
      | inl first ↦ inl (first.at, first.holds)
      | inr none ↦ inr (λ h. none h.0 (omega arith) (bound h.0 h.1) h.1)
    ]

-- ---- Words

-- a list of words has a text or not
pub contains_or_not : (words : List (List ℕ)) (text : List ℕ) → Decided (Contains words text)
contains_or_not words text =
    decided_by _ (Contains words text) (λ h. (h.0, h.1.0, h.1.1)) (λ c. (c.0, (c.1, c.2)))
    (some_or_not (λ k. (k < length words) × (get_or words k text ≡ text))
    (λ k. both_or_not _ _ (less_or_not k (length words)) (λ l. same_or_not (get_or words k text) text))
    (length words) (λ k h. h.0))

-- a table of words has a row of a text or not
pub row_or_not : (rows : List (List ℕ × ℕ)) (text : List ℕ) → Decided ((number : ℕ) × Contains rows (text, number))
row_or_not rows text =
    let none : List ℕ × ℕ = ([], 0) in
    decided_by _ ((number : ℕ) × Contains rows (text, number))
    (λ h.
    let number = (get_or rows h.0 none).1 in
    (number, (h.0, h.1.0, get_or_default rows h.0 (text, number) none h.1.0 ∙ ap (λ (word : List ℕ). (word, number)) h.1.1)))
    (λ r.
    let c = r.1 in
    (c.0, (c.1, ap (λ (row : List ℕ × ℕ). row.0) (get_or_default rows c.0 none (text, r.0) c.1 ∙ c.2))))
    (some_or_not (λ k. (k < length rows) × ((get_or rows k none).0 ≡ text))
    (λ k. both_or_not _ _ (less_or_not k (length rows)) (λ l. same_or_not (get_or rows k none).0 text))
    (length rows) (λ k h. h.0))
