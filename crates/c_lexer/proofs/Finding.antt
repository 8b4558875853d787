-- What is found, and what is not there.
use Rattle.std.proofs.Common.{◌≡◌, ℕ, suc, zero, ◌+◌, ◌-◌, ◌<◌, ◌≤◌, Option, Some, None, subst, sym, List, length, slice_get, slice_index, arith, inl, inr}
use Rattle.std.proofs.lemmas.Bool.{cases_lt}
use Rattle.std.proofs.lemmas.Option.{get_or_from_slice_get, slice_get_within, slice_get-get_or}
use Rattle.c_lexer.specs.Finds.{Finds}

-- where nothing was found, nothing has the property
pub Finds-at_none : {A : Type 0} (P : A → Type 0) (found : Option A) → found ≡ None → Finds P found → (x : A) → ¬ P x
Finds-at_none P found e h = subst (Finds P) e h

-- where no offset up to the limit is the last with the property, none from some offset on has it
none_from : (P : ℕ → Type 0) (limit : ℕ) → ((to : ℕ) → to ≤ limit → P to → ((past : ℕ) → to < past → past ≤ limit → ¬ P past) → ⊥) → (n to : ℕ) → limit ≤ to + n → to ≤ limit → ¬ P to
none_from P limit none zero to h within p = none to within p (λ past longer inside q. omega arith)
none_from P limit none (suc n) to h within p = none to within p (λ past longer inside q. none_from P limit none n past (omega arith) inside q)

-- none has it at all
pub none_of_last : (P : ℕ → Type 0) (limit : ℕ) → ((to : ℕ) → to ≤ limit → P to → ((past : ℕ) → to < past → past ≤ limit → ¬ P past) → ⊥) → (to : ℕ) → to ≤ limit → ¬ P to
none_of_last P limit none to within p = none_from P limit none (limit - to) to (omega arith) within p

-- a byte that was found stands within the text
pub byte_at : (bytes : List ℕ) (at byte : ℕ) → slice_get bytes at ≡ Some byte → (at < length bytes) × (byte ≡ slice_index bytes at)
byte_at bytes at byte e = (slice_get_within bytes at byte e, sym (get_or_from_slice_get bytes at byte 0 e))

-- where none was found, the text has ended
pub end_at : (bytes : List ℕ) (at : ℕ) → slice_get bytes at ≡ None → length bytes ≤ at
end_at bytes at e = elim (cases_lt at (length bytes)) [
  | inl inside ↦ let some = slice_get-get_or bytes at 0 inside in cc
  | inr past ↦ past
]
