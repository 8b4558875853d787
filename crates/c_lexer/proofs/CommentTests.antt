-- Whether something that is passed over stands at a offset.
use Rattle.std.proofs.Common.{◌≡◌, ℕ, ◌+◌, ◌<◌, ◌⊎◌, List, length, slice_index, refl, arith, inl, inr}
use Rattle.std.proofs.lemmas.Bool.{cases_eq, cases_lt}
use Rattle.c_lexer.specs.Bytes.{IsBlank, slash, asterisk, line_feed}
use Rattle.c_lexer.specs.Lines.{OnOneLine}
use Rattle.c_lexer.specs.Comments.{IsPair, IsBlockComment, IsLineComment}
use Rattle.c_lexer.specs.Passing.{IsOneBlank, IsPassed}
use Rattle.c_lexer.proofs.ClassTests.{blank_or_not}
use Rattle.c_lexer.proofs.Comments.{pair_within}
use Rattle.c_lexer.proofs.Decisions.{Decided, decided_by, both_or_not, either_or_not, less_or_not, first_or_none}

-- two bytes stand at the offset, one after the other, or not
pub pair_or_not : (bytes : List ℕ) (at first second : ℕ) → Decided (IsPair bytes at first second)
pair_or_not bytes at first second =
    decided_by _ (IsPair bytes at first second)
    (λ p. record { first_is = p.0; second_is = p.1 }) (λ p. (p.first_is, p.second_is))
    (both_or_not _ _ (cases_eq (slice_index bytes at) first) (λ one. cases_eq (slice_index bytes (at + 1)) second))

-- a blank stands at the offset or not
one_blank_or_not : (bytes : List ℕ) (from : ℕ) → Decided ((to : ℕ) × IsOneBlank bytes from to)
one_blank_or_not bytes from =
    decided_by ((from < length bytes) × IsBlank (slice_index bytes from)) ((to : ℕ) × IsOneBlank bytes from to)
    (λ b. (from + 1, record { within = b.0; blank = b.1; one = refl })) (λ b. (b.1.within, b.1.blank))
    (both_or_not _ _ (less_or_not from (length bytes)) (λ within. blank_or_not (slice_index bytes from)))

-- a block comment begins at the offset and ends, or not
block_or_not : (bytes : List ℕ) (from : ℕ) → Decided ((to : ℕ) × IsBlockComment bytes from to)
block_or_not bytes from =
    elim (pair_or_not bytes from slash asterisk) [
      | inr other ↦ inr (λ b. other b.1.opens)
      | inl opens ↦ elim (first_or_none (λ i. IsPair bytes i asterisk slash) (λ i. pair_or_not bytes i asterisk slash) (from + 2) (length bytes)) [
        | inl close ↦
            let within = pair_within bytes close.at asterisk slash close.holds (omega arith) in
            inl (close.at + 2, record { opens = opens; close = close.at; behind = close.low; closes = close.holds; first = close.none; end = refl; within = omega arith })
        | inr none ↦ inr (λ b. let w = pair_within bytes b.1.close asterisk slash b.1.closes (omega arith) in none b.1.close b.1.behind (omega arith) b.1.closes)
      ]
    ]

-- a `//` has no line feed
line_from : (bytes : List ℕ) (from to : ℕ) → IsPair bytes from slash slash → OnOneLine bytes (from + 2) to → OnOneLine bytes from to
line_from bytes from to opens none i a b e = elim (cases_lt i (from + 2)) [
  | inr h ↦ none i h b e
  | inl h ↦ elim (cases_eq i from) [
    | inl here ↦ let first = rw here at e in omega (arith, opens.first_is)
    | inr other ↦ let next : i ≡ from + 1 = omega arith in let second = rw next at e in omega (arith, opens.second_is)
  ]
]

-- a line comment stands where `//` does
line_there : (bytes : List ℕ) (from : ℕ) → IsPair bytes from slash slash → (to : ℕ) × IsLineComment bytes from to
line_there bytes from opens =
    let inside = pair_within bytes from slash slash opens (omega arith) in
    elim (first_or_none (λ i. slice_index bytes i ≡ line_feed) (λ i. cases_eq (slice_index bytes i) line_feed) (from + 2) (length bytes)) [
      | inl feed ↦ let high = feed.high in (feed.at, record { opens = opens; behind = feed.low; one_line = line_from bytes from feed.at opens feed.none; ends = inr feed.holds; within = omega arith })
      | inr none ↦ (length bytes, record { opens = opens; behind = omega arith; one_line = line_from bytes from (length bytes) opens none; ends = inl refl; within = omega arith })
    ]

-- a line comment stands at the offset or not
line_or_not : (bytes : List ℕ) (from : ℕ) → Decided ((to : ℕ) × IsLineComment bytes from to)
line_or_not bytes from =
    decided_by _ ((to : ℕ) × IsLineComment bytes from to) (line_there bytes from) (λ l. l.1.opens) (pair_or_not bytes from slash slash)

-- something that is passed over whole stands at the offset or not
pub passed_or_not : (bytes : List ℕ) (from : ℕ) → Decided ((to : ℕ) × IsPassed bytes from to)
passed_or_not bytes from =
    decided_by (((to : ℕ) × IsOneBlank bytes from to) ⊎ (((to : ℕ) × IsBlockComment bytes from to) ⊎ ((to : ℕ) × IsLineComment bytes from to))) ((to : ℕ) × IsPassed bytes from to)
    (λ p. elim p [
      | inl blank ↦ (blank.0, inl blank.1)
      | inr (inl block) ↦ (block.0, inr (inl block.1))
      | inr (inr line) ↦ (line.0, inr (inr line.1))
    ])
    (λ p. elim p.1 [
      | inl blank ↦ inl (p.0, blank)
      | inr (inl block) ↦ inr (inl (p.0, block))
      | inr (inr line) ↦ inr (inr (p.0, line))
    ])
    (either_or_not _ _ (one_blank_or_not bytes from) (either_or_not _ _ (block_or_not bytes from) (line_or_not bytes from)))
