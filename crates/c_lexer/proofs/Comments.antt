-- What is passed over between tokens: blanks and comments.
use Rattle.std.proofs.Common.{◌≡◌, ℕ, ◌+◌, ◌<◌, ◌≤◌, ◌⊎◌, List, Option, Some, None, length, slice_index, sym, ◌∙◌, arith, inl, inr}
use Rattle.std.proofs.lemmas.Bool.{cases_order}
use Rattle.c_lexer.specs.Bytes.{IsBlank, slash, asterisk}
use Rattle.c_lexer.specs.Comments.{IsPair, BeginsComment, IsBlockComment, IsLineComment}
use Rattle.c_lexer.specs.Finds.{Finds}
use Rattle.c_lexer.specs.Passing.{IsPassed}
use Rattle.c_lexer.specs.Spelling.{Spells}
use Rattle.c_lexer.specs.Reading.{BeginsNoToken}
use Rattle.c_lexer.specs.declared.token.Kind.{Kind}
use Rattle.c_lexer.specs.declared.token.Kind.TheVariants.{Word, Key, Number, Char, Text, Mark, Line, Pragma}
use Rattle.c_lexer.proofs.Lines.{inside, one_end}
use Rattle.c_lexer.proofs.Firsts.{first_of_kind}

-- ---- Where they stand

-- two bytes of which the second is not 0 stand inside the text
pub pair_within : (bytes : List ℕ) (at first second : ℕ) → IsPair bytes at first second → 0 < second → at + 1 < length bytes
pair_within bytes at first second p some = inside bytes (at + 1) (omega (arith, p.second_is))

-- what is passed over is some bytes of the text
pub passed_forward : (bytes : List ℕ) (from to : ℕ) → IsPassed bytes from to → (from < to) × (to ≤ length bytes)
passed_forward bytes from to (inl blank) = (omega (arith, blank.one), omega (arith, blank.one, blank.within))
passed_forward bytes from to (inr (inl block)) = (omega (arith, block.behind, block.end), block.within)
passed_forward bytes from to (inr (inr line)) = (omega (arith, line.behind), line.within)

-- a blank or the beginning of a comment stands there
passed_begins : (bytes : List ℕ) (from to : ℕ) → IsPassed bytes from to → IsBlank (slice_index bytes from) ⊎ BeginsComment bytes from
passed_begins bytes from to (inl blank) = inl blank.blank
passed_begins bytes from to (inr (inl block)) = inr (inl block.opens)
passed_begins bytes from to (inr (inr line)) = inr (inr line.opens)

-- without either nothing is passed over
pub none_passed : (bytes : List ℕ) (from : ℕ) → (IsBlank (slice_index bytes from) → ⊥) → (BeginsComment bytes from → ⊥) → (to : ℕ) → IsPassed bytes from to → ⊥
none_passed bytes from no_blank no_comment to p = elim (passed_begins bytes from to p) [ inl b ↦ no_blank b | inr b ↦ no_comment b ]

-- ---- One end

-- a blank begins no comment
blank_no_comment : (bytes : List ℕ) (at : ℕ) → IsBlank (slice_index bytes at) → BeginsComment bytes at → ⊥
blank_no_comment bytes at blank (inl p) = let e = p.first_is in grind arith
blank_no_comment bytes at blank (inr p) = let e = p.first_is in grind arith

-- one pair of bytes stands at a offset
one_comment : (bytes : List ℕ) (at : ℕ) → IsPair bytes at slash asterisk → IsPair bytes at slash slash → ⊥
one_comment bytes at p q = omega (arith, p.second_is, q.second_is)

-- a block comment has one end
block_once : (bytes : List ℕ) (from p q : ℕ) → IsBlockComment bytes from p → IsBlockComment bytes from q → p ≡ q
block_once bytes from p q a b = elim (cases_order a.close b.close) [
  | inl e ↦ omega (arith, e, a.end, b.end)
  | inr (inl l) ↦ absurd (b.first a.close a.behind l a.closes)
  | inr (inr l) ↦ absurd (a.first b.close b.behind l b.closes)
]

-- a line comment has one end
line_once : (bytes : List ℕ) (from p q : ℕ) → IsLineComment bytes from p → IsLineComment bytes from q → p ≡ q
line_once bytes from p q a b = one_end bytes from p q a.one_line a.ends b.one_line b.ends (omega (arith, a.behind)) (omega (arith, b.behind))

-- what is passed over has one end
pub passed_once : (bytes : List ℕ) (from p q : ℕ) → IsPassed bytes from p → IsPassed bytes from q → p ≡ q
passed_once bytes from p q (inl a) (inl b) = a.one ∙ sym b.one
passed_once bytes from p q (inl a) (inr (inl b)) = absurd (blank_no_comment bytes from a.blank (inl b.opens))
passed_once bytes from p q (inl a) (inr (inr b)) = absurd (blank_no_comment bytes from a.blank (inr b.opens))
passed_once bytes from p q (inr (inl a)) (inl b) = absurd (blank_no_comment bytes from b.blank (inl a.opens))
passed_once bytes from p q (inr (inl a)) (inr (inl b)) = block_once bytes from p q a b
passed_once bytes from p q (inr (inl a)) (inr (inr b)) = absurd (one_comment bytes from a.opens b.opens)
passed_once bytes from p q (inr (inr a)) (inl b) = absurd (blank_no_comment bytes from b.blank (inr a.opens))
passed_once bytes from p q (inr (inr a)) (inr (inl b)) = absurd (one_comment bytes from b.opens a.opens)
passed_once bytes from p q (inr (inr a)) (inr (inr b)) = line_once bytes from p q a b

-- where `/*` begins no comment that ends, nothing is passed over
no_block : (bytes : List ℕ) (from : ℕ) → IsPair bytes from slash asterisk → ((to : ℕ) → IsBlockComment bytes from to → ⊥) → (to : ℕ) → IsPassed bytes from to → ⊥
no_block bytes from opens none to (inl a) = blank_no_comment bytes from a.blank (inl opens)
no_block bytes from opens none to (inr (inl a)) = none to a
no_block bytes from opens none to (inr (inr a)) = one_comment bytes from opens a.opens

-- what stands at a `/*` is passed over as a block comment
pub block_passed : (bytes : List ℕ) (from : ℕ) (end : Option ℕ) → IsPair bytes from slash asterisk → Finds (IsBlockComment bytes from) end → Finds (IsPassed bytes from) end
block_passed bytes from None opens none = no_block bytes from opens none
block_passed bytes from (Some to) opens block = inr (inl block)

-- ---- No token

-- no token begins with a `/` where a comment begins
pub comment_no_token : (bytes : List ℕ) (at : ℕ) → BeginsComment bytes at → BeginsNoToken bytes at
comment_no_token bytes at comment kind to a b s = go kind s
  where
    first : slice_index bytes at ≡ slash
    first = elim comment [ inl p ↦ p.first_is | inr p ↦ p.first_is ]

    go : (kind : Kind) → Spells bytes at to kind → ⊥
    go Word s = let f = first_of_kind bytes at to Word a b s in grind (arith, first)
    go (Key k) s = let f = first_of_kind bytes at to (Key k) a b s in grind (arith, first)
    go Number s = let f = first_of_kind bytes at to Number a b s in grind (arith, first)
    go Char s = let f = first_of_kind bytes at to Char a b s in grind (arith, first)
    go Text s = let f = first_of_kind bytes at to Text a b s in grind (arith, first)
    go (Mark k) s = s.no_comment comment
    go Line s = let f = first_of_kind bytes at to Line a b s in grind (arith, first)
    go Pragma s = let f = first_of_kind bytes at to Pragma a b s in grind (arith, first)
