-- Each text has a reading.
use Rattle.std.proofs.Common.{◌≡◌, ℕ, suc, zero, ◌+◌, ◌-◌, ◌<◌, ◌≤◌, ◌⊎◌, List, [], ◌∷◌, length, slice_range, refl, arith, inl, inr}
use Rattle.std.proofs.lemmas.Bool.{cases_lt}
use Rattle.c_lexer.specs.Entries.{numbers_of}
use Rattle.c_lexer.specs.Keywords.{keywords, IsKeyword}
use Rattle.c_lexer.specs.Numbers.{IsNumber}
use Rattle.c_lexer.specs.Literals.{IsChar, IsText}
use Rattle.c_lexer.specs.Marks.{IsMarkAt}
use Rattle.c_lexer.specs.Directives.{IsLineMarker, IsPragma}
use Rattle.c_lexer.specs.Lines.{line_at, column_at}
use Rattle.c_lexer.specs.Spelling.{Spells, IsWord}
use Rattle.c_lexer.specs.Reading.{IsLongest, BeginsNoToken, Reads, AreTokensOf, StopsAt}
use Rattle.c_lexer.specs.declared.token.Token.{Token}
use Rattle.c_lexer.specs.declared.token.Kind.{Kind}
use Rattle.c_lexer.specs.declared.token.Kind.TheVariants.{Word, Key, Number, Char, Text, Mark, Line, Pragma}
use Rattle.c_lexer.proofs.Decisions.{Decided, decided_by, both_or_not, either_or_not, no_or_not, row_or_not}
use Rattle.c_lexer.proofs.ClassTests.{name_or_not}
use Rattle.c_lexer.proofs.NumberTests.{number_or_not}
use Rattle.c_lexer.proofs.LiteralTests.{char_or_not, text_or_not}
use Rattle.c_lexer.proofs.CommentTests.{passed_or_not}
use Rattle.c_lexer.proofs.MarkTests.{mark_or_not}
use Rattle.c_lexer.proofs.DirectiveTests.{marker_or_not, pragma_or_not}
use Rattle.c_lexer.proofs.Comments.{passed_forward}
use Rattle.c_lexer.proofs.Steps.{reads_passed, reads_token, reads_none, reads_end}

-- ---- Tokens

-- a text is a word or not
word_or_not : (text : List ℕ) → Decided (IsWord text)
word_or_not text =
    decided_by _ (IsWord text)
    (λ w. record { name = w.0; no_keyword = λ number k. w.1 (number, k) }) (λ w. (w.name, λ k. w.no_keyword k.0 k.1))
    (both_or_not _ _ (name_or_not text) (λ name. no_or_not _ (row_or_not (numbers_of keywords) text)))

-- the forms of a token
abbrev HasForm : List ℕ → ℕ → ℕ → Type 0
HasForm bytes from to =
    IsWord (slice_range bytes from to) ⊎ (((number : ℕ) × IsKeyword (slice_range bytes from to) number)
    ⊎ (IsNumber bytes from to ⊎ (IsChar bytes from to ⊎ (IsText bytes from to
    ⊎ (((number : ℕ) × IsMarkAt bytes from to number) ⊎ (IsLineMarker bytes from to ⊎ IsPragma bytes from to))))))

-- each of them is of a kind
of_form : (bytes : List ℕ) (from to : ℕ) → HasForm bytes from to → (kind : Kind) × Spells bytes from to kind
of_form bytes from to (inl word) = (Word, word)
of_form bytes from to (inr (inl key)) = (Key key.0, key.1)
of_form bytes from to (inr (inr (inl number))) = (Number, number)
of_form bytes from to (inr (inr (inr (inl char)))) = (Char, char)
of_form bytes from to (inr (inr (inr (inr (inl text))))) = (Text, text)
of_form bytes from to (inr (inr (inr (inr (inr (inl mark)))))) = (Mark mark.0, mark.1)
of_form bytes from to (inr (inr (inr (inr (inr (inr (inl line))))))) = (Line, line)
of_form bytes from to (inr (inr (inr (inr (inr (inr (inr pragma))))))) = (Pragma, pragma)

-- and each kind has one
form_of : (bytes : List ℕ) (from to : ℕ) (kind : Kind) → Spells bytes from to kind → HasForm bytes from to
form_of bytes from to Word s = inl s
form_of bytes from to (Key k) s = inr (inl (k, s))
form_of bytes from to Number s = inr (inr (inl s))
form_of bytes from to Char s = inr (inr (inr (inl s)))
form_of bytes from to Text s = inr (inr (inr (inr (inl s))))
form_of bytes from to (Mark k) s = inr (inr (inr (inr (inr (inl (k, s))))))
form_of bytes from to Line s = inr (inr (inr (inr (inr (inr (inl s))))))
form_of bytes from to Pragma s = inr (inr (inr (inr (inr (inr (inr s))))))

-- a part spells a token or not
spelled_or_not : (bytes : List ℕ) (from to : ℕ) → Decided ((kind : Kind) × Spells bytes from to kind)
spelled_or_not bytes from to =
    decided_by (HasForm bytes from to) ((kind : Kind) × Spells bytes from to kind) (of_form bytes from to) (λ s. form_of bytes from to s.0 s.1)
    (either_or_not _ _ (word_or_not (slice_range bytes from to)) (either_or_not _ _ (row_or_not (numbers_of keywords) (slice_range bytes from to))
    (either_or_not _ _ (number_or_not bytes from to) (either_or_not _ _ (char_or_not bytes from to) (either_or_not _ _ (text_or_not bytes from to)
    (either_or_not _ _ (mark_or_not bytes from to) (either_or_not _ _ (marker_or_not bytes from to) (pragma_or_not bytes from to))))))))

-- the longest token at a offset
abbrev HasLongest : List ℕ → ℕ → Type 0
HasLongest bytes from = (to : ℕ) × (kind : Kind) × IsLongest bytes from to kind

-- the longest token at a offset, where none ends past `from + n`, or none
longest_up_to : (bytes : List ℕ) (from n : ℕ) → from + n ≤ length bytes → ((kind : Kind) (past : ℕ) → from + n < past → past ≤ length bytes → Spells bytes from past kind → ⊥) → HasLongest bytes from ⊎ BeginsNoToken bytes from
longest_up_to bytes from zero h above = inr (λ kind to a b s. above kind to (omega arith) b s)
longest_up_to bytes from (suc n) h above =
    elim (spelled_or_not bytes from (from + suc n)) [
      | inl found ↦ inl (from + suc n, found.0, record { some = omega arith; within = h; spelled = found.1; longest = above })
      | inr none ↦ longest_up_to bytes from n (omega arith) (λ kind past a b s. elim (cases_lt (from + suc n) past) [
        | inl l ↦ above kind past l b s
        | inr l ↦ let here : past ≡ from + suc n = omega arith in none (kind, rw here at s)
      ])
    ]

-- the longest token at a offset, or none
longest_or_none : (bytes : List ℕ) (from : ℕ) → from ≤ length bytes → HasLongest bytes from ⊎ BeginsNoToken bytes from
longest_or_none bytes from h =
    longest_up_to bytes from (length bytes - from) (omega arith) (λ kind past a b s. absurd (omega arith))

-- ---- Readings

-- from the offset on the text is read
record HasReading (bytes : List ℕ) (from : ℕ) : Type 0 where
  tokens : List Token
  stop : ℕ
  within : stop ≤ length bytes
  reads : Reads bytes from tokens stop

-- from each offset the text has a reading
reading_from : (bytes : List ℕ) (n from : ℕ) → length bytes ≤ from + n → from ≤ length bytes → HasReading bytes from
reading_from bytes zero from h l = record { tokens = []; stop = from; within = l; reads = reads_end bytes from (omega arith) }
reading_from bytes (suc n) from h l =
    elim (passed_or_not bytes from) [
      | inl p ↦
          let forward = passed_forward bytes from p.0 p.1 in
          let rest = reading_from bytes n p.0 (omega arith) forward.1 in
          record { tokens = rest.tokens; stop = rest.stop; within = rest.within; reads = reads_passed bytes from p.0 rest.tokens rest.stop p.1 rest.reads }
      | inr none ↦ elim (longest_or_none bytes from l) [
        | inl t ↦
            let long = t.2 in
            let some = long.some in
            let rest = reading_from bytes n t.0 (omega arith) long.within in
            let token : Token = record { kind = t.1; start = from; end = t.0; line = line_at bytes from; column = column_at bytes from } in
            record {
              tokens = token ∷ rest.tokens;
              stop = rest.stop;
              within = rest.within;
              reads = reads_token bytes token rest.tokens rest.stop (λ to p. none (to, p)) (record { longest = long; line = refl; column = refl }) rest.reads;
            }
        | inr no_token ↦ record { tokens = []; stop = from; within = l; reads = reads_none bytes from (λ to p. none (to, p)) no_token }
      ]
    ]

-- a text has a list of tokens or a stop
pub some_reading : (bytes : List ℕ) → ((tokens : List Token) × AreTokensOf bytes tokens) ⊎ ((at : ℕ) × StopsAt bytes at)
some_reading bytes =
    let r = reading_from bytes (length bytes) 0 (omega arith) (omega arith) in
    elim (cases_lt r.stop (length bytes)) [
      | inl l ↦ inr (r.stop, record { before_end = l; tokens = r.tokens; reads = r.reads })
      | inr l ↦ let end : r.stop ≡ length bytes = let w = r.within in omega arith in inl (r.tokens, rw end at r.reads)
    ]
