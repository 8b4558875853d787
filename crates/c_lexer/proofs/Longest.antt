-- Which token is the longest at a offset.
use Rattle.std.proofs.Common.{◌≡◌, ℕ, ◌+◌, ◌-◌, ◌<◌, ◌≤◌, ◌⊎◌, List, Option, Some, None, length, slice_range, slice_index, refl, arith, inl, inr}
use Rattle.std.proofs.lemmas.Bool.{cases_order}
use Rattle.c_lexer.specs.Bytes.{IsLetter, IsWordByte, number_sign, single_quote, double_quote}
use Rattle.c_lexer.specs.Lines.{OnOneLine}
use Rattle.c_lexer.specs.Marks.{IsMarkAt}
use Rattle.c_lexer.specs.Numbers.{BeginsNumber, IsNumber}
use Rattle.c_lexer.specs.Spelling.{Spells, IsName}
use Rattle.c_lexer.specs.Reading.{IsLongest, BeginsNoToken}
use Rattle.c_lexer.specs.Finds.{Finds}
use Rattle.c_lexer.specs.Scanning.{IsLiteralKind, IsLiteralAt, IsDirectiveKind, IsDirectiveAt, IsLongestToken, IsLongestMark}
use Rattle.c_lexer.specs.declared.token.FoundToken.{FoundToken}
use Rattle.c_lexer.specs.declared.mark.FoundMark.{FoundMark}
use Rattle.c_lexer.proofs.Finding.{none_of_last}
use Rattle.c_lexer.specs.declared.token.Kind.{Kind}
use Rattle.c_lexer.specs.declared.token.Kind.TheVariants.{Word, Key, Number, Char, Text, Mark, Line, Pragma}
use Rattle.c_lexer.proofs.Parts.{part_length, part_at, part_offset, part_first}
use Rattle.c_lexer.proofs.Tables.{keyword_name}
use Rattle.c_lexer.proofs.Marks.{mark_reach, mark_on_one_line}
use Rattle.c_lexer.proofs.Numbers.{number_on_one_line}
use Rattle.c_lexer.specs.Literals.{IsLiteral}
use Rattle.c_lexer.proofs.Literals.{IsForm, char_form, text_form, literal_before, literal_on_one_line, literal_last, literal_once, quote_no_word_byte, spelled_literal, characters_forward}
use Rattle.c_lexer.proofs.Directives.{marker_on_one_line, pragma_on_one_line, directive_forward, directive_once}
use Rattle.c_lexer.proofs.Firsts.{first_of_kind}

-- ---- Lines

-- a name has no line feed
name_on_one_line : (bytes : List ℕ) (from to : ℕ) → to ≤ length bytes → IsName (slice_range bytes from to) → OnOneLine bytes from to
name_on_one_line bytes from to w n i a b e =
    let l = part_length bytes from to w in
    let here = rw (part_offset bytes from to i a b, e) at (n.each (i - from) (omega (arith, l))) in
    grind arith

-- a token stays on its line
kind_on_one_line : (bytes : List ℕ) (from to : ℕ) (kind : Kind) → to ≤ length bytes → Spells bytes from to kind → OnOneLine bytes from to
kind_on_one_line bytes from to Word w s = name_on_one_line bytes from to w s.name
kind_on_one_line bytes from to (Key k) w s = name_on_one_line bytes from to w (keyword_name _ k s)
kind_on_one_line bytes from to Number w s = number_on_one_line bytes from to s
kind_on_one_line bytes from to Char w s = literal_on_one_line _ _ bytes from to char_form s.literal
kind_on_one_line bytes from to Text w s = literal_on_one_line _ _ bytes from to text_form s
kind_on_one_line bytes from to (Mark k) w s = mark_on_one_line bytes from to k s w
kind_on_one_line bytes from to Line w s = marker_on_one_line bytes from to s.0 s.1 s.2
kind_on_one_line bytes from to Pragma w s = pragma_on_one_line bytes from to s

-- so does the longest token
pub longest_on_one_line : (bytes : List ℕ) (from to : ℕ) (kind : Kind) → IsLongest bytes from to kind → OnOneLine bytes from to
longest_on_one_line bytes from to kind h = kind_on_one_line bytes from to kind h.within h.spelled

-- ---- Names

-- a name ends where no word byte stands
name_ends : (bytes : List ℕ) (from n past : ℕ) → from ≤ n → n < past → past ≤ length bytes → (IsWordByte (slice_index bytes n) → ⊥) → IsName (slice_range bytes from past) → ⊥
name_ends bytes from n past a b w none s =
    let l = part_length bytes from past w in
    none (rw (part_offset bytes from past n a b) at (s.each (n - from) (omega (arith, l))))

-- a letter begins no number, no mark and no line with `#`
module _ (bytes : List ℕ) (from to n : ℕ) (letter : IsLetter (slice_index bytes from)) (forward : from ≤ n) (behind : n ≤ to)
    (ends : n < length bytes → IsWordByte (slice_index bytes n) → ⊥)
    (no_literal : (kind : Kind) (past : ℕ) → to < past → past ≤ length bytes → IsLiteralKind kind → Spells bytes from past kind → ⊥) where
  letter_longest : (kind : Kind) (past : ℕ) → from < to → to < past → past ≤ length bytes → Spells bytes from past kind → ⊥
  letter_longest Word past m h w s = name_ends bytes from n past forward (omega arith) w (ends (omega arith)) s.name
  letter_longest (Key k) past m h w s = name_ends bytes from n past forward (omega arith) w (ends (omega arith)) (keyword_name _ k s)
  letter_longest Number past m h w s = let f = first_of_kind bytes from past Number (omega arith) w s in grind arith
  letter_longest Char past m h w s = no_literal Char past h w (inl refl) s
  letter_longest Text past m h w s = no_literal Text past h w (inr refl) s
  letter_longest (Mark k) past m h w s = (first_of_kind bytes from past (Mark k) (omega arith) w s).no_letter letter
  letter_longest Line past m h w s = let f = first_of_kind bytes from past Line (omega arith) w s in grind arith
  letter_longest Pragma past m h w s = let f = first_of_kind bytes from past Pragma (omega arith) w s in grind arith

  pub longest_at_letter : (kind : Kind) → from < to → to ≤ length bytes → Spells bytes from to kind → IsLongest bytes from to kind
  longest_at_letter kind some within s = record { some = some; within = within; spelled = s; longest = λ k p. letter_longest k p some }

-- ---- Literals with a prefix

-- where no quote follows a run of word bytes, no literal begins with it
no_literal : (prefixes : List (List ℕ)) (quote : ℕ) (bytes : List ℕ) (from n to : ℕ) → IsForm prefixes quote → from < n → ((i : ℕ) → from ≤ i → i < n → IsWordByte (slice_index bytes i)) → (n < length bytes → IsWordByte (slice_index bytes n) → ⊥) → (n < length bytes → slice_index bytes n ≡ quote → ⊥) → IsLiteral prefixes quote bytes from to → ⊥
no_literal prefixes quote bytes from n to form some each ends no_quote l =
    let before = literal_before prefixes quote bytes from to form l in
    elim (cases_order l.opening n) [
      | inl e ↦ no_quote (omega (arith, before.inside)) (rw e at l.quoted.opens)
      | inr (inl h) ↦ quote_no_word_byte quote form.quote_is (rw l.quoted.opens at (each l.opening before.forward h))
      | inr (inr h) ↦ ends (omega (arith, before.inside)) (before.each n (omega arith) h)
    ]

-- nor any literal of the two kinds
pub no_prefixed : (bytes : List ℕ) (from n : ℕ) → from < n → ((i : ℕ) → from ≤ i → i < n → IsWordByte (slice_index bytes i)) → (n < length bytes → IsWordByte (slice_index bytes n) → ⊥) → (n < length bytes → (slice_index bytes n ≡ single_quote → ⊥) × (slice_index bytes n ≡ double_quote → ⊥)) → (kind : Kind) (past : ℕ) → IsLiteralKind kind → Spells bytes from past kind → ⊥
no_prefixed bytes from n some each ends none kind past is s = elim (spelled_literal bytes from past kind is s) [
  | inl c ↦ no_literal _ _ bytes from n past char_form some each ends (λ l. (none l).0) c.literal
  | inr t ↦ no_literal _ _ bytes from n past text_form some each ends (λ l. (none l).1) t
]

-- ---- Tokens by their first byte

-- a literal ends behind the quote at the end of the run of word bytes with which it begins
behind_quote : (prefixes : List (List ℕ)) (quote : ℕ) (bytes : List ℕ) (from n to : ℕ) → IsForm prefixes quote → from < n → ((i : ℕ) → from ≤ i → i < n → IsWordByte (slice_index bytes i)) → (n < length bytes → ¬ IsWordByte (slice_index bytes n)) → IsLiteral prefixes quote bytes from to → n + 1 < to
behind_quote prefixes quote bytes from n to form some each ends l =
    let before = literal_before prefixes quote bytes from to form l in
    elim (cases_order l.opening n) [
      | inl e ↦ let f = characters_forward bytes quote (l.opening + 1) l.closing l.quoted.characters in let end = l.end in omega arith
      | inr (inl h) ↦ absurd (quote_no_word_byte quote form.quote_is (rw l.quoted.opens at (each l.opening before.forward h)))
      | inr (inr h) ↦ absurd (ends (omega (arith, before.inside)) (before.each n (omega arith) h))
    ]

-- so does one of either kind
behind_prefix : (bytes : List ℕ) (from n to : ℕ) (kind : Kind) → from < n → ((i : ℕ) → from ≤ i → i < n → IsWordByte (slice_index bytes i)) → (n < length bytes → ¬ IsWordByte (slice_index bytes n)) → IsLiteralKind kind → Spells bytes from to kind → n + 1 < to
behind_prefix bytes from n to kind some each ends is s = elim (spelled_literal bytes from to kind is s) [
  | inl c ↦ behind_quote _ _ bytes from n to char_form some each ends c.literal
  | inr t ↦ behind_quote _ _ bytes from n to text_form some each ends t
]

-- a literal that begins with a letter is the longest token there
pub longest_prefixed : (bytes : List ℕ) (from n : ℕ) (token : FoundToken) → IsLetter (slice_index bytes from) → from < n → ((i : ℕ) → from ≤ i → i < n → IsWordByte (slice_index bytes i)) → (n < length bytes → ¬ IsWordByte (slice_index bytes n)) → IsLiteralAt bytes from token → IsLongestToken bytes from token
longest_prefixed bytes from n token letter forward each ends h =
    let behind = behind_prefix bytes from n token.end token.kind forward each ends h.is h.spelled in
    longest_at_letter bytes from token.end n letter (omega arith) (omega arith) ends (λ other past a b is s. let same = literal_once bytes from token.end past token.kind other h.is h.spelled is s in omega arith) token.kind (omega arith) h.within h.spelled

-- a name is the longest token where no literal begins with it
pub longest_name : (bytes : List ℕ) (from to : ℕ) (kind : Kind) → IsLetter (slice_index bytes from) → from < to → to ≤ length bytes → (to < length bytes → IsWordByte (slice_index bytes to) → ⊥) → ((literal : FoundToken) → ¬ IsLiteralAt bytes from literal) → Spells bytes from to kind → IsLongest bytes from to kind
longest_name bytes from to kind letter some within ends none s =
    longest_at_letter bytes from to to letter (omega arith) (omega arith) ends (λ other past a b is t. none (record { kind = other; end = past }) (record { is = is; within = b; spelled = t })) kind some within s

-- a run of word bytes that begins with a letter is a name
pub run_name : (bytes : List ℕ) (from to : ℕ) → from < to → to ≤ length bytes → IsLetter (slice_index bytes from) → ((i : ℕ) → from ≤ i → i < to → IsWordByte (slice_index bytes i)) → IsName (slice_range bytes from to)
run_name bytes from to s within first each =
    let l = part_length bytes from to within in
    record {
      some = omega (arith, l);
      first = rw (part_first bytes from to s) first;
      each = λ i h. let g : from + i < to = omega (arith, l) in rw (part_at bytes from to i g) (each (from + i) (omega arith) g);
    }

-- no mark of three bytes begins as a number does
number_no_mark : (bytes : List ℕ) (from past number : ℕ) → BeginsNumber bytes from → from + 2 ≤ past → past ≤ length bytes → IsMarkAt bytes from past number → ⊥
number_no_mark bytes from past number (inl digit) h w m = (first_of_kind bytes from past (Mark number) (omega arith) w m).no_digit digit
number_no_mark bytes from past number (inr point) h w m = let second = (mark_reach bytes from past number w m.mark).second h in let digit = point.1 in grind arith

-- where a number begins, no longer token than the number does
pub longest_number : (bytes : List ℕ) (from to : ℕ) → BeginsNumber bytes from → from < to → to ≤ length bytes → IsNumber bytes from to → ((past : ℕ) → to < past → past ≤ length bytes → IsNumber bytes from past → ⊥) → IsLongest bytes from to Number
longest_number bytes from to begins some within s longest = record { some = some; within = within; spelled = s; longest = no_longer }
  where
    no_longer : (kind : Kind) (past : ℕ) → to < past → past ≤ length bytes → Spells bytes from past kind → ⊥
    no_longer Word past h w t = let f = first_of_kind bytes from past Word (omega arith) w t in grind arith
    no_longer (Key k) past h w t = let f = first_of_kind bytes from past (Key k) (omega arith) w t in grind arith
    no_longer Number past h w t = longest past h w t
    no_longer Char past h w t = let f = first_of_kind bytes from past Char (omega arith) w t in grind arith
    no_longer Text past h w t = let f = first_of_kind bytes from past Text (omega arith) w t in grind arith
    no_longer (Mark k) past h w t = number_no_mark bytes from past k begins (omega arith) w t
    no_longer Line past h w t = let f = first_of_kind bytes from past Line (omega arith) w t in grind arith
    no_longer Pragma past h w t = let f = first_of_kind bytes from past Pragma (omega arith) w t in grind arith

-- a quote begins only literals
at_quote : (bytes : List ℕ) (from : ℕ) → (slice_index bytes from ≡ single_quote) ⊎ (slice_index bytes from ≡ double_quote) → (kind : Kind) (past : ℕ) → from < past → past ≤ length bytes → Spells bytes from past kind → IsLiteralKind kind
at_quote bytes from quote Word past h w t = let f = first_of_kind bytes from past Word h w t in absurd (grind arith)
at_quote bytes from quote (Key k) past h w t = let f = first_of_kind bytes from past (Key k) h w t in absurd (grind arith)
at_quote bytes from quote Number past h w t = let f = first_of_kind bytes from past Number h w t in absurd (grind arith)
at_quote bytes from quote Char past h w t = inl refl
at_quote bytes from quote Text past h w t = inr refl
at_quote bytes from quote (Mark k) past h w t = let f = first_of_kind bytes from past (Mark k) h w t in absurd (elim quote [ inl e ↦ f.no_single e | inr e ↦ f.no_double e ])
at_quote bytes from quote Line past h w t = let f = first_of_kind bytes from past Line h w t in absurd (grind arith)
at_quote bytes from quote Pragma past h w t = let f = first_of_kind bytes from past Pragma h w t in absurd (grind arith)

-- what stands at a quote is the literal that was found
pub quoted_token : (bytes : List ℕ) (from : ℕ) (found : Option FoundToken) → (slice_index bytes from ≡ single_quote) ⊎ (slice_index bytes from ≡ double_quote) → Finds (IsLiteralAt bytes from) found → Finds (IsLongestToken bytes from) found
quoted_token bytes from None quote none = λ token h. none token (record { is = at_quote bytes from quote token.kind token.end h.some h.within h.spelled; within = h.within; spelled = h.spelled })
quoted_token bytes from (Some token) quote found = record {
  some = literal_forward bytes from token.end token.kind found.is found.spelled;
  within = found.within;
  spelled = found.spelled;
  longest = λ kind past h w s.
      let some = literal_forward bytes from token.end token.kind found.is found.spelled in
      let same = literal_once bytes from token.end past token.kind kind found.is found.spelled (at_quote bytes from quote kind past (omega arith) w s) s in
      omega arith;
}
  where
    literal_forward : (bytes : List ℕ) (from to : ℕ) (kind : Kind) → IsLiteralKind kind → Spells bytes from to kind → from < to
    literal_forward bytes from to kind is s = elim (spelled_literal bytes from to kind is s) [
      | inl c ↦ let last = literal_last _ _ bytes from to c.literal in let some = last.some in omega arith
      | inr t ↦ let last = literal_last _ _ bytes from to t in let some = last.some in omega arith
    ]

-- a `#` begins only whole lines
at_sign : (bytes : List ℕ) (from : ℕ) → slice_index bytes from ≡ number_sign → (kind : Kind) (past : ℕ) → from < past → past ≤ length bytes → Spells bytes from past kind → IsDirectiveKind kind
at_sign bytes from sign Word past h w t = let f = first_of_kind bytes from past Word h w t in absurd (grind arith)
at_sign bytes from sign (Key k) past h w t = let f = first_of_kind bytes from past (Key k) h w t in absurd (grind arith)
at_sign bytes from sign Number past h w t = let f = first_of_kind bytes from past Number h w t in absurd (grind arith)
at_sign bytes from sign Char past h w t = let f = first_of_kind bytes from past Char h w t in absurd (grind arith)
at_sign bytes from sign Text past h w t = let f = first_of_kind bytes from past Text h w t in absurd (grind arith)
at_sign bytes from sign (Mark k) past h w t = let f = first_of_kind bytes from past (Mark k) h w t in absurd (f.no_sign sign)
at_sign bytes from sign Line past h w t = inl refl
at_sign bytes from sign Pragma past h w t = inr refl

-- what stands at a `#` is the line that was found
pub signed_token : (bytes : List ℕ) (from : ℕ) (found : Option FoundToken) → slice_index bytes from ≡ number_sign → Finds (IsDirectiveAt bytes from) found → Finds (IsLongestToken bytes from) found
signed_token bytes from None sign none = λ token h. none token (record { is = at_sign bytes from sign token.kind token.end h.some h.within h.spelled; within = h.within; spelled = h.spelled })
signed_token bytes from (Some token) sign found = record {
  some = directive_forward bytes from token.end token.kind found.is found.spelled;
  within = found.within;
  spelled = found.spelled;
  longest = λ kind past h w s.
      let some = directive_forward bytes from token.end token.kind found.is found.spelled in
      let same = directive_once bytes from token.end past token.kind kind found.is found.spelled (at_sign bytes from sign kind past (omega arith) w s) s in
      omega arith;
}

-- a byte that begins nothing else
pub record BeginsMark (bytes : List ℕ) (from : ℕ) : Type 0 where
  pub no_letter : IsLetter (slice_index bytes from) → ⊥
  pub no_number : BeginsNumber bytes from → ⊥
  pub no_single : slice_index bytes from ≡ single_quote → ⊥
  pub no_double : slice_index bytes from ≡ double_quote → ⊥
  pub no_sign : slice_index bytes from ≡ number_sign → ⊥

-- it begins only marks
pub at_mark : (bytes : List ℕ) (from : ℕ) → BeginsMark bytes from → (kind : Kind) (past : ℕ) → from < past → past ≤ length bytes → Spells bytes from past kind → (number : ℕ) × IsMarkAt bytes from past number
at_mark bytes from here Word past h w t = absurd (here.no_letter (first_of_kind bytes from past Word h w t))
at_mark bytes from here (Key k) past h w t = absurd (here.no_letter (first_of_kind bytes from past (Key k) h w t))
at_mark bytes from here Number past h w t = absurd (here.no_number (first_of_kind bytes from past Number h w t))
at_mark bytes from here Char past h w t = absurd (elim (first_of_kind bytes from past Char h w t) [ inl e ↦ here.no_single e | inr l ↦ here.no_letter l ])
at_mark bytes from here Text past h w t = absurd (elim (first_of_kind bytes from past Text h w t) [ inl e ↦ here.no_double e | inr l ↦ here.no_letter l ])
at_mark bytes from here (Mark k) past h w t = (k, t)
at_mark bytes from here Line past h w t = absurd (here.no_sign (first_of_kind bytes from past Line h w t))
at_mark bytes from here Pragma past h w t = absurd (here.no_sign (first_of_kind bytes from past Pragma h w t))

-- where no token is the longest, none begins
pub begins_none : (bytes : List ℕ) (from : ℕ) → ((token : FoundToken) → ¬ IsLongestToken bytes from token) → BeginsNoToken bytes from
begins_none bytes from none kind to some within spelled =
    none_of_last (λ past. (from < past) × ((other : Kind) × Spells bytes from past other)) (length bytes)
    (λ past inside s longest. none (record { kind = s.1.0; end = past }) (record {
      some = s.0;
      within = inside;
      spelled = s.1.1;
      longest = λ other end more room t. let first = s.0 in longest end more room (omega arith, (other, t));
    }))
    to within (some, (kind, spelled))

-- and likewise a mark
pub begins_no_mark : (bytes : List ℕ) (from : ℕ) → ((mark : FoundMark) → ¬ IsLongestMark bytes from mark) → (number to : ℕ) → from < to → to ≤ length bytes → ¬ IsMarkAt bytes from to number
begins_no_mark bytes from none number to some within spelled =
    none_of_last (λ past. (from < past) × ((other : ℕ) × IsMarkAt bytes from past other)) (length bytes)
    (λ past inside s longest. none (record { number = s.1.0; end = past }) (record {
      some = s.0;
      within = inside;
      spelled = s.1.1;
      longest = λ other end more room t. let first = s.0 in longest end more room (omega arith, (other, t));
    }))
    to within (some, (number, spelled))
