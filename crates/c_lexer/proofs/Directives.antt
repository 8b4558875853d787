-- Line markers and pragmas.
use Rattle.std.proofs.Common.{◌≡◌, ℕ, suc, zero, ◌+◌, ◌-◌, ◌<◌, ◌≤◌, List, Option, Some, None, codes, length, slice_index, slice_range, refl, ap, sym, ◌∙◌, arith, inl, inr, subst, ◌==◌, not}
use Rattle.std.proofs.lemmas.List.Sums.{AllPass-from_list_all}
use Rattle.c_lexer.specs.Bytes.{line_feed, double_quote, IsDigit, IsLineBlank}
use Rattle.c_lexer.specs.Lines.{AreLineBlanks, EndsLine, OnOneLine}
use Rattle.c_lexer.specs.Literals.{IsQuoted}
use Rattle.c_lexer.specs.Directives.{IsGap, IsLineNumber, IsFileName, IsFilePart, AreFlags, none, flag, IsMarkerOf, IsPragma, digits_value}
use Rattle.std.specs.Borrow.{Bor}
use Rattle.c_lexer.specs.Scanning.{BeginsFlag, BeginsName, EndsGap, IsFileAt, IsMarkerAt, IsDirectiveAt, IsDirectiveKind, name_of}
use Rattle.c_lexer.specs.declared.marker.FoundFile.{FoundFile}
use Rattle.c_lexer.specs.declared.marker.FoundMarker.{FoundMarker}
use Rattle.c_lexer.specs.declared.token.FoundToken.{FoundToken}
use Rattle.c_lexer.specs.Spelling.{Spells}
use Rattle.c_lexer.specs.declared.token.Kind.{Kind}
use Rattle.c_lexer.proofs.Parts.{part_offset, part_first, run_more, run_once}
use Rattle.c_lexer.proofs.Literals.{quoted_once, quoted_on_one_line, characters_forward}
use Rattle.c_lexer.proofs.Lines.{inside, line_end, one_end, one_line_joined, byte_on_one_line, no_blank_past, blanks_once, blanks_on_one_line}

-- gaps from one offset, each before a byte that is no blank, end at one offset
gap_once : (bytes : List ℕ) (from p q : ℕ) → IsGap bytes from p → IsGap bytes from q → (IsLineBlank (slice_index bytes p) → ⊥) → (IsLineBlank (slice_index bytes q) → ⊥) → p ≡ q
gap_once bytes from p q a b f g = let l = a.some in let m = b.some in blanks_once bytes from p q (omega arith) (omega arith) a.blanks b.blanks f g

-- at the end of a line stands no blank, and so no gap begins
no_gap_at_end : (bytes : List ℕ) (from to : ℕ) → EndsLine bytes from → IsGap bytes from to → ⊥
no_gap_at_end bytes from to e g = let b = g.blanks from (omega arith) g.some in let l = (line_end bytes from e).byte in grind arith

-- where a gap begins stands no digit
no_digit_at_gap : (bytes : List ℕ) (from to : ℕ) → IsGap bytes from to → IsDigit (slice_index bytes from) → ⊥
no_digit_at_gap bytes from to g d = let b = g.blanks from (omega arith) g.some in grind arith

-- at the end of a line stands no digit
no_digit_at_end : (bytes : List ℕ) (from : ℕ) → EndsLine bytes from → IsDigit (slice_index bytes from) → ⊥
no_digit_at_end bytes from e d = let l = (line_end bytes from e).byte in grind arith

-- one more blank goes on with a gap
gap_more : (bytes : List ℕ) (from to : ℕ) → IsGap bytes from to → IsLineBlank (slice_index bytes to) → IsGap bytes from (to + 1)
gap_more bytes from to gap blank = let some = gap.some in record { some = omega arith; blanks = run_more (λ i. IsLineBlank (slice_index bytes i)) from to gap.blanks blank }

-- the flags of a marker end where no flag begins
flags_stop : (bytes : List ℕ) {from p q : ℕ} → AreFlags bytes from p → AreFlags bytes from q → (BeginsFlag bytes p → ⊥) → EndsLine bytes q → q ≡ p
flags_stop bytes none none e f = refl
flags_stop bytes none (flag {digit = digit} g l h r) e f = absurd (e (record { digit = digit; inside = inside bytes digit (omega arith); gap = g; low = l; high = h }))
flags_stop bytes (flag g l h r) none e f = absurd (no_gap_at_end bytes _ _ f g)
flags_stop bytes {p = p} {q = q} (flag {from = from} {digit = d} g l h r) (flag {digit = c} i m k s) e f =
    let same : d ≡ c = gap_once bytes from d c g i (λ b. grind arith) (λ b. grind arith) in
    flags_stop bytes r (subst (λ digit. AreFlags bytes (digit + 1) q) (sym same) s) e f

-- flags from one offset to the end of the line end at one offset
flags_once : (bytes : List ℕ) {from p q : ℕ} → AreFlags bytes from p → AreFlags bytes from q → EndsLine bytes p → EndsLine bytes q → p ≡ q
flags_once bytes a b e f = sym (flags_stop bytes a b (λ flag. no_gap_at_end bytes _ _ e flag.gap) f)

-- before flags to the end of the line stands no digit
no_digit_at_flags : (bytes : List ℕ) {from to : ℕ} → AreFlags bytes from to → EndsLine bytes to → IsDigit (slice_index bytes from) → ⊥
no_digit_at_flags bytes none e d = no_digit_at_end bytes _ e d
no_digit_at_flags bytes (flag g l h r) e d = no_digit_at_gap bytes _ _ g d

-- behind the number of a line stands no digit
no_digit_behind : (bytes : List ℕ) (past flags to : ℕ) (file : Option (List ℕ)) → IsFilePart bytes past flags file → AreFlags bytes flags to → EndsLine bytes to → IsDigit (slice_index bytes past) → ⊥
no_digit_behind bytes past flags to (Some name) part flagged e d = no_digit_at_gap bytes past part.opening part.gap d
no_digit_behind bytes past flags to None part flagged e d = no_digit_at_flags bytes flagged e (rw part at d)

-- the numbers of a line from one offset are one, each before a byte that is no digit
number_once : (bytes : List ℕ) (from p q l m : ℕ) → IsLineNumber bytes from p l → IsLineNumber bytes from q m → (IsDigit (slice_index bytes p) → ⊥) → (IsDigit (slice_index bytes q) → ⊥) → (p ≡ q) × (l ≡ m)
number_once bytes from p q l m a b f g =
    let some = a.some in
    let other = b.some in
    let same = run_once IsDigit bytes from p q (omega arith) (omega arith) a.digits b.digits f g in
    (same, sym a.value ∙ (ap (λ past. digits_value 0 (slice_range bytes from past)) same ∙ b.value))

-- where a quote stands behind a gap, no flag stands there and no end of a line
no_flag_at_quote : (bytes : List ℕ) (from opening : ℕ) {to : ℕ} → IsGap bytes from opening → slice_index bytes opening ≡ double_quote → AreFlags bytes from to → EndsLine bytes to → ⊥
no_flag_at_quote bytes from opening gap quote none e = no_gap_at_end bytes from opening e gap
no_flag_at_quote bytes from opening gap quote (flag {digit = digit} g l h r) e =
    let same : digit ≡ opening = gap_once bytes from digit opening g gap (λ b. grind arith) (λ b. grind arith) in
    let byte : slice_index bytes digit ≡ double_quote = rw same quote in
    omega arith

-- nor where the name of a file stands
no_flag_at_name : (bytes : List ℕ) (from past : ℕ) (name : List ℕ) {to : ℕ} → IsFileName bytes from past name → AreFlags bytes from to → EndsLine bytes to → ⊥
no_flag_at_name bytes from past name n flagged e = no_flag_at_quote bytes from n.opening n.gap n.quoted.opens flagged e

-- names from one offset are one
name_once : (bytes : List ℕ) (from p q : ℕ) (name other : List ℕ) → IsFileName bytes from p name → IsFileName bytes from q other → (p ≡ q) × (name ≡ other)
name_once bytes from p q name other a b =
    let x = a.quoted.opens in
    let y = b.quoted.opens in
    let opening : a.opening ≡ b.opening = gap_once bytes from a.opening b.opening a.gap b.gap (λ c. grind arith) (λ c. grind arith) in
    let closing : a.closing ≡ b.closing = quoted_once bytes double_quote b.opening a.closing b.closing (λ e. omega arith) (subst (λ at. IsQuoted bytes double_quote at a.closing) opening a.quoted) b.quoted in
    let end = a.end in
    let last = b.end in
    let x = a.name_is in
    let y = b.name_is in
    (omega arith, cc)

-- what stands of a file between the number and the flags is one
file_once : (bytes : List ℕ) (from p q to past : ℕ) (file other : Option (List ℕ)) → IsFilePart bytes from p file → IsFilePart bytes from q other → AreFlags bytes p to → AreFlags bytes q past → EndsLine bytes to → EndsLine bytes past → (p ≡ q) × (file ≡ other)
file_once bytes from p q to past None None a b f g e l = (sym a ∙ b, refl)
file_once bytes from p q to past None (Some other) a b f g e l = absurd (no_flag_at_name bytes from q other b (rw a f) e)
file_once bytes from p q to past (Some name) None a b f g e l = absurd (no_flag_at_name bytes from p name a (rw b g) l)
file_once bytes from p q to past (Some name) (Some other) a b f g e l =
    let same = name_once bytes from p q name other a b in
    (same.0, ap Some same.1)

-- the digits of a line's number begin with no blank
no_blank_at_number : (bytes : List ℕ) (from to line : ℕ) → IsLineNumber bytes from to line → IsLineBlank (slice_index bytes from) → ⊥
no_blank_at_number bytes from to line n b = let d = n.digits from (omega arith) n.some in grind arith

-- one line marker stands at a offset
pub marker_once : (bytes : List ℕ) (from p q l m : ℕ) (f g : Option (List ℕ)) → IsMarkerOf bytes from p l f → IsMarkerOf bytes from q m g → (p ≡ q) × (l ≡ m) × (f ≡ g)
marker_once bytes from p q l m f g a b =
    let number : a.number ≡ b.number = gap_once bytes (from + 1) a.number b.number a.gap b.gap
    (no_blank_at_number bytes a.number a.past l a.line_number)
    (no_blank_at_number bytes b.number b.past m b.line_number) in
    let line = number_once bytes b.number a.past b.past l m
    (subst (λ at. IsLineNumber bytes at a.past l) number a.line_number) b.line_number
    (no_digit_behind bytes a.past a.flags p f a.file_part a.flagged a.ends_line)
    (no_digit_behind bytes b.past b.flags q g b.file_part b.flagged b.ends_line) in
    let file = file_once bytes b.past a.flags b.flags p q f g
    (subst (λ at. IsFilePart bytes at a.flags f) line.0 a.file_part) b.file_part a.flagged b.flagged a.ends_line b.ends_line in
    let to = flags_once bytes (subst (λ at. AreFlags bytes at p) file.0 a.flagged) b.flagged a.ends_line b.ends_line in
    (to, line.1, file.1)

-- the word of a pragma begins with `p`, which is no blank and no digit
letter_at_word : (bytes : List ℕ) (word : ℕ) → slice_range bytes word (word + 6) ≡ codes "pragma" → slice_index bytes word ≡ 112
letter_at_word bytes word h =
    sym (part_first bytes word (word + 6) (omega arith)) ∙ ap (λ text. slice_index text 0) h

-- one pragma stands at a offset
pragma_once : (bytes : List ℕ) (from p q : ℕ) → IsPragma bytes from p → IsPragma bytes from q → p ≡ q
pragma_once bytes from p q a b =
    let x = letter_at_word bytes a.word a.pragma in
    let y = letter_at_word bytes b.word b.pragma in
    let word : a.word ≡ b.word = blanks_once bytes (from + 1) a.word b.word a.behind b.behind a.blanks b.blanks (λ c. grind arith) (λ c. grind arith) in
    one_end bytes (b.word + 6) p q (rw word at a.one_line) a.ends_line b.one_line b.ends_line (rw word at a.past) b.past

-- a line marker is no pragma
pub marker_no_pragma : (bytes : List ℕ) (from p q line : ℕ) (file : Option (List ℕ)) → IsMarkerOf bytes from p line file → IsPragma bytes from q → ⊥
marker_no_pragma bytes from p q line file a b =
    let some = a.gap.some in
    let x = a.line_number.digits a.number (omega arith) a.line_number.some in
    let y = letter_at_word bytes b.word b.pragma in
    let word : a.number ≡ b.word = blanks_once bytes (from + 1) a.number b.word (omega arith) b.behind a.gap.blanks b.blanks (λ c. grind arith) (λ c. grind arith) in
    let same : slice_index bytes a.number ≡ 112 = rw word y in
    omega arith

-- digits hold no line feed
digits_on_one_line : (bytes : List ℕ) (from to line : ℕ) → IsLineNumber bytes from to line → OnOneLine bytes from to
digits_on_one_line bytes from to line n i l h e = let d = n.digits i l h in omega arith

-- flags go forward
flags_forward : (bytes : List ℕ) {from to : ℕ} → AreFlags bytes from to → from ≤ to
flags_forward bytes none = omega arith
flags_forward bytes (flag g l h r) = let f = flags_forward bytes r in let s = g.some in omega arith

-- flags hold no line feed
flags_on_one_line : (bytes : List ℕ) {from to : ℕ} → AreFlags bytes from to → OnOneLine bytes from to
flags_on_one_line bytes none = λ i l h e. omega arith
flags_on_one_line bytes {from = from} {to = to} (flag {digit = digit} g l h r) =
    one_line_joined bytes from digit to (blanks_on_one_line bytes from digit g.blanks)
    (one_line_joined bytes digit (digit + 1) to (byte_on_one_line bytes digit (λ e. omega arith)) (flags_on_one_line bytes r))

-- a file's name, if there is one, goes forward
file_forward : (bytes : List ℕ) (from to : ℕ) (file : Option (List ℕ)) → IsFilePart bytes from to file → from ≤ to
file_forward bytes from to None a = omega arith
file_forward bytes from to (Some name) a =
    let some = a.gap.some in
    let f = characters_forward bytes double_quote (a.opening + 1) a.closing a.quoted.characters in
    let end = a.end in
    omega arith

-- a file's name holds no line feed
file_on_one_line : (bytes : List ℕ) (from to : ℕ) (file : Option (List ℕ)) → IsFilePart bytes from to file → OnOneLine bytes from to
file_on_one_line bytes from to None a = λ i l h e. omega arith
file_on_one_line bytes from to (Some name) a =
    let quoted = quoted_on_one_line bytes double_quote a.opening a.closing (λ e. omega arith) a.quoted in
    one_line_joined bytes from a.opening to (blanks_on_one_line bytes from a.opening a.gap.blanks) (rw a.end quoted)

-- a line marker has a byte
pub marker_forward : (bytes : List ℕ) (from to line : ℕ) (file : Option (List ℕ)) → IsMarkerOf bytes from to line file → from < to
marker_forward bytes from to line file a =
    let gap = a.gap.some in
    let number = a.line_number.some in
    let f = file_forward bytes a.past a.flags file a.file_part in
    let g = flags_forward bytes a.flagged in
    omega arith

-- a line marker stands on one line
pub marker_on_one_line : (bytes : List ℕ) (from to line : ℕ) (file : Option (List ℕ)) → IsMarkerOf bytes from to line file → OnOneLine bytes from to
marker_on_one_line bytes from to line file a =
    let sign = a.sign in
    let rest = one_line_joined bytes a.past a.flags to (file_on_one_line bytes a.past a.flags file a.file_part) (flags_on_one_line bytes a.flagged) in
    let number = one_line_joined bytes a.number a.past to (digits_on_one_line bytes a.number a.past line a.line_number) rest in
    one_line_joined bytes from (from + 1) to (byte_on_one_line bytes from (λ e. omega arith))
    (one_line_joined bytes (from + 1) a.number to (blanks_on_one_line bytes (from + 1) a.number a.gap.blanks) number)

-- `pragma` holds no line feed
no_feed_in_word : (i : ℕ) → i < 6 → slice_index (codes "pragma") i ≡ line_feed → ⊥
no_feed_in_word i l e = let passed = AllPass-from_list_all (λ byte. not (byte == line_feed)) (codes "pragma") refl i 0 l in let feed = rw e at passed in cc

-- the word of a pragma stands on one line
word_on_one_line : (bytes : List ℕ) (word : ℕ) → slice_range bytes word (word + 6) ≡ codes "pragma" → OnOneLine bytes word (word + 6)
word_on_one_line bytes word h i l m e =
    let byte = rw h at (part_offset bytes word (word + 6) i l m) in
    no_feed_in_word (i - word) (omega arith) (byte ∙ e)

-- a pragma has a byte
pub pragma_forward : (bytes : List ℕ) (from to : ℕ) → IsPragma bytes from to → from < to
pragma_forward bytes from to a = let behind = a.behind in let past = a.past in omega arith

-- a pragma stands on one line
pub pragma_on_one_line : (bytes : List ℕ) (from to : ℕ) → IsPragma bytes from to → OnOneLine bytes from to
pragma_on_one_line bytes from to a =
    let sign = a.sign in
    one_line_joined bytes from (from + 1) to (byte_on_one_line bytes from (λ e. omega arith))
    (one_line_joined bytes (from + 1) a.word to (blanks_on_one_line bytes (from + 1) a.word a.blanks)
    (one_line_joined bytes a.word (a.word + 6) to (word_on_one_line bytes a.word a.pragma) a.one_line))

-- the word of a pragma stands at `word`, before the end of the pragma
pub record IsPragmaAt (bytes : List ℕ) (word to : ℕ) : Type 0 where
  pub room : word + 6 ≤ to
  pub spelled : slice_range bytes word (word + 6) ≡ codes "pragma"

-- the word of a pragma stands where the blanks behind its sign end
pub word_of_pragma : (bytes : List ℕ) (from to word : ℕ) → IsPragma bytes from to → from + 1 ≤ word → AreLineBlanks bytes (from + 1) word → (word < length bytes → IsLineBlank (slice_index bytes word) → ⊥) → IsPragmaAt bytes word to
word_of_pragma bytes from to word p behind blanks ends =
    let letter = letter_at_word bytes p.word p.pragma in
    let same : p.word ≡ word = blanks_once bytes (from + 1) p.word word p.behind behind p.blanks blanks (λ b. grind arith) (no_blank_past bytes word ends) in
    record { room = rw same at p.past; spelled = rw same at p.pragma }

-- flags, and one more behind them
pub flags_more : (bytes : List ℕ) {from at digit : ℕ} → AreFlags bytes from at → IsGap bytes at digit → 49 ≤ slice_index bytes digit → slice_index bytes digit ≤ 52 → AreFlags bytes from (digit + 1)
flags_more bytes none g l h = flag g l h none
flags_more bytes (flag i m k r) g l h = flag i m k (flags_more bytes r g l h)

-- where no gap is the longest, none begins
no_gap_from : (bytes : List ℕ) (from : ℕ) → ((to : ℕ) → ¬ EndsGap bytes from to) → (n to : ℕ) → length bytes ≤ to + n → to ≤ length bytes → ¬ IsGap bytes from to
no_gap_from bytes from no_end zero to h within gap = no_end to (record { within = within; gap = gap; ends = λ inside. absurd (omega arith) })
no_gap_from bytes from no_end (suc n) to h within gap = no_end to (record {
  within = within;
  gap = gap;
  ends = λ inside blank. no_gap_from bytes from no_end n (to + 1) (omega arith) (omega arith) (gap_more bytes from to gap blank);
})

pub no_gap : (bytes : List ℕ) (from : ℕ) → ((to : ℕ) → ¬ EndsGap bytes from to) → (to : ℕ) → to ≤ length bytes → ¬ IsGap bytes from to
no_gap bytes from no_end to within gap = no_gap_from bytes from no_end (length bytes - to) to (omega arith) within gap

-- what stands of a marker behind the number of its line
pub record IsMarkerRest (bytes : List ℕ) (from flags to : ℕ) (file : Option (List ℕ)) : Type 0 where
  pub file_part : IsFilePart bytes from flags file
  pub flagged : AreFlags bytes flags to
  pub ends_line : EndsLine bytes to

-- what stands of a marker behind the gap
pub record IsMarkerTail (bytes : List ℕ) (number to line : ℕ) (file : Option (List ℕ)) : Type 0 where
  pub past : ℕ
  pub flags : ℕ
  pub within : past ≤ length bytes
  pub line_number : IsLineNumber bytes number past line
  pub ends : IsDigit (slice_index bytes past) → ⊥
  pub rest : IsMarkerRest bytes past flags to file

-- a marker goes on where its gap ends
pub marker_tail : (bytes : List ℕ) (from number to line : ℕ) (file : Option (List ℕ)) → IsMarkerOf bytes from to line file → EndsGap bytes (from + 1) number → IsMarkerTail bytes number to line file
marker_tail bytes from number to line file m g =
    let same : m.number ≡ number = gap_once bytes (from + 1) m.number number m.gap g.gap
    (no_blank_at_number bytes m.number m.past line m.line_number) (no_blank_past bytes number g.ends) in
    let within = (line_end bytes to m.ends_line).within in
    let f = file_forward bytes m.past m.flags file m.file_part in
    let g = flags_forward bytes m.flagged in
    record {
      past = m.past;
      flags = m.flags;
      within = omega arith;
      line_number = rw same at m.line_number;
      ends = no_digit_behind bytes m.past m.flags to file m.file_part m.flagged m.ends_line;
      rest = record { file_part = m.file_part; flagged = m.flagged; ends_line = m.ends_line };
    }

-- a marker has a gap, which ends within the text
pub marker_gap : (bytes : List ℕ) (from to line : ℕ) (file : Option (List ℕ)) → IsMarkerOf bytes from to line file → (number : ℕ) × (number ≤ length bytes) × IsGap bytes (from + 1) number
marker_gap bytes from to line file m =
    let d = m.line_number.digits m.number (omega arith) m.line_number.some in
    let within = inside bytes m.number (omega arith) in
    (m.number, omega arith, m.gap)

-- a marker goes on where its number ends
pub marker_rest : (bytes : List ℕ) (number past to line other : ℕ) (file : Option (List ℕ)) → IsMarkerTail bytes number to line file → IsLineNumber bytes number past other → (past < length bytes → IsDigit (slice_index bytes past) → ⊥) → (flags : ℕ) × IsMarkerRest bytes past flags to file
marker_rest bytes number past to line other file t n ends =
    let same = number_once bytes number t.past past line other t.line_number n t.ends
    (λ d. ends (inside bytes past (omega arith)) d) in
    (t.flags, subst (λ at. IsMarkerRest bytes at t.flags to file) same.0 t.rest)

-- where a marker goes on without a name, none begins
rest_no_name : (bytes : List ℕ) (from flags to : ℕ) (file : Option (List ℕ)) → IsMarkerRest bytes from flags to file → file ≡ None → ¬ BeginsName bytes from
rest_no_name bytes from flags to None rest e name = no_flag_at_quote bytes from name.opening name.gap name.quote (subst (λ at. AreFlags bytes at to) (sym rest.file_part) rest.flagged) rest.ends_line
rest_no_name bytes from flags to (Some file) rest e name = cc

-- the name of a marker, or its lack, stands behind the number of its line
pub file_at : (bytes : List ℕ) (from flags to : ℕ) (name : Option (Bor (List ℕ))) → IsMarkerRest bytes from flags to (name_of name) → IsFileAt bytes from (record { name = name; end = flags })
file_at bytes from flags to name rest =
    let within = (line_end bytes to rest.ends_line).within in
    let forward = flags_forward bytes rest.flagged in
    record {
      within = omega arith;
      part = rest.file_part;
      none = λ e. rest_no_name bytes from flags to (name_of name) rest (ap name_of e);
    }

-- and stands there once
file_ends : (bytes : List ℕ) (from flags to end : ℕ) (name : Option (Bor (List ℕ))) (file : Option (List ℕ)) → IsFilePart bytes from end (name_of name) → (name ≡ None → ¬ BeginsName bytes from) → IsMarkerRest bytes from flags to file → flags ≡ end
file_ends bytes from flags to end None None part no_name rest = sym rest.file_part ∙ part
file_ends bytes from flags to end None (Some file) part no_name rest = absurd (no_name refl (record { opening = rest.file_part.opening; gap = rest.file_part.gap; quote = rest.file_part.quoted.opens }))
file_ends bytes from flags to end (Some name) None part no_name rest = absurd (no_flag_at_name bytes from end name.now part (subst (λ at. AreFlags bytes at to) (sym rest.file_part) rest.flagged) rest.ends_line)
file_ends bytes from flags to end (Some name) (Some file) part no_name rest = (name_once bytes from flags end file name.now rest.file_part part).0

-- a marker ends where no more flag begins
pub marker_end : (bytes : List ℕ) (from flags to end : ℕ) (file : Option (List ℕ)) (found : FoundFile) → IsMarkerRest bytes from flags to file → IsFileAt bytes from found → AreFlags bytes found.end end → ¬ BeginsFlag bytes end → EndsLine bytes end
marker_end bytes from flags to end file found rest named flagged stops =
    let same = file_ends bytes from flags to found.end found.name file named.part named.none rest in
    let stop = flags_stop bytes flagged (subst (λ at. AreFlags bytes at to) same rest.flagged) stops rest.ends_line in
    subst (EndsLine bytes) stop rest.ends_line

-- where a marker has a name, it opens where the gap ends
pub quote_at_gap : (bytes : List ℕ) (from at opening : ℕ) → EndsGap bytes from at → IsGap bytes from opening → slice_index bytes opening ≡ double_quote → (slice_index bytes at ≡ double_quote) × (at < length bytes)
quote_at_gap bytes from at opening g gap quote =
    let same : opening ≡ at = gap_once bytes from opening at gap g.gap (λ b. grind arith) (no_blank_past bytes at g.ends) in
    let is = rw same at quote in
    (is, inside bytes at (omega arith))

-- the quotes that open at the offset are closed directly before `past`
pub record IsNamed (bytes : List ℕ) (opening past : ℕ) : Type 0 where
  pub closing : ℕ
  pub within : closing < length bytes
  pub quoted : IsQuoted bytes (slice_index bytes opening) opening closing
  pub end : past ≡ closing + 1

-- where a quote stands behind the gap, a file has a name
named : (bytes : List ℕ) (from opening end : ℕ) (name : Option (Bor (List ℕ))) → EndsGap bytes from opening → slice_index bytes opening ≡ double_quote → IsFilePart bytes from end (name_of name) → (name ≡ None → ¬ BeginsName bytes from) → IsNamed bytes opening end
named bytes from opening end None g quote part no_name = absurd (no_name refl (record { opening = opening; gap = g.gap; quote = quote }))
named bytes from opening end (Some name) g quote n no_name =
    let opens = n.quoted.opens in
    let closes = n.quoted.closes in
    let same : n.opening ≡ opening = gap_once bytes from n.opening opening n.gap g.gap (λ b. grind arith) (no_blank_past bytes opening g.ends) in
    let here = subst (λ at. IsQuoted bytes double_quote at n.closing) same n.quoted in
    record {
      closing = n.closing;
      within = inside bytes n.closing (omega arith);
      quoted = subst (λ byte. IsQuoted bytes byte opening n.closing) (sym quote) here;
      end = n.end;
    }

pub named_file : (bytes : List ℕ) (from opening : ℕ) (found : FoundFile) → EndsGap bytes from opening → slice_index bytes opening ≡ double_quote → IsFileAt bytes from found → IsNamed bytes opening found.end
named_file bytes from opening found g quote h = named bytes from opening found.end found.name g quote h.part h.none

-- a name whose quotes are closed
pub named_part : (bytes : List ℕ) (from opening closing : ℕ) → EndsGap bytes from opening → slice_index bytes opening ≡ double_quote → IsQuoted bytes (slice_index bytes opening) opening closing → IsFilePart bytes from (closing + 1) (Some (slice_range bytes (opening + 1) closing))
named_part bytes from opening closing g quote quoted = record {
  opening = opening;
  closing = closing;
  gap = g.gap;
  quoted = subst (λ byte. IsQuoted bytes byte opening closing) quote quoted;
  end = refl;
  name_is = refl;
}

-- lines that begin with `#` from one offset end at one
pub directive_once : (bytes : List ℕ) (from p q : ℕ) (kind other : Kind) → IsDirectiveKind kind → Spells bytes from p kind → IsDirectiveKind other → Spells bytes from q other → p ≡ q
directive_once bytes from p q kind other (inl e) s (inl f) t =
    let m = subst (Spells bytes from p) e s in
    let n = subst (Spells bytes from q) f t in
    (marker_once bytes from p q m.0 n.0 m.1 n.1 m.2 n.2).0
directive_once bytes from p q kind other (inl e) s (inr f) t =
    let m = subst (Spells bytes from p) e s in
    absurd (marker_no_pragma bytes from p q m.0 m.1 m.2 (subst (Spells bytes from q) f t))
directive_once bytes from p q kind other (inr e) s (inl f) t =
    let n = subst (Spells bytes from q) f t in
    absurd (marker_no_pragma bytes from q p n.0 n.1 n.2 (subst (Spells bytes from p) e s))
directive_once bytes from p q kind other (inr e) s (inr f) t = pragma_once bytes from p q (subst (Spells bytes from p) e s) (subst (Spells bytes from q) f t)

-- such a line has a byte
pub directive_forward : (bytes : List ℕ) (from to : ℕ) (kind : Kind) → IsDirectiveKind kind → Spells bytes from to kind → from < to
directive_forward bytes from to kind (inl e) s = let m = subst (Spells bytes from to) e s in marker_forward bytes from to m.0 m.1 m.2
directive_forward bytes from to kind (inr e) s = pragma_forward bytes from to (subst (Spells bytes from to) e s)

-- the name of a file with a reference to it
lent : Option (List ℕ) → Option (Bor (List ℕ))
lent None = None
lent (Some name) = Some (record { ref_ptr = (0, 0); now = name })

-- is that name
lent_is : (file : Option (List ℕ)) → name_of (lent file) ≡ file
unfolding lent
lent_is None = refl
lent_is (Some name) = refl

-- where no marker was found, none stands
pub no_marker : (bytes : List ℕ) (from : ℕ) → ((found : FoundMarker) → ¬ IsMarkerAt bytes from found) → (to line : ℕ) (file : Option (List ℕ)) → ¬ IsMarkerOf bytes from to line file
no_marker bytes from none_found to line file m =
    none_found (record { marker = record { line = line; file = lent file }; end = to })
    (record { within = (line_end bytes to m.ends_line).within; marker = subst (IsMarkerOf bytes from to line) (sym (lent_is file)) m })

-- where neither a pragma nor a marker stands, no such line does
pub no_directive : (bytes : List ℕ) (from : ℕ) → ((to : ℕ) → ¬ ((to ≤ length bytes) × IsPragma bytes from to)) → ((found : FoundMarker) → ¬ IsMarkerAt bytes from found) → (line : FoundToken) → ¬ IsDirectiveAt bytes from line
no_directive bytes from no_pragma none_found line h = elim h.is [
  | inl e ↦ let m = subst (Spells bytes from line.end) e h.spelled in no_marker bytes from none_found line.end m.0 m.1 m.2
  | inr e ↦ no_pragma line.end (h.within, subst (Spells bytes from line.end) e h.spelled)
]
