-- Literals: where their quotes open, and where they are closed.
use Rattle.std.proofs.Common.{◌≡◌, ℕ, ◌+◌, ◌-◌, ◌<◌, ◌≤◌, ◌⊎◌, ◌&&◌, ◌||◌, Bool, true, false, List, [], ◌∷◌, length, nat_le, slice_range, slice_index, refl, sym, ap, subst, ◌∙◌, arith, inl, inr}
use Rattle.std.specs.List.{Contains}
use Rattle.std.proofs.lemmas.Bool.{and_parts, cases_lt, leb-true}
use Rattle.std.proofs.lemmas.Bool.Decides.{nat_tests}
use Rattle.c_lexer.specs.Bytes.{line_feed, backslash, single_quote, double_quote, IsLetter, IsWordByte}
use Rattle.c_lexer.specs.Lines.{OnOneLine}
use Rattle.c_lexer.specs.Literals.{IsPlain, AreCharacters, none, plain, escaped, IsQuoted, char_prefixes, text_prefixes, IsLiteral, IsChar, IsText}
use Rattle.c_lexer.specs.Scanning.{IsLiteralKind}
use Rattle.c_lexer.specs.Spelling.{Spells, IsName}
use Rattle.c_lexer.specs.declared.token.Kind.{Kind}
use Rattle.c_lexer.proofs.Classes.{is_name, name_is}
use Rattle.c_lexer.proofs.Lines.{inside, one_line_joined, byte_on_one_line}
use Rattle.c_lexer.proofs.Parts.{part_length, part_offset, part_first}
use Rattle.c_lexer.proofs.Tables.{row_passes}

-- ---- Characters

-- characters do not end before they begin
pub characters_forward : (bytes : List ℕ) (quote from to : ℕ) → AreCharacters bytes quote from to → from ≤ to
characters_forward bytes quote from to none = omega arith
characters_forward bytes quote from to (plain p h) = let r = characters_forward bytes quote (from + 1) to h in omega arith
characters_forward bytes quote from to (escaped b f h) = let r = characters_forward bytes quote (from + 2) to h in omega arith

-- characters have no line feed
characters_on_one_line : (bytes : List ℕ) (quote from to : ℕ) → AreCharacters bytes quote from to → OnOneLine bytes from to
characters_on_one_line bytes quote from to none i a b e = omega arith
characters_on_one_line bytes quote from to (plain p h) i a b e =
    elim (cases_lt from i) [
      | inl l ↦ characters_on_one_line bytes quote (from + 1) to h i (omega arith) b e
      | inr l ↦ let here : i ≡ from = omega arith in p.no_feed (rw here at e)
    ]
characters_on_one_line bytes quote from to (escaped s f h) i a b e =
    elim (cases_lt (from + 1) i) [
      | inl l ↦ characters_on_one_line bytes quote (from + 2) to h i (omega arith) b e
      | inr l ↦ elim (cases_lt from i) [
        | inl m ↦ let here : i ≡ from + 1 = omega arith in f (rw here at e)
        | inr m ↦ let here : i ≡ from = omega arith in let e = rw here at e in omega arith
      ]
    ]

-- a plain byte goes on with the characters
pub characters_plain : (bytes : List ℕ) (quote from to : ℕ) → AreCharacters bytes quote from to → IsPlain quote (slice_index bytes to) → AreCharacters bytes quote from (to + 1)
characters_plain bytes quote from to none p = plain p none
characters_plain bytes quote from to (plain q h) p = plain q (characters_plain bytes quote (from + 1) to h p)
characters_plain bytes quote from to (escaped s f h) p = escaped s f (characters_plain bytes quote (from + 2) to h p)

-- so do a backslash and the byte after it
pub characters_escaped : (bytes : List ℕ) (quote from to : ℕ) → AreCharacters bytes quote from to → slice_index bytes to ≡ backslash → (slice_index bytes (to + 1) ≡ line_feed → ⊥) → AreCharacters bytes quote from (to + 2)
characters_escaped bytes quote from to none b n = escaped b n none
characters_escaped bytes quote from to (plain q h) b n = plain q (characters_escaped bytes quote (from + 1) to h b n)
characters_escaped bytes quote from to (escaped s f h) b n = escaped s f (characters_escaped bytes quote (from + 2) to h b n)

-- of two runs of characters from one offset one goes on with the other
characters_compare : (bytes : List ℕ) (quote from p q : ℕ) → AreCharacters bytes quote from p → AreCharacters bytes quote from q → AreCharacters bytes quote p q ⊎ AreCharacters bytes quote q p
characters_compare bytes quote from p q none k = inl k
characters_compare bytes quote from p q (plain a h) none = inr (plain a h)
characters_compare bytes quote from p q (plain a h) (plain b k) = characters_compare bytes quote (from + 1) p q h k
characters_compare bytes quote from p q (plain a h) (escaped s f k) = absurd (a.no_backslash s)
characters_compare bytes quote from p q (escaped s f h) none = inr (escaped s f h)
characters_compare bytes quote from p q (escaped s f h) (plain b k) = absurd (b.no_backslash s)
characters_compare bytes quote from p q (escaped s f h) (escaped t g k) = characters_compare bytes quote (from + 2) p q h k

-- at the offset no character begins
pub record IsStop (bytes : List ℕ) (quote at : ℕ) : Type 0 where
  pub no_plain : IsPlain quote (slice_index bytes at) → ⊥
  pub no_escape : slice_index bytes at ≡ backslash → slice_index bytes (at + 1) ≡ line_feed

-- the quote is such a offset
quote_stops : (bytes : List ℕ) (quote at : ℕ) → (quote ≡ backslash → ⊥) → slice_index bytes at ≡ quote → IsStop bytes quote at
quote_stops bytes quote at odd e = record { no_plain = λ p. p.no_quote e; no_escape = λ b. absurd (odd (cc)) }

-- and so is the end of the line
pub feed_stops : (bytes : List ℕ) (quote at : ℕ) → slice_index bytes at ≡ line_feed → IsStop bytes quote at
feed_stops bytes quote at e = record { no_plain = λ p. p.no_feed e; no_escape = λ b. omega arith }

-- and so is a backslash at the end of the line
pub backslash_stops : (bytes : List ℕ) (quote at : ℕ) → slice_index bytes at ≡ backslash → slice_index bytes (at + 1) ≡ line_feed → IsStop bytes quote at
backslash_stops bytes quote at b e = record { no_plain = λ p. p.no_backslash b; no_escape = λ _. e }

-- from there no characters go on
characters_stop : (bytes : List ℕ) (quote from to : ℕ) → IsStop bytes quote from → AreCharacters bytes quote from to → from ≡ to
characters_stop bytes quote from to s none = refl
characters_stop bytes quote from to s (plain p h) = absurd (s.no_plain p)
characters_stop bytes quote from to s (escaped b f h) = absurd (f (s.no_escape b))

-- characters come to one such offset
characters_stop_once : (bytes : List ℕ) (quote from p q : ℕ) → AreCharacters bytes quote from p → AreCharacters bytes quote from q → IsStop bytes quote p → IsStop bytes quote q → p ≡ q
characters_stop_once bytes quote from p q h k s t =
    elim (characters_compare bytes quote from p q h k) [
      | inl r ↦ characters_stop bytes quote p q s r
      | inr r ↦ sym (characters_stop bytes quote q p t r)
    ]

-- characters come to one quote
characters_once : (bytes : List ℕ) (quote from p q : ℕ) → (quote ≡ backslash → ⊥) → AreCharacters bytes quote from p → AreCharacters bytes quote from q → slice_index bytes p ≡ quote → slice_index bytes q ≡ quote → p ≡ q
characters_once bytes quote from p q odd h k s t =
    characters_stop_once bytes quote from p q h k (quote_stops bytes quote p odd s) (quote_stops bytes quote q odd t)

-- the quotes at a offset are closed at one offset
pub quoted_once : (bytes : List ℕ) (quote opening p q : ℕ) → (quote ≡ backslash → ⊥) → IsQuoted bytes quote opening p → IsQuoted bytes quote opening q → p ≡ q
quoted_once bytes quote opening p q odd h k =
    characters_once bytes quote (opening + 1) p q odd h.characters k.characters h.closes k.closes

-- quotes with characters between them stand on one line
pub quoted_on_one_line : (bytes : List ℕ) (quote opening closing : ℕ) → (quote ≡ line_feed → ⊥) → IsQuoted bytes quote opening closing → OnOneLine bytes opening (closing + 1)
quoted_on_one_line bytes quote opening closing no_feed q =
    one_line_joined bytes opening (opening + 1) (closing + 1) (byte_on_one_line bytes opening (λ e. no_feed (sym q.opens ∙ e)))
    (one_line_joined bytes (opening + 1) closing (closing + 1)
    (characters_on_one_line bytes quote (opening + 1) closing q.characters) (byte_on_one_line bytes closing (λ e. no_feed (sym q.closes ∙ e))))

-- the closing quote stands behind all characters after the opening one
pub closing_behind : (bytes : List ℕ) (quote opening closing at : ℕ) → (quote ≡ backslash → ⊥) → IsQuoted bytes quote opening closing → AreCharacters bytes quote (opening + 1) at → at ≤ closing
closing_behind bytes quote opening closing at odd q h =
    elim (characters_compare bytes quote (opening + 1) at closing h q.characters) [
      | inl r ↦ characters_forward bytes quote at closing r
      | inr r ↦ let same = characters_stop bytes quote closing at (quote_stops bytes quote closing odd q.closes) r in omega arith
    ]

-- no quote closes where the characters stop at another byte
pub never_closed : (bytes : List ℕ) (quote opening closing at : ℕ) → (quote ≡ backslash → ⊥) → AreCharacters bytes quote (opening + 1) at → IsStop bytes quote at → (slice_index bytes at ≡ quote → ⊥) → IsQuoted bytes quote opening closing → ⊥
never_closed bytes quote opening closing at odd h s other q =
    let same = characters_stop_once bytes quote (opening + 1) at closing h q.characters s (quote_stops bytes quote closing odd q.closes) in
    other (rw same q.closes)

-- ---- Prefixes

-- `L`, `u` and `U` stand before both kinds of quotes
pub one_byte_prefix : (text : List ℕ) → length text ≡ 1 → (slice_index text 0 ≡ 76) ⊎ (slice_index text 0 ≡ 117) ⊎ (slice_index text 0 ≡ 85) → Contains char_prefixes text × Contains text_prefixes text
one_byte_prefix [] l w = absurd (omega arith)
one_byte_prefix (byte ∷ []) l (inl e) = let same = ap (λ (b : ℕ). b ∷ []) (sym e) in ((1, omega arith, same), (4, omega arith, same))
one_byte_prefix (byte ∷ []) l (inr (inl e)) = let same = ap (λ (b : ℕ). b ∷ []) (sym e) in ((2, omega arith, same), (2, omega arith, same))
one_byte_prefix (byte ∷ []) l (inr (inr e)) = let same = ap (λ (b : ℕ). b ∷ []) (sym e) in ((3, omega arith, same), (3, omega arith, same))
one_byte_prefix (byte ∷ (next ∷ rest)) l w = absurd (omega arith)

-- what a prefix looks like
pub record IsPrefix (text : List ℕ) : Type 0 where
  pub short : length text ≤ 2
  pub first : 0 < length text → IsLetter (slice_index text 0)
  pub each : (i : ℕ) → i < length text → IsWordByte (slice_index text i)

-- whether a text is empty, or a name of at most two bytes
abbrev is_prefix : List ℕ → Bool
is_prefix text = nat_le (length text) 2 && (nat_le (length text) 0 || is_name text)

-- what passes the test looks as a prefix does
prefix_is : (text : List ℕ) → is_prefix text ≡ true → IsPrefix text
prefix_is text h =
    let p = and_parts (nat_le (length text) 2) (nat_le (length text) 0 || is_name text) h in
    let name : 0 < length text → IsName text = λ some. let no : nat_le (length text) 0 ≡ false = grind (arith, nat_tests) in name_is text (rw no at p.1) in
    record {
      short = leb-true (length text) 2 p.0;
      first = λ some. (name some).first;
      each = λ i l. (name (omega arith)).each i l;
    }

-- ---- Literals

-- the quote of a literal, and what its prefixes look like
pub record IsForm (prefixes : List (List ℕ)) (quote : ℕ) : Type 0 where
  pub prefix : (text : List ℕ) → Contains prefixes text → IsPrefix text
  pub quote_is : (quote ≡ single_quote) ⊎ (quote ≡ double_quote)

-- those of a character constant
pub char_form : IsForm char_prefixes single_quote
char_form = record { prefix = λ text h. prefix_is text (row_passes is_prefix char_prefixes refl text h); quote_is = inl refl }

-- and of a string literal
pub text_form : IsForm text_prefixes double_quote
text_form = record { prefix = λ text h. prefix_is text (row_passes is_prefix text_prefixes refl text h); quote_is = inr refl }

-- no quote is a backslash
pub quote_no_backslash : (quote : ℕ) → (quote ≡ single_quote) ⊎ (quote ≡ double_quote) → quote ≡ backslash → ⊥
quote_no_backslash quote h e = grind arith

-- or a line feed
quote_no_feed : (quote : ℕ) → (quote ≡ single_quote) ⊎ (quote ≡ double_quote) → quote ≡ line_feed → ⊥
quote_no_feed quote h e = grind arith

-- or stands in a word
pub quote_no_word_byte : (byte : ℕ) → (byte ≡ single_quote) ⊎ (byte ≡ double_quote) → IsWordByte byte → ⊥
quote_no_word_byte byte h w = grind arith

-- no byte of a word is a line feed
word_byte_no_feed : (byte : ℕ) → IsWordByte byte → byte ≡ line_feed → ⊥
word_byte_no_feed byte w e = grind arith

-- a quote stands within the text
quote_inside : (bytes : List ℕ) (at : ℕ) → (slice_index bytes at ≡ single_quote) ⊎ (slice_index bytes at ≡ double_quote) → at < length bytes
quote_inside bytes at h = inside bytes at (grind arith)

-- what stands before the quotes of a literal: at most two bytes of a word
pub record IsPrefixed (bytes : List ℕ) (from opening : ℕ) : Type 0 where
  pub inside : opening < length bytes
  pub forward : from ≤ opening
  pub short : opening ≤ from + 2
  pub first : from < opening → IsLetter (slice_index bytes from)
  pub each : (i : ℕ) → from ≤ i → i < opening → IsWordByte (slice_index bytes i)

-- where such a prefix stands, its bytes do
prefixed : (bytes : List ℕ) (from opening : ℕ) → from ≤ opening → opening < length bytes → IsPrefix (slice_range bytes from opening) → IsPrefixed bytes from opening
prefixed bytes from opening h l p =
    let long = part_length bytes from opening (omega arith) in
    record {
      inside = l;
      forward = h;
      short = omega (arith, p.short);
      first = λ a. rw (part_first bytes from opening a) at (p.first (omega arith));
      each = λ i a b. rw (part_offset bytes from opening i a b) at (p.each (i - from) (omega arith));
    }

-- the quote that opens a literal is the quote
literal_opens : (prefixes : List (List ℕ)) (quote : ℕ) (bytes : List ℕ) (from to : ℕ) → IsForm prefixes quote → (l : IsLiteral prefixes quote bytes from to) → (slice_index bytes l.opening ≡ single_quote) ⊎ (slice_index bytes l.opening ≡ double_quote)
literal_opens prefixes quote bytes from to f l = rw l.quoted.opens f.quote_is

-- before the quotes of a literal stands a prefix
pub literal_before : (prefixes : List (List ℕ)) (quote : ℕ) (bytes : List ℕ) (from to : ℕ) → IsForm prefixes quote → (l : IsLiteral prefixes quote bytes from to) → IsPrefixed bytes from l.opening
literal_before prefixes quote bytes from to f l =
    prefixed bytes from l.opening l.forward
    (quote_inside bytes l.opening (literal_opens prefixes quote bytes from to f l))
    (f.prefix (slice_range bytes from l.opening) l.prefix)

-- a quote ends it, and is not its first byte
pub record IsClosed (bytes : List ℕ) (quote from to : ℕ) : Type 0 where
  pub some : from + 1 < to
  pub last : slice_index bytes (to - 1) ≡ quote

-- a literal has two quotes, and ends with one
pub literal_last : (prefixes : List (List ℕ)) (quote : ℕ) (bytes : List ℕ) (from to : ℕ) → IsLiteral prefixes quote bytes from to → IsClosed bytes quote from to
literal_last prefixes quote bytes from to l =
    let behind = characters_forward bytes quote (l.opening + 1) l.closing l.quoted.characters in
    let same : to - 1 ≡ l.closing = let e = l.end in omega arith in
    record { some = let e = l.end in let h = l.forward in omega arith; last = rw same l.quoted.closes }

-- a literal has no line feed
pub literal_on_one_line : (prefixes : List (List ℕ)) (quote : ℕ) (bytes : List ℕ) (from to : ℕ) → IsForm prefixes quote → IsLiteral prefixes quote bytes from to → OnOneLine bytes from to
literal_on_one_line prefixes quote bytes from to f l =
    let before = literal_before prefixes quote bytes from to f l in
    let quoted = quoted_on_one_line bytes quote l.opening l.closing (quote_no_feed quote f.quote_is) l.quoted in
    one_line_joined bytes from l.opening to (λ i a b. word_byte_no_feed _ (before.each i a b)) (rw l.end quoted)

-- the quotes of a literal open behind its word bytes
literal_opening_once : (prefixes : List (List ℕ)) (quote : ℕ) (bytes : List ℕ) (from to n : ℕ) → from ≤ n → ((i : ℕ) → from ≤ i → i < n → IsWordByte (slice_index bytes i)) → (slice_index bytes n ≡ single_quote) ⊎ (slice_index bytes n ≡ double_quote) → IsForm prefixes quote → (l : IsLiteral prefixes quote bytes from to) → l.opening ≡ n
literal_opening_once prefixes quote bytes from to n h each q f l =
    elim (cases_lt l.opening n) [
      | inl a ↦ absurd (quote_no_word_byte _ (literal_opens prefixes quote bytes from to f l) (each l.opening l.forward a))
      | inr a ↦ elim (cases_lt n l.opening) [
        | inl b ↦ absurd (quote_no_word_byte _ q ((literal_before prefixes quote bytes from to f l).each n h b))
        | inr b ↦ omega arith
      ]
    ]

-- a token of such a kind is spelled as a character constant or a string literal
pub spelled_literal : (bytes : List ℕ) (from to : ℕ) (kind : Kind) → IsLiteralKind kind → Spells bytes from to kind → IsChar bytes from to ⊎ IsText bytes from to
spelled_literal bytes from to kind (inl e) s = inl (subst (Spells bytes from to) e s)
spelled_literal bytes from to kind (inr e) s = inr (subst (Spells bytes from to) e s)

-- word bytes stand from the offset to a quote
pub record Opens (bytes : List ℕ) (from opening : ℕ) : Type 0 where
  pub forward : from ≤ opening
  pub before : (i : ℕ) → from ≤ i → i < opening → IsWordByte (slice_index bytes i)
  pub quote : (slice_index bytes opening ≡ single_quote) ⊎ (slice_index bytes opening ≡ double_quote)

-- such word bytes, from the three facts
pub opens_at : (bytes : List ℕ) (from opening : ℕ) → from ≤ opening → ((i : ℕ) → from ≤ i → i < opening → IsWordByte (slice_index bytes i)) → (slice_index bytes opening ≡ single_quote) ⊎ (slice_index bytes opening ≡ double_quote) → Opens bytes from opening
opens_at bytes from opening h b q = record { forward = h; before = b; quote = q }

-- of two quotes the one that is not `"` is `'`
pub other_quote : (byte : ℕ) → (byte ≡ single_quote) ⊎ (byte ≡ double_quote) → (byte ≡ double_quote → ⊥) → byte ≡ single_quote
other_quote byte (inl e) other = e
other_quote byte (inr e) other = absurd (other e)

-- the quote is the byte that opens
pub quoted_by_first : (bytes : List ℕ) (quote opening closing : ℕ) → IsQuoted bytes quote opening closing → IsQuoted bytes (slice_index bytes opening) opening closing
quoted_by_first bytes quote opening closing q = rw q.opens q

-- a prefix, and quotes that open at the offset, with characters between them
pub record IsOpenedAt (prefixes : List (List ℕ)) (quote : ℕ) (bytes : List ℕ) (from opening to : ℕ) : Type 0 where
  pub prefix : Contains prefixes (slice_range bytes from opening)
  pub closing : ℕ
  pub quoted : IsQuoted bytes quote opening closing
  pub end : to ≡ closing + 1

-- a literal whose quotes are known to open at the offset
pub literal_opened : (prefixes : List (List ℕ)) (quote : ℕ) (bytes : List ℕ) (from to opening : ℕ) → (l : IsLiteral prefixes quote bytes from to) → l.opening ≡ opening → IsOpenedAt prefixes quote bytes from opening to
literal_opened prefixes quote bytes from to opening l e = record { prefix = rw e at l.prefix; closing = l.closing; quoted = rw e at l.quoted; end = l.end }

-- where a `"` opens the quotes only a string literal stands
pub text_opened : (bytes : List ℕ) (from opening to : ℕ) (kind : Kind) → Opens bytes from opening → slice_index bytes opening ≡ double_quote → IsLiteralKind kind → Spells bytes from to kind → IsOpenedAt text_prefixes double_quote bytes from opening to
text_opened bytes from opening to kind o q k s =
    elim (spelled_literal bytes from to kind k s) [
      | inl char ↦
          let e = literal_opening_once char_prefixes single_quote bytes from to opening o.forward o.before o.quote char_form char.literal in
          let other = rw e at char.literal.quoted.opens in
          absurd (omega arith)
      | inr text ↦
          literal_opened text_prefixes double_quote bytes from to opening text
          (literal_opening_once text_prefixes double_quote bytes from to opening o.forward o.before o.quote text_form text)
    ]

-- where a `'` opens them only a character constant stands, with a character
pub char_opened : (bytes : List ℕ) (from opening to : ℕ) (kind : Kind) → Opens bytes from opening → slice_index bytes opening ≡ single_quote → IsLiteralKind kind → Spells bytes from to kind → IsOpenedAt char_prefixes single_quote bytes from opening to × (opening + 2 < to)
char_opened bytes from opening to kind o q k s =
    elim (spelled_literal bytes from to kind k s) [
      | inl char ↦
          let e = literal_opening_once char_prefixes single_quote bytes from to opening o.forward o.before o.quote char_form char.literal in
          let end = char.literal.end in
          let some = char.some in
          (literal_opened char_prefixes single_quote bytes from to opening char.literal e, omega arith)
      | inr text ↦
          let e = literal_opening_once text_prefixes double_quote bytes from to opening o.forward o.before o.quote text_form text in
          let other = rw e at text.quoted.opens in
          absurd (omega arith)
    ]

-- such a string literal stands there
pub text_here : (bytes : List ℕ) (from opening closing : ℕ) → Opens bytes from opening → Contains text_prefixes (slice_range bytes from opening) → IsQuoted bytes double_quote opening closing → IsText bytes from (closing + 1)
text_here bytes from opening closing o p h = record { opening = opening; closing = closing; forward = o.forward; prefix = p; quoted = h; end = refl }

-- and so does such a character constant
pub char_here : (bytes : List ℕ) (from opening closing : ℕ) → Opens bytes from opening → Contains char_prefixes (slice_range bytes from opening) → opening + 1 < closing → IsQuoted bytes single_quote opening closing → IsChar bytes from (closing + 1)
char_here bytes from opening closing o p some h = record {
  literal = record { opening = opening; closing = closing; forward = o.forward; prefix = p; quoted = h; end = refl };
  some = some;
}

-- the quotes of a literal open behind its prefix
literal_opens_at : (prefixes : List (List ℕ)) (quote : ℕ) (bytes : List ℕ) (from to : ℕ) → IsForm prefixes quote → (l : IsLiteral prefixes quote bytes from to) → Opens bytes from l.opening
literal_opens_at prefixes quote bytes from to f l =
    opens_at bytes from l.opening l.forward (literal_before prefixes quote bytes from to f l).each (literal_opens prefixes quote bytes from to f l)

-- literals from one offset end at one
pub literal_once : (bytes : List ℕ) (from p q : ℕ) (kind other : Kind) → IsLiteralKind kind → Spells bytes from p kind → IsLiteralKind other → Spells bytes from q other → p ≡ q
literal_once bytes from p q kind other is s k t =
    elim (spelled_literal bytes from p kind is s) [
      | inl char ↦
          let l = char.literal in
          let opens = literal_opens_at char_prefixes single_quote bytes from p char_form l in
          let found = (char_opened bytes from l.opening q other opens l.quoted.opens k t).0 in
          let same = quoted_once bytes single_quote l.opening l.closing found.closing (λ e. omega arith) l.quoted found.quoted in
          let end = l.end in
          let last = found.end in
          omega arith
      | inr l ↦
          let opens = literal_opens_at text_prefixes double_quote bytes from p text_form l in
          let found = text_opened bytes from l.opening q other opens l.quoted.opens k t in
          let same = quoted_once bytes double_quote l.opening l.closing found.closing (λ e. omega arith) l.quoted found.quoted in
          let end = l.end in
          let last = found.end in
          omega arith
    ]
