-- Whether a literal stands between two offsets.
use Rattle.std.proofs.Common.{◌≡◌, ℕ, suc, zero, ◌+◌, ◌<◌, ◌≤◌, ◌⊎◌, List, slice_range, slice_index, refl, arith, inl, inr}
use Rattle.std.proofs.lemmas.Bool.{cases_eq}
use Rattle.c_lexer.specs.Bytes.{line_feed, backslash, single_quote, double_quote}
use Rattle.c_lexer.specs.Literals.{IsPlain, AreCharacters, none, plain, escaped, IsQuoted, char_prefixes, text_prefixes, IsLiteral, IsChar, IsText}
use Rattle.c_lexer.proofs.Decisions.{Decided, decided_by, both_or_not, either_or_not, no_or_not, most_or_not, less_or_not, some_or_not, contains_or_not}
use Rattle.c_lexer.proofs.Literals.{characters_forward, IsOpenedAt, literal_opened}

-- ---- Characters

-- a byte is plain or not
plain_or_not : (quote byte : ℕ) → Decided (IsPlain quote byte)
plain_or_not quote byte =
    decided_by _ (IsPlain quote byte)
    (λ p. record { no_feed = p.0; no_backslash = p.1.0; no_quote = p.1.1 }) (λ p. (p.no_feed, (p.no_backslash, p.no_quote)))
    (both_or_not _ _ (no_or_not _ (cases_eq byte line_feed)) (λ no_feed.
    both_or_not _ _ (no_or_not _ (cases_eq byte backslash)) (λ no_backslash.
    no_or_not _ (cases_eq byte quote))))

-- the forms of characters: none, and what begins with a plain byte or with a backslash
abbrev HasForm : List ℕ → ℕ → ℕ → ℕ → Type 0
HasForm bytes quote from to =
    (from ≡ to) ⊎ ((IsPlain quote (slice_index bytes from) × AreCharacters bytes quote (from + 1) to)
    ⊎ ((slice_index bytes from ≡ backslash) × ((slice_index bytes (from + 1) ≡ line_feed → ⊥) × AreCharacters bytes quote (from + 2) to)))

-- such a form is that of characters
of_form : (bytes : List ℕ) (quote from to : ℕ) → HasForm bytes quote from to → AreCharacters bytes quote from to
of_form bytes quote from to (inl e) = rw e none
of_form bytes quote from to (inr (inl p)) = plain p.0 p.1
of_form bytes quote from to (inr (inr e)) = escaped e.0 e.1.0 e.1.1

-- and characters have one
form_of : (bytes : List ℕ) (quote from to : ℕ) → AreCharacters bytes quote from to → HasForm bytes quote from to
form_of bytes quote from to none = inl refl
form_of bytes quote from to (plain p h) = inr (inl (p, h))
form_of bytes quote from to (escaped s f h) = inr (inr (s, (f, h)))

-- characters stand between the offsets, of which the second is at most n behind the first, or not
characters_or_not : (bytes : List ℕ) (quote n from to : ℕ) → to ≤ from + n → Decided (AreCharacters bytes quote from to)
characters_or_not bytes quote zero from to l =
    decided_by (from ≡ to) (AreCharacters bytes quote from to)
    (λ e. rw e none) (λ h. let forward = characters_forward bytes quote from to h in omega arith) (cases_eq from to)
characters_or_not bytes quote (suc n) from to l =
    decided_by (HasForm bytes quote from to) (AreCharacters bytes quote from to) (of_form bytes quote from to) (form_of bytes quote from to)
    (either_or_not _ _ (cases_eq from to)
    (either_or_not _ _ (both_or_not _ _ (plain_or_not quote (slice_index bytes from)) (λ p. characters_or_not bytes quote n (from + 1) to (omega arith)))
    (both_or_not _ _ (cases_eq (slice_index bytes from) backslash) (λ s.
    both_or_not _ _ (no_or_not _ (cases_eq (slice_index bytes (from + 1)) line_feed)) (λ f.
    characters_or_not bytes quote n (from + 2) to (omega arith))))))

-- quotes with characters between them stand at the offsets or not
pub quoted_or_not : (bytes : List ℕ) (quote opening closing : ℕ) → Decided (IsQuoted bytes quote opening closing)
quoted_or_not bytes quote opening closing =
    decided_by _ (IsQuoted bytes quote opening closing)
    (λ q. record { opens = q.0; characters = q.1.1; closes = q.1.0 }) (λ q. (q.opens, (q.closes, q.characters)))
    (both_or_not _ _ (cases_eq (slice_index bytes opening) quote) (λ opens.
    both_or_not _ _ (cases_eq (slice_index bytes closing) quote) (λ closes.
    characters_or_not bytes quote closing (opening + 1) closing (omega arith))))

-- ---- Literals

-- a literal whose quotes open at the offset or not
opened_or_not : (prefixes : List (List ℕ)) (quote : ℕ) (bytes : List ℕ) (from opening to : ℕ) → Decided (IsOpenedAt prefixes quote bytes from opening to)
opened_or_not prefixes quote bytes from opening zero = inr (λ o. let end = o.end in omega arith)
opened_or_not prefixes quote bytes from opening (suc closing) =
    decided_by _ (IsOpenedAt prefixes quote bytes from opening (suc closing))
    (λ o. record { prefix = o.0; closing = closing; quoted = o.1; end = omega arith })
    (λ o. let end = o.end in let same : o.closing ≡ closing = omega arith in (o.prefix, rw same at o.quoted))
    (both_or_not _ _ (contains_or_not prefixes (slice_range bytes from opening)) (λ prefix. quoted_or_not bytes quote opening closing))

-- the offset where the quotes of a literal open, with more than so many bytes from there on
abbrev HasOpening : List (List ℕ) → ℕ → List ℕ → ℕ → ℕ → ℕ → Type 0
HasOpening prefixes quote bytes from to least =
    (opening : ℕ) × ((from ≤ opening) × ((opening + least < to) × IsOpenedAt prefixes quote bytes from opening to))

-- such a offset or none
opening_or_not : (prefixes : List (List ℕ)) (quote : ℕ) (bytes : List ℕ) (from to least : ℕ) → Decided (HasOpening prefixes quote bytes from to least)
opening_or_not prefixes quote bytes from to least =
    some_or_not (λ opening. (from ≤ opening) × ((opening + least < to) × IsOpenedAt prefixes quote bytes from opening to))
    (λ opening. both_or_not _ _ (most_or_not from opening) (λ forward.
    both_or_not _ _ (less_or_not (opening + least) to) (λ some.
    opened_or_not prefixes quote bytes from opening to)))
    to (λ opening o. let some = o.1.0 in omega arith)

-- it makes a literal
abbrev literal_of : (prefixes : List (List ℕ)) (quote : ℕ) (bytes : List ℕ) (from to least : ℕ) → HasOpening prefixes quote bytes from to least → IsLiteral prefixes quote bytes from to
literal_of prefixes quote bytes from to least o = let opened = o.1.1.1 in record {
  opening = o.0;
  closing = opened.closing;
  forward = o.1.0;
  prefix = opened.prefix;
  quoted = opened.quoted;
  end = opened.end;
}

-- a character constant stands between the offsets or not
pub char_or_not : (bytes : List ℕ) (from to : ℕ) → Decided (IsChar bytes from to)
char_or_not bytes from to =
    decided_by (HasOpening char_prefixes single_quote bytes from to 2) (IsChar bytes from to)
    (λ o.
    let some = o.1.1.0 in
    let end = o.1.1.1.end in
    record { literal = literal_of char_prefixes single_quote bytes from to 2 o; some = omega arith })
    (λ c.
    let l = c.literal in
    let some = c.some in
    let end = l.end in
    (l.opening, (l.forward, (omega arith, literal_opened char_prefixes single_quote bytes from to l.opening l refl))))
    (opening_or_not char_prefixes single_quote bytes from to 2)

-- a string literal does or not
pub text_or_not : (bytes : List ℕ) (from to : ℕ) → Decided (IsText bytes from to)
text_or_not bytes from to =
    decided_by (HasOpening text_prefixes double_quote bytes from to 0) (IsText bytes from to)
    (literal_of text_prefixes double_quote bytes from to 0)
    (λ l.
    let forward = characters_forward bytes double_quote (l.opening + 1) l.closing l.quoted.characters in
    let end = l.end in
    (l.opening, (l.forward, (omega arith, literal_opened text_prefixes double_quote bytes from to l.opening l refl))))
    (opening_or_not text_prefixes double_quote bytes from to 0)
