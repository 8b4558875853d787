use Rattle.std.proofs.Common.{refl, arith, inl, inr}
use Rattle.c_lexer.proofs.Literals.{opens_at, other_quote, quoted_by_first, text_opened, char_opened, text_here, char_here, quoted_once, characters_forward}
use Rattle.c_lexer.proofs.literal.literal_at.Goals as goal

-- No string literal has this prefix.
pub returns-then-not-is_text_prefix : goal.returns-then-not-is_text_prefix
returns-then-not-is_text_prefix c literal h =
    let o = opens_at c.args.text.bytes.now _ _ c.requires.forward c.requires.before c.requires.quote in
    let found = text_opened _ _ _ _ _ o c.if-text-opening-eq34.true h.is h.spelled in
    let yes = c.if-not-is_text_prefix.ensures.1 found.prefix in
    cc

-- Its quotes are not closed.
pub returns-in_err-closing : goal.returns-in_err-closing
returns-in_err-closing c = rw c.from_residual.ensures (λ literal h.
    let o = opens_at c.args.text.bytes.now _ _ c.requires.forward c.requires.before c.requires.quote in
    let found = text_opened _ _ _ _ _ o c.if-text-opening-eq34.true h.is h.spelled in
    let end = found.end in
    let within = h.within in
    c.in_err-closing.ensures found.closing (record { within = omega arith; quoted = quoted_by_first _ _ _ _ found.quoted }))

pub returns-then-text-opening-eq34 : goal.returns-then-text-opening-eq34
returns-then-text-opening-eq34 c =
    let o = opens_at c.args.text.bytes.now _ _ c.requires.forward c.requires.before c.requires.quote in
    let told = c.in_ok-closing.ensures in
    let within = told.within in
    record {
      is = inr refl;
      within = omega arith;
      spelled = text_here _ _ _ _ o (c.if-not-is_text_prefix.ensures.0 refl) (rw c.if-text-opening-eq34.true at told.quoted);
    }

-- No character constant has this prefix.
pub returns-then-not-is_char_prefix : goal.returns-then-not-is_char_prefix
returns-then-not-is_char_prefix c literal h =
    let o = opens_at c.args.text.bytes.now _ _ c.requires.forward c.requires.before c.requires.quote in
    let quote = other_quote _ c.requires.quote c.if-text-opening-eq34.false in
    let found = (char_opened _ _ _ _ _ o quote h.is h.spelled).0 in
    let yes = c.if-not-is_char_prefix.ensures.1 found.prefix in
    cc

-- Its quotes are not closed.
pub returns-in_err-closing-2 : goal.returns-in_err-closing-2
returns-in_err-closing-2 c = rw c.from_residual-in_err-closing-2.ensures (λ literal h.
    let o = opens_at c.args.text.bytes.now _ _ c.requires.forward c.requires.before c.requires.quote in
    let quote = other_quote _ c.requires.quote c.if-text-opening-eq34.false in
    let found = (char_opened _ _ _ _ _ o quote h.is h.spelled).0 in
    let end = found.end in
    let within = h.within in
    c.in_err-closing-2.ensures found.closing (record { within = omega arith; quoted = quoted_by_first _ _ _ _ found.quoted }))

-- Nothing stands between its quotes.
pub returns-then-closing-opening : goal.returns-then-closing-opening
returns-then-closing-opening c literal h =
    let o = opens_at c.args.text.bytes.now _ _ c.requires.forward c.requires.before c.requires.quote in
    let quote = other_quote _ c.requires.quote c.if-text-opening-eq34.false in
    let found = char_opened _ _ _ _ _ o quote h.is h.spelled in
    let quoted = rw quote at c.in_ok-closing-2.ensures.quoted in
    let same = quoted_once _ _ _ _ _ (λ e. omega arith) quoted found.0.quoted in
    let end = found.0.end in
    let some = found.1 in
    omega arith

pub returns : goal.returns
returns c =
    let o = opens_at c.args.text.bytes.now _ _ c.requires.forward c.requires.before c.requires.quote in
    let quote = other_quote _ c.requires.quote c.if-text-opening-eq34.false in
    let told = c.in_ok-closing-2.ensures in
    let within = told.within in
    let behind = characters_forward _ _ _ _ told.quoted.characters in
    let other = c.if-closing-opening.false in
    record {
      is = inl refl;
      within = omega arith;
      spelled = char_here _ _ _ _ o (c.if-not-is_char_prefix.ensures.0 refl) (omega arith) (rw quote at told.quoted);
    }
