use Rattle.std.proofs.Common.{◌≡◌, ◌+◌, slice_index, arith}
use Rattle.std.proofs.lemmas.List.{get_or_past}
use Rattle.c_lexer.specs.Bytes.{line_feed}
use Rattle.c_lexer.specs.Literals.{IsPlain, none}
use Rattle.c_lexer.proofs.Literals.{characters_plain, characters_escaped, closing_behind, never_closed, feed_stops, backslash_stops, quote_no_backslash}
use Rattle.c_lexer.proofs.literal.closing_quote.Goals as goal
use Rattle.c_lexer.proofs.literal.closing_quote.Goals.{then-byte-eq92+else-at-text, else-at-text-via-then-at-text+else-text-at-eq10, else-at-text-via-else-at-text, else-byte-eq92}

pub loop-at-init : goal.loop-at-init
loop-at-init c = record { low = omega arith; high = omega arith; characters = none }

-- A line feed ends the characters.
pub returns-then-byte-eq10 : goal.returns-then-byte-eq10
returns-then-byte-eq10 c closing h =
    let quote = slice_index c.args.text.bytes.now c.args.opening in
    let odd = quote_no_backslash quote c.requires.quote in
    never_closed _ _ _ _ _ odd c.loop-at.invariant.characters (feed_stops _ quote _ c.if-byte-eq10.true) c.if-byte-quote.false h.quoted

-- So does a backslash before one.
pub returns-then-text-at-eq10 : goal.returns-then-text-at-eq10
returns-then-text-at-eq10 c closing h =
    let quote = slice_index c.args.text.bytes.now c.args.opening in
    let odd = quote_no_backslash quote c.requires.quote in
    never_closed _ _ _ _ _ odd c.loop-at.invariant.characters (backslash_stops _ quote _ c.if-byte-eq92.true c.if-text-at-eq10.true) c.if-byte-quote.false h.quoted

-- A plain byte, or a backslash and what it escapes.
pub loop-at-preserved : goal.loop-at-preserved
loop-at-preserved c =
    let quote = slice_index c.args.text.bytes.now c.args.opening in
    let h = c.loop-at.invariant.characters in
    elim c.if-byte-eq92.branch [
      | then-byte-eq92+else-at-text w ↦
          let next : c.if-byte-eq92.at + 1 ≡ c.loop-at.at + 2 = omega arith in
          let free : slice_index c.args.text.bytes.now (c.loop-at.at + 1) ≡ line_feed → ⊥ = elim w.else-at-text.branch [
            | else-at-text-via-then-at-text+else-text-at-eq10 v ↦ v.if-text-at-eq10.false
            | else-at-text-via-else-at-text v ↦ λ e. let zero = get_or_past c.args.text.bytes.now (c.loop-at.at + 1) 0 v.if-at-text.false in omega arith
          ] in
          record { low = omega arith; high = omega arith; characters = rw next (characters_escaped _ _ _ _ h w.if-byte-eq92.true free) }
      | else-byte-eq92 w ↦
          let byte : IsPlain quote (slice_index c.args.text.bytes.now c.loop-at.at) = record { no_feed = c.if-byte-eq10.false; no_backslash = w.if-byte-eq92.false; no_quote = c.if-byte-quote.false } in
          record { low = omega arith; high = omega arith; characters = rw w.at-is (characters_plain _ _ _ _ h byte) }
    ]

-- All bytes were looked at.
pub returns : goal.returns
returns c closing h =
    let quote = slice_index c.args.text.bytes.now c.args.opening in
    let odd = quote_no_backslash quote c.requires.quote in
    let behind = closing_behind _ _ _ _ _ odd h.quoted c.loop-at.invariant.characters in
    let within = h.within in
    omega arith
