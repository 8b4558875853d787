use Rattle.std.proofs.Common.{refl, arith}
use Rattle.c_lexer.proofs.Lines.{inside}
use Rattle.c_lexer.proofs.Literals.{characters_forward}
use Rattle.c_lexer.proofs.Directives.{named_file, named_part, quote_at_gap, no_gap}
use Rattle.c_lexer.proofs.marker.file_part.Goals as goal
use Rattle.c_lexer.proofs.marker.file_part.Goals.{in_default-via-in-Some+then-opening-text+else-text-opening-eq34, in_default-via-in-Some+else-opening-text, in_default-via-in_default}

-- The name begins behind its quote.
pub slice_bounds-result-count : goal.slice_bounds-result-count
slice_bounds-result-count c = let behind = characters_forward _ _ _ _ c.in_ok-closing-in-Some.ensures.quoted.characters in omega arith

pub slice_bounds-result-start : goal.slice_bounds-result-start
slice_bounds-result-start c = let behind = characters_forward _ _ _ _ c.in_ok-closing-in-Some.ensures.quoted.characters in omega arith

pub returns-in_err-closing-in-Some : goal.returns-in_err-closing-in-Some
returns-in_err-closing-in-Some c = rw c.from_residual.ensures (λ found h.
    let n = named_file c.args.text.bytes.now c.args.from c.in-Some.opening found c.in-Some.ensures c.if-text-opening-eq34.true h in
    c.in_err-closing-in-Some.ensures n.closing (record { within = n.within; quoted = n.quoted }))

pub returns-in_ok-closing-in-Some : goal.returns-in_ok-closing-in-Some
returns-in_ok-closing-in-Some c =
    let closing = c.in_ok-closing-in-Some.ensures in
    let within = closing.within in
    record {
      within = omega arith;
      part = named_part c.args.text.bytes.now c.args.from c.in-Some.opening c.in_ok-closing-in-Some.closing c.in-Some.ensures c.if-text-opening-eq34.true closing.quoted;
      none = λ e. cc;
    }

pub returns-in_default : goal.returns-in_default
returns-in_default c =
    let bytes = c.args.text.bytes.now in
    let from = c.args.from in
    record {
      within = c.requires.inside;
      part = refl;
      none = λ e name. elim c.in_default.branch [
        | in_default-via-in-Some+then-opening-text+else-text-opening-eq34 w ↦
            w.if-text-opening-eq34.false (quote_at_gap bytes from w.in-Some.opening name.opening w.in-Some.ensures name.gap name.quote).0
        | in_default-via-in-Some+else-opening-text w ↦
            let at = (quote_at_gap bytes from w.in-Some.opening name.opening w.in-Some.ensures name.gap name.quote).1 in
            omega arith
        | in_default-via-in_default w ↦
            let quote = name.quote in
            let at = inside bytes name.opening (omega arith) in
            no_gap bytes from w.in_default.ensures name.opening (omega arith) name.gap
      ];
    }
