use Rattle.c_lexer.proofs.Directives.{marker_gap, marker_tail, marker_rest, marker_end, no_gap, file_at}
use Rattle.c_lexer.proofs.marker.marker_at.Goals as goal

pub returns-in_err-number : goal.returns-in_err-number
returns-in_err-number c = rw c.from_residual.ensures (λ found m.
    let gap = marker_gap c.args.text.bytes.now c.args.at _ _ _ m.marker in
    no_gap c.args.text.bytes.now _ c.in_err-number.ensures gap.0 gap.1 gap.2)

pub returns-in_err-line : goal.returns-in_err-line
returns-in_err-line c = rw c.from_residual-in_err-line.ensures (λ found m.
    let tail = marker_tail c.args.text.bytes.now c.args.at c.in_ok-number.number _ _ _ m.marker c.in_ok-number.ensures in
    c.in_err-line.ensures (record { line = found.marker.line; end = tail.past })
    (record { within = tail.within; ends = λ l. tail.ends; number = tail.line_number }))

pub returns-in_err-file : goal.returns-in_err-file
returns-in_err-file c = rw c.from_residual-in_err-file.ensures (λ found m.
    let tail = marker_tail c.args.text.bytes.now c.args.at c.in_ok-number.number _ _ _ m.marker c.in_ok-number.ensures in
    let line = c.in_ok-line.ensures in
    let rest = marker_rest c.args.text.bytes.now c.in_ok-number.number _ _ _ _ _ tail line.number line.ends in
    c.in_err-file.ensures (record { name = found.marker.file; end = rest.0 })
    (file_at c.args.text.bytes.now _ rest.0 found.end found.marker.file rest.1))

pub returns-then-not-ends_line : goal.returns-then-not-ends_line
returns-then-not-ends_line c found m =
    let tail = marker_tail c.args.text.bytes.now c.args.at c.in_ok-number.number _ _ _ m.marker c.in_ok-number.ensures in
    let line = c.in_ok-line.ensures in
    let rest = marker_rest c.args.text.bytes.now c.in_ok-number.number _ _ _ _ _ tail line.number line.ends in
    let flags = c.flags_end-end.ensures in
    let end = marker_end c.args.text.bytes.now _ rest.0 found.end c.flags_end-end.result _ c.in_ok-file.file rest.1 c.in_ok-file.ensures flags.flags flags.ends in
    let told = c.if-not-ends_line.ensures.1 end in
    cc
