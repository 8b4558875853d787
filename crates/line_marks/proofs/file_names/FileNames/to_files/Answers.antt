use Rattle.std.proofs.lemmas.List.{take_more}
use Rattle.std.proofs.lemmas.Option.{get_or_from_slice_get, slice_get_within}
use Rattle.line_marks.proofs.file_names.FileNames.to_files.Goals as goal

pub loop-number-preserved : goal.loop-number-preserved
loop-number-preserved c =
    let names = c.args.self.now.names in
    let n = c.loop-number.number in
    let name = c.text.result.now in
    let here = get_or_from_slice_get names n name name c.text.ensures in
    let more = take_more names n name (slice_get_within names n name c.text.ensures) in
    let items = c.in_ok-name.ensures.items in
    let bytes = c.of.ensures in
    let pushed = c.in_ok-push.ensures.ok in
    let before = c.loop-number.invariant in
    cc (here, more, items, bytes, pushed, before)
