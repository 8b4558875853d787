use Rattle.std.proofs.Common.{rules, ◌≡◌, true, false, get_or, slice_index}
use Rattle.std.proofs.lemmas.Slice.Eq.{bytes_eq-Decides}
use Rattle.c_lexer.specs.WordTable.{slot_of}
use Rattle.c_lexer.proofs.Rows.{found, only_there, position_within, no_row}
use Rattle.c_lexer.proofs.word_table.look_up.Goals as goal

pub returns-then-eq : goal.returns-then-eq
returns-then-eq c =
    let position = slice_index c.args.positions.now (slot_of c.args.word.now) in
    found c.args.table.now c.args.word.now position no_row
    (position_within c.args.table.now c.args.positions.now (slot_of c.args.word.now) (search rules) (search rules))
    ((bytes_eq-Decides (get_or c.args.table.now position no_row).0.now c.args.word.now).0 (search rules))

pub returns-else-eq : goal.returns-else-eq
returns-else-eq c number h =
    let position = slice_index c.args.positions.now (slot_of c.args.word.now) in
    let same = only_there c.args.table.now c.args.positions.now c.args.word.now number no_row (search rules) h in
    let yes = (bytes_eq-Decides (get_or c.args.table.now position no_row).0.now c.args.word.now).1 same in
    let no : c.eq.result ≡ false = c.if-eq.false in
    let told : c.eq.result ≡ true = search (rules, yes) in
    cc
