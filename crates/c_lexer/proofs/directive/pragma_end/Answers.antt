use Rattle.std.proofs.Common.{◌∙◌, sym, arith}
use Rattle.std.proofs.lemmas.Slice.Eq.{bytes_eq-Decides}
use Rattle.c_lexer.proofs.Directives.{word_of_pragma}
use Rattle.c_lexer.proofs.directive.pragma_end.Goals as goal

pub returns-then-text-word-lt6 : goal.returns-then-text-word-lt6
returns-then-text-word-lt6 c to h =
    let e = c.blanks_end-word.ensures in
    let w = word_of_pragma c.args.text.bytes.now c.args.at to c.blanks_end-word.result h.1 e.forward e.blanks e.ends in
    let room = w.room in
    let within = h.0 in
    omega arith

pub returns-then-ne : goal.returns-then-ne
returns-then-ne c to h =
    let e = c.blanks_end-word.ensures in
    let w = word_of_pragma c.args.text.bytes.now c.args.at to c.blanks_end-word.result h.1 e.forward e.blanks e.ends in
    let same = w.spelled ∙ sym c.as_slice.ensures in
    let yes = (bytes_eq-Decides _ _).1 same in
    let no = rw yes at c.if-ne.ensures in
    cc
