use Rattle.std.proofs.Common.{inl}
use Rattle.c_lexer.specs.Bytes.{IsWordByte}
use Rattle.c_lexer.proofs.Parts.{begun}
use Rattle.c_lexer.proofs.Longest.{longest_prefixed, longest_name, run_name}
use Rattle.c_lexer.proofs.lexer.name_at.Goals as goal

pub returns-in-Some : goal.returns-in-Some
returns-in-Some c =
    let e = c.word_end-end.ensures in
    let some = begun IsWordByte c.args.text.bytes.now c.args.at c.word_end-end.result e.forward c.requires.inside (inl c.requires.letter) e.ends in
    longest_prefixed c.args.text.bytes.now c.args.at c.word_end-end.result c.in-Some.literal c.requires.letter some e.each e.ends c.in-Some.ensures

pub returns-in-Some-keyword_of : goal.returns-in-Some-keyword_of
returns-in-Some-keyword_of c =
    let e = c.word_end-end.ensures in
    let some = begun IsWordByte c.args.text.bytes.now c.args.at c.word_end-end.result e.forward c.requires.inside (inl c.requires.letter) e.ends in
    longest_name c.args.text.bytes.now c.args.at c.word_end-end.result _ c.requires.letter some e.within e.ends c.in_default.ensures c.in-Some-keyword_of.ensures

pub returns-in-None : goal.returns-in-None
returns-in-None c =
    let e = c.word_end-end.ensures in
    let some = begun IsWordByte c.args.text.bytes.now c.args.at c.word_end-end.result e.forward c.requires.inside (inl c.requires.letter) e.ends in
    longest_name c.args.text.bytes.now c.args.at c.word_end-end.result _ c.requires.letter some e.within e.ends c.in_default.ensures
    (record { name = run_name c.args.text.bytes.now c.args.at c.word_end-end.result some e.within c.requires.letter e.each; no_keyword = c.in-None.ensures })
