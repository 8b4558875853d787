use Rattle.std.proofs.Common.{rules, arith}
use Rattle.std.proofs.lemmas.Grind.{common_steps}
use Rattle.c_syntax.specs.Sets.{any_name}
use Rattle.c_specifiers.proofs.NamesAreRead.{word_taken, word_halted}
use Rattle.c_specifiers.proofs.steps.expect_word.Goals as goal

pub returns-in_err-token : goal.returns-in_err-token
returns-in_err-token c =
    let h = word_halted any_name c.args.room c.args.source.now.cursor c.args.source.now.scopes _ c.in_err-token.ensures in
    first_of (search rules, grind (arith, common_steps))

pub returns : goal.returns
returns c = word_taken any_name c.args.room c.args.source.now.cursor c.args.source.now.scopes _ _ _ c.spelling-bytes.ensures c.in_ok-token.ensures
