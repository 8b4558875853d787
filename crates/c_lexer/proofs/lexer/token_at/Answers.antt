use Rattle.std.proofs.Common.{rules, ◌<◌, arith}
use Rattle.c_lexer.proofs.Longest.{longest_number, quoted_token, signed_token, BeginsMark, at_mark, begins_no_mark}
use Rattle.c_lexer.proofs.lexer.token_at.Goals as goal

pub returns-then-begins_number : goal.returns-then-begins_number
returns-then-begins_number c =
    let e = c.number_end.ensures in
    longest_number c.args.text.bytes.now c.args.at c.number_end.result (search rules) e.some e.within e.number e.longest

pub returns-in-34 : goal.returns-in-34
returns-in-34 c = quoted_token c.args.text.bytes.now c.args.at c.literal_at.result (search rules) c.literal_at.ensures

pub returns-in-35 : goal.returns-in-35
returns-in-35 c = signed_token c.args.text.bytes.now c.args.at c.directive_at.result (search rules) c.directive_at.ensures

pub returns-in-Some : goal.returns-in-Some
returns-in-Some c =
    let here : BeginsMark c.args.text.bytes.now c.args.at = record {
      no_letter = search rules;
      no_number = search rules;
      no_single = search rules;
      no_double = search rules;
      no_sign = search rules;
    } in
    let e = c.in-Some.ensures in
    record {
      some = e.some;
      within = e.within;
      spelled = e.spelled;
      longest = λ kind past h w s.
          let some = e.some in
          let l : c.args.at < past = omega arith in
          let mark = at_mark c.args.text.bytes.now c.args.at here kind past l w s in
          e.longest mark.0 past h w mark.1;
    }

pub returns-in-None : goal.returns-in-None
returns-in-None c =
    let here : BeginsMark c.args.text.bytes.now c.args.at = record {
      no_letter = search rules;
      no_number = search rules;
      no_single = search rules;
      no_double = search rules;
      no_sign = search rules;
    } in
    λ token h.
    let mark = at_mark c.args.text.bytes.now c.args.at here token.kind token.end h.some h.within h.spelled in
    begins_no_mark c.args.text.bytes.now c.args.at c.in-None.ensures mark.0 token.end h.some h.within mark.1
