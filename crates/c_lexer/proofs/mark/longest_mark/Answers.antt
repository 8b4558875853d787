use Rattle.std.proofs.Common.{◌+◌, rules, arith}
use Rattle.std.proofs.lemmas.Bool.{false≢true}
use Rattle.c_lexer.proofs.Finding.{Finds-at_none}
use Rattle.c_lexer.proofs.Marks.{NoneLonger, none_past_three, none_past_two, none_past_one, none_of_two, none_at_all}
use Rattle.c_lexer.proofs.mark.longest_mark.Goals as goal
use Rattle.c_lexer.proofs.mark.longest_mark.Goals.{After-mark_of-2, then-left-ge2+then-continues_mark+else-left-ge3+in_default, else-left-ge3-via-else-left-ge3, else-left-ge3-via-then-left-ge3+in-None-1, else-left-ge2, else-left-ge2-via-then-left-ge2+else-continues_mark, else-left-ge2-via-else-left-ge2}

pub returns-then-continues_mark : goal.returns-then-continues_mark
returns-then-continues_mark c = record {
  some = omega arith;
  within = omega arith;
  spelled = record { mark = c.in-Some.ensures; no_comment = c.requires.no_comment; no_hash = c.requires.no_hash };
  longest = λ number past more within h. none_past_three c.args.text.bytes.now c.args.at number past more within h.mark;
}

pub returns-in-Some-mark_of : goal.returns-in-Some-mark_of
returns-in-Some-mark_of c =
    let none : NoneLonger c.args.text.bytes.now c.args.at (c.args.at + 2) = none_past_two c.args.text.bytes.now c.args.at
    (elim c.else-left-ge3.branch [
      | else-left-ge3-via-else-left-ge3 w ↦ λ l. absurd (let few = w.if-left-ge3.false in omega arith)
      | else-left-ge3-via-then-left-ge3+in-None-1 w ↦ λ l. Finds-at_none _ w.mark_of.result (search rules) w.mark_of.ensures
    ]) in
    record {
      some = omega arith;
      within = omega arith;
      spelled = record { mark = c.in-Some-mark_of.ensures; no_comment = c.requires.no_comment; no_hash = c.requires.no_hash };
      longest = λ number past more within h. none number past more within h.mark;
    }

-- no mark is longer than one byte
none_longer : (c : After-mark_of-2) → NoneLonger c.args.text.bytes.now c.args.at (c.args.at + 1)
none_longer c = elim c.if-left-ge2.branch [
  | then-left-ge2+then-continues_mark+else-left-ge3+in_default w ↦ none_past_one c.args.text.bytes.now c.args.at
      (elim w.else-left-ge3.branch [
        | else-left-ge3-via-else-left-ge3 v ↦ λ l. absurd (let few = v.if-left-ge3.false in omega arith)
        | else-left-ge3-via-then-left-ge3+in-None-1 v ↦ λ l. Finds-at_none _ v.mark_of.result (search rules) v.mark_of.ensures
      ])
      (λ l. Finds-at_none _ w.mark_of-then-continues_mark.result (search rules) w.mark_of-then-continues_mark.ensures)
  | else-left-ge2 w ↦ elim w.else-left-ge2.branch [
    | else-left-ge2-via-then-left-ge2+else-continues_mark v ↦ none_of_two c.args.text.bytes.now c.args.at (λ s. false≢true (v.if-continues_mark.ensures.1 s))
    | else-left-ge2-via-else-left-ge2 v ↦ λ number past longer within h. let few = v.if-left-ge2.false in omega arith
  ]
]

pub returns-in-Some-mark_of-2 : goal.returns-in-Some-mark_of-2
returns-in-Some-mark_of-2 c =
    let none = none_longer (goal.at.returns-in-Some-mark_of-2 c).After-mark_of-2 in
    record {
      some = omega arith;
      within = omega arith;
      spelled = record { mark = c.in-Some-mark_of-2.ensures; no_comment = c.requires.no_comment; no_hash = c.requires.no_hash };
      longest = λ number past more within h. none number past more within h.mark;
    }

pub returns-in-None : goal.returns-in-None
returns-in-None c mark h =
    none_at_all c.args.text.bytes.now c.args.at c.in-None.ensures (none_longer (goal.at.returns-in-None c).After-mark_of-2)
    mark.number mark.end h.some h.within h.spelled.mark
