use Rattle.std.proofs.Common.{◌+◌, ◌-◌, ◌∙◌, sym, subst, arith}
use Rattle.c_lexer.specs.Lines.{OnOneLine}
use Rattle.c_lexer.specs.Reading.{IsLongest, IsTokenOf}
use Rattle.c_lexer.specs.Scanning.{Point}
use Rattle.c_lexer.specs.declared.token.Token.{Token}
use Rattle.c_lexer.proofs.Lines.{one_line_joined}
use Rattle.c_lexer.proofs.Longest.{longest_on_one_line}
use Rattle.c_lexer.proofs.Offsets.{line_stays, column_of}
use Rattle.c_lexer.proofs.cursor.Cursor.take.Goals as goal

pub invariant_of-self : goal.invariant_of-self
invariant_of-self c =
    let i = c.self.invariant in
    let s = c.self.inside in
    let t : IsLongest s.text.bytes.now s.at c.args.end c.args.kind = rw (← c.self.view_is) at c.requires in
    let none : OnOneLine s.text.bytes.now s.at c.args.end = longest_on_one_line _ _ _ _ t in
    let low = t.some in
    (t.within, i.1 ∙ sym (line_stays _ _ _ (omega arith) t.within none), omega arith, omega arith, one_line_joined _ _ s.at _ i.4 none, i.5)

pub returns-clause-token : goal.returns-clause-token
returns-clause-token c =
    let i = c.self.invariant in
    let s = c.self.inside in
    let t : IsLongest s.text.bytes.now s.at c.args.end c.args.kind = rw (← c.self.view_is) at c.requires in
    let token : Token = record { kind = c.args.kind; start = s.at; end = c.args.end; line = s.line; column = s.at - s.line_start + 1 } in
    let is : IsTokenOf s.text.bytes.now token = record { longest = t; line = i.1; column = sym (column_of s.text.bytes.now s.line_start s.at i.3 i.0 i.4 i.5) } in
    subst (λ (p : Point). IsTokenOf p.bytes token) c.self.view_is is
