use Rattle.std.proofs.Common.{List, sym, ap, ◌∙◌}
use Rattle.c_lexer.specs.Lexemes.{Lexeme}
use Rattle.line_marks.specs.Kept.{items_at}
use Rattle.c_reading.specs.Cursors.{first_kind, Place}
use Rattle.c_reading.proofs.Places.{there_is, none_is}
use Rattle.c_reading.proofs.cursor.Cursor.ahead.Goals as goal

pub returns-in-Some : goal.returns-in-Some
returns-in-Some c =
    let i = c.self.inside in
    let there = there_is i.bytes.now (items_at i.tokens.now i.kept.now) i.at c.in-Some.token (sym c.in-Some.ensures) in
    sym (ap (λ (ls : List Lexeme). first_kind ls) there) ∙ ap (λ (p : Place). first_kind p.left) c.self.view_is

pub returns-in-None : goal.returns-in-None
returns-in-None c =
    let i = c.self.inside in
    let none = none_is i.bytes.now (items_at i.tokens.now i.kept.now) i.at (sym c.in-None.ensures) in
    sym (ap (λ (ls : List Lexeme). first_kind ls) none) ∙ ap (λ (p : Place). first_kind p.left) c.self.view_is
