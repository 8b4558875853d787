use Rattle.std.proofs.Common.{List, sym, ap, ◌∙◌}
use Rattle.c_lexer.specs.Lexemes.{Lexeme}
use Rattle.c_lexer.specs.Reading.{IsWithin}
use Rattle.line_marks.specs.Kept.{items_at}
use Rattle.c_reading.specs.Cursors.{first_spelling, Place}
use Rattle.c_reading.proofs.ItemsAt.{all_at}
use Rattle.c_reading.proofs.Places.{there_is, none_is}
use Rattle.c_reading.proofs.cursor.Cursor.spelling.Goals as goal

pub spelled-requires : goal.spelled-requires
spelled-requires c =
    let i = c.self.inside in
    record { within = all_at (IsWithin i.bytes.now) i.tokens.now i.kept.now i.at c.in-Some.token c.self.invariant.3 (sym c.in-Some.ensures) }

pub returns-in-Some : goal.returns-in-Some
returns-in-Some c =
    let i = c.self.inside in
    let there = there_is i.bytes.now (items_at i.tokens.now i.kept.now) i.at c.in-Some.token (sym c.in-Some.ensures) in
    c.spelled.ensures ∙ (sym (ap (λ (ls : List Lexeme). first_spelling ls) there) ∙ ap (λ (p : Place). first_spelling p.left) c.self.view_is)

pub returns-in-None : goal.returns-in-None
returns-in-None c =
    let i = c.self.inside in
    let none = none_is i.bytes.now (items_at i.tokens.now i.kept.now) i.at (sym c.in-None.ensures) in
    sym (ap (λ (ls : List Lexeme). first_spelling ls) none) ∙ ap (λ (p : Place). first_spelling p.left) c.self.view_is
