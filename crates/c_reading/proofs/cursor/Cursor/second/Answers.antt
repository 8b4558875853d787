use Rattle.std.proofs.Common.{◌≡◌, ℕ, ◌+◌, List, drop, sym, ap, ◌∙◌}
use Rattle.std.proofs.lemmas.List.{drop-drop}
use Rattle.c_lexer.specs.Lexemes.{Lexeme}
use Rattle.line_marks.specs.Kept.{items_at}
use Rattle.c_reading.specs.Kept.{kept_lexemes}
use Rattle.c_reading.specs.Cursors.{first_kind, Place}
use Rattle.c_reading.proofs.Places.{there_is, none_is}
use Rattle.c_reading.proofs.cursor.Cursor.second.Goals as goal

pub returns-in-Some : goal.returns-in-Some
returns-in-Some c =
    let i = c.self.inside in
    let there = there_is i.bytes.now (items_at i.tokens.now i.kept.now) (i.at + 1) c.in-Some.token (sym c.in-Some.ensures) in
    let later = drop-drop 1 i.at (kept_lexemes i.bytes.now i.tokens.now i.kept.now) in
    sym (ap (λ (ls : List Lexeme). first_kind ls) there) ∙ ap (λ (ls : List Lexeme). first_kind ls) (sym later) ∙ ap (λ (p : Place). first_kind (drop 1 p.left)) c.self.view_is

pub returns-in-None : goal.returns-in-None
returns-in-None c =
    let i = c.self.inside in
    let none = none_is i.bytes.now (items_at i.tokens.now i.kept.now) (i.at + 1) (sym c.in-None.ensures) in
    let later = drop-drop 1 i.at (kept_lexemes i.bytes.now i.tokens.now i.kept.now) in
    sym (ap (λ (ls : List Lexeme). first_kind ls) none) ∙ ap (λ (ls : List Lexeme). first_kind ls) (sym later) ∙ ap (λ (p : Place). first_kind (drop 1 p.left)) c.self.view_is
