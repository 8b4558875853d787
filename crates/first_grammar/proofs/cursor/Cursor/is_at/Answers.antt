use Rattle.std.proofs.Common.{rules, ◌≡◌, ◌+◌, [], ◌∷◌, drop, subst, sym, ◌∙◌, IsTrue, ◌↔◌}
use Rattle.c_tree.specs.Fits.{kinds_of}
use Rattle.line_marks.specs.Kept.{items_at}
use Rattle.first_grammar.specs.Rest.{Rest, IsAt, numbered}
use Rattle.first_grammar.proofs.Places.{none_is, there_is}
use Rattle.first_grammar.proofs.cursor.Cursor.is_at.Goals as goal

pub returns-in-Some : goal.returns-in-Some
returns-in-Some c =
    let tokens = items_at c.self.inside.tokens.now c.self.inside.kept.now in
    let at = c.self.inside.at in
    let t = c.in-Some.token in
    let here = there_is tokens at t (sym c.in-Some.ensures) in
    let rest : Rest = drop (at + 1) (numbered 0 (kinds_of tokens)) in
    let now : c.args.self.now ≡ (at, t.kind) ∷ rest = sym c.self.view_is ∙ here in
    let same : IsTrue c.eq.result ↔ (t.kind ≡ c.args.kind) = search rules in
    ((λ h. subst (IsAt c.args.kind) (sym now) (same.0 h)), λ h. same.1 (subst (IsAt c.args.kind) now h))

pub returns-in-None : goal.returns-in-None
returns-in-None c =
    let tokens = items_at c.self.inside.tokens.now c.self.inside.kept.now in
    let none = none_is tokens c.self.inside.at (sym c.in-None.ensures) in
    let empty : c.args.self.now ≡ [] = sym c.self.view_is ∙ none in
    ((λ h. absurd (cc)), λ h. absurd (subst (IsAt c.args.kind) empty h))
