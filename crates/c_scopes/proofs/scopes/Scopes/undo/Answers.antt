-- The last step is the one that is taken back.

use Rattle.std.proofs.Common.{◌≡◌, ◌∙◌, ◌<◌, ℕ, zero, suc, false, true, arith, refl, ap, sym, [], ◌∷◌, ◌++◌}
use Rattle.std.specs.Prelude.{slice_index_or, drop}
use Rattle.c_scopes.specs.KeptScopes.{scopes_in}
use Rattle.c_scopes.proofs.Stepping.{scopes_in-opens, scopes_in-undoes, scopes_in-other_undone}
use Rattle.c_scopes.specs.Scopes.{declared, left}
use Rattle.std.proofs.lemmas.List.{append-nil, nil_from_length}
use Rattle.c_scopes.proofs.Hiding.{begun_anew}
use Rattle.c_scopes.proofs.scopes.Scopes.undo.Goals as goal

not_above : (n : ℕ) → (0 < n → false ≡ true) → n ≡ 0
not_above zero above = refl
not_above (suc n) above = let never = above (omega arith) in cc

pub returns-in-None-clause-leaves : goal.returns-in-None-clause-leaves
returns-in-None-clause-leaves c =
    let names = c.self.inside.names in
    let texts = c.self.inside.texts.items in
    let none = nil_from_length c.self.inside.steps.items (sym c.self.inside.steps.ok.0
    ∙ not_above c.self.inside.steps.len c.in-None.ensures.variant.1) in
    rw (← c.self.view_is) (ap (scopes_in names texts)
    (sym (c.in-None.ensures.items ∙ append-nil c.pop.new.self.items))
    ∙ begun_anew names texts c.self.inside.steps.items none)

pub returns-in-Some-Opens-clause-leaves : goal.returns-in-Some-Opens-clause-leaves
returns-in-Some-Opens-clause-leaves c =
    sym (ap left (sym c.self.view_is)
    ∙ ap left (ap (scopes_in c.self.inside.names c.self.inside.texts.items)
    (c.in-Some-Opens.ensures.items ∙ ap (λ s. c.pop.new.self.items ++ s ∷ []) c.in-Some-Opens.field-0-is)
    ∙ scopes_in-opens c.self.inside.names c.self.inside.texts.items c.pop.new.self.items))

pub returns-in-Some-Declares-clause-declares : goal.returns-in-Some-Declares-clause-declares
returns-in-Some-Declares-clause-declares c = (
  slice_index_or c.self.inside.names c.in-Some-Declares.name [],
  c.in-Some-Declares.field-0-1,
  sym c.self.view_is
      ∙ ap (scopes_in c.self.inside.names c.self.inside.texts.items)
      (c.in-Some-Declares.ensures.items ∙ ap (λ s. c.pop.new.self.items ++ s ∷ []) c.in-Some-Declares.field-0-is)
      ∙ scopes_in-undoes c.self.inside.names c.self.inside.texts.items c.pop.new.self.items c.in-Some-Declares.name
      c.in-Some-Declares.field-0-1 c.in-Some-Declares.was,
)

pub returns-in-Some-Others-clause-declares : goal.returns-in-Some-Others-clause-declares
returns-in-Some-Others-clause-declares c = (
  drop c.in-Some-Others.begin c.self.inside.texts.items,
  false,
  sym c.self.view_is
      ∙ ap (scopes_in c.self.inside.names c.self.inside.texts.items)
      (c.in-Some-Others.ensures.items
      ∙ ap (λ s. c.pop.new.self.items ++ s ∷ []) c.in-Some-Others.field-0-is)
      ∙ scopes_in-other_undone c.self.inside.names c.self.inside.texts.items c.pop.new.self.items
      c.in-Some-Others.begin
      ∙ ap (λ t. declared (scopes_in c.self.inside.names t c.pop.new.self.items)
      (drop c.in-Some-Others.begin c.self.inside.texts.items) false)
      (sym c.truncate.ensures.items),
)
