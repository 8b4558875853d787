use Rattle.std.proofs.Common.{◌≡◌, ◌+◌, ◌∙◌, arith}
use Rattle.c_tree.specs.Spell.{unit_spelling}
use Rattle.c_tree.proofs.Fitting.{length_fit, fits_at}
use Rattle.c_tree.proofs.laws.law_symbol_i_has_token_i.Goals as goal

pub returns-clause-as_many : goal.returns-clause-as_many
returns-clause-as_many c = λ unit kinds h. length_fit 0 (unit_spelling unit) kinds h

pub returns-clause-each : goal.returns-clause-each
returns-clause-each c = λ unit kinds h i symbol kind s k.
    let here = fits_at 0 (unit_spelling unit) kinds h i symbol kind s k in
    let place : 0 + i ≡ i = omega arith in
    (here.0 ∙ place, here.1)
