use Rattle.std.proofs.Common.{◌≡◌, ℕ, ◌+◌, Bool, false, List, [], ◌∷◌, drop, Some, None, sym, ap, ◌∙◌, arith}
use Rattle.c_lexer.specs.declared.token.Token.{Token}
use Rattle.line_marks.specs.Kept.{items_at}
use Rattle.line_marks.proofs.ItemsAt.{length-items_at}
use Rattle.c_unit.specs.declared.beginning.Seen.{Seen}
use Rattle.c_unit.specs.declared.beginning.Seen.TheVariants.{Open}
use Rattle.c_unit.specs.Beginnings as spec
use Rattle.c_unit.proofs.Replaying.{drop_some, drop_none, drop_past}
use Rattle.c_unit.proofs.beginning.is_definition_at.Goals as goal

pub returns-in_default : goal.returns-in_default
returns-in_default c =
    let i = c.loop-number in
    sym (i.invariant.told ∙ ap (λ (ts : List Token). spec.tells (Open i.depth i.closed) ts) (drop_none (items_at c.args.tokens.now c.args.kept.now) i.number (sym c.in_default.ensures)))

pub returns-in-Told : goal.returns-in-Told
returns-in-Told c =
    let i = c.loop-number in
    let items = items_at c.args.tokens.now c.args.kept.now in
    sym (i.invariant.told ∙ (ap (λ (ts : List Token). spec.tells (Open i.depth i.closed) ts) (drop_some items i.number c.in-Some.token (sym c.in-Some.ensures))
    ∙ ap (λ (s : Seen). spec.tells s (drop (i.number + 1) items)) (sym c.in-Told.ensures.told)))

pub loop-number-preserved : goal.loop-number-preserved
loop-number-preserved c =
    let i = c.loop-number in
    let items = items_at c.args.tokens.now c.args.kept.now in
    record {
      told = i.invariant.told ∙ (ap (λ (ts : List Token). spec.tells (Open i.depth i.closed) ts) (drop_some items i.number c.in-Some.token (sym c.in-Some.ensures))
          ∙ ap (λ (s : Seen). spec.tells s (drop (i.number + 1) items)) (sym c.in-Open.ensures.told));
      few = omega (arith, c.in-Open.ensures.shallow);
    }

pub returns : goal.returns
returns c =
    let i = c.loop-number in
    let items = items_at c.args.tokens.now c.args.kept.now in
    let many = length-items_at c.args.tokens.now c.args.kept.now c.requires.inside in
    sym (i.invariant.told ∙ ap (λ (ts : List Token). spec.tells (Open i.depth i.closed) ts) (drop_past items i.number (omega (arith, many))))
