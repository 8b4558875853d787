use Rattle.std.proofs.Common.{rules, ◌↔◌, IsTrue, ◌≡◌, ℕ, List, Some, None, Option, sym, arith}
use Rattle.c_lexer.specs.Finds.{Finds}
use Rattle.c_lexer.specs.declared.token.Kind.TheVariants.{Mark}
use Rattle.c_lexer.specs.declared.token.Token.{Token}
use Rattle.line_marks.specs.Balance.{IsGroup, kind_at}
use Rattle.line_marks.specs.Kept.{AreParens, IsAbsent}
use Rattle.line_marks.specs.Kept as kept
use Rattle.line_marks.proofs.Dropping.{parens_here, parens_later}
use Rattle.line_marks.proofs.stripping.parens_end.Goals as goal

ends_so : (tokens : List Token) (from at : ℕ) (r : Option ℕ) → kind_at tokens at ≡ Some (Mark 2) →
    ((to : ℕ) → AreParens tokens at to → AreParens tokens from to) → ((to : ℕ) → AreParens tokens from to → AreParens tokens at to) →
    Finds (IsGroup tokens at) r → Finds (AreParens tokens from) r
ends_so tokens from at None is found none h = λ to p. h to (parens_here tokens at to is (none to p))
ends_so tokens from at (Some to) is found none h = found to (kept.AreParens.parens is h)

pub returns-then-eq-clause-parens : goal.returns-then-eq-clause-parens
returns-then-eq-clause-parens c =
    let decides : IsTrue c.eq.result ↔ (c.in-Some.kind ≡ Mark 2) = search rules in
    let same = decides.0 c.if-eq.true in
    ends_so c.args.tokens.now c.args.from c.loop-kind.at c.group_from.result (cc (c.in-Some.ensures.kind, same))
    c.loop-kind.invariant.found c.loop-kind.invariant.none c.group_from.ensures.group

pub loop-kind-preserved : goal.loop-kind-preserved
loop-kind-preserved c =
    let is = sym c.in-Some.ensures.kind in
    let gone : IsAbsent c.in-Some.kind = c.is_absent.ensures.0 c.if-not-is_absent.false in
    record {
      low = omega arith;
      found = λ to p. c.loop-kind.invariant.found to (kept.AreParens.absent c.in-Some.kind is gone p);
      none = λ to p. parens_later c.args.tokens.now c.loop-kind.at to c.in-Some.kind is gone (c.loop-kind.invariant.none to p);
    }
