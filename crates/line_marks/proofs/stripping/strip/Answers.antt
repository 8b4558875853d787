use Rattle.std.proofs.Common.{◌≡◌, ◌++◌, ◌∷◌, [], ℕ, List, None, sym, subst, ap, ◌∙◌}
use Rattle.std.proofs.Math.Seq.{append_snoc}
use Rattle.std.proofs.lemmas.List.{append-nil}
use Rattle.c_lexer.specs.declared.token.Token.{Token}
use Rattle.line_marks.specs.Balance.{kind_at}
use Rattle.line_marks.specs.Kept as kept
use Rattle.line_marks.specs.Kept.{AreKept, IsBadAttribute, StopsStripping, Strips}
use Rattle.line_marks.proofs.Dropping.{not_both}
use Rattle.line_marks.proofs.stripping.strip.Goals as goal

pub loop-kind-preserved : goal.loop-kind-preserved
loop-kind-preserved c = λ rest stop strips. c.loop-kind.invariant rest stop (kept.Strips.drops c.in-Drop.to c.in-Drop.ensures.2 strips)

pub loop-kind-preserved-in-Keep : goal.loop-kind-preserved-in-Keep
loop-kind-preserved-in-Keep c = λ rest stop strips.
    let at = c.loop-kind.at in
    let all = c.loop-kind.invariant (at ∷ rest) stop (kept.Strips.keeps c.in-Some.kind c.in-Keep.ensures strips) in
    let same : c.push.new.self.items ++ rest ≡ c.loop-kind.kept.items ++ at ∷ rest =
    ap (λ (xs : List ℕ). xs ++ rest) c.in_ok-push-in-Keep.ensures.items ∙ append_snoc c.loop-kind.kept.items at rest in
    subst (λ (xs : List ℕ). Strips c.args.tokens.now None 0 xs stop) (sym same) all

stops_at : (tokens : List Token) (xs : List ℕ) (at : ℕ) → IsBadAttribute tokens at → Strips tokens None 0 (xs ++ []) at → StopsStripping tokens at
stops_at tokens xs at bad strips = record { kept = xs ++ []; strips = strips; bad = bad }

pub returns-in-Refuse-clause-bad_attribute : goal.returns-in-Refuse-clause-bad_attribute
returns-in-Refuse-clause-bad_attribute c = λ at is.
    let h = stops_at c.args.tokens.now c.loop-kind.kept.items c.loop-kind.at c.in-Refuse.ensures (c.loop-kind.invariant [] c.loop-kind.at (kept.Strips.stops c.in-Refuse.ensures)) in
    let same : c.loop-kind.at ≡ at = cc is in
    subst (λ n. StopsStripping c.args.tokens.now n) same h

pub returns-in-Refuse-clause-accepts : goal.returns-in-Refuse-clause-accepts
returns-in-Refuse-clause-accepts c = λ xs h.
    absurd (not_both c.args.tokens.now xs c.loop-kind.at h
    (stops_at c.args.tokens.now c.loop-kind.kept.items c.loop-kind.at c.in-Refuse.ensures (c.loop-kind.invariant [] c.loop-kind.at (kept.Strips.stops c.in-Refuse.ensures))))

kept_to : (tokens : List Token) (xs : List ℕ) (at : ℕ) → kind_at tokens at ≡ None → Strips tokens None 0 (xs ++ []) at → AreKept tokens xs
kept_to tokens xs at end strips = record {
  stop = at;
  strips = subst (λ (ys : List ℕ). Strips tokens None 0 ys at) (append-nil xs) strips;
  end = end;
}

pub returns-clause-refuses : goal.returns-clause-refuses
returns-clause-refuses c = λ at stops.
    absurd (not_both c.args.tokens.now c.loop-kind.kept.items at
    (kept_to c.args.tokens.now c.loop-kind.kept.items c.loop-kind.at (sym c.in_default.ensures.kind)
    (c.loop-kind.invariant [] c.loop-kind.at (kept.Strips.ends (sym c.in_default.ensures.kind)))) stops)

pub returns-clause-ok : goal.returns-clause-ok
returns-clause-ok c =
    kept_to c.args.tokens.now c.loop-kind.kept.items c.loop-kind.at (sym c.in_default.ensures.kind)
    (c.loop-kind.invariant [] c.loop-kind.at (kept.Strips.ends (sym c.in_default.ensures.kind)))

pub treatment_at-requires-clause-ends : goal.treatment_at-requires-clause-ends
treatment_at-requires-clause-ends c = λ may.
    rw c.deref.ensures.value (c.in_ok-ends.ensures.known c.loop-kind.at c.in-Some.kind (sym c.in-Some.ensures.kind) may)
