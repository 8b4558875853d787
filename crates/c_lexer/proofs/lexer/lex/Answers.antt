use Rattle.std.proofs.Common.{rules, ◌≡◌, ◌+◌, ◌∷◌, [], ℕ, length, refl, sym, subst, arith, inl, append_assoc, append-nil}
use Rattle.c_lexer.specs.Passing.{IsPassed}
use Rattle.c_lexer.specs.Reading.{IsTokenOf, LeavesOpen, StopsAt}
use Rattle.c_lexer.proofs.Comments.{passed_forward, none_passed, comment_no_token}
use Rattle.c_lexer.proofs.Finding.{byte_at, end_at}
use Rattle.c_lexer.proofs.Longest.{begins_none}
use Rattle.c_lexer.proofs.OneReading.{never_both}
use Rattle.c_lexer.proofs.Steps.{reads_passed, reads_token, reads_end, stops_at}
use Rattle.c_lexer.proofs.lexer.lex.Goals as goal

pub loop-first-preserved-then-is_blank : goal.loop-first-preserved-then-is_blank
loop-first-preserved-then-is_blank c =
    let i = c.loop-first.invariant in
    let at = c.loop-first.cursor.at in
    let here = byte_at c.args.text.bytes.now c.loop-first.cursor.at c.in-Some.first (rw i.text at (sym c.in-Some.ensures)) in
    let blank : IsPassed c.args.text.bytes.now at (at + 1) = inl (record { within = here.0; blank = rw here.1 at (c.if-is_blank.ensures.0 refl); one = refl }) in
    record {
      text = rw c.step.ensures i.text;
      inside = rw c.step.ensures (omega (arith, here.0));
      reads = λ rest stop h. i.reads rest stop (reads_passed c.args.text.bytes.now at (at + 1) rest stop blank (rw c.step.ensures at h));
    }

pub loop-first-preserved-in-Some-comment_end : goal.loop-first-preserved-in-Some-comment_end
loop-first-preserved-in-Some-comment_end c =
    let i = c.loop-first.invariant in
    let end = c.in-Some-comment_end.end in
    let comment = rw c.at-at.ensures at c.in-Some-comment_end.ensures.end in
    record {
      text = rw c.pass_to.ensures i.text;
      inside = rw c.pass_to.ensures (passed_forward _ _ _ comment).1;
      reads = λ rest stop h. i.reads rest stop (reads_passed c.args.text.bytes.now _ end rest stop comment (rw c.pass_to.ensures at h));
    }

pub loop-first-preserved : goal.loop-first-preserved
loop-first-preserved c =
    let i = c.loop-first.invariant in
    let b = c.args.text.bytes.now in
    let here = byte_at c.args.text.bytes.now c.at-at.result c.in-Some.first (rw (i.text, ← c.at-at.ensures) at (sym c.in-Some.ensures)) in
    let token = c.take.result in
    let none : (to : ℕ) → IsPassed b token.start to → ⊥ = rw (c.take.ensures.start, ← c.at-at.ensures) (none_passed b c.at-at.result (search rules) (search rules)) in
    let is : IsTokenOf b token = rw i.text at c.take.ensures.token in
    record {
      text = rw c.take.ensures.moved i.text;
      inside = rw (c.take.ensures.moved, ← c.take.ensures.end) is.longest.within;
      reads = λ rest stop h. rw (c.in_ok-push-in-Some-token_at.ensures.items, append_assoc)
          (i.reads (token ∷ rest) stop (rw (← c.take.ensures.start) (reads_token b token rest stop none is (rw (c.take.ensures.moved, ← c.take.ensures.end) at h))));
    }

pub returns-in-None-clause-unclosed : goal.returns-in-None-clause-unclosed
returns-in-None-clause-unclosed c at e =
    let i = c.loop-first.invariant in
    let begun = c.in-None.ensures in
    let here = byte_at c.args.text.bytes.now c.at-at.result c.in-Some.first (rw (i.text, ← c.at-at.ensures) at (sym c.in-Some.ensures)) in
    let same : c.at-at.result ≡ at = cc in
    let reads = rw (← c.at-at.ensures) at i.reads in
    let stops = stops_at c.args.text.bytes.now c.at-at.result _ reads (search rules) begun.end (comment_no_token _ _ (inl begun.unclosed)) in
    subst (λ n. StopsAt c.args.text.bytes.now n × LeavesOpen c.args.text.bytes.now n) same (stops, inl begun.unclosed)

pub returns-in-None-clause-accepts : goal.returns-in-None-clause-accepts
returns-in-None-clause-accepts c tokens h =
    let i = c.loop-first.invariant in
    let begun = c.in-None.ensures in
    let here = byte_at c.args.text.bytes.now c.at-at.result c.in-Some.first (rw (i.text, ← c.at-at.ensures) at (sym c.in-Some.ensures)) in
    let reads = rw (← c.at-at.ensures) at i.reads in
    absurd (never_both _ _ _ h (stops_at c.args.text.bytes.now c.at-at.result _ reads (search rules) begun.end (comment_no_token _ _ (inl begun.unclosed))))

pub returns-in-None-token_at-clause-bad_byte : goal.returns-in-None-token_at-clause-bad_byte
returns-in-None-token_at-clause-bad_byte c at e =
    let i = c.loop-first.invariant in
    let cause = c.stop_at.ensures.bad_byte at cc in
    let here = byte_at c.args.text.bytes.now c.at-at.result c.in-Some.first (rw (i.text, ← c.at-at.ensures) at (sym c.in-Some.ensures)) in
    let reads = rw (← c.at-at.ensures) at i.reads in
    let none = none_passed c.args.text.bytes.now c.at-at.result (search rules) (search rules) in
    (rw cause.0 (stops_at c.args.text.bytes.now c.at-at.result _ reads (search rules) none (begins_none _ _ c.in-None-token_at.ensures)), rw cause.0 cause.1)

pub returns-in-None-token_at-clause-unclosed : goal.returns-in-None-token_at-clause-unclosed
returns-in-None-token_at-clause-unclosed c at e =
    let i = c.loop-first.invariant in
    let cause = c.stop_at.ensures.unclosed at cc in
    let here = byte_at c.args.text.bytes.now c.at-at.result c.in-Some.first (rw (i.text, ← c.at-at.ensures) at (sym c.in-Some.ensures)) in
    let reads = rw (← c.at-at.ensures) at i.reads in
    let none = none_passed c.args.text.bytes.now c.at-at.result (search rules) (search rules) in
    (rw cause.0 (stops_at c.args.text.bytes.now c.at-at.result _ reads (search rules) none (begins_none _ _ c.in-None-token_at.ensures)), rw cause.0 cause.1)

pub returns-in-None-token_at-clause-accepts : goal.returns-in-None-token_at-clause-accepts
returns-in-None-token_at-clause-accepts c tokens h =
    let i = c.loop-first.invariant in
    let here = byte_at c.args.text.bytes.now c.at-at.result c.in-Some.first (rw (i.text, ← c.at-at.ensures) at (sym c.in-Some.ensures)) in
    let reads = rw (← c.at-at.ensures) at i.reads in
    let none = none_passed c.args.text.bytes.now c.at-at.result (search rules) (search rules) in
    absurd (never_both _ _ _ h (stops_at c.args.text.bytes.now c.at-at.result _ reads (search rules) none (begins_none _ _ c.in-None-token_at.ensures)))

-- the text was read to its end
pub returns-clause-refuses : goal.returns-clause-refuses
returns-clause-refuses c at stops =
    let i = c.loop-first.invariant in
    let past = end_at c.args.text.bytes.now c.loop-first.cursor.at (rw i.text at (sym c.in_default.ensures)) in
    let inside = i.inside in
    let end : c.loop-first.cursor.at ≡ length c.args.text.bytes.now = omega arith in
    absurd (never_both _ _ _ (rw end at (i.reads [] c.loop-first.cursor.at (reads_end _ _ end))) stops)

pub returns-clause-tokens : goal.returns-clause-tokens
returns-clause-tokens c =
    let i = c.loop-first.invariant in
    let past = end_at c.args.text.bytes.now c.loop-first.cursor.at (rw i.text at (sym c.in_default.ensures)) in
    let inside = i.inside in
    let end : c.loop-first.cursor.at ≡ length c.args.text.bytes.now = omega arith in
    rw (← append-nil c.loop-first.tokens.items) (rw end at (i.reads [] c.loop-first.cursor.at (reads_end _ _ end)))
