use Rattle.std.proofs.Common.{◌≡◌, ◌∙◌}
use Rattle.joern_top.proofs.Presuming.{read_source_is}
use Rattle.joern_top.proofs.source.read_source.Goals as goal

pub returns-clause-ok : goal.returns-clause-ok
returns-clause-ok c =
    let text : c.deref.result.now ≡ c.args.bytes.items = cc in
    let tokens : c.deref-2.result.now ≡ c.in_ok-tokens.tokens.items = cc in
    let tokens_too : c.deref-3.result.now ≡ c.in_ok-tokens.tokens.items = cc in
    let all_tokens : c.deref-4.result.now ≡ c.in_ok-tokens.tokens.items = cc in
    let kept : c.deref-5.result.now ≡ c.in_ok-kept.kept.items = cc in
    let named : c.of.result ≡ c.args.name.now = c.of.ensures ∙ c.in_ok-name.ensures.items ∙ c.as_bytes.ensures.value in
    let whole : c.of-2.result ≡ c.args.bytes.items = c.of-2.ensures in
    let held_tokens : c.of-3.result ≡ c.in_ok-tokens.tokens.items = c.of-3.ensures in
    let held_kept : c.of-4.result ≡ c.in_ok-kept.kept.items = c.of-4.ensures in
    read_source_is _ _ _ (record {
      named = named;
      whole = whole;
      lexed = rw held_tokens (rw text at c.in_ok-tokens.ensures.ok);
      stripped = rw (held_tokens, held_kept) (rw tokens at c.in_ok-kept.ensures.ok);
      places = rw held_tokens (rw (text, tokens_too) at c.in_ok-places.ensures.ok);
      parsed = rw (held_tokens, held_kept) (rw (text, all_tokens, kept) at c.in_ok-unit.ensures.ok);
    })
