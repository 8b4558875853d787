use Rattle.std.proofs.Common.{rules, ◌≡◌, ◌↔◌, ◌+◌, ◌∷◌, [], IsTrue, length, take, get_or, refl, subst, ap, arith}
use Rattle.std.proofs.lemmas.Grind.{common_steps}
use Rattle.std.proofs.lemmas.List.{take_more}
use Rattle.c_lexer.specs.declared.token.Kind.TheVariants.{Line, Word}
use Rattle.c_lexer.specs.declared.token.Token.{Token}
use Rattle.line_marks.specs.declared.place.Presumption.{Presumption}
use Rattle.line_marks.specs.Naming.{Mentions, names_of}
use Rattle.line_marks.specs.Presumed.{AddsNames}
use Rattle.line_marks.proofs.Tokens.{line_small, marker_is, token_is}
use Rattle.line_marks.proofs.Walk.{walked_as, walked_marker, walked_none, walked_other}
use Rattle.line_marks.proofs.place.places_of.Goals as goal
use Rattle.line_marks.proofs.place.places_of.Goals.{then-eq+in_ok-presumption, else-eq}

-- What stands for a token past the end.
abbrev blank : Token
blank = record { kind = Word; start = 0; end = 0; line = 0; column = 0 }

pub loop-token-init : goal.loop-token-init
loop-token-init c =
    let bytes = c.args.text.bytes.now in
    let name = c.args.name.now in
    let names = names_of c.mention.new.self in
    let file = c.in_ok-file.file in
    let first = c.as_bytes.ensures.value in
    let mentions = subst (λ n. Mentions (names_of c.new-files.result) names n file) first c.in_ok-file.ensures in
    let added = subst (λ old. AddsNames old (name ∷ []) names) c.new-files.ensures mentions.added in
    let start : Presumption = record { file = file; from = 1; line = 1 } in
    record {
      walked = walked_as bytes name [] [] [] c.new-places.result.items names names start start
          (walked_none bytes name names file added mentions.stands) refl c.new-places.ensures.items refl refl;
      one_each = grind (arith, common_steps);
      small = omega arith;
    }

pub place_of-requires : goal.place_of-requires
place_of-requires c =
    let token = token_is c.args.text.bytes.now c.args.tokens.now c.loop-token.token-index blank c.requires.tokens c.loop-token-test.true in
    let low = line_small c.args.text.bytes.now (get_or c.args.tokens.now c.loop-token.token-index blank) token in
    omega arith

pub behind-requires-clause-line : goal.behind-requires-clause-line
behind-requires-clause-line c =
    let token = token_is c.args.text.bytes.now c.args.tokens.now c.loop-token.token-index blank c.requires.tokens c.loop-token-test.true in
    line_small c.args.text.bytes.now (get_or c.args.tokens.now c.loop-token.token-index blank) token

pub behind-requires-clause-marker : goal.behind-requires-clause-marker
behind-requires-clause-marker c =
    let t = get_or c.args.tokens.now c.loop-token.token-index blank in
    let token = token_is c.args.text.bytes.now c.args.tokens.now c.loop-token.token-index blank c.requires.tokens c.loop-token-test.true in
    let decides : IsTrue c.eq.result ↔ (t.kind ≡ Line) = search rules in
    marker_is c.args.text.bytes.now t token (decides.0 c.if-eq.true)

pub loop-token-preserved : goal.loop-token-preserved
loop-token-preserved c =
    let bytes = c.args.text.bytes.now in
    let name = c.args.name.now in
    let tokens = c.args.tokens.now in
    let i = c.loop-token.token-index in
    let t = get_or tokens i blank in
    let places = c.loop-token.places.items in
    let files = c.loop-token.files in
    let before = c.loop-token.presumption in
    let more = take_more tokens i blank c.loop-token-test.true in
    let decides : IsTrue c.eq.result ↔ (t.kind ≡ Line) = search rules in
    let grown = c.in_ok-push.ensures.items in
    let one_each : length c.push.new.self.items ≡ i + 1 = grind (arith, common_steps) in
    elim c.if-eq.branch [
      | then-eq+in_ok-presumption w ↦
          let after = w.in_ok-presumption.presumption in
          let b = w.in_ok-presumption.ensures in
          let step = walked_marker bytes name (take i tokens) places files w.behind.new.files before after t c.place_of.result
          c.loop-token.invariant.walked (decides.0 w.if-eq.true) b c.place_of.ensures.file c.place_of.ensures.line in
          let small = b.small in
          record {
            walked = walked_as bytes name _ _ _ _ _ _ after c.if-eq.presumption step more grown (ap (λ set. names_of set) w.files-is) w.presumption-is;
            one_each = one_each;
            small = rw w.presumption-is small;
          }
      | else-eq w ↦
          let other = λ (e : t.kind ≡ Line). absurd (cc (decides.1 e, w.if-eq.false)) in
          let step = walked_other bytes name (take i tokens) places (names_of files) before.file before.from before.line t c.place_of.result
          c.loop-token.invariant.walked other c.place_of.ensures.file c.place_of.ensures.line in
          record {
            walked = walked_as bytes name _ _ _ _ _ _ before c.if-eq.presumption step more grown (ap (λ set. names_of set) w.files-is) w.presumption-is;
            one_each = one_each;
            small = rw w.presumption-is c.loop-token.invariant.small;
          }
    ]
