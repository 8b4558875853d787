use Rattle.std.proofs.Common.{sym, ◌∙◌}
use Rattle.std.proofs.lemmas.Bool.{true≢false}
use Rattle.c_lexer.specs.declared.token.Kind.TheVariants.{Word}
use Rattle.std.proofs.lemmas.List.Elements.{All-more}
use Rattle.c_lexer.specs.declared.token.Token.{Token}
use Rattle.line_marks.specs.Stripping.{MayDropGroup}
use Rattle.line_marks.proofs.stripping.may_drop_groups.Goals as goal

-- Any token.
abbrev none : Token
none = record { kind = Word; start = 0; end = 0; line = 0; column = 0 }

pub loop-token-preserved : goal.loop-token-preserved
loop-token-preserved c =
    All-more (λ (token : Token). ¬ MayDropGroup token.kind) c.args.tokens.now c.loop-token.token-index none
    c.loop-token-test.true c.loop-token.invariant (λ may. true≢false (sym (c.may_drop_group.ensures.1 may) ∙ c.if-may_drop_group.false))
