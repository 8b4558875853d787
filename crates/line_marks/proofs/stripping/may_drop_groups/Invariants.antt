use Rattle.std.proofs.Common.{take}
use Rattle.std.specs.List.{All}
use Rattle.c_lexer.specs.declared.token.Token.{Token}
use Rattle.line_marks.specs.Stripping.{MayDropGroup}
use Rattle.line_marks.proofs.stripping.may_drop_groups.Given as goal

-- None so far may be dropped so.
abbrev pub invariant-loop-token : goal.invariant-loop-token
invariant-loop-token l = All (λ (token : Token). ¬ MayDropGroup token.kind) (take l.token-index l.tokens)
