use Rattle.std.proofs.Common.{◌≡◌, drop}
use Rattle.c_syntax.specs.Scoping.{input_from}
use Rattle.c_unit.specs.Replays.{replays}
use Rattle.c_unit.specs.Texts.{beginning_of}
use Rattle.c_unit.proofs.external.Grammar.replayed.Given as goal

abbrev pub invariant-loop-definition : goal.invariant-loop-definition
invariant-loop-definition g l =
    replays (g.B.Below.readers l.self.below) (g.B.Heads.heads l.self.below) l.self.room l.definitions
    (beginning_of l.self.text.bytes.now l.self.text.tokens.now l.self.text.kept.now)
    ≡ replays (g.B.Below.readers l.self.below) (g.B.Heads.heads l.self.below) l.self.room (drop l.definition-index l.definitions) (input_from l.source)
