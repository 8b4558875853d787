use Rattle.std.proofs.Common.{◌≡◌, ◌-◌, Ok}
use Rattle.reading.specs.Readers.{go_on}
use Rattle.c_syntax.specs.Scoping.{input_from, terminal_of}
use Rattle.c_unit.specs.Beginnings.{is_definition_at}
use Rattle.c_unit.specs.Replays.{replays}
use Rattle.c_unit.specs.Texts.{beginning_of}
use Rattle.c_unit.specs.UnitSets.{begins_external}
use Rattle.c_unit.specs.UnitReaders as read
use Rattle.c_unit.proofs.external.Grammar.all_items.Given as goal

abbrev pub invariant-loop-turn : goal.invariant-loop-turn
invariant-loop-turn g l = record {
  all : read.all_items (g.B.Below.readers l.self.below) (g.B.Heads.heads l.self.below) l.self.room (is_definition_at l.self.text.tokens.now l.self.text.kept.now)
      (beginning_of l.self.text.bytes.now l.self.text.tokens.now l.self.text.kept.now)
      ≡ go_on terminal_of begins_external (read.more_items (g.B.Below.readers l.self.below) (g.B.Heads.heads l.self.below) l.self.room (is_definition_at l.self.text.tokens.now l.self.text.kept.now))
      (l._turn-end - l._turn) l.list (input_from l.source);
  replayed : replays (g.B.Below.readers l.self.below) (g.B.Heads.heads l.self.below) l.self.room l.definitions.items
      (beginning_of l.self.text.bytes.now l.self.text.tokens.now l.self.text.kept.now) ≡ Ok (tt, input_from l.source);
}
