use Rattle.summary_table.proofs.Flights.{abandoned_front}
use Rattle.summary_table.proofs.tests.turn_back.Goals as goal

pub returns-clause-flow : goal.returns-clause-flow
returns-clause-flow c = (abandoned_front c.args.board.now c.abandon.new.self c.args.mirror.now c.args.flight.goal.vertex c.requires.whole c.abandon.ensures).0

pub returns-clause-front : goal.returns-clause-front
returns-clause-front c = (abandoned_front c.args.board.now c.abandon.new.self c.args.mirror.now c.args.flight.goal.vertex c.requires.whole c.abandon.ensures).1
