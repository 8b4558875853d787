use Rattle.summary_table.proofs.Flights.{published_front}
use Rattle.summary_table.proofs.tests.land.Goals as goal

pub returns-clause-flow : goal.returns-clause-flow
returns-clause-flow c = (published_front c.args.board.now c.publish.new.self c.args.mirror.now c.args.flight.goal.vertex c.args.flight.found c.requires.whole c.in_ok-publish.ensures.ok).0

pub returns-clause-front : goal.returns-clause-front
returns-clause-front c = (published_front c.args.board.now c.publish.new.self c.args.mirror.now c.args.flight.goal.vertex c.args.flight.found c.requires.whole c.in_ok-publish.ensures.ok).1
