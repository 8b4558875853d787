use Rattle.std.proofs.Common.{sym, arith}
use Rattle.graph_text.proofs.Counting.{one, two, three, four, five, six, seven, eight, nine, ten}
use Rattle.graph_text.proofs.digits.digit_count.Goals as goal

pub returns-then-n-lt10-clause-count : goal.returns-then-n-lt10-clause-count
returns-then-n-lt10-clause-count c = sym (one c.args.n c.if-n-lt10.true)

pub returns-else-n-lt10-clause-count : goal.returns-else-n-lt10-clause-count
returns-else-n-lt10-clause-count c = sym (two c.args.n c.if-n-lt10.false c.if-n-lt100.true)

pub returns-then-n-lt1000-clause-count : goal.returns-then-n-lt1000-clause-count
returns-then-n-lt1000-clause-count c = sym (three c.args.n c.if-n-lt100.false c.if-n-lt1000.true)

pub returns-else-n-lt1000-clause-count : goal.returns-else-n-lt1000-clause-count
returns-else-n-lt1000-clause-count c = sym (four c.args.n c.if-n-lt1000.false c.if-n-lt10000.true)

pub returns-then-n-lt100000-clause-count : goal.returns-then-n-lt100000-clause-count
returns-then-n-lt100000-clause-count c = sym (five c.args.n c.if-n-lt10000.false c.if-n-lt100000.true)

pub returns-else-n-lt100000-clause-count : goal.returns-else-n-lt100000-clause-count
returns-else-n-lt100000-clause-count c = sym (six c.args.n c.if-n-lt100000.false c.if-n-lt1000000.true)

pub returns-then-n-lt10000000-clause-count : goal.returns-then-n-lt10000000-clause-count
returns-then-n-lt10000000-clause-count c = sym (seven c.args.n c.if-n-lt1000000.false c.if-n-lt10000000.true)

pub returns-else-n-lt10000000-clause-count : goal.returns-else-n-lt10000000-clause-count
returns-else-n-lt10000000-clause-count c = sym (eight c.args.n c.if-n-lt10000000.false c.if-n-lt100000000.true)

pub returns-then-n-lt1000000000-clause-count : goal.returns-then-n-lt1000000000-clause-count
returns-then-n-lt1000000000-clause-count c = sym (nine c.args.n c.if-n-lt100000000.false c.if-n-lt1000000000.true)

pub returns-else-n-lt1000000000-clause-count : goal.returns-else-n-lt1000000000-clause-count
returns-else-n-lt1000000000-clause-count c = sym (ten c.args.n c.if-n-lt1000000000.false (omega arith))
