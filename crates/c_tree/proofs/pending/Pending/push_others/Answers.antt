use Rattle.std.proofs.Common.{◌≡◌, ◌+◌, ◌-◌, ◌<◌, length, arith, append_assoc}
use Rattle.c_tree.proofs.Lists.{commas_more, listed_more}
use Rattle.c_tree.proofs.pending.Pending.push_others.Goals as goal

pub loop-left-preserved : goal.loop-left-preserved
loop-left-preserved g c =
    let n = c.loop-left.left - 1 in
    let inside : n < length c.args.items.now = omega arith in
    let next : n + 1 ≡ c.loop-left.left = omega arith in
    let item = c.index-items-left.result in
    let more = rw next at (commas_more g.T.Listed.spelling c.args.items.now c.args.marks.now n item inside) in
    let heavier = rw next at (listed_more g.T.Listed.weight c.args.items.now n item inside) in
    record {
      within = omega arith;
      spells = grind (arith, append_assoc);
      weighs = grind arith;
    }
