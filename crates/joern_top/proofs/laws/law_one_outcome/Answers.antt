use Rattle.joern_top.proofs.Fate.{Unique}
use Rattle.joern_top.proofs.OneOutcome.{one_outcome}
use Rattle.joern_top.proofs.laws.law_one_outcome.Goals as goal

pub returns : goal.returns
returns c =
    let reading = c.law_one_reading.ensures in
    let stripping = c.law_one_stripping.ensures in
    let unique : Unique = record {
      reading = reading.some;
      tokens = reading.one_list;
      stop = reading.one_stop;
      tokens_or_stop = reading.not_both;
      stripping = stripping.some;
      kept = stripping.one_list;
      bad = stripping.one_stop;
      kept_or_bad = stripping.not_both;
    } in
    record { one = one_outcome unique c.law_one_marker.ensures.one c.law_one_unit.ensures }
