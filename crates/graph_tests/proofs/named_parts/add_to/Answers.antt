use Rattle.std.proofs.Common.{sym, subst}
use Rattle.cpg_schema.specs.Shape.{IsShaped}
use Rattle.graph_store.specs.Stored.{plain}
use Rattle.graph_forest.proofs.Fitting.{planted_fits}
use Rattle.graph_forest.proofs.Shaping.{planted_shaped}
use Rattle.graph_tests.proofs.named_parts.add_to.Goals as goal

pub apply-requires : goal.apply-requires
apply-requires c = planted_fits (plain c.args.graph.now) c.args.delta.now c.requires.planted

pub returns : goal.returns
returns c =
    subst IsShaped (sym c.in_ok-apply.ensures.ok.is)
    (planted_shaped (plain c.args.graph.now) c.args.delta.now c.requires.planted c.law_stored.ensures.is_graph c.requires.shaped)
