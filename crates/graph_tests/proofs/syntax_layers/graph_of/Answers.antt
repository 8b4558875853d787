use Rattle.std.proofs.Common.{subst, sym}
use Rattle.cpg_schema.specs.Deltas.{PlainDelta}
use Rattle.cpg_schema.specs.Fitting.{Fits}
use Rattle.graph_store.specs.Stored.{plain}
use Rattle.ast_layer.specs.Parts.{sources_of}
use Rattle.ast_layer.specs.PassLaws.{part_fits}
use Rattle.graph_tests.proofs.syntax_layers.graph_of.Goals as goal

pub apply-requires : goal.apply-requires
apply-requires c =
    subst (λ (delta : PlainDelta). Fits (plain c.loop-part.graph) delta) (sym c.in_ok-delta.ensures) (part_fits (sources_of c.args.pass.now) (plain c.loop-part.graph) c.loop-part.part)
