use Rattle.std.proofs.Common.{◌≡◌, Ok}
use Rattle.graph_store.specs.Stored.{plain}
use Rattle.cpg_schema.specs.Sequence.{seq}
use Rattle.pass_runner.proofs.runner.run_parts.Given as goal

abbrev pub invariant-loop-part : goal.invariant-loop-part
invariant-loop-part g l = record {
  caps : l.graph.caps ≡ l.start.caps;
  ready : g.P.Pass.is_ready l.pass l.start l.ready;
  end : l.part-end ≡ g.P.Pass.parts_of l.pass (plain l.start);
  so_far : seq l.start.caps (plain l.start) (g.P.Pass.delta_of l.pass (plain l.start)) l.part ≡ Ok (plain l.graph);
}
