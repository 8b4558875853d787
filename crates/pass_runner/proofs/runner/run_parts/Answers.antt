use Rattle.std.proofs.Common.{◌≡◌, ◌<◌, Err, ap, arith}
use Rattle.std.proofs.lemmas.Result.{err_from_is_err_and}
use Rattle.graph_store.specs.declared.applying.ApplyStop.TheVariants.{TooManyNodes, TooManyEdges}
use Rattle.graph_store.specs.Stored.{plain}
use Rattle.cpg_schema.specs.Sequence.{Cap}
use Rattle.cpg_schema.specs.Fitting.{PartsFit}
use Rattle.graph_delta.proofs.Fitting.{fits_after}
use Rattle.pass_runner.proofs.Stopping.{seq_stops}
use Rattle.pass_runner.proofs.runner.run_parts.Goals as goal

pub apply-requires : goal.apply-requires
apply-requires g c =
    let start = plain c.args.start.now in
    let pass = c.args.pass.now in
    let parts : c.parts-part-end.result ≡ g.P.Pass.parts_of pass start = c.parts-part-end.ensures in
    let within : c.loop-part.part < g.P.Pass.parts_of pass start = omega (arith, parts, c.loop-part.invariant.end) in
    let fits : PartsFit start (g.P.Pass.delta_of pass start) (g.P.Pass.parts_of pass start) =
    g.met.P.Pass.fits pass start c.requires.is_graph c.requires.takes in
    rw c.in_ok-delta.ensures
    (fits_after c.args.start.now.caps start (g.P.Pass.delta_of pass start) (g.P.Pass.parts_of pass start) fits c.loop-part.part within (plain c.loop-part.graph)
    c.loop-part.invariant.so_far)

pub returns-in_err-apply-clause-too_many_nodes : goal.returns-in_err-apply-clause-too_many_nodes
returns-in_err-apply-clause-too_many_nodes g c =
    let start = plain c.args.start.now in
    let before = plain c.loop-part.graph in
    let parts : c.parts-part-end.result ≡ g.P.Pass.parts_of c.args.pass.now start = c.parts-part-end.ensures in
    let within : c.loop-part.part < g.P.Pass.parts_of c.args.pass.now start = omega (arith, parts, c.loop-part.invariant.end) in
    let p = err_from_is_err_and c.from_residual-in_err-apply.result c.from_residual-in_err-apply.ensures.1 in
    λ is.
    let stop : c.in_err-apply.field-0.0 ≡ TooManyNodes = cc (is, p.1, p.2) in
    let met = c.in_err-apply.ensures.too_many_nodes.0 (ap Err stop) in
    let met_there = rw (c.loop-part.invariant.caps, c.in_ok-delta.ensures) at met in
    seq_stops c.args.start.now.caps start (g.P.Pass.delta_of c.args.pass.now start) c.loop-part.part (g.P.Pass.parts_of c.args.pass.now start) before Cap.nodes
    within c.loop-part.invariant.so_far met_there

pub returns-in_err-apply-clause-too_many_edges : goal.returns-in_err-apply-clause-too_many_edges
returns-in_err-apply-clause-too_many_edges g c =
    let start = plain c.args.start.now in
    let before = plain c.loop-part.graph in
    let parts : c.parts-part-end.result ≡ g.P.Pass.parts_of c.args.pass.now start = c.parts-part-end.ensures in
    let within : c.loop-part.part < g.P.Pass.parts_of c.args.pass.now start = omega (arith, parts, c.loop-part.invariant.end) in
    let p = err_from_is_err_and c.from_residual-in_err-apply.result c.from_residual-in_err-apply.ensures.1 in
    λ is.
    let stop : c.in_err-apply.field-0.0 ≡ TooManyEdges = cc (is, p.1, p.2) in
    let met = c.in_err-apply.ensures.too_many_edges.0 (ap Err stop) in
    let met_there = rw (c.loop-part.invariant.caps, c.in_ok-delta.ensures) at met in
    seq_stops c.args.start.now.caps start (g.P.Pass.delta_of c.args.pass.now start) c.loop-part.part (g.P.Pass.parts_of c.args.pass.now start) before Cap.edges
    within c.loop-part.invariant.so_far met_there
