use Rattle.std.proofs.Common.{◌<◌, arith}
use Rattle.cpg_schema.specs.Fitting.{PartsFit}
use Rattle.graph_store.specs.Stored.{plain}
use Rattle.pass_runner.proofs.runner.run_only_part.Goals as goal

pub absorb-requires : goal.absorb-requires
absorb-requires g c =
    let start = plain c.args.graph.now in
    let pass = c.args.pass.now in
    let one = c.requires.alone in
    let within : 0 < g.P.Pass.parts_of pass start = omega (arith, one) in
    let fits : PartsFit start (g.P.Pass.delta_of pass start) (g.P.Pass.parts_of pass start) =
    g.met.P.Pass.fits pass start c.requires.is_graph c.requires.takes in
    rw c.in_ok-delta.ensures (fits.each 0 within)
