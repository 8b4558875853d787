use Rattle.graph_delta.proofs.Fitting.{fits_after, graph_after}
use Rattle.graph_delta.proofs.laws.law_parts_fit.Goals as goal

pub returns-clause-fits : goal.returns-clause-fits
returns-clause-fits c = fits_after

pub returns-clause-graph : goal.returns-clause-graph
returns-clause-graph c = graph_after
