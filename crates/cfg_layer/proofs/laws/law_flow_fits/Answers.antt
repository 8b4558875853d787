use Rattle.cfg_layer.proofs.Adding.{methods_are, parts_fit, parts_shape}
use Rattle.cfg_layer.proofs.laws.law_flow_fits.Goals as goal

pub returns : goal.returns
returns c = record { functions = methods_are; fits = parts_fit; shapes = parts_shape }
