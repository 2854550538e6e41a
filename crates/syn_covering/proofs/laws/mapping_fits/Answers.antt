use Rattle.syn_covering.proofs.Fitting.{mapping_small}
use Rattle.syn_covering.proofs.laws.mapping_fits.Goals as goal

pub returns : goal.returns
returns c = mapping_small
