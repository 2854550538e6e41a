use Rattle.std.proofs.Common.{refl}
use Rattle.syn_aiger_files.proofs.worked_pairs.Goals as goal

pub returns : goal.returns
returns c = record { none = refl; above = refl; cut = refl; long = refl }
