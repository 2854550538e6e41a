use Rattle.std.proofs.Common.{refl}
use Rattle.syn_aiger_files.proofs.worked_properties.Goals as goal

pub returns : goal.returns
returns c = record { ascii = refl; binary = refl; refused = refl; justice = refl; tenth = refl }
