use Rattle.std.proofs.Common.{refl}
use Rattle.syn_aiger_files.proofs.worked_files.Goals as goal

-- src/lib.rt:18:1
pub returns : goal.returns
returns c = record { ascii = refl; binary = refl; latch = refl; zeros = refl; header = refl; line = refl; pair = refl; symbol = refl }
