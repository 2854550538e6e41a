use Rattle.std.proofs.Common.{refl}
use Rattle.syn_table.proofs.keys.worked_keys.Goals as goal

pub returns : goal.returns
returns c = refl
