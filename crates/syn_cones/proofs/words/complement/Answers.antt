use Rattle.std.proofs.Common.{arith}
use Rattle.syn_cones.proofs.Wording.{complement_value}
use Rattle.syn_cones.proofs.words.complement.Goals as goal

pub returns : goal.returns
returns c = λ xs few. complement_value c.args.word xs (omega arith) few
