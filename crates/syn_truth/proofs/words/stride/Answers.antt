use Rattle.std.proofs.Common.{arith}
use Rattle.std.proofs.lemmas.Nat.{one_shl, pow_below}
use Rattle.syn_truth.proofs.words.stride.Goals as goal

pub returns-clause-below : goal.returns-clause-below
returns-clause-below c = omega (arith, one_shl c.args.i 32 (omega arith), pow_below c.args.i 7 c.requires)
