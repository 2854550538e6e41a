use Rattle.std.proofs.Common.{arith}
use Rattle.std.proofs.lemmas.Nat.{one_shl}
use Rattle.syn_text.proofs.lut_netlist.minterm_count.Goals as goal

pub returns : goal.returns
returns c = one_shl c.args.vars 32 (omega (arith, c.requires))
