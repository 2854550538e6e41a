use Rattle.std.proofs.Common.{ℕ, List, length, ap, arith}
use Rattle.syn_netlist.specs.declared.Latch.{Latch}
use Rattle.syn_compare.proofs.Compared.{length-compared}
use Rattle.syn_compare.proofs.comparing.count_of.Goals as goal

pub returns : goal.returns
returns c = omega (arith, length-compared c.args.frame.now, ap (λ (ns : List ℕ). length ns) c.as_slice.ensures, ap (λ (ls : List Latch). length ls) c.as_slice-2.ensures)
