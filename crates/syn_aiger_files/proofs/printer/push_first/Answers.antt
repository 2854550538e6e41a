use Rattle.std.proofs.Common.{◌++◌, flat_map, arith}
use Rattle.syn_aiger_files.specs.Literals.{literals_from}
use Rattle.syn_aiger_files.specs.Printed.{single}
use Rattle.syn_aiger_files.proofs.Pushing.{first_on}
use Rattle.syn_aiger_files.proofs.printer.push_first.Goals as goal

pub loop-k-preserved : goal.loop-k-preserved
loop-k-preserved c = first_on c.loop-k.out.items c.push_line.new.out.items (c.args.out.now.items ++ flat_map single (literals_from 1 c.args.count)) c.loop-k.k c.args.count (omega arith) c.in_ok-push_line.ensures c.loop-k.invariant
