use Rattle.std.proofs.Common.{sym, subst, IfOk}
use Rattle.syn_aiger_files.specs.declared.numbers.OnLine.{OnLine}
use Rattle.syn_aiger_files.specs.Gathered.{SaysPart}
use Rattle.syn_aiger_files.specs.Parts.{LatchLine}
use Rattle.syn_aiger_files.specs.Shown.{listed}
use Rattle.syn_aiger_files.proofs.bodies.said_latch.Goals as goal

pub returns-in-Two : goal.returns-in-Two
returns-in-Two c ls seen = subst (λ (n : OnLine). IfOk c.defined_latch.result (SaysPart c.args.most ls LatchLine (listed n) c.defined_latch.new.defined)) (sym c.in-Two.is) (c.defined_latch.ensures ls seen)
