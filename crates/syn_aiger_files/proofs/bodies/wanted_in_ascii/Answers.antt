use Rattle.std.proofs.Common.{true, arith}
use Rattle.syn_aiger_files.specs.Parts.{AndLine, InputLine, LatchLine, OutputLine, wanted_by}
use Rattle.syn_aiger_files.proofs.Gathering.{ascii_and, ascii_input, ascii_latch, ascii_output, by_next}
use Rattle.syn_aiger_files.proofs.bodies.wanted_in_ascii.Goals as goal

pub returns-then-k-h-clause-next : goal.returns-then-k-h-clause-next
returns-then-k-h-clause-next c = by_next (wanted_by true c.args.h.now) c.args.k InputLine (ascii_input c.args.h.now c.args.k (omega (arith, c.if-k-h.true)))

pub returns-then-k-h-2-clause-next : goal.returns-then-k-h-2-clause-next
returns-then-k-h-2-clause-next c = by_next (wanted_by true c.args.h.now) c.args.k LatchLine (ascii_latch c.args.h.now c.args.k (omega (arith, c.if-k-h.false)) (omega (arith, c.if-k-h-2.true)))

pub returns-then-k-h-3-clause-next : goal.returns-then-k-h-3-clause-next
returns-then-k-h-3-clause-next c = by_next (wanted_by true c.args.h.now) c.args.k OutputLine (ascii_output c.args.h.now c.args.k (omega (arith, c.if-k-h-2.false)) (omega (arith, c.if-k-h-3.true)))

pub returns-clause-next : goal.returns-clause-next
returns-clause-next c = by_next (wanted_by true c.args.h.now) c.args.k AndLine (ascii_and c.args.h.now c.args.k (omega (arith, c.if-k-h-3.false)) (omega (arith, c.requires.within)))
