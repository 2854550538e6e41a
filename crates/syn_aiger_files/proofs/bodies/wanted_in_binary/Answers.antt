use Rattle.std.proofs.Common.{◌+◌, ◌-◌, ◌*◌, ℕ, false, ap, arith}
use Rattle.syn_aiger_files.specs.Parts.{NextLine, OutputLine, PairOf, wanted_by}
use Rattle.syn_aiger_files.proofs.Gathering.{binary_next, binary_output, binary_pair, by_next}
use Rattle.syn_aiger_files.proofs.bodies.wanted_in_binary.Goals as goal

pub returns-then-k-h-clause-next : goal.returns-then-k-h-clause-next
returns-then-k-h-clause-next c = by_next (wanted_by false c.args.h.now) c.args.k (NextLine (2 * (c.args.h.now.inputs + 1 + c.args.k))) (binary_next c.args.h.now c.args.k (omega (arith, c.if-k-h.true)))

pub returns-then-k-h-2-clause-next : goal.returns-then-k-h-2-clause-next
returns-then-k-h-2-clause-next c = by_next (wanted_by false c.args.h.now) c.args.k OutputLine (binary_output c.args.h.now c.args.k (omega (arith, c.if-k-h.false)) (omega (arith, c.if-k-h-2.true)))

pub returns-clause-next : goal.returns-clause-next
returns-clause-next c =
    let h = c.args.h.now in
    let literal : ℕ → ℕ = λ (outputs : ℕ). 2 * (h.inputs + h.latches + 1 + (c.args.k - h.latches - outputs)) in
    by_next (wanted_by false h) c.args.k (PairOf (literal c.all_outputs-outputs.result))
    (binary_pair h c.args.k (literal c.all_outputs-outputs.result) (omega (arith, c.if-k-h-2.false, c.all_outputs-outputs.ensures)) (omega (arith, c.requires.within)) (ap literal c.all_outputs-outputs.ensures))
