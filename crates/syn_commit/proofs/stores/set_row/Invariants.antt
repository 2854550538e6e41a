use Rattle.syn_commit.proofs.Replacing.{IsSetting}
use Rattle.syn_commit.proofs.stores.set_row.Given as goal

abbrev pub invariant-loop-i : goal.invariant-loop-i
invariant-loop-i l = record { setting : IsSetting l.node l.row l.fn.gates.items l.i l.gates.items }
