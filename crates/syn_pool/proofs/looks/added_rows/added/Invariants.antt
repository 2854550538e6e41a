use Rattle.std.proofs.Common.{◌≡◌, ◌+◌, ◌≤◌, length}
use Rattle.syn_rows.specs.declared.TheConstants.{NODE_LIMIT}
use Rattle.syn_gain.specs.Lookups.{ArePlaced}
use Rattle.syn_pool.proofs.looks.added_rows.added.Given as goal

abbrev pub invariant-loop-gate : goal.invariant-loop-gate
invariant-loop-gate l = record {
  placed : ArePlaced NODE_LIMIT l.placed.literals.items l.placed.extra.items;
  count : length l.placed.literals.items ≡ 1 + l.plan.leaves + l.gate-index;
  few : length l.placed.extra.items ≤ l.gate-index;
  again : l.made_again ≤ l.gate-index;
}
