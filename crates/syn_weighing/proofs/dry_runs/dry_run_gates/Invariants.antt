use Rattle.std.proofs.Common.{◌≡◌, ℕ, ◌+◌, ◌<◌, ◌≤◌, drop, length, take}
use Rattle.syn_gain.specs.Lookups.{ArePlaced}
use Rattle.syn_weighing.specs.Weighing.{weigh_until, weight_of}
use Rattle.syn_weighing.proofs.dry_runs.dry_run_gates.Given as goal

abbrev pub invariant-loop-gate : goal.invariant-loop-gate
invariant-loop-gate l = record {
  rest : weigh_until l.below.rows.now l.below.root l.most (drop l.gate-index l.gates) (weight_of l.weighed) ≡ weigh_until l.below.rows.now l.below.root l.most l.gates (weight_of l.initial.weighed);
  first : (n : ℕ) → n ≤ length l.initial.weighed.literals.items → take n l.weighed.literals.items ≡ take n l.initial.weighed.literals.items;
  count : length l.weighed.literals.items ≡ length l.initial.weighed.literals.items + l.gate-index;
  small : length l.weighed.extra.items < length l.weighed.literals.items;
  placed : ArePlaced (length l.below.rows.now) l.weighed.literals.items l.weighed.extra.items;
}
