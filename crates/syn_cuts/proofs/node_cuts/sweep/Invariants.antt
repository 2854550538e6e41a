use Rattle.std.proofs.Common.{◌≡◌, ℕ, ◌<◌}
use Rattle.syn_cuts.specs.Cuts.{listed_cuts}
use Rattle.syn_cuts.specs.Lists.{AreListed, list_at}
use Rattle.syn_cuts.proofs.node_cuts.sweep.Given as goal

abbrev pub invariant-loop-n : goal.invariant-loop-n
invariant-loop-n l = record {
  listed : AreListed l.k l.rows l.lists;
  done : (m : ℕ) → m < l.n → list_at l.lists m ≡ list_at (listed_cuts l.k l.rows) m;
}
