use Rattle.std.proofs.Common.{◌≡◌, ◌≤◌, ◌-◌, take}
use Rattle.syn_truth.specs.Truth.{AtEach, value_of}
use Rattle.syn_truth.proofs.Truth.widen.Given as goal

abbrev pub invariant-loop-wide : goal.invariant-loop-wide
invariant-loop-wide l = record {
  wider : l.fn.self.vars ≤ l.wide.vars;
  within : l.wide.vars ≤ l.vars;
  values : AtEach l.wide.vars (λ xs. value_of l.wide xs ≡ value_of l.fn.self (take l.fn.self.vars xs));
}

abbrev pub decreases-loop-wide : goal.decreases-loop-wide
decreases-loop-wide l = l.vars - l.wide.vars
