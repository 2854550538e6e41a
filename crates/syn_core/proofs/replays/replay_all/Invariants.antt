use Rattle.std.proofs.Common.{ℕ, ◌+◌, drop}
use Rattle.syn_core_laws.specs.Cores.{Core}
use Rattle.syn_core_laws.specs.Runs.{Runs, FirstForbidden}
use Rattle.syn_core.proofs.replays.replay_all.Given as goal

abbrev pub invariant-loop-index : goal.invariant-loop-index
invariant-loop-index l = record {
  runs : (d : Core) → Runs l.state (drop l.index l.events) d → Runs l.start l.events d;
  first : (i : ℕ) → FirstForbidden l.state (drop l.index l.events) i → FirstForbidden l.start l.events (l.index + i);
}
