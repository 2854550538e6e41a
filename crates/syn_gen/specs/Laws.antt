-- What holds of every generated netlist.
use Rattle.std.specs.Prelude.{◌≡◌, ℕ, ◌*◌, ◌^◌, ◌<◌, ◌≤◌, length}
use Rattle.syn_netlist.specs.Costs.{cost_of}
use Rattle.syn_netlist.specs.Faults.{IsChecked}
use Rattle.syn_netlist.specs.Lists.{sources}
use Rattle.syn_netlist.specs.Order.{Ordered}
use Rattle.syn_gen.specs.Generated.{generated}

-- It is in order and has no fault.
abbrev pub GeneratedIsChecked : Type 0
GeneratedIsChecked = (seed size : ℕ) → size < 2 ^ 31 → Ordered (generated seed size) × IsChecked (generated seed size)

-- It has sixteen sources, and costs at most 28 for each table.
abbrev pub GeneratedCosts : Type 0
GeneratedCosts = (seed size : ℕ) → (length (sources (generated seed size).frame) ≡ 16) × (cost_of (generated seed size) ≤ 28 * size)

-- It has no more outputs than tables.
abbrev pub GeneratedOutputs : Type 0
GeneratedOutputs = (seed size : ℕ) → length (generated seed size).frame.outputs ≤ size
