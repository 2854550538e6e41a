use Rattle.std.proofs.Common.{refl}
use Rattle.syn_netlist.proofs.laws.worked_netlists.Goals as goal

pub returns : goal.returns
returns c = record {
  latched_sources = refl;
  latched_observed = refl;
  latched_driven = refl;
  twice_sources = refl;
  twice_observed = refl;
  undriven_first = refl;
  circling_driven = refl;
  gates_cost = refl;
  gates_low = refl;
  gates_mixed = refl;
  gates_high = refl;
  no_rows = refl;
  no_rows_off = refl;
  one_row = refl;
}
