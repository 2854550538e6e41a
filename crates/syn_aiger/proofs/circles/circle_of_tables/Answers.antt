use Rattle.std.proofs.Common.{ap, ◌∙◌}
use Rattle.syn_netlist.specs.Views.{netlist_in}
use Rattle.syn_aiger.proofs.Netting.{circle_words_with, driven_with, never_undriven, rank_with}
use Rattle.syn_aiger.proofs.circles.circle_of_tables.Goals as goal

pub of_driven-requires : goal.of_driven-requires
of_driven-requires c = record { driven = driven_with c.args.file.now.aig c.args.file.now.sound c.requires _ c.in_ok-netlist.ensures }

pub variables_of-requires : goal.variables_of-requires
variables_of-requires c = circle_words_with c.args.file.now.aig c.args.file.now.sound (netlist_in c.in_ok-netlist.netlist) c.in-Err-Cycle.field-0 c.in_ok-netlist.ensures c.in-Err-Cycle.ensures.fault c.in-Err-Cycle.words c.as_slice.result.now c.in-Err-Cycle.field-0-is c.as_slice.ensures

pub unreachable-requires : goal.unreachable-requires
unreachable-requires c = never_undriven c.args.file.now.aig c.args.file.now.sound (netlist_in c.in_ok-netlist.netlist) c.in-Err-Undriven.field-0 c.in_ok-netlist.ensures c.in-Err-Undriven.ensures.fault c.requires c.in-Err-Undriven.field-0-0 c.in-Err-Undriven.field-0-is

pub returns-in-Ok-clause-none : goal.returns-in-Ok-clause-none
returns-in-Ok-clause-none c = rank_with c.args.file.now.aig c.args.file.now.sound (netlist_in c.in-Ok.checked.netlist) (ap netlist_in c.in-Ok.ensures.netlist ∙ c.in_ok-netlist.ensures) c.is_checked.ensures
