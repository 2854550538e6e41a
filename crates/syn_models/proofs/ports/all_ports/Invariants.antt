use Rattle.std.proofs.Common.{take}
use Rattle.syn_models.specs.Listed.{AllPorts}
use Rattle.syn_models.proofs.ports.all_ports.Given as goal

abbrev pub invariant-loop-m : goal.invariant-loop-m
invariant-loop-m l = AllPorts (take l.m-index l.models) l.all.items
