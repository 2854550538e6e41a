use Rattle.std.proofs.Common.{◌≡◌, map, drop}
use Rattle.syn_models.specs.FlatFaults.{checks, first_of_models}
use Rattle.syn_models.specs.Files.{all_in}
use Rattle.syn_models.specs.Views.{model_in}
use Rattle.syn_models.proofs.first_fault.first_subcircuit_fault.Given as goal

abbrev pub invariant-loop-m : goal.invariant-loop-m
invariant-loop-m l = first_of_models checks (all_in l.file) (map model_in (drop l.m-index l.file.models.now)) ≡ first_of_models checks (all_in l.file) (all_in l.file)
