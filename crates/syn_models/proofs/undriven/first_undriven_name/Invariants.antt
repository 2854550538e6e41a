use Rattle.std.proofs.Common.{◌≡◌, drop, map}
use Rattle.syn_models.specs.FlatFaults.{first_undriven}
use Rattle.syn_models.specs.Files.{all_in}
use Rattle.syn_models.specs.Views.{model_in}
use Rattle.syn_models.proofs.undriven.first_undriven_name.Given as goal

abbrev pub invariant-loop-m : goal.invariant-loop-m
invariant-loop-m l = first_undriven (all_in l.file) (map model_in (drop l.m-index l.file.models.now)) ≡ first_undriven (all_in l.file) (all_in l.file)
