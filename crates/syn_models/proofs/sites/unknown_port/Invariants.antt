use Rattle.std.proofs.Common.{◌≡◌, ℕ, List, map, drop, Some}
use Rattle.syn_models.specs.FlatFaults.{foreign}
use Rattle.syn_models.specs.Kept.{bind_in}
use Rattle.syn_models.specs.Views.{model_in}
use Rattle.syn_models.proofs.sites.unknown_port.Given as goal

abbrev pub invariant-loop-b : goal.invariant-loop-b
invariant-loop-b l = (names : List (List ℕ)) → foreign (map (bind_in names) (drop l.b-index l.binds)) (Some (model_in l.m)) ≡ foreign (map (bind_in names) l.binds) (Some (model_in l.m))
