use Rattle.std.proofs.Common.{◌≡◌, ◌≤◌, ℕ, List, length, map, take}
use Rattle.syn_netlist.specs.Words.{has_word}
use Rattle.syn_models.specs.Models.{is_bound}
use Rattle.syn_models.specs.Kept.{bind_in}
use Rattle.syn_models.proofs.sites.bound_formals.Given as goal

abbrev pub invariant-loop-b : goal.invariant-loop-b
invariant-loop-b l = record {
  few : length l.bound ≤ l.b-index;
  same : (names : List (List ℕ)) (word : List ℕ) → has_word l.bound word ≡ is_bound (map (bind_in names) (take l.b-index l.binds)) word;
}
