use Rattle.std.proofs.Common.{◌≡◌, ◌++◌, ℕ, List, drop, map, true}
use Rattle.std.specs.List.{list_all}
use Rattle.syn_netlist.specs.Kept.{latch_in, latches_below, no_nil_control}
use Rattle.syn_netlist.specs.Numbers.{all_below, words_at}
use Rattle.syn_aiger.specs.Naming.{Named, name_of}
use Rattle.syn_aiger.specs.Networks.{latches_from}
use Rattle.syn_aiger.specs.Placing.{has_reset}
use Rattle.syn_aiger.proofs.frame.latches.Given as goal

abbrev pub invariant-loop-j : goal.invariant-loop-j
invariant-loop-j l = record {
  words : (names : List (List ℕ)) (os fs : List Named) → words_at names l.outputs ≡ map name_of os → words_at names l.feeds ≡ map name_of fs → map (latch_in names) l.found.items ++ latches_from (drop l.j l.latches) (drop l.j os) (drop l.j fs) ≡ latches_from l.latches os fs;
  below : (count : ℕ) → all_below count l.outputs ≡ true → all_below count l.feeds ≡ true → latches_below count l.found.items ≡ true;
  controls : (names : List (List ℕ)) → no_nil_control names l.found.items ≡ true;
  resets : list_all has_reset (drop l.j l.latches) ≡ true;
}
