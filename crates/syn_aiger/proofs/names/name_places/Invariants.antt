use Rattle.std.proofs.Common.{◌+◌, ◌++◌, ◌≤◌, List, length}
use Rattle.syn_aiger.specs.Keeping.{Keeps, places_named}
use Rattle.syn_aiger.specs.Naming.{Named}
use Rattle.syn_aiger.proofs.Feeding.{PlacesLeft}
use Rattle.syn_aiger.proofs.names.name_places.Given as goal

abbrev pub invariant-loop-i : goal.invariant-loop-i
invariant-loop-i l = record {
  few : length l.given.names ≤ length l.initial.given.names + l.i;
  keeps : (known : List Named) → Keeps l.initial.given known → PlacesLeft l.given l.keeps l.symbols l.place l.i l.literals (known ++ places_named l.keeps l.symbols l.place 0 l.literals known);
}
