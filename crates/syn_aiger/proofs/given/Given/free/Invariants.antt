use Rattle.std.proofs.Common.{◌≡◌, ◌-◌, suc, length, true, List}
use Rattle.syn_netlist.specs.Words.{is_word}
use Rattle.syn_aiger.specs.Keeping.{Keeps, longest_word, taken_by}
use Rattle.syn_aiger.specs.Naming.{Named, free_name}
use Rattle.syn_aiger.proofs.Taking.{Tries}
use Rattle.syn_aiger.proofs.given.Given.free.Given as goal

abbrev pub invariant-loop-name : goal.invariant-loop-name
invariant-loop-name l = record {
  word : is_word l.name.items ≡ true;
  tries : (given : List Named) → Keeps l.self given → Tries l.keeps l.l given l.name.items (free_name given (taken_by l.keeps l.l given) l.fn.first.items);
}

abbrev pub decreases-loop-name : goal.decreases-loop-name
decreases-loop-name l = suc (longest_word l.self.names) - length l.name.items
