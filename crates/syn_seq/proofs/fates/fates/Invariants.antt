use Rattle.std.proofs.Common.{◌≡◌, ◌+◌, length, get_or}
use Rattle.std.specs.HashMap.{get}
use Rattle.syn_rows.specs.Values.{value_in}
use Rattle.syn_seq.specs.contracts.keys.KeyPartialEq.TheImpl as key_eq
use Rattle.syn_seq.specs.Keys.{key_by}
use Rattle.syn_seq.proofs.Loading.{no_latch}
use Rattle.syn_seq.proofs.Seen.{IsNext}
use Rattle.syn_seq.proofs.fates.fates.Given as goal

abbrev pub invariant-loop-j : goal.invariant-loop-j
invariant-loop-j l = record {
  count : length l.fates.items ≡ l.j;
  next : IsNext (λ j. value_in l.needed (l.first + j)) (λ j. key_by l.lits (get_or l.latches j no_latch)) l.fates.items (get (key_eq.ghosts).eq l.seen);
}
