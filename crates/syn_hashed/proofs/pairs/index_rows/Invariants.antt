use Rattle.std.proofs.Common.{◌≡◌, length, take}
use Rattle.syn_hashed.specs.Pairs.{IsIndex}
use Rattle.syn_hashed.proofs.pairs.index_rows.Given as goal

abbrev pub invariant-loop-n : goal.invariant-loop-n
invariant-loop-n l = record {
  index : IsIndex (length l.fn.heads.items) (take l.n l.rows) l.heads.items l.next.items;
  heads : length l.heads.items ≡ length l.fn.heads.items;
  next : length l.next.items ≡ length l.fn.next.items;
}
