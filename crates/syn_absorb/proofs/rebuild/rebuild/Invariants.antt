use Rattle.std.proofs.Common.{◌≡◌, ◌+◌, length}
use Rattle.syn_rows.specs.Values.{value_in}
use Rattle.syn_lutnet.specs.Data.{luts_data}
use Rattle.syn_absorb.specs.Rebuilding.{IsRebuilt}
use Rattle.syn_absorb.proofs.rebuild.rebuild.Given as goal

abbrev pub invariant-loop-j : goal.invariant-loop-j
invariant-loop-j l = record {
  long : length l.lits.items ≡ l.source_count + 1 + l.j;
  done : IsRebuilt l.source_count (luts_data l.luts) (value_in l.marks) l.lits.items (luts_data l.new.items);
}
