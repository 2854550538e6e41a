use Rattle.std.proofs.Common.{◌≡◌, map, drop}
use Rattle.syn_words.specs.Table.{entry_in}
use Rattle.syn_words.proofs.table.entry_in.Given as goal

abbrev pub invariant-loop-name : goal.invariant-loop-name
invariant-loop-name l = entry_in (map (λ r. (r.0.now, r.1, r.2)) (drop l.name-index l.rows)) l.word ≡ entry_in (map (λ r. (r.0.now, r.1, r.2)) l.rows) l.word
