-- Rows that were made again and compacted.
use Rattle.std.proofs.Common.{◌≡◌, ℕ, ◌<◌, List, length, ◌∙◌, arith}
use Rattle.syn_rows.specs.declared.Lit.{Lit}
use Rattle.syn_rows.specs.declared.Row.{Row}
use Rattle.syn_hashed.specs.Compacting.{IsCompaction}
use Rattle.syn_hashed.specs.Visiting.{IsRebuilt}

-- rows that were made again and then compacted are compacted rows of the first ones
pub remade_compaction : (count : ℕ) (rows mid new : List Row) (lits mid_lits new_lits : List Lit) → IsRebuilt count rows lits mid mid_lits → IsCompaction count mid mid_lits new new_lits → IsCompaction count rows lits new new_lits
remade_compaction count rows mid new lits mid_lits new_lits r c = record {
  hashed = c.hashed;
  same_count = c.same_count ∙ r.same_count;
  within = c.within;
  reached = c.reached;
  fewer = omega (arith, c.fewer, r.fewer);
  same_function = λ bits. c.same_function bits ∙ r.same_function bits;
  levels = λ i lt. (let low = r.levels i lt in let lower = c.levels i (omega (arith, r.same_count)) in omega (arith, low, lower));
  sources_stay = λ i l lt low at. c.sources_stay i l (omega (arith, r.same_count)) low (r.sources_stay i l lt low at);
}
