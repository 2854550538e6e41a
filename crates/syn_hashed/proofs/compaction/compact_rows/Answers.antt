use Rattle.syn_hashed.proofs.Compacted.{made_again_compacted}
use Rattle.syn_hashed.proofs.compaction.compact_rows.Goals as goal

pub returns : goal.returns
returns c = record {
  compacted =
      made_again_compacted c.args.source_count c.args.rows.now c.in_ok-ordered.ordered.rows.items c.in_ok-kept.kept.rows.items c.args.observed.now c.in_ok-ordered.ordered.observed.items c.in_ok-kept.kept.observed.items
      c.in_ok-ordered.ensures.made c.in_ok-kept.ensures.compact;
  exact = record { mid_rows = c.in_ok-ordered.ordered.rows.items; mid_lits = c.in_ok-ordered.ordered.observed.items; again = c.in_ok-ordered.ensures.exact; kept = c.in_ok-kept.ensures.exact };
}
