use Rattle.syn_hashed.proofs.Compacted.{compacted_hashed}
use Rattle.syn_hashed.proofs.compaction.compact_hashed.Goals as goal

pub returns-clause-compact : goal.returns-clause-compact
returns-clause-compact c = compacted_hashed c.one_valuation.ensures c.args.source_count c.args.rows.now c.in_ok-kept.kept.rows.items c.args.observed.now c.in_ok-kept.kept.observed.items c.requires.hashed c.in_ok-kept.ensures.compacted
