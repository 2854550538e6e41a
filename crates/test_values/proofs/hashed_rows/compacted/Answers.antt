use Rattle.test_values.proofs.AnyOrder.{sample_can_compact}
use Rattle.test_values.proofs.hashed_rows.compacted.Goals as goal

pub compact_rows-requires-clause-can : goal.compact_rows-requires-clause-can
compact_rows-requires-clause-can c = sample_can_compact
