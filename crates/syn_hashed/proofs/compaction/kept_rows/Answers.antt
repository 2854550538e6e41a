use Rattle.std.proofs.Common.{refl, drop}
use Rattle.std.proofs.lemmas.List.{drop_more}
use Rattle.syn_rows.specs.declared.Row.TheVariants.{Free}
use Rattle.syn_hashed.proofs.Dropped.{refs_there}
use Rattle.syn_hashed.proofs.Kept.{kept_step}
use Rattle.std.proofs.Common.{◌+◌, length, slice_index_or}
use Rattle.syn_rows.specs.Values.{value_in}
use Rattle.syn_hashed.specs.Compacting.{is_kept, kept_below, kept_rows}
use Rattle.syn_hashed.proofs.compaction.kept_rows.Goals as goal

-- src/compact.rt:83:9
pub push_kept-requires-clause-there : goal.push_kept-requires-clause-there
push_kept-requires-clause-there c = refs_there c.args.rows.now c.loop-n.n (length c.args.places.now) (slice_index_or c.args.rows.now c.loop-n.n Free) c.requires.order c.loop-n-test.true c.requires.count refl

-- src/compact.rt:82:5
pub loop-n-preserved : goal.loop-n-preserved
loop-n-preserved c =
    let keep = is_kept c.args.count (value_in c.args.marks.now) in
    kept_step keep c.is_kept.result c.loop-n.n (slice_index_or c.args.rows.now c.loop-n.n Free) (drop (c.loop-n.n + 1) c.args.rows.now) (drop c.loop-n.n c.args.rows.now)
    c.loop-n.kept.items c.push_kept.new.kept.items (kept_rows keep c.args.rows.now) (drop_more c.args.rows.now c.loop-n.n Free c.loop-n-test.true) c.is_kept.ensures
    (c.in_ok-push_kept.ensures (kept_below keep) c.requires.places) c.loop-n.invariant
