use Rattle.syn_fraig.proofs.Tabled.{all_alike}
use Rattle.syn_fraig.proofs.by_values.sweep_by_values.Goals as goal

pub merge_all-requires-clause-same : goal.merge_all-requires-clause-same
merge_all-requires-clause-same c = all_alike c.args.count c.args.rows.now c.settle.new.alike c.requires.hashed c.in_ok-settle.ensures
