use Rattle.syn_fanout_free.proofs.Kept.{freed_are_unreached, saved_is_local, fewer_are_unreached, counts_tell}
use Rattle.syn_fanout_free.proofs.Valued.{values_are_kept}
use Rattle.syn_fanout_free.proofs.freed_rows.Goals as goal

pub returns-clause-freed : goal.returns-clause-freed
returns-clause-freed c = freed_are_unreached

pub returns-clause-saved : goal.returns-clause-saved
returns-clause-saved c = saved_is_local

pub returns-clause-fewer : goal.returns-clause-fewer
returns-clause-fewer c = fewer_are_unreached

pub returns-clause-counts : goal.returns-clause-counts
returns-clause-counts c = counts_tell

pub returns-clause-values : goal.returns-clause-values
returns-clause-values c = values_are_kept
