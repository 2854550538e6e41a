use Rattle.std.proofs.Common.{rules}
use Rattle.syn_sresub.proofs.Replaced.{kept_itself, replaces_later}
use Rattle.syn_sresub.proofs.attempts.improve.Goals as goal

pub returns-in-Some-clause-replaces : goal.returns-in-Some-clause-replaces
returns-in-Some-clause-replaces c =
    replaces_later c.args.hashed.now.rows.items c.loop-round.hashed.rows.items c.attempt_all.new.hashed.rows.items c.args.m c.in-Some.lit c.loop-round.invariant.grows c.requires.there (search rules)

pub returns-clause-replaces : goal.returns-clause-replaces
returns-clause-replaces c = kept_itself c.args.hashed.now.rows.items c.loop-round.hashed.rows.items c.args.m c.loop-round.invariant.grows c.requires.there
