use Rattle.syn_hashed.proofs.Rising.{extends_through}
use Rattle.syn_fraig.proofs.Grown.{still_true}
use Rattle.syn_sresub.proofs.Replaced.{stands_replaced}
use Rattle.syn_sresub.proofs.remaking.improved.Goals as goal

pub improve-requires-clause-there : goal.improve-requires-clause-there
improve-requires-clause-there c = c.in_ok-literal.ensures.stands.there

pub improve-requires-clause-clauses : goal.improve-requires-clause-clauses
improve-requires-clause-clauses c = still_true c.args.hashed.now.rows.items c.joined.new.hashed.rows.items c.args.solver.now.clauses c.joined.ensures.grows c.requires.clauses

pub returns-then-not-is_open-clause-clauses : goal.returns-then-not-is_open-clause-clauses
returns-then-not-is_open-clause-clauses c = still_true c.args.hashed.now.rows.items c.joined.new.hashed.rows.items c.args.solver.now.clauses c.joined.ensures.grows c.requires.clauses

pub returns-in_err-other-clause-grows : goal.returns-in_err-other-clause-grows
returns-in_err-other-clause-grows c = extends_through c.args.hashed.now.rows.items c.joined.new.hashed.rows.items c.improve.new.hashed.rows.items c.joined.ensures.grows c.improve.ensures.grows

pub returns-in_err-replaced-clause-grows : goal.returns-in_err-replaced-clause-grows
returns-in_err-replaced-clause-grows c = extends_through c.args.hashed.now.rows.items c.joined.new.hashed.rows.items c.improve.new.hashed.rows.items c.joined.ensures.grows c.improve.ensures.grows

pub returns-clause-grows : goal.returns-clause-grows
returns-clause-grows c = extends_through c.args.hashed.now.rows.items c.joined.new.hashed.rows.items c.improve.new.hashed.rows.items c.joined.ensures.grows c.improve.ensures.grows

pub returns-clause-stands : goal.returns-clause-stands
returns-clause-stands c =
    stands_replaced c.args.rows.now c.joined.new.hashed.rows.items c.improve.new.hashed.rows.items c.args.node c.in_ok-literal.literal c.in_ok-other.other c.in_ok-literal.ensures.stands c.in_ok-other.ensures.replaces
