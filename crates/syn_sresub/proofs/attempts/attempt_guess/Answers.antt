use Rattle.std.proofs.lemmas.Result.{IfOk-weaker}
use Rattle.syn_fraig.proofs.Grown.{still_true}
use Rattle.syn_sresub.proofs.Replaced.{found_later, found_turned}
use Rattle.syn_sresub.proofs.attempts.attempt_guess.Goals as goal

pub returns-in_default-clause-clauses : goal.returns-in_default-clause-clauses
returns-in_default-clause-clauses c = still_true c.args.hashed.now.rows.items c.and.new.hashed.rows.items c.args.solver.now.clauses c.and.ensures.grows c.requires.clauses

pub attempt-requires-clause-clauses : goal.attempt-requires-clause-clauses
attempt-requires-clause-clauses c = still_true c.args.hashed.now.rows.items c.and.new.hashed.rows.items c.args.solver.now.clauses c.and.ensures.grows c.requires.clauses

pub attempt-requires-else-guess-clause-clauses : goal.attempt-requires-else-guess-clause-clauses
attempt-requires-else-guess-clause-clauses c = still_true c.args.hashed.now.rows.items c.and.new.hashed.rows.items c.args.solver.now.clauses c.and.ensures.grows c.requires.clauses

pub returns-in_ok-found-clause-replaces : goal.returns-in_ok-found-clause-replaces
returns-in_ok-found-clause-replaces c =
    found_turned c.args.hashed.now.rows.items c.and.new.hashed.rows.items c.attempt.new.hashed.rows.items c.args.m c.not.result c.in_ok-found.found c.complement.result
    c.and.ensures.grows c.requires.there c.not.ensures c.complement.ensures c.in_ok-found.ensures.replaces

pub returns-else-guess-clause-replaces : goal.returns-else-guess-clause-replaces
returns-else-guess-clause-replaces c =
    let call = c.attempt-else-guess in
    IfOk-weaker call.result _ _
    (λ o h. found_later c.args.hashed.now.rows.items c.and.new.hashed.rows.items call.new.hashed.rows.items c.args.m o c.and.ensures.grows c.requires.there h)
    call.ensures.replaces
