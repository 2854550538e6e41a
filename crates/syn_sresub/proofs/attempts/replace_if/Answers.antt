use Rattle.syn_remaking.proofs.Results.{both_ok}
use Rattle.syn_sresub.proofs.Replaced.{and_found}
use Rattle.syn_sresub.proofs.attempts.replace_if.Goals as goal

pub returns-in-Refuted-clause-replaces : goal.returns-in-Refuted-clause-replaces
returns-in-Refuted-clause-replaces c =
    let old = c.args.hashed.now in
    both_ok c.and.result
    (λ o there value. and_found old.source_count old.rows.items c.and.new.hashed.rows.items c.args.m c.args.x c.args.y o old.hashed (c.requires c.in-Refuted.is) there value)
    c.and.ensures.there c.and.ensures.value
