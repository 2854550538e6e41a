use Rattle.std.proofs.Common.{arith}
use Rattle.syn_rows.specs.Joining.{constant}
use Rattle.syn_pairs.proofs.Conjoining.{joined_same}
use Rattle.syn_pairs.proofs.joining.join_two.Goals as goal

pub returns-clause-same : goal.returns-clause-same
returns-clause-same c =
    let old = c.args.hashed.now in
    let new = c.and.new.hashed in
    let joined = c.in_ok-joined.ensures in
    joined_same new.source_count old.rows.items new.rows.items c.args.lits.now c.args.first c.args.second constant c.in_ok-joined.joined new.hashed joined.grows c.requires.there
    (omega (arith, c.if-first-lits.false)) (omega (arith, c.if-second-lits.false)) c.if-first-second.false joined.value
