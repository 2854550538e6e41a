use Rattle.syn_build.proofs.Matching.{or_match_from}
use Rattle.syn_build.proofs.tables.or_row.Goals as goal

pub returns-clause-value : goal.returns-clause-value
returns-clause-value c =
    or_match_from c.args.hashed.now.rows.items c.cube_literal.new.hashed.rows.items c.or.new.self.rows.items c.args.any c.in_ok-literal.literal c.in_ok-or.field-0 c.args.row.now c.args.inputs.now
    c.in_ok-literal.ensures.grows c.requires.any c.in_ok-literal.ensures.value c.in_ok-or.ensures.value
