use Rattle.std.proofs.Common.{◌∙◌}
use Rattle.syn_lutnet.specs.Data.{luts_data}
use Rattle.syn_mfs.proofs.Later.{later_through}
use Rattle.syn_mfs.proofs.attempts.improve.Goals as goal

pub loop-preserved : goal.loop-preserved
loop-preserved c =
    let before = c.loop in
    let done = c.in_ok-more.ensures in
    let now = c.attempt.new in
    record {
      sources = done.sources ∙ before.invariant.sources;
      few = done.few;
      count = done.count ∙ before.invariant.count;
      later = later_through c.args.first c.args.lits.now (luts_data c.args.luts.now.items) (luts_data before.luts.items) (luts_data now.luts.items) c.args.hashed.now.rows.items before.hashed.rows.items now.hashed.rows.items
          before.tools.solver.clauses now.tools.solver.clauses before.invariant.later done.later;
    }

pub returns-then-not-more-clause-later : goal.returns-then-not-more-clause-later
returns-then-not-more-clause-later c =
    let before = c.loop in
    let now = c.attempt.new in
    later_through c.args.first c.args.lits.now (luts_data c.args.luts.now.items) (luts_data before.luts.items) (luts_data now.luts.items) c.args.hashed.now.rows.items before.hashed.rows.items now.hashed.rows.items before.tools.solver.clauses
    now.tools.solver.clauses before.invariant.later c.in_ok-more.ensures.later
