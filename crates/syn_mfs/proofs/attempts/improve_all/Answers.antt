use Rattle.std.proofs.Common.{◌∙◌}
use Rattle.syn_lutnet.specs.Data.{luts_data}
use Rattle.syn_mfs.proofs.Later.{later_through}
use Rattle.syn_mfs.proofs.attempts.improve_all.Goals as goal

pub loop-place-preserved : goal.loop-place-preserved
loop-place-preserved c =
    let before = c.loop-place in
    let done = c.in_ok-improve.ensures in
    let now = c.improve.new in
    record {
      sources = done.sources ∙ before.invariant.sources;
      few = done.few;
      count = done.count ∙ before.invariant.count;
      later = later_through c.args.first c.args.lits.now (luts_data c.args.luts.now.items) (luts_data before.luts.items) (luts_data now.luts.items) c.args.hashed.now.rows.items before.hashed.rows.items now.hashed.rows.items
          before.tools.solver.clauses now.tools.solver.clauses before.invariant.later done.later;
    }
