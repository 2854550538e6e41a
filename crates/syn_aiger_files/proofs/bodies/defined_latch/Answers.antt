use Rattle.std.proofs.Common.{sym, ◌∙◌}
use Rattle.syn_aiger_files.proofs.Saying.{latch_defines, latch_is}
use Rattle.syn_aiger_files.proofs.bodies.defined_latch.Goals as goal

pub returns-then-branch : goal.returns-then-branch
returns-then-branch c ls seen =
    let d = c.in_ok-define.ensures ls seen in (
      latch_is c.args.most c.args.own c.args.next c.args.reset ls c.latch_by.result c.latch_by.ensures (sym d.0 ∙ c.if-branch.true),
      latch_defines c.args.most c.args.own c.args.next c.args.reset ls c.define.new.defined c.latch_by.result c.latch_by.ensures (d.1 c.if-branch.true),
    )
