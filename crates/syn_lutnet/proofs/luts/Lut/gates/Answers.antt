use Rattle.std.proofs.Common.{length, ap, ◌∙◌}
use Rattle.syn_lutnet.proofs.LutDepths.{gates_are}
use Rattle.syn_lutnet.proofs.luts.Lut.gates.Goals as goal

pub returns-clause-gates : goal.returns-clause-gates
returns-clause-gates c = gates_are c.args.self.now.truth c.args.self.now.inputs.items c.len.result c.args.self.now.vars (c.len.ensures.value ∙ ap length c.factor-plan.ensures.gates)
