use Rattle.syn_refactor.proofs.known_plans.FactoredPlan.plan.Goals as goal

pub returns : goal.returns
returns c = let own = c.args.self.now in record { leaves = own.leaves; gates = own.gates; out = own.out; truth = own.truth }
