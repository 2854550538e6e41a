use Rattle.std.proofs.Common.{drop, arith}
use Rattle.syn_gain.proofs.Fewer.{not_fewer}
use Rattle.syn_gain.proofs.placed.PlacedPlan.place_gates.Goals as goal

pub returns-then-len-limit-clause-fewer : goal.returns-then-len-limit-clause-fewer
returns-then-len-limit-clause-fewer g c = λ f gives.
    not_fewer f (g.L.Lookup.first c.args.look_up.now) c.args.limit (drop c.loop-gate.gate-index c.args.gates.now) c.args.gates.now c.args.self.now.literals.items c.loop-gate.self.literals.items c.loop-gate.self.extra.items
    (c.loop-gate.invariant.rest f gives) (omega (arith, c.if-len-limit.true, c.len.ensures))
