use Rattle.std.proofs.Common.{◌≡◌, ℕ, ◌+◌, ◌*◌, arith}
use Rattle.syn_lut_rows.specs.LutLiterals.{plain_literals}
use Rattle.syn_lut_rows.proofs.Literals.{plain_next}
use Rattle.syn_lut_rows.proofs.source_literals.Goals as goal

pub loop-node-preserved : goal.loop-node-preserved
loop-node-preserved c =
    let count : ℕ = c.args.count + 1 in
    let is : c.of.result.0 ≡ 2 * c.loop-node.node = omega (arith, c.of.ensures) in
    plain_next c.loop-node.literals.items c.push.new.self.items c.of.result c.loop-node.node count (plain_literals count) (omega (arith, c.loop-node-test.true)) c.in_ok-push.ensures.items is c.loop-node.invariant
