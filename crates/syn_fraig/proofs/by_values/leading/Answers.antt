use Rattle.std.proofs.Common.{arith}
use Rattle.syn_fraig.proofs.Tabled.{led_opposite}
use Rattle.syn_fraig.proofs.by_values.leading.Goals as goal

pub returns-else-same-first : goal.returns-else-same-first
returns-else-same-first c = λ v all.
    led_opposite v c.args.node c.at-lead.result _ _ c.of-lit.result c.not.result
    (all c.args.node c.requires.there) (all c.at-lead.result (omega (arith, c.if-lead-alike.false)))
    (λ e. omega (arith, e, c.if-same-first.false))
    (omega (arith, c.if-node.false, c.node-2.ensures, c.node-3.ensures)) (omega (arith, c.of-lit.ensures)) c.not.ensures
