use Rattle.std.proofs.Common.{◌≡◌, rules, sym, get_or}
use Rattle.syn_resub.proofs.Places.{place_is}
use Rattle.syn_resub.proofs.nodes.place_of.Goals as goal

pub returns-then-other-node-clause-some : goal.returns-then-other-node-clause-some
returns-then-other-node-clause-some c =
    let at : get_or c.args.nodes.now c.loop-i.i 0 ≡ c.args.node = search rules in
    (sym (place_is c.args.node c.args.nodes.now c.loop-i.i c.loop-i-test.true at c.loop-i.invariant.before), c.loop-i-test.true, at)
