use Rattle.std.proofs.Common.{◌+◌, ◌<◌, length, ap, arith}
use Rattle.std.proofs.lemmas.Bool.{ltb-true}
use Rattle.syn_rows.specs.declared.TheConstants.{NODE_LIMIT}
use Rattle.syn_gain.specs.Proposals.{replacement}
use Rattle.syn_proposals.proofs.applied.has_room.Goals as goal

pub returns : goal.returns
returns c = λ room.
    let less : length c.as_slice.result.now + c.len.result < NODE_LIMIT = ltb-true (length c.as_slice.result.now + c.len.result) NODE_LIMIT room in
    let after = c.rows_after_are_few.ensures c.args.graph.now.rows (replacement c.args.proposal.now) in
    omega (arith, less, after, ap length c.as_slice.ensures, c.len.ensures.value)
