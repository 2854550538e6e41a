use Rattle.std.proofs.Common.{sym, ◌∙◌, arith}
use Rattle.syn_fraig.proofs.by_values.merge_alike.Goals as goal

pub merge-requires-clause-below : goal.merge-requires-clause-below
merge-requires-clause-below c = omega (arith, c.requires.below, c.standing.ensures.below c.args.count c.args.rows.now c.requires.merged)

pub merge-requires-clause-same : goal.merge-requires-clause-same
merge-requires-clause-same c = λ v f. c.requires.same v f ∙ sym (c.standing.ensures.value v (c.requires.merged.fits v f))

pub returns : goal.returns
returns c = c.merge.ensures c.args.count c.requires.gate c.requires.merged
