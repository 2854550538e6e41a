use Rattle.std.proofs.Common.{arith}
use Rattle.syn_seq.proofs.Merged.{all_low, whole}
use Rattle.syn_seq.proofs.checks.merged_places.Goals as goal

pub merged_place-requires-clause-target : goal.merged_place-requires-clause-target
merged_place-requires-clause-target c = λ i e. (c.requires.targets c.loop-j.j i e).0

pub returns-clause-low : goal.returns-clause-low
returns-clause-low c =
    all_low c.args.first c.args.fates.now c.requires.few c.requires.targets c.loop-j.places.items (whole c.args.first c.args.fates.now c.loop-j.j c.loop-j.places.items (omega (arith, c.loop-j-test.false)) c.loop-j.invariant)
