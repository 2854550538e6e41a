use Rattle.std.proofs.Common.{arith}
use Rattle.syn_npn.proofs.Keys.{key_at-first, least-each}
use Rattle.syn_npn.proofs.Least.{canon_key-is}
use Rattle.syn_npn.proofs.classes.canon_key.Goals as goal

pub loop-flips-init : goal.loop-flips-init
loop-flips-init c = record {
  key = (0, omega arith, key_at-first c.args.function (omega arith));
  plain = λ i perm h. absurd (omega arith);
  negated = λ i perm h. absurd (omega arith);
}

pub returns : goal.returns
returns c =
    let keeps = c.loop-flips.invariant in
    canon_key-is c.args.function c.loop-flips.key keeps.key
    (least-each c.args.function c.loop-flips.key (λ i perm h. keeps.plain i perm (omega arith)) (λ i perm h. keeps.negated i perm (omega arith)))
