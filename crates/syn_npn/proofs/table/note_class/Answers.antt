use Rattle.std.proofs.Common.{◌≡◌, ◌+◌, ◌*◌, subst, arith}
use Rattle.syn_npn.specs.Keys.{AreNoted}
use Rattle.syn_npn.proofs.table.note_class.Goals as goal

pub loop-block-preserved : goal.loop-block-preserved
loop-block-preserved c =
    let block = c.loop-block.block in
    let next : block * 16 + 16 ≡ (block + 1) * 16 = omega arith in
    record {
      count = c.note_flips.ensures.count;
      noted = subst (λ n. AreNoted n c.args.class c.args.keys.now c.note_flips.new.keys) next (c.note_flips.ensures.noted c.args.keys.now c.loop-block.invariant.noted);
    }
