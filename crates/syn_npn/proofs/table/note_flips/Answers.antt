use Rattle.std.proofs.Common.{◌≡◌, ◌+◌, ◌<◌, length, sym, ap, subst, ◌∙◌, arith}
use Rattle.syn_npn.specs.Keys.{AreNoted}
use Rattle.syn_npn.specs.Permutations.{image_at}
use Rattle.syn_npn.proofs.Flipping.{turned_image, turned_only}
use Rattle.syn_npn.proofs.Noting.{note_count, note_step}
use Rattle.syn_npn.proofs.table.note_flips.Goals as goal

pub loop-flips-preserved : goal.loop-flips-preserved
loop-flips-preserved c =
    let first = c.args.first in
    let flips = c.loop-flips.flips in
    let class = c.args.class in
    let plain = c.member-plain.result in
    let few : flips < 16 = omega arith in
    let is = c.flipped.ensures in
    let next : first + flips + 1 ≡ first + (flips + 1) = omega arith in
    record {
      count = ap length c.note.ensures ∙ note_count c.loop-flips.keys c.flipped.result _ _ ∙ c.loop-flips.invariant.count;
      noted = λ old are.
          subst (λ n. AreNoted n class old c.note.new.keys) next
          (note_step (first + flips) class c.flipped.result old c.loop-flips.keys c.note.new.keys
          (omega arith) c.requires.class c.loop-flips.invariant.count (omega arith)
          (ap (λ k. image_at k (first + flips)) is ∙ turned_image first flips c.requires.first c.requires.within few class plain c.member-plain.ensures.image)
          (λ f small e. turned_only first flips c.requires.first c.requires.within few class plain c.member-plain.ensures.only f small e ∙ sym is)
          (c.loop-flips.invariant.noted old are) c.note.ensures);
    }
