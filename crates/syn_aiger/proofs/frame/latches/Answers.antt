use Rattle.std.proofs.Common.{◌<◌, length, refl, arith}
use Rattle.syn_aiger.proofs.Latching.{next_latch, resets_next}
use Rattle.syn_aiger.proofs.Slicing.{latches_end}
use Rattle.syn_aiger.proofs.frame.latches.Goals as goal

pub loop-j-preserved : goal.loop-j-preserved
loop-j-preserved c =
    let was = c.loop-j.invariant in
    let inside : c.loop-j.j < length c.args.latches.now = omega arith in
    let n = next_latch c.args.latches.now c.args.outputs.now c.args.feeds.now c.loop-j.j _ c.loop-j.found.items c.push.new.self.items _ inside c.requires.outputs c.requires.feeds c.in_ok-push.ensures.items refl refl refl c.init_of.ensures.value in
    record {
      words = λ names os fs h k. n.words names os fs _ h k (was.words names os fs h k);
      below = λ count h k. n.below count h k (was.below count h k);
      controls = λ names. n.controls names (was.controls names);
      resets = resets_next c.args.latches.now c.loop-j.j inside was.resets;
    }

pub returns-clause-words : goal.returns-clause-words
returns-clause-words c names os fs h k = latches_end c.args.latches.now os fs _ _ c.loop-j.j (omega arith) (c.loop-j.invariant.words names os fs h k)
