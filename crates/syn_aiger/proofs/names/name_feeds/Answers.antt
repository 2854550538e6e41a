use Rattle.std.proofs.Common.{◌<◌, List, length, ap, arith}
use Rattle.syn_aiger_files.specs.declared.files.AigLatch.{AigLatch}
use Rattle.syn_aiger.specs.Naming.{sources_of}
use Rattle.syn_aiger.proofs.Counting.{same_at}
use Rattle.syn_aiger.proofs.Feeding.{feeds_more}
use Rattle.syn_aiger.proofs.names.name_feeds.Goals as goal

pub loop-j-preserved : goal.loop-j-preserved
loop-j-preserved c =
    let g = c.args.file.now.aig in
    let inside : c.loop-j.j < length g.latches = omega (arith, ap (λ (ls : List AigLatch). length ls) c.as_slice-latches.ensures) in
    record {
      few = omega (arith, c.in_ok-name_feed.ensures.few, c.loop-j.invariant.few);
      sources = omega (arith, c.in_ok-name_feed.ensures.more, c.loop-j.invariant.sources);
      keeps = λ known more k e.
          let m = c.loop-j.invariant.keeps known more k e in
          feeds_more _ (sources_of g) c.loop-j.j _ g.latches _ m.0 m.1 _ inside (ap (λ (x : AigLatch). x.next) (same_at _ _ _ _ c.as_slice-latches.ensures)) m.3 m.4 (c.in_ok-name_feed.ensures.keeps m.0 m.1 m.2 m.3);
    }
