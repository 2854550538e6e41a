use Rattle.std.proofs.Common.{arith}
use Rattle.std.proofs.lemmas.List.{length-map}
use Rattle.syn_lutnet.specs.Data.{lut_data, luts_data}
use Rattle.syn_absorb.proofs.Trimmed.{rebuilt_itself, rebuilt_more}
use Rattle.syn_absorb.proofs.trimming.pruned.Goals as goal

pub loop-kept-init : goal.loop-kept-init
loop-kept-init c = rebuilt_itself c.args.source_count (luts_data c.args.parts.luts.items) c.args.parts.lits.items c.requires.net c.requires.depend

pub without_unreached-requires-clause-few : goal.without_unreached-requires-clause-few
without_unreached-requires-clause-few c = omega (arith, c.requires.few, c.loop-kept.invariant.trimming.fewer, length-map c.args.parts.luts.items lut_data, length-map c.loop-kept.kept.luts.items lut_data)

pub without_unreached-requires-clause-net : goal.without_unreached-requires-clause-net
without_unreached-requires-clause-net c = c.loop-kept.invariant.net

pub loop-kept-preserved : goal.loop-kept-preserved
loop-kept-preserved c =
    let kept = c.loop-kept.kept in
    let next = c.in-Some.next in
    rebuilt_more c.args.source_count (luts_data c.args.parts.luts.items) (luts_data kept.luts.items) (luts_data next.luts.items) c.args.parts.lits.items kept.lits.items next.lits.items c.loop-kept.invariant.trimming
    (rw c.in-Some.is at c.in_ok-next.ensures.rebuilt)
