use Rattle.std.proofs.Common.{◌+◌, refl, arith}
use Rattle.std.proofs.lemmas.List.{length-map}
use Rattle.syn_lutnet.specs.Data.{lut_data, luts_data}
use Rattle.syn_absorb.specs.Flips.{is_flipped}
use Rattle.syn_absorb.proofs.Absorbed.{Moved, depend_still, moved_to}
use Rattle.syn_absorb.proofs.nets.absorb.Goals as goal

pub invariant_of-result : goal.invariant_of-result
invariant_of-result c =
    let net = c.args.net.now in
    let all : Moved net.source_count (luts_data net.luts) net.observed (luts_data c.of.result) c.of-2.result =
    moved_to net.source_count net.luts c.in_ok-luts.luts.items c.of.result net.observed c.in_ok-luts.lits.items c.of-2.result net.net c.of.ensures c.of-2.ensures c.in_ok-luts.ensures in
    record {
      net = all.same.net;
      few = omega (arith, net.few, all.flipped.long, length-map net.luts lut_data, length-map c.of.result lut_data);
      few_observed = omega (arith, net.few_observed, all.same.long);
    }

pub returns : goal.returns
returns c =
    let net = c.args.net.now in
    let all : Moved net.source_count (luts_data net.luts) net.observed (luts_data c.of.result) c.of-2.result =
    moved_to net.source_count net.luts c.in_ok-luts.luts.items c.of.result net.observed c.in_ok-luts.lits.items c.of-2.result net.net c.of.ensures c.of-2.ensures c.in_ok-luts.ensures in
    record {
      same = record { sources = refl; count = all.same.long; stay = all.same.stay; values = all.same.values };
      luts = all.flipped;
      nodes = all.same.nodes;
      depth = all.same.depth;
      inputs = all.same.inputs;
      most = all.most;
      shown = all.shown;
      depend = depend_still (is_flipped (net.source_count + 1) net.observed) (net.source_count + 1) (luts_data net.luts) (luts_data c.of.result) all.flipped;
    }
