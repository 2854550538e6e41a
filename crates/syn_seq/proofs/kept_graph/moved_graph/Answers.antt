use Rattle.std.proofs.Common.{◌≡◌, ◌<◌, ◌+◌, ◌-◌, length, ap, ◌∙◌, arith}
use Rattle.syn_netlist.specs.Lists.{observed}
use Rattle.syn_netlist.specs.Numbers.{all_below, words_at}
use Rattle.syn_network.specs.declared.networks.Network.{Network}
use Rattle.syn_network.specs.Written.{network_of}
use Rattle.syn_seq.specs.Rounds.{kept_by}
use Rattle.syn_seq.proofs.Remade.{kept_few, latches_left, lits_are_left}
use Rattle.syn_seq.proofs.Targets.{fates_few, sources_few}
use Rattle.syn_seq.proofs.kept_graph.moved_graph.Goals as goal

pub overflow_cast-left : goal.overflow_cast-left
overflow_cast-left c =
    let g : Network = c.args.graph.now in
    let same : length c.as_slice.result.now ≡ length (kept_by c.args.fates.now (network_of g).frame.latches) = ap length c.as_slice.ensures ∙ latches_left g c.args.fates.now c.args.frame.now c.requires.frame in
    let e : length c.as_slice.result.now < 536870912 = omega (arith, fates_few g c.args.fates.now c.requires.fates, sources_few g, same, kept_few g c.args.fates.now c.requires.fates) in
    omega (arith, e)

pub overflow_add-left : goal.overflow_add-left
overflow_add-left c =
    let g : Network = c.args.graph.now in
    let same : length c.as_slice.result.now ≡ length (kept_by c.args.fates.now (network_of g).frame.latches) = ap length c.as_slice.ensures ∙ latches_left g c.args.fates.now c.args.frame.now c.requires.frame in
    let e : c.args.graph.now.body.source_count + 1 - length c.args.fates.now - 1 + length c.as_slice.result.now < 536870912 = omega (arith, fates_few g c.args.fates.now c.requires.fates, sources_few g, same, kept_few g c.args.fates.now c.requires.fates) in
    omega (arith, e)

pub moved_rows-requires-clause-left : goal.moved_rows-requires-clause-left
moved_rows-requires-clause-left c =
    let g : Network = c.args.graph.now in
    let same : length c.as_slice.result.now ≡ length (kept_by c.args.fates.now (network_of g).frame.latches) = ap length c.as_slice.ensures ∙ latches_left g c.args.fates.now c.args.frame.now c.requires.frame in
    let long : length c.as_slice-3.result.now ≡ c.args.graph.now.body.source_count + 1 - length c.args.fates.now + length c.args.fates.now = ap length c.as_slice-3.ensures.value ∙ c.in_ok-places.ensures.count in
    omega (arith, fates_few g c.args.fates.now c.requires.fates, same, long, kept_few g c.args.fates.now c.requires.fates)

pub returns-clause-observed : goal.returns-clause-observed
returns-clause-observed c =
    let g : Network = c.args.graph.now in
    c.in_ok-observed.ensures
    ∙ lits_are_left g c.args.lits.now c.args.fates.now c.as_slice-4.result.now c.as_slice-5.result.now c.args.frame.now.names c.requires.lits (c.as_slice-4.ensures.value ∙ c.in_ok-places.ensures.places) c.requires.names
    (ap (words_at c.args.frame.now.names) c.as_slice-5.ensures.value ∙ c.in_ok-numbers.ensures.words ∙ ap observed c.requires.frame)
    (ap (all_below (length c.args.frame.now.names)) c.as_slice-5.ensures.value ∙ c.in_ok-numbers.ensures.below)
