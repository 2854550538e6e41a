use Rattle.std.proofs.Common.{◌≡◌, length, ap, ◌∙◌, arith}
use Rattle.syn_netlist.specs.Frames.{frame_in}
use Rattle.syn_network.specs.declared.networks.Network.{Network}
use Rattle.syn_seq.proofs.Remade.{can_with, fewer_with, own_with, rows_count, values_with}
use Rattle.syn_seq.proofs.kept_graph.over_frame.Goals as goal

pub compact-requires-clause-can : goal.compact-requires-clause-can
compact-requires-clause-can c =
    can_with c.network_of_graph.ensures c.args.graph.now c.args.fates.now c.requires.fates (frame_in c.args.frame.now) c.as_slice.result.now c.as_slice-2.result.now c.requires.frame (c.as_slice.ensures.value ∙ c.in_ok-moved.ensures.rows)
    (c.as_slice-2.ensures.value ∙ c.in_ok-moved.ensures.observed)

pub compact-requires-clause-own : goal.compact-requires-clause-own
compact-requires-clause-own c =
    own_with c.args.graph.now c.args.fates.now c.requires.fates (frame_in c.args.frame.now) c.as_slice-2.result.now c.requires.frame (c.as_slice-2.ensures.value ∙ c.in_ok-moved.ensures.observed)

pub compact-requires-clause-few : goal.compact-requires-clause-few
compact-requires-clause-few c =
    let g : Network = c.args.graph.now in
    let same : length c.as_slice.result.now ≡ length g.body.rows = ap length (c.as_slice.ensures.value ∙ c.in_ok-moved.ensures.rows) ∙ rows_count g c.args.fates.now c.requires.fates in
    omega (arith, same, g.body.few)

pub returns-clause-values : goal.returns-clause-values
returns-clause-values c =
    values_with c.network_of_graph.ensures c.args.graph.now c.in_ok-next.next c.args.fates.now c.requires.fates (frame_in c.args.frame.now) c.as_slice.result.now c.as_slice-2.result.now c.requires.frame
    (c.as_slice.ensures.value ∙ c.in_ok-moved.ensures.rows) (c.as_slice-2.ensures.value ∙ c.in_ok-moved.ensures.observed) c.in_ok-next.ensures.frame c.in_ok-next.ensures.values

pub returns-clause-fewer : goal.returns-clause-fewer
returns-clause-fewer c =
    fewer_with c.network_of_graph.ensures c.args.graph.now c.in_ok-next.next c.args.fates.now c.requires.fates (frame_in c.args.frame.now) c.as_slice.result.now c.as_slice-2.result.now c.requires.frame
    (c.as_slice.ensures.value ∙ c.in_ok-moved.ensures.rows) (c.as_slice-2.ensures.value ∙ c.in_ok-moved.ensures.observed) c.in_ok-next.ensures.frame c.in_ok-next.ensures.fewer
