use Rattle.syn_settled.specs.Fewest.{AreFewLutsOf}
use Rattle.syn_shell.proofs.MappedGraphs.{few_by}
use Rattle.syn_shell.proofs.commands.mapped_for_area.Goals as goal

pub returns : goal.returns
returns g c =
    let h = c.in_ok-few.ensures in
    let sizes = c.args.sizes.now in
    let few : AreFewLutsOf sizes.most sizes.areas c.args.network.now.body c.in_ok-few.few =
    few_by c.number-number.result c.as_slice-areas.result.now sizes c.args.network.now.body c.in_ok-few.few c.number-number.ensures.number c.as_slice-areas.ensures
    (record { function = h.function; inputs = h.inputs; count = h.count; depth = h.depth; cost = h.cost; fewer = h.fewer; depend = h.depend; most = h.most; shown = h.shown }) in
    c.mapped.ensures.few sizes few
