use Rattle.std.proofs.Common.{◌≡◌, ℕ, IfOk, sym, ap, subst, ◌∙◌}
use Rattle.syn_network.specs.Written as graphs
use Rattle.syn_network.specs.WrittenLuts as luts
use Rattle.syn_words.specs.declared.inputs.LutSizes.{LutSizes}
use Rattle.syn_shell.specs.Bodies.{AreFewestLuts}
use Rattle.syn_shell.specs.Networks.{graph_network, mapped_network}
use Rattle.syn_shell.specs.Makes.{IsMappedLoosely}
use Rattle.syn_shell.proofs.MappedGraphs.{fewest_by}
use Rattle.syn_shell.proofs.commands.mapped_loosely.Goals as goal

pub returns : goal.returns
returns g c =
    let h = c.in_ok-fewest.ensures in
    let sizes = c.luts_in-sizes.result in
    let fewest : AreFewestLuts sizes c.args.slack.now c.args.network.now.body c.in_ok-fewest.fewest =
    fewest_by c.number-number.result c.as_slice-areas.result.now sizes c.args.slack.now c.args.network.now.body c.in_ok-fewest.fewest c.number-number.ensures.number c.as_slice-areas.ensures
    (record { luts = record { inputs = h.inputs; count = h.count }; fewest = h.fewest; settled = record { depend = h.depend; most = h.most; shown = h.shown } }) in
    subst (λ (s : LutSizes). IfOk c.mapped.result (λ made. IsMappedLoosely s c.args.slack.now (graph_network (graphs.network_of c.args.network.now)) (mapped_network (luts.network_of made)))) c.luts_in-sizes.ensures
    (c.mapped.ensures.fewest sizes c.args.slack.now fewest)
