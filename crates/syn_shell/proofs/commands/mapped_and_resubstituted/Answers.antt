use Rattle.std.proofs.Common.{subst}
use Rattle.std.proofs.lemmas.Result.{IfOk-weaker}
use Rattle.syn_network.specs.Written as graphs
use Rattle.syn_words.specs.declared.inputs.LutSizes.{LutSizes}
use Rattle.syn_shell.specs.Networks.{graph_network}
use Rattle.syn_shell.specs.Makes.{IsMappedAndResubstituted, IsMappedForArea, IsResubstituted, luts_in}
use Rattle.syn_shell.proofs.MappedGraphs.{written_luts}
use Rattle.syn_shell.proofs.ResubstitutedLuts.{from_graph}
use Rattle.syn_shell.proofs.commands.mapped_and_resubstituted.Goals as goal

pub returns : goal.returns
returns g c =
    let old = graph_network (graphs.network_of c.args.network.now) in
    let few = written_luts c.in_ok-few.few in
    let sizes = luts_in c.args.sizes.now in
    let are : IsMappedForArea sizes old few = subst (λ (s : LutSizes). IsMappedForArea s old few) c.luts_in-sizes.ensures c.in_ok-few.ensures in
    IfOk-weaker c.resubstituted.result (λ made. IsResubstituted few (written_luts made)) (λ made. IsMappedAndResubstituted sizes old (written_luts made))
    (λ made r. from_graph c.same_is_transitive.ensures sizes old few (written_luts made) are r) c.resubstituted.ensures
