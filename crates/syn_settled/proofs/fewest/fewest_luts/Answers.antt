use Rattle.std.proofs.Common.{◌≡◌, ◌+◌, ◌≤◌, true, length}
use Rattle.std.proofs.lemmas.Result.{IfOk-weaker}
use Rattle.syn_lutnet.specs.LutData.{none_exceeds}
use Rattle.syn_lutnet.specs.Data.{luts_data}
use Rattle.syn_lutnet.specs.Nets.{HasFunctionOf}
use Rattle.syn_absorb.specs.Flips.{AllShown, MostShown}
use Rattle.syn_absorb.specs.Needed.{AllDepend}
use Rattle.syn_settled.specs.Fewest.{AreWrittenLutsOf}
use Rattle.syn_settled.proofs.fewest.fewest_luts.Goals as goal

pub bettered-requires-clause-luts : goal.bettered-requires-clause-luts
bettered-requires-clause-luts g c =
    let h = c.in_ok-few.ensures in
    record { function = h.function; inputs = h.inputs; count = h.count; depth = h.depth; cost = h.cost; fewer = h.fewer; depend = h.depend; most = h.most; shown = h.shown }

pub returns-clause-function : goal.returns-clause-function
returns-clause-function g c =
    let graph = c.args.graph.now in
    IfOk-weaker c.bettered.result (AreWrittenLutsOf c.args.k graph) (HasFunctionOf graph) (λ net are. are.luts.function) c.bettered.ensures.luts

pub returns-clause-inputs : goal.returns-clause-inputs
returns-clause-inputs g c =
    let graph = c.args.graph.now in
    IfOk-weaker c.bettered.result (AreWrittenLutsOf c.args.k graph) (λ net. none_exceeds c.args.k (luts_data net.luts) ≡ true) (λ net are. are.luts.inputs) c.bettered.ensures.luts

pub returns-clause-count : goal.returns-clause-count
returns-clause-count g c =
    let graph = c.args.graph.now in
    IfOk-weaker c.bettered.result (AreWrittenLutsOf c.args.k graph) (λ net. length net.luts + (graph.source_count + 1) ≤ length graph.rows) (λ net are. are.luts.count) c.bettered.ensures.luts

pub returns-clause-depend : goal.returns-clause-depend
returns-clause-depend g c =
    let graph = c.args.graph.now in
    IfOk-weaker c.bettered.result (AreWrittenLutsOf c.args.k graph) (λ net. AllDepend (luts_data net.luts)) (λ net are. are.depend) c.bettered.ensures.luts

pub returns-clause-shown : goal.returns-clause-shown
returns-clause-shown g c =
    let graph = c.args.graph.now in
    IfOk-weaker c.bettered.result (AreWrittenLutsOf c.args.k graph) (λ net. AllShown (graph.source_count + 1) net.observed) (λ net are. are.shown) c.bettered.ensures.luts

pub returns-clause-most : goal.returns-clause-most
returns-clause-most g c =
    let graph = c.args.graph.now in
    IfOk-weaker c.bettered.result (AreWrittenLutsOf c.args.k graph) (λ net. MostShown (graph.source_count + 1) net.observed) (λ net are. are.most) c.bettered.ensures.luts
