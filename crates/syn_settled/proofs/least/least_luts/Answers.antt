use Rattle.std.proofs.Common.{◌≡◌, ◌+◌, ◌≤◌, true, length, arith}
use Rattle.std.proofs.lemmas.Result.{IfOk-weaker}
use Rattle.syn_lutnet.specs.LutData.{none_exceeds}
use Rattle.syn_lutnet.specs.Data.{luts_data}
use Rattle.syn_lutnet.specs.Nets.{HasFunctionOf}
use Rattle.syn_flow.specs.Flows.{HasLeastDepth}
use Rattle.syn_absorb.specs.Flips.{AllShown, MostShown}
use Rattle.syn_absorb.specs.Needed.{AllDepend}
use Rattle.syn_settled.specs.Settled.{IsSettled}
use Rattle.syn_settled.proofs.Keeping.{all_shown, keeps_function, most_shown, no_deeper}
use Rattle.syn_settled.proofs.least.least_luts.Goals as goal

pub returns-clause-function : goal.returns-clause-function
returns-clause-function c =
    let graph = c.args.graph.now in
    let was = c.in_ok-mapped.mapped in
    let h = c.in_ok-mapped.ensures in
    IfOk-weaker c.settle.result (IsSettled was) (HasFunctionOf graph)
    (λ now s. keeps_function graph was now h.function s) c.settle.ensures

pub returns-clause-least : goal.returns-clause-least
returns-clause-least c =
    let graph = c.args.graph.now in
    let was = c.in_ok-mapped.mapped in
    let h = c.in_ok-mapped.ensures in
    IfOk-weaker c.settle.result (IsSettled was) (HasLeastDepth c.args.k graph)
    (λ now s. λ nodes luts outs covering. omega (arith, no_deeper graph was now h.function s, h.least nodes luts outs covering)) c.settle.ensures

pub returns-clause-inputs : goal.returns-clause-inputs
returns-clause-inputs c =
    let graph = c.args.graph.now in
    let was = c.in_ok-mapped.mapped in
    let h = c.in_ok-mapped.ensures in
    IfOk-weaker c.settle.result (IsSettled was) (λ net. none_exceeds c.args.k (luts_data net.luts) ≡ true)
    (λ now s. s.inputs c.args.k h.inputs) c.settle.ensures

pub returns-clause-count : goal.returns-clause-count
returns-clause-count c =
    let graph = c.args.graph.now in
    let was = c.in_ok-mapped.mapped in
    let h = c.in_ok-mapped.ensures in
    IfOk-weaker c.settle.result (IsSettled was) (λ net. length net.luts + (graph.source_count + 1) ≤ length graph.rows)
    (λ now s. omega (arith, s.fewer, h.count)) c.settle.ensures

pub returns-clause-depend : goal.returns-clause-depend
returns-clause-depend c =
    let graph = c.args.graph.now in
    let was = c.in_ok-mapped.mapped in
    let h = c.in_ok-mapped.ensures in
    IfOk-weaker c.settle.result (IsSettled was) (λ net. AllDepend (luts_data net.luts))
    (λ now s. s.depend) c.settle.ensures

pub returns-clause-most : goal.returns-clause-most
returns-clause-most c =
    let graph = c.args.graph.now in
    let was = c.in_ok-mapped.mapped in
    let h = c.in_ok-mapped.ensures in
    IfOk-weaker c.settle.result (IsSettled was) (λ net. MostShown (graph.source_count + 1) net.observed)
    (λ now s. most_shown graph was now h.function s) c.settle.ensures

pub returns-clause-shown : goal.returns-clause-shown
returns-clause-shown c =
    let graph = c.args.graph.now in
    let was = c.in_ok-mapped.mapped in
    let h = c.in_ok-mapped.ensures in
    IfOk-weaker c.settle.result (IsSettled was) (λ net. AllShown (graph.source_count + 1) net.observed)
    (λ now s. all_shown graph was now h.function s) c.settle.ensures
