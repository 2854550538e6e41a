use Rattle.std.proofs.Common.{◌≡◌, ◌+◌, ◌≤◌, true, length, arith}
use Rattle.std.proofs.lemmas.Result.{IfOk-weaker}
use Rattle.syn_lutnet.specs.LutData.{none_exceeds}
use Rattle.syn_lutnet.specs.Data.{luts_data}
use Rattle.syn_lutnet.specs.Nets.{HasFunctionOf}
use Rattle.syn_area.specs.Areas.{cost_of, luts_cost}
use Rattle.syn_area.specs.Plain.{NoDearerThanPlain, NoDeeperThanPlain, NoMoreThanPlain}
use Rattle.syn_area.proofs.Costing.{never_falls}
use Rattle.syn_absorb.specs.Flips.{AllShown, MostShown}
use Rattle.syn_absorb.specs.Needed.{AllDepend}
use Rattle.syn_settled.specs.Settled.{IsSettled}
use Rattle.syn_settled.proofs.Keeping.{all_shown, keeps_function, most_shown, no_deeper}
use Rattle.syn_settled.proofs.few.few_luts.Goals as goal

pub returns-clause-function : goal.returns-clause-function
returns-clause-function g c =
    let graph = c.args.graph.now in
    let was = c.in_ok-mapped.mapped in
    let h = c.in_ok-mapped.ensures in
    IfOk-weaker c.settle.result (IsSettled was) (HasFunctionOf graph)
    (λ now s. keeps_function graph was now h.function s) c.settle.ensures

pub returns-clause-inputs : goal.returns-clause-inputs
returns-clause-inputs g c =
    let graph = c.args.graph.now in
    let was = c.in_ok-mapped.mapped in
    let h = c.in_ok-mapped.ensures in
    IfOk-weaker c.settle.result (IsSettled was) (λ net. none_exceeds c.args.k (luts_data net.luts) ≡ true)
    (λ now s. s.inputs c.args.k h.inputs) c.settle.ensures

pub returns-clause-depth : goal.returns-clause-depth
returns-clause-depth g c =
    let graph = c.args.graph.now in
    let was = c.in_ok-mapped.mapped in
    let h = c.in_ok-mapped.ensures in
    IfOk-weaker c.settle.result (IsSettled was) (NoDeeperThanPlain c.args.k graph)
    (λ now s. omega (arith, no_deeper graph was now h.function s, h.depth)) c.settle.ensures

pub returns-clause-cost : goal.returns-clause-cost
returns-clause-cost g c =
    let graph = c.args.graph.now in
    let areas = c.args.areas.now in
    let was = c.in_ok-mapped.mapped in
    let h = c.in_ok-mapped.ensures in
    IfOk-weaker c.settle.result (IsSettled was) (NoDearerThanPlain c.args.k areas graph)
    (λ now s. λ nodes needed.
    let less : luts_cost areas (luts_data now.luts) ≤ luts_cost areas (luts_data was.luts) = s.cheaper (cost_of areas) (never_falls areas) in
    omega (arith, less, h.cost nodes needed)) c.settle.ensures

pub returns-clause-fewer : goal.returns-clause-fewer
returns-clause-fewer g c = λ alike.
    let graph = c.args.graph.now in
    let was = c.in_ok-mapped.mapped in
    let h = c.in_ok-mapped.ensures in
    IfOk-weaker c.settle.result (IsSettled was) (NoMoreThanPlain c.args.k graph)
    (λ now s. λ nodes needed. omega (arith, s.fewer, h.fewer alike nodes needed)) c.settle.ensures

pub returns-clause-count : goal.returns-clause-count
returns-clause-count g c =
    let graph = c.args.graph.now in
    let was = c.in_ok-mapped.mapped in
    let h = c.in_ok-mapped.ensures in
    IfOk-weaker c.settle.result (IsSettled was) (λ net. length net.luts + (graph.source_count + 1) ≤ length graph.rows)
    (λ now s. omega (arith, s.fewer, h.count)) c.settle.ensures

pub returns-clause-depend : goal.returns-clause-depend
returns-clause-depend g c =
    let graph = c.args.graph.now in
    let was = c.in_ok-mapped.mapped in
    let h = c.in_ok-mapped.ensures in
    IfOk-weaker c.settle.result (IsSettled was) (λ net. AllDepend (luts_data net.luts))
    (λ now s. s.depend) c.settle.ensures

pub returns-clause-most : goal.returns-clause-most
returns-clause-most g c =
    let graph = c.args.graph.now in
    let was = c.in_ok-mapped.mapped in
    let h = c.in_ok-mapped.ensures in
    IfOk-weaker c.settle.result (IsSettled was) (λ net. MostShown (graph.source_count + 1) net.observed)
    (λ now s. most_shown graph was now h.function s) c.settle.ensures

pub returns-clause-shown : goal.returns-clause-shown
returns-clause-shown g c =
    let graph = c.args.graph.now in
    let was = c.in_ok-mapped.mapped in
    let h = c.in_ok-mapped.ensures in
    IfOk-weaker c.settle.result (IsSettled was) (λ net. AllShown (graph.source_count + 1) net.observed)
    (λ now s. all_shown graph was now h.function s) c.settle.ensures
