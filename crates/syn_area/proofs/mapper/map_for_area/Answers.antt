use Rattle.std.proofs.Common.{◌≡◌, ◌+◌, ◌≤◌, true, length, arith}
use Rattle.std.proofs.lemmas.Result.{IfOk-weaker}
use Rattle.syn_lutnet.specs.LutData.{none_exceeds}
use Rattle.syn_lutnet.specs.Data.{luts_data}
use Rattle.syn_lutnet.specs.Nets.{HasFunctionOf}
use Rattle.syn_area.specs.Plain.{AreLutsOf, IsNoWorse, NoDearerThanPlain, NoDeeperThanPlain, NoMoreThanPlain}
use Rattle.syn_area.proofs.Bettering.{if_both, no_deeper}
use Rattle.syn_area.proofs.Counting.{plain_cheap, plain_fewest}
use Rattle.syn_area.proofs.mapper.map_for_area.Goals as goal

pub best-requires-clause-luts : goal.best-requires-clause-luts
best-requires-clause-luts g c = let h = c.in_ok-plain.ensures in record { function = h.function; inputs = h.inputs; count = h.count }

pub returns-clause-function : goal.returns-clause-function
returns-clause-function g c =
    let gr = c.args.graph.now in
    IfOk-weaker c.best.result (AreLutsOf c.args.k gr) (HasFunctionOf gr) (λ kept luts. luts.function) c.best.ensures.luts

pub returns-clause-inputs : goal.returns-clause-inputs
returns-clause-inputs g c =
    let gr = c.args.graph.now in
    IfOk-weaker c.best.result (AreLutsOf c.args.k gr) (λ kept. none_exceeds c.args.k (luts_data kept.luts) ≡ true) (λ kept luts. luts.inputs) c.best.ensures.luts

pub returns-clause-count : goal.returns-clause-count
returns-clause-count g c =
    let gr = c.args.graph.now in
    IfOk-weaker c.best.result (AreLutsOf c.args.k gr) (λ kept. length kept.luts + (gr.source_count + 1) ≤ length gr.rows) (λ kept luts. luts.count) c.best.ensures.luts

pub returns-clause-depth : goal.returns-clause-depth
returns-clause-depth g c =
    let gr = c.args.graph.now in
    let k = c.args.k in
    let plain = c.in_ok-plain.plain in
    let h = c.in_ok-plain.ensures in
    IfOk-weaker c.best.result (λ kept. AreLutsOf k gr kept × IsNoWorse k c.args.areas.now kept plain)
    (NoDeeperThanPlain k gr)
    (λ kept both. omega (arith, no_deeper gr kept plain both.0.function h.function both.1.depth, h.depth))
    (if_both c.best.result (AreLutsOf k gr) (λ kept. IsNoWorse k c.args.areas.now kept plain) c.best.ensures.luts c.best.ensures.no_worse)

pub returns-clause-cost : goal.returns-clause-cost
returns-clause-cost g c =
    let gr = c.args.graph.now in
    let areas = c.args.areas.now in
    let plain = c.in_ok-plain.plain in
    IfOk-weaker c.best.result (λ kept. IsNoWorse c.args.k areas kept plain)
    (NoDearerThanPlain c.args.k areas gr)
    (λ kept no_worse nodes needed. omega (arith, no_worse.cost, plain_cheap c.args.k areas gr plain nodes c.in_ok-plain.ensures.mapping needed)) c.best.ensures.no_worse

pub returns-clause-fewer : goal.returns-clause-fewer
returns-clause-fewer g c = λ alike.
    let gr = c.args.graph.now in
    let plain = c.in_ok-plain.plain in
    IfOk-weaker c.best.result (λ kept. IsNoWorse c.args.k c.args.areas.now kept plain)
    (NoMoreThanPlain c.args.k gr)
    (λ kept no_worse nodes needed. omega (arith, no_worse.fewer alike, plain_fewest c.args.k gr plain nodes c.in_ok-plain.ensures.mapping needed)) c.best.ensures.no_worse
