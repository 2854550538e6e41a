use Rattle.std.proofs.Common.{◌≡◌, ◌+◌, ◌≤◌, ℕ, List, true, length}
use Rattle.std.proofs.lemmas.Result.{IfOk-weaker}
use Rattle.syn_graph.specs.declared.Graph.{Graph}
use Rattle.syn_lutnet.specs.LutData.{none_exceeds}
use Rattle.syn_lutnet.specs.declared.nets.LutNet.{LutNet}
use Rattle.syn_lutnet.specs.Data.{luts_data}
use Rattle.syn_lutnet.specs.Nets.{HasFunctionOf}
use Rattle.syn_truth.specs.declared.TheConstants.{MAX_VARS}
use Rattle.syn_covering.specs.Cuts.{AreLutCuts}
use Rattle.syn_covering.specs.Making.{HasDepthOver, IsMappedBy}
use Rattle.syn_covering.proofs.Assembled.{mapped_function, mapped_depth, mapped_inputs, mapped_count}
use Rattle.syn_covering.proofs.nets.net_of.Goals as goal

-- what is known of the net
abbrev Made : (ℕ → List ℕ) → Graph → LutNet → Type 0
Made cut gr net = (net.source_count ≡ gr.source_count) × IsMappedBy cut gr net

pub returns-clause-mapping : goal.returns-clause-mapping
returns-clause-mapping g c =
    let gr = c.args.graph.now in
    let cut = g.C.Choice.leaves c.args.choice.now in
    IfOk-weaker c.make_net.result (Made cut gr) (IsMappedBy cut gr) (λ net is. is.1) c.make_net.ensures

pub returns-clause-function : goal.returns-clause-function
returns-clause-function g c =
    let gr = c.args.graph.now in
    let cut = g.C.Choice.leaves c.args.choice.now in
    IfOk-weaker c.make_net.result (Made cut gr) (HasFunctionOf gr) (λ net is. mapped_function MAX_VARS cut gr net c.requires.cuts is.0 is.1) c.make_net.ensures

pub returns-clause-depth : goal.returns-clause-depth
returns-clause-depth g c =
    let gr = c.args.graph.now in
    let cut = g.C.Choice.leaves c.args.choice.now in
    IfOk-weaker c.make_net.result (Made cut gr) (HasDepthOver cut gr) (λ net is. mapped_depth MAX_VARS cut gr net c.requires.cuts is.1) c.make_net.ensures

pub returns-clause-inputs : goal.returns-clause-inputs
returns-clause-inputs g c =
    let gr = c.args.graph.now in
    let cut = g.C.Choice.leaves c.args.choice.now in
    IfOk-weaker c.make_net.result (Made cut gr) (λ net. (k : ℕ) → AreLutCuts k gr.rows cut → none_exceeds k (luts_data net.luts) ≡ true)
    (λ net is. mapped_inputs cut gr net is.1) c.make_net.ensures

pub returns-clause-count : goal.returns-clause-count
returns-clause-count g c =
    let gr = c.args.graph.now in
    let cut = g.C.Choice.leaves c.args.choice.now in
    IfOk-weaker c.make_net.result (Made cut gr) (λ net. length net.luts + (gr.source_count + 1) ≤ length gr.rows)
    (λ net is. mapped_count MAX_VARS cut gr net c.requires.cuts is.1) c.make_net.ensures
