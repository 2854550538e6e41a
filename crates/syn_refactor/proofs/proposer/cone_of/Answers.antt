use Rattle.std.proofs.Common.{subst}
use Rattle.syn_cones.specs.Cones.{IsTruthOver}
use Rattle.syn_refactor.specs.Cones.{IsConeOf}
use Rattle.syn_refactor.proofs.proposer.cone_of.Goals as goal

pub returns : goal.returns
returns c =
    let graph = c.args.graph.now in
    let leaves = c.cone_leaves-leaves.result.items in
    let truth : IsTruthOver graph.rows leaves c.args.node c.in_ok-table.table =
    subst (λ rs. IsTruthOver rs leaves c.args.node c.in_ok-table.table) c.as_slice.ensures (subst (λ ls. IsTruthOver c.as_slice.result.now ls c.args.node c.in_ok-table.table) c.as_slice-2.ensures.value c.in_ok-table.ensures) in
    let told = c.cone_leaves-leaves.ensures in
    let all : IsConeOf graph.rows c.args.node leaves c.in_ok-table.table = record { is = told.leaves; cut = told.are; rising = told.rising; below = told.below; function = truth } in
    record { is = all }
