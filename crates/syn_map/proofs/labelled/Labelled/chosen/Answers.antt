use Rattle.std.proofs.Common.{length, List, ℕ, ap, ◌∙◌, arith}
use Rattle.syn_cuts.specs.Leaves.{leaves_of}
use Rattle.syn_map.proofs.Leastness.{chosen_is, length-listed}
use Rattle.syn_map.proofs.labelled.Labelled.chosen.Goals as goal

pub nontrivial-cuts-requires : goal.nontrivial-cuts-requires
nontrivial-cuts-requires c =
    let same = ap (λ (l : List (List (List ℕ))). length l) c.args.self.now.lists_are in
    omega (arith, same, length-listed c.args.self.now.k c.args.self.now.rows.now, c.requires)

pub returns : goal.returns
returns c =
    let l = c.args.self.now in
    chosen_is l.k l.rows.now l.lists c.as_slice-labels.result.now c.args.node (leaves_of c.nontrivial-cuts.result.now) c.least.result c.first_at.result.now l.lists_are (c.as_slice-labels.ensures.value ∙ l.labels_are) c.nontrivial-cuts.ensures c.least.ensures c.first_at.ensures
