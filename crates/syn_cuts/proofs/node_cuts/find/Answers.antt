use Rattle.std.proofs.Common.{List, ℕ, ◌++◌, ◌∷◌, [], ap, ◌∙◌}
use Rattle.syn_cuts.specs.Cuts.{listed_cuts}
use Rattle.syn_cuts.specs.Leaves.{leaves_of}
use Rattle.syn_cuts.specs.Lists.{list_at}
use Rattle.syn_cuts.proofs.Filling.{listed_and, listed_other}
use Rattle.syn_cuts.proofs.node_cuts.find.Goals as goal

pub returns-in_ok-right-in-And : goal.returns-in_ok-right-in-And
returns-in_ok-right-in-And c =
    let k = c.args.k in
    let rows = c.args.rows.now in
    let n = c.args.node in
    let lists = list_at (listed_cuts k rows) in
    let left = c.in_ok-left-in-And.ensures k rows c.requires.name ∙ ap lists c.node.ensures in
    let right = c.in_ok-right-in-And.ensures k rows c.requires.name ∙ ap lists c.node-in-And.ensures in (
      c.requires.node,
      ap (λ (l : List (List ℕ)). l ++ (n ∷ []) ∷ []) c.merge_cut_sets.ensures
          ∙ listed_and k rows n c.in-And.a c.in-And.b _ _ c.requires.order c.requires.node c.in-And.is left right,
    )

pub returns-in_default : goal.returns-in_default
returns-in_default c =
    let n = c.args.node in (
      c.requires.node,
      ap (λ cuts. leaves_of cuts ++ (n ∷ []) ∷ []) c.new.ensures
          ∙ listed_other c.args.k c.args.rows.now n c.requires.order c.requires.node (λ a b e. c.in_default.not-And a b e),
    )
