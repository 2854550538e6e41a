use Rattle.std.proofs.Common.{[], length, ap, ◌∙◌, arith}
use Rattle.syn_rows.specs.Levels.{row_level}
use Rattle.syn_rows.proofs.Folds.{length-fold}
use Rattle.syn_cuts.proofs.levels.nodes_by_level.Goals as goal

pub overflow_cast-n : goal.overflow_cast-n
overflow_cast-n c =
    let all = length-fold row_level 0 [] c.args.rows.now in
    let same = ap length (c.deref-level-items.ensures.value ∙ c.in_ok-heights.ensures) in
    omega (arith, all, same, c.loop-n-test.true, c.requires)
