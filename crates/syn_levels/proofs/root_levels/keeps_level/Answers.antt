use Rattle.std.proofs.Common.{ℕ, List, ◌++◌, ap, ◌∙◌}
use Rattle.syn_rows.specs.Levels.{level_in, row_level}
use Rattle.syn_gain.specs.Proposals.{replacement_of}
use Rattle.syn_levels.proofs.Compared.{compared, root_listed}
use Rattle.syn_levels.proofs.root_levels.keeps_level.Goals as goal

pub bounds-levels-candidate : goal.bounds-levels-candidate
bounds-levels-candidate c = root_listed c.args.graph.now.rows c.args.levels.now c.args.candidate.root c.requires.levels c.requires.root

pub returns : goal.returns
returns c =
    let levels = c.args.levels.now in
    let root = c.args.candidate.root in
    compared c.args.graph.now.rows (replacement_of c.args.candidate) levels c.in_ok-new.new.items c.as_slice.result.now c.in_ok-placed.placed.root c.row_level-level.result c.from.result
    c.requires.levels c.in_ok-new.ensures.levels (c.as_slice.ensures ∙ c.in_ok-placed.ensures.extra) c.in_ok-placed.ensures.root
    (c.row_level-level.ensures.level root ∙ ap (λ (xs : List ℕ). row_level (level_in (levels ++ xs)) root c.in_ok-placed.placed.root) c.as_slice-2.ensures) c.from.ensures
