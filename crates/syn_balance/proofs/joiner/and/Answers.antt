use Rattle.std.proofs.Common.{ℕ, List, length, ◌∙◌, ap, arith, rules}
use Rattle.syn_rows.specs.Levels.{level_in, row_level}
use Rattle.syn_balance.proofs.LevelLists.{few_in, same_levels, more_levels}
use Rattle.syn_balance.proofs.joiner.and.Goals as goal

pub row_level-level-requires-clause-low : goal.row_level-level-requires-clause-low
row_level-level-requires-clause-low c = few_in c.args.hashed.now.source_count c.args.hashed.now.rows.items c.as_slice.result.now c.args.hashed.now.hashed (c.as_slice.ensures.value ∙ c.requires.levels)

pub returns-in_ok-push-clause-levels : goal.returns-in_ok-push-clause-levels
returns-in_ok-push-clause-levels c =
    c.in_ok-push.ensures.items
    ∙ more_levels c.args.hashed.now.rows.items c.and.new.self.rows.items c.args.levels.now.items c.len-node.result c.row_level-level.result c.index.result.now
    c.in_ok-literal.ensures.grows c.in_ok-literal.ensures.few c.requires.levels (search rules) (omega arith) (search rules) (c.row_level-level.ensures.level ∙ ap (λ (l : List ℕ). row_level (level_in l) c.len-node.result c.index.result.now) c.as_slice.ensures.value)

pub returns-else-len-clause-levels : goal.returns-else-len-clause-levels
returns-else-len-clause-levels c =
    same_levels c.args.hashed.now.rows.items c.and.new.self.rows.items c.args.levels.now.items c.in_ok-literal.ensures.grows (omega (arith, ap length c.requires.levels)) c.requires.levels
