use Rattle.std.proofs.Common.{◌≡◌, ℕ, ◌++◌, ◌∷◌, [], List, length, get_or, ap, ◌∙◌, arith}
use Rattle.std.proofs.lemmas.List.{length_push}
use Rattle.syn_rows.specs.declared.Row.TheVariants.{Free}
use Rattle.syn_rows.specs.Levels.{level_in, row_level}
use Rattle.syn_levels.proofs.NewLevels.{level_put, low_put}
use Rattle.syn_levels.proofs.root_levels.new_levels.Goals as goal

pub loop-row-preserved : goal.loop-row-preserved
loop-row-preserved c =
    let levels = c.args.levels.now in
    let new = c.loop-row.new.items in
    let i = c.loop-row.row-index in
    let level = c.row_level-level.result in
    let put : c.push.new.self.items ≡ new ++ level ∷ [] = c.in_ok-push.ensures.ok in
    record {
      left = level_put levels new c.push.new.self.items c.args.extra.now i Free level _ c.loop-row-test.true
          (c.row_level-level.ensures.level (length (levels ++ new)) ∙ ap (λ (xs : List ℕ). row_level (level_in (levels ++ xs)) (length (levels ++ new)) (get_or c.args.extra.now i Free)) c.as_slice.ensures) put c.loop-row.invariant.left;
      count = omega (arith, ap length put, length_push new level, c.loop-row.invariant.count);
      low = low_put new c.push.new.self.items level put c.loop-row.invariant.low (let low = c.row_level-level.ensures.low in let is = ap length c.as_slice.ensures in omega arith);
    }
