use Rattle.std.proofs.Common.{◌≡◌, List, [], ◌∷◌, ◌++◌, sym, ap, ◌∙◌, subst}
use Rattle.syn_rows.specs.declared.Row.{Row}
use Rattle.syn_rows.specs.Joining.{ordered_and}
use Rattle.syn_gain.specs.Lookups.{AreNewRows}
use Rattle.syn_gain.proofs.Fresh.{new_rows_push}
use Rattle.syn_gain.proofs.placed.PlacedPlan.join.Goals as goal

pub returns-clause-rows : goal.returns-clause-rows
returns-clause-rows g c =
    let first = g.L.Lookup.first c.args.look_up.now in
    let rows = c.args.self.now.extra.items in
    let pushed : c.push.new.self.items ≡ rows ++ ordered_and c.args.x c.args.y ∷ [] = c.push.ensures.items ∙ ap (λ (row : Row). rows ++ row ∷ []) c.ordered_and.ensures in
    subst (λ (extra : List Row). AreNewRows first extra) (sym pushed) (new_rows_push first rows c.args.x c.args.y c.requires.rows c.requires.first c.requires.second)
