use Rattle.std.proofs.Common.{◌∙◌}
use Rattle.syn_resub.proofs.Saving.{row_is, rows_become}
use Rattle.syn_resub.proofs.placed_forms.new_rows.Goals as goal

pub returns-clause-root : goal.returns-clause-root
returns-clause-root c =
    row_is c.args.graph.now c.args.node c.args.divided.now c.requires.divided c.args.form c.requires.made c.as_slice-rows.result.now c.as_slice.result.now c.root_row-root.result c.place-placed.result.literal
    c.as_slice-rows.ensures (c.as_slice.ensures.value ∙ c.place-placed.ensures.extra) c.place-placed.ensures.literal c.root_row-root.ensures

pub returns-clause-extra : goal.returns-clause-extra
returns-clause-extra c = c.place-placed.ensures.extra ∙ rows_become c.args.graph.now c.args.node c.args.divided.now c.requires.divided c.args.form c.requires.made
