use Rattle.std.proofs.Common.{◌&&◌, ◌∙◌}
use Rattle.syn_resub.proofs.Valued.{same_tables, values_and}
use Rattle.syn_resub.proofs.sides.is_below.Goals as goal

pub returns : goal.returns
returns c n f g has_table has_other =
    c.eq.ensures
    ∙ same_tables n c.and.result c.args.table (λ xs. f xs && g xs) f
    (values_and n c.args.table c.args.other c.and.result f g c.and.ensures.vars c.and.ensures.values has_table has_other) has_table
