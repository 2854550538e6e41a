use Rattle.syn_core_laws.specs.Lists.{look}
use Rattle.syn_core.proofs.Telling.{same_leaf_in}
use Rattle.syn_core.proofs.values.same_when.Goals as goal

pub returns : goal.returns
returns c = λ over covers.
    same_leaf_in (λ n. look n c.args.rows.now) over c.args.chosen.now c.in_ok-told.told.items c.in_ok-told-2.told.items c.as_slice.result.now c.args.old c.args.new c.same_told.result
    c.in_ok-told.ensures covers c.in_ok-told-2.ensures.told c.in_ok-told-2.ensures.full c.as_slice.ensures.value c.same_told.ensures
