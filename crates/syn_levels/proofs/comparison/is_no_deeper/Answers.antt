use Rattle.std.proofs.Common.{◌∙◌}
use Rattle.syn_levels.proofs.Deeper.{no_deeper}
use Rattle.syn_levels.proofs.comparison.is_no_deeper.Goals as goal

pub returns-clause-none : goal.returns-clause-none
returns-clause-none c = λ none.
    no_deeper c.args.was.now c.args.now.now c.as_slice.result.now c.as_slice-3.result.now c.as_slice-2.result.now c.as_slice-4.result.now c.as_slice.ensures (c.as_slice-2.ensures.value ∙ c.in_ok-before.ensures)
    c.as_slice-3.ensures (c.as_slice-4.ensures.value ∙ c.in_ok-after.ensures) (c.none_deeper.ensures.none none)
