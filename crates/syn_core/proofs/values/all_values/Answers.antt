use Rattle.syn_core.proofs.Telling.{round_told, round_less, round_full}
use Rattle.syn_core.proofs.values.all_values.Goals as goal

pub loop-value-smaller : goal.loop-value-smaller
loop-value-smaller c = round_less c.args.rows.now c.loop-value.told.items _ _ c.as_slice.ensures.value c.first_new.ensures c.in-Some.value _ _ c.in-Some.is c.as_slice-in-Some.ensures.value c.in_ok-told.ensures

pub loop-value-preserved : goal.loop-value-preserved
loop-value-preserved c = λ over choice t. round_told c.args.rows.now c.loop-value.told.items _ _ c.as_slice.ensures.value c.first_new.ensures c.in-Some.value _ _ c.in-Some.is c.as_slice-in-Some.ensures.value c.in_ok-told.ensures over choice (c.loop-value.invariant over choice t)

pub returns-clause-full : goal.returns-clause-full
returns-clause-full c = round_full c.args.rows.now c.loop-value.told.items _ _ c.as_slice.ensures.value c.first_new.ensures c.in_default.not-Some
